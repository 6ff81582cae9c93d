-- What left, counted one record after the other.
use Rattle.std.proofs.Common.{◌≡◌, ℕ, suc, Bool, true, false, Option, List, [], ◌∷◌, ◌&&◌, ◌+◌, not, cond, refl, ap, ◌∙◌, sym, add-one, add_comm, zero-add}
use Rattle.std.specs.Prelude.{count_by}
use Rattle.std.proofs.lemmas.List.Sums.{sum_by-cons}
use Rattle.foyer_policy.specs.Moments.{is_expired}
use Rattle.foyer_policy.specs.Properties.{is_phantom}
use Rattle.foyer_policy.specs.declared.types.Event.{Event}
use Rattle.foyer_policy.specs.declared.types.Event.TheVariants.{Evict, Replace, Remove, Clear}
use Rattle.foyer_core.specs.Stats.{next, left_counted}
use Rattle.foyer_core.specs.Values.{Gone}
use Rattle.foyer_core.specs.declared.stats.Stats.{Stats}
use Rattle.foyer_raw.specs.Counts.{raised, is_event, counts_as, counts_as_expired, leaves_counted}

-- one more, or not
abbrev stepped : Bool → ℕ → ℕ
stepped true c = next c
stepped false c = c

raised-cons : {X : Type 0} (p : X → Bool) (x : X) (xs : List X) (c : ℕ) (b : Bool) → p x ≡ b →
    raised (count_by p (x ∷ xs)) c ≡ raised (count_by p xs) (stepped b c)
raised-cons p x xs c true is =
    let e : count_by p (x ∷ xs) ≡ suc (count_by p xs) =
    sum_by-cons (λ x. cond (p x) 1 0) x xs
    ∙ (ap (λ b. cond b 1 0 + count_by p xs) is ∙ (add_comm 1 (count_by p xs) ∙ add-one (count_by p xs))) in
    ap (λ n. raised n c) e
raised-cons p x xs c false is =
    let e : count_by p (x ∷ xs) ≡ count_by p xs =
    sum_by-cons (λ x. cond (p x) 1 0) x xs
    ∙ (ap (λ b. cond b 1 0 + count_by p xs) is ∙ zero-add (count_by p xs)) in
    ap (λ n. raised n c) e

-- the counts after one record left
abbrev first_counted : Bool → Bool → Event → Stats → Stats
first_counted p x event s = record s {
  evictions = stepped (not p && is_event Evict event) s.evictions;
  expired = stepped (not p && is_event Evict event && x) s.expired;
  replaced = stepped (not p && is_event Replace event) s.replaced;
  removed = stepped (not p && is_event Remove event) s.removed;
  cleared = stepped (not p && is_event Clear event) s.cleared;
}

first_is : (p x : Bool) (event : Event) (s : Stats) → first_counted p x event s ≡ left_counted p x event s
first_is true x event s = refl
first_is false true Evict s = refl
first_is false false Evict s = refl
first_is false x Replace s = refl
first_is false x Remove s = refl
first_is false x Clear s = refl

module _ {K V P : Type 0} (phantom : P → Option Bool) (expires : P → Option ℕ) (now : ℕ) where
  abbrev leaves : List (Event × Gone K V P) → Stats → Stats
  leaves ls s = leaves_counted phantom expires now ls s

  abbrev is_none : Gone K V P → Bool
  is_none g = is_phantom (phantom g.kept.properties)

  abbrev is_over : Gone K V P → Bool
  is_over g = is_expired now (expires g.kept.properties)

  pub leaves_counted-cons : (event : Event) (g : Gone K V P) (ls : List (Event × Gone K V P)) (s : Stats)
      → leaves ((event, g) ∷ ls) s ≡ leaves ls (left_counted (is_none g) (is_over g) event s)
  leaves_counted-cons event g ls s =
      let a = raised-cons (counts_as phantom Evict) (event, g) ls s.evictions (not (is_none g) && is_event Evict event)
      refl in
      let b = raised-cons (counts_as_expired phantom expires now) (event, g) ls s.expired
      (not (is_none g) && is_event Evict event && is_over g) refl in
      let c = raised-cons (counts_as phantom Replace) (event, g) ls s.replaced
      (not (is_none g) && is_event Replace event) refl in
      let d = raised-cons (counts_as phantom Remove) (event, g) ls s.removed (not (is_none g) && is_event Remove event)
      refl in
      let e = raised-cons (counts_as phantom Clear) (event, g) ls s.cleared (not (is_none g) && is_event Clear event)
      refl in
      let whole : leaves ((event, g) ∷ ls) s ≡ leaves ls (first_counted (is_none g) (is_over g) event s) = cc in
      whole ∙ ap (leaves ls) (first_is (is_none g) (is_over g) event s)

  -- one record alone
  pub leaves_counted_one : (event : Event) (g : Gone K V P) (s : Stats)
      → leaves_counted phantom expires now ((event, g) ∷ []) s
      ≡ left_counted (is_phantom (phantom g.kept.properties)) (is_expired now (expires g.kept.properties)) event s
  leaves_counted_one event g s = leaves_counted-cons event g [] s

  -- one record after the other
  abbrev pub counted_in_turn : List (Event × Gone K V P) → Stats → Stats
  counted_in_turn [] s = s
  counted_in_turn (l ∷ ls) s = counted_in_turn ls
      (left_counted (is_phantom (phantom l.1.kept.properties)) (is_expired now (expires l.1.kept.properties)) l.0 s)

  pub in_turn_is : (ls : List (Event × Gone K V P)) (s : Stats) → counted_in_turn ls s
      ≡ leaves_counted phantom expires now ls s
  in_turn_is [] s = refl
  in_turn_is (l ∷ ls) s =
      in_turn_is ls
      (left_counted (is_phantom (phantom l.1.kept.properties)) (is_expired now (expires l.1.kept.properties)) l.0 s)
      ∙ sym (leaves_counted-cons l.0 l.1 ls s)
