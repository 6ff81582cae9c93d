-- Entries that end one after the other.
use Rattle.std.proofs.Common.{◌≡◌, ℕ, ◌+◌, ◌%◌, ◌<◌, ◌==◌, ◌&&◌, ◌⊎◌, List, [], ◌∷◌, ◌++◌, length, Option, Some, None, Bool, inl, inr, refl, sym, ◌∙◌, ap, subst, arith, append_assoc, append-nil}
use Rattle.std.specs.Prelude.{IsSomeAnd, if◌then◌else◌}
use Rattle.std.specs.Option.{option_to_list}
use Rattle.std.proofs.lemmas.Bool.Decides.{eqb_tells}
use Rattle.std.proofs.lemmas.List.{length-set}
use Rattle.std.proofs.lemmas.List.Sums.{sum_by-cons}
use Rattle.foyer_policy.specs.declared.types.Event.{Event}
use Rattle.foyer_core.specs.Core.{Core, Owns, shard_at, shard_of}
use Rattle.foyer_core.specs.Dropping.{Drops, EndsEntry, among}
use Rattle.foyer_core.specs.Laws.{HandlesStay, one_of}
use Rattle.foyer_core.specs.Observed.{IsTold, after_leaves, known}
use Rattle.foyer_core.specs.State.{Meaning, State, handles_in}
use Rattle.foyer_core.specs.Values.{Gone, Held}
use Rattle.foyer_core.proofs.Observing.{leaves_append, leaves_congr}

module _ {K V P View S W A : Type 0} where
  -- a core owns an entry or does not
  owns_or_not : (core : Core K V P View S W A) (entry : Held K V P) → Owns core entry ⊎ (Owns core entry → ⊥)
  owns_or_not core entry = go (shard_at core entry.kept.hash) where
    go : (o : Option (State K V P View)) → IsSomeAnd o (λ s. (entry.number ≡ s.number) × (0 < handles_in s entry.id))
        ⊎ (IsSomeAnd o (λ s. (entry.number ≡ s.number) × (0 < handles_in s entry.id)) → ⊥)
    go None = inr (λ h. h)
    go (Some s) = elim (eqb_tells entry.number s.number) [
      | inr other ↦ inr (λ h. other.1 h.0)
      | inl same ↦ elim (eqb_tells (handles_in s entry.id) 0) [
        | inl none ↦ inr (λ h. omega (arith, none.1, h.1))
        | inr some ↦ inl (same.1, omega (arith, some.1))
      ]
    ]

  -- what leaves tell, and then further ones
  told_then : (same : K → K → Bool) (hash : K → ℕ) (old mid new : Core K V P View S W A)
      (ls more : List (Event × Gone K V P))
      → IsTold same hash old ls mid → IsTold same hash mid more new → IsTold same hash old (ls ++ more) new
  told_then same hash old mid new ls more first second k =
      second k ∙ leaves_congr same (known hash mid) (after_leaves same (known hash old) ls) first more k
      ∙ sym (leaves_append same (known hash old) ls more k)

  -- handles that are given back, and then others
  stay_then : (some others all : Held K V P → ℕ) → ((e : Held K V P) → all e ≡ others e + some e) →
      (old mid new : Core K V P View S W A)
      → HandlesStay some old mid → HandlesStay others mid new → HandlesStay all old new
  stay_then some others all sum old mid new first second e r there less =
      let n : all e ≡ others e + some e = sum e in
      let a = first e r there (omega (arith, n, less)) in
      let b = second e a.0 a.1 (omega (arith, n, less, a.3)) in
      (b.0, b.1, b.2 ∙ a.2, omega (arith, n, a.3, b.3))

  -- where there is none, all stay
  pub none_stay : (entries : List (Held K V P)) (core : Core K V P View S W A) → entries ≡ [] →
      HandlesStay (among core entries) core core
  none_stay entries core none e r there less = (r, there, refl, omega arith)

  -- an entry's record has the same number where there are as many shards
  one_same : (old mid : Core K V P View S W A) (entry e : Held K V P) → length mid.shards ≡ length old.shards →
      one_of mid entry e ≡ one_of old entry e
  one_same old mid entry e many =
      ap (λ (n : ℕ). if (e.id == entry.id) && ((e.kept.hash % n) == (entry.kept.hash % n)) then 1 else 0) many

module _ {K V P View C S W A : Type 0} (m : Meaning K P View C) where
  -- what gives keys their hashes stays, and so many shards
  ends_same : (entry : Held K V P) (leave : Option (Event × Gone K V P)) (old new : Core K V P View S W A) →
      EndsEntry m entry leave old new
      → (new.hash_builder ≡ old.hash_builder) × (length new.shards ≡ length old.shards)
  ends_same entry leave old new h = elim (owns_or_not old entry) [
    | inl owned ↦ (let at = h.owned owned in (
      ap (λ (c : Core K V P View S W A). c.hash_builder) at.rest,
      ap (λ (c : Core K V P View S W A). length c.shards) at.rest
          ∙ length-set old.shards (shard_of old entry.kept.hash) at.after,
    ))
    | inr foreign ↦
        (let same = (h.foreign foreign).1 in (
          ap (λ (c : Core K V P View S W A). c.hash_builder) same,
          ap (λ (c : Core K V P View S W A). length c.shards) same,
        ))
  ]

  -- of some entries the last ones have ended, and these are left; `hash` gives a key its hash
  pub record DroppedTo (hash : S → K → ℕ) (entries left : List (Held K V P)) (old new : Core K V P View S W A) : Type
      0 where
    pub gone : List (Held K V P)
    pub parts : entries ≡ left ++ gone
    pub drops : Drops m (hash old.hash_builder) gone old new
    pub stay : HandlesStay (among old gone) old new
    pub builder : new.hash_builder ≡ old.hash_builder
    pub many : length new.shards ≡ length old.shards

  pub dropped_none : (hash : S → K → ℕ) (entries : List (Held K V P)) (core : Core K V P View S W A) →
      DroppedTo hash entries entries core core
  dropped_none hash entries core = record {
    gone = [];
    parts = sym (append-nil entries);
    drops = record { leaves = []; ended = (refl, refl); told = λ k. refl };
    stay = λ e r there less. (r, there, refl, omega arith);
    builder = refl;
    many = refl;
  }

  pub dropped_more : (hash : S → K → ℕ) (entries left less : List (Held K V P)) (entry : Held K V P)
      (leave : Option (Event × Gone K V P)) (old mid new : Core K V P View S W A)
      → left ≡ less ++ entry ∷ [] → DroppedTo hash entries left old mid → EndsEntry m entry leave mid new →
      IsTold m.same (hash mid.hash_builder) mid (option_to_list leave) new → HandlesStay (one_of mid entry) mid new
      → DroppedTo hash entries less old new
  dropped_more hash entries left less entry leave old mid new last d ends told stay =
      let same = ends_same entry leave mid new ends in
      let by : IsTold m.same (hash old.hash_builder) mid (option_to_list leave) new =
      subst (λ (b : S). IsTold m.same (hash b) mid (option_to_list leave) new) d.builder told in
      record {
        gone = entry ∷ d.gone;
        parts = d.parts ∙ ap (λ (l : List (Held K V P)). l ++ d.gone) last ∙ append_assoc less (entry ∷ []) d.gone;
        drops = record {
          leaves = d.drops.leaves ++ option_to_list leave;
          ended = (d.drops.leaves, mid, leave, d.drops.ended, ends, refl);
          told = told_then m.same (hash old.hash_builder) old mid new d.drops.leaves (option_to_list leave)
              d.drops.told by;
        };
        stay = stay_then (among old d.gone) (one_of old entry) (among old (entry ∷ d.gone))
            (λ e. sum_by-cons (λ x. one_of old x e) entry d.gone) old mid new d.stay one_stays;
        builder = same.0 ∙ d.builder;
        many = same.1 ∙ d.many;
      }
    where
      one_stays : HandlesStay (one_of old entry) mid new
      one_stays e r there few =
          let n : one_of mid entry e ≡ one_of old entry e = one_same old mid entry e d.many in
          let q = stay e r there (omega (arith, n, few)) in
          (q.0, q.1, q.2, omega (arith, n, q.3))

  -- once none is left, all have ended
  pub dropped_all : (hash : S → K → ℕ) (entries left : List (Held K V P)) (old new : Core K V P View S W A) → left
      ≡ [] → DroppedTo hash entries left old new
      → Drops m (hash old.hash_builder) entries old new × HandlesStay (among old entries) old new
  dropped_all hash entries left old new none d =
      let all : d.gone ≡ entries = ap (λ (l : List (Held K V P)). l ++ d.gone) (sym none) ∙ sym d.parts in (
        subst (λ (l : List (Held K V P)). Drops m (hash old.hash_builder) l old new) all d.drops,
        subst (λ (l : List (Held K V P)). HandlesStay (among old l) old new) all d.stay,
      )
