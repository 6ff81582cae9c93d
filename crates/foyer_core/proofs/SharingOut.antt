-- Updates of the first shards' policies, as far as a loop has come.
use Rattle.std.proofs.Common.{◌≡◌, ◌≢◌, ℕ, ◌+◌, ◌<◌, ◌≤◌, inl, inr, List, map, length, Option, Some, None, sym, ◌∙◌, ap, subst, arith}
use Rattle.std.proofs.Math.ListN.{length-set}
use Rattle.std.specs.Prelude.{slice_get, slice_set, slice_index_or, option_map}
use Rattle.std.proofs.lemmas.Bool.Decides.{eqb_tells}
use Rattle.std.proofs.lemmas.List.{length-map, map-set}
use Rattle.std.proofs.lemmas.Option.{slice_get-map, slice_get_read, slice_get_within}
use Rattle.foyer_core.specs.Bulk.{after_update}
use Rattle.foyer_core.specs.Core.{share_of}
use Rattle.foyer_core.specs.CoreBulk.{ConfiguresEach, SharesOut}
use Rattle.foyer_core.specs.State.{Meaning, State}
use Rattle.foyer_core.proofs.CoreLemmas.{set_here, set_apart}

-- the shard at each place is told this capacity, and a configuration where one is given
module _ {K V P View C : Type 0} (m : Meaning K P View C) (told : ℕ → State K V P View → ℕ) (config : Option C) where
  same_some : (s t : State K V P View) → Some s ≡ Some t → s ≡ t
  same_some s t h = cc

  -- the first shards are told, so many, and the others stay
  pub record UpdatedFirst (n : ℕ) (old new : List (State K V P View)) : Type 0 where
    pub counted : length new ≡ length old
    pub done : (i : ℕ) (s : State K V P View) → i < n → slice_get old i ≡ Some s → slice_get new i
        ≡ Some (after_update m s (told i s) config)
    pub left : (i : ℕ) → n ≤ i → slice_get new i ≡ slice_get old i

  updated-more : (n : ℕ) (old now : List (State K V P View)) (s : State K V P View) → UpdatedFirst n old now →
      slice_get now n ≡ Some s
      → UpdatedFirst (n + 1) old (slice_set now n (after_update m s (told n s) config))
  updated-more n old now s h there = record {
    counted = length-set now n t ∙ h.counted;
    done = λ i a less was. elim (eqb_tells i n) [
      | inl e ↦ (let here : slice_get old n ≡ Some a = subst (λ (j : ℕ). slice_get old j ≡ Some a) e.1 was in
          let same : s ≡ a = same_some s a (sym there ∙ h.left n (omega arith) ∙ here) in
          subst (λ (j : ℕ). slice_get (slice_set now n t) j ≡ Some (after_update m a (told j a) config)) (sym e.1)
          (subst (λ (b : State K V P View). slice_get (slice_set now n t) n
          ≡ Some (after_update m b (told n b) config)) same (set_here now n s t there)))
      | inr ne ↦ (let apart : i ≢ n = ne.1 in set_apart now n i t apart ∙ h.done i a (omega arith) was)
    ];
    left = λ i more.
        (let apart : i ≢ n = (λ e. absurd (omega arith)) in set_apart now n i t apart ∙ h.left i (omega arith));
  } where
    t : State K V P View
    t = after_update m s (told n s) config

  -- over what each of a list shows, where the one at this place is told
  pub updated-over : {A : Type 0} (f : A → State K V P View) (old : List (State K V P View)) (xs : List A) (n : ℕ)
      (x y : A) (count own : ℕ) → count ≡ length xs → n < count → x ≡ slice_index_or xs n x
      → UpdatedFirst n old (map f xs) → f y ≡ after_update m (f x) own config → own ≡ told n (f x) →
      UpdatedFirst (n + 1) old (map f (slice_set xs n y))
  updated-over f old xs n x y count own long within read h after is =
      subst (UpdatedFirst (n + 1) old)
      (sym (map-set f xs n y ∙ ap (slice_set (map f xs) n) (after ∙ ap (λ (k : ℕ). after_update m (f x) k config) is)))
      (updated-more n old (map f xs) (f x) h
      (slice_get-map f xs n ∙ ap (option_map f) (slice_get_read xs count n x long within read)))

  -- all are told
  updated-all : (n : ℕ) (old new : List (State K V P View)) → n ≡ length old → UpdatedFirst n old new
      → (i : ℕ) (s : State K V P View) → slice_get old i ≡ Some s → slice_get new i
      ≡ Some (after_update m s (told i s) config)
  updated-all n old new all h i s there =
      (let less : i < n = omega (arith, slice_get_within old i s there) in h.done i s less there)

module _ {A K V P View C : Type 0} (m : Meaning K P View C) (f : A → State K V P View) (xs : List A)
    (new : List (State K V P View)) (n : ℕ) (all : n ≡ length xs) where
  many-shown : n ≡ length (map f xs)
  many-shown = rw length-map all

  -- each has its share
  pub over-shared : (capacity many : ℕ) → many ≡ length xs →
      UpdatedFirst m (λ i s. share_of capacity many i) None n (map f xs) new → SharesOut m capacity (map f xs) new
  over-shared capacity many many_is h = record {
    counted = h.counted;
    each = λ i s there. subst (λ (k : ℕ). slice_get new i ≡ Some (after_update m s (share_of capacity k i) None))
        (rw length-map many_is)
        (updated-all m (λ i s. share_of capacity many i) None n (map f xs) new many-shown h i s there);
  }

  -- each has the configuration
  pub over-configured : (config : C) → UpdatedFirst m (λ i s. s.capacity) (Some config) n (map f xs) new →
      ConfiguresEach m config (map f xs) new
  over-configured config h =
      record {
        counted = h.counted;
        each = updated-all m (λ i s. s.capacity) (Some config) n (map f xs) new many-shown
            h;
      }
