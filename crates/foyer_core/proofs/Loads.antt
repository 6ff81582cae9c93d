-- The sums of what shards hold, as one of them changes.
use Rattle.std.proofs.Common.{◌≡◌, ℕ, nat_eq, ◌+◌, ◌-◌, ◌^◌, ◌<◌, ◌≤◌, ◌==◌, List, [], ◌∷◌, ◌++◌, map, take, length, sum_by, Option, Some, None, Result, Ok, Err, Bool, true, false, refl, sym, ◌∙◌, ap, subst, arith}
use Rattle.std.proofs.Math.Logic.{∥∥₁_elim}
use Rattle.std.proofs.Props.{props}
use Rattle.std.specs.Prelude.{All, IfOk, OnErr, slice_set, slice_index_or, if◌then◌else◌}
use Rattle.std.specs.List.{AllZip}
use Rattle.std.specs.List.Sorted.{IsPermutation}
use Rattle.std.specs.Map.{update}
use Rattle.std.proofs.lemmas.List.{length-map, length-set, map-append, map-set, get_or-map, get_or-set_same, take_all, take_more}
use Rattle.std.proofs.lemmas.List.Elements.{All-cons, All-head, All-tail, All-set, All-push}
use Rattle.std.proofs.lemmas.List.Sorted.{sum_by-IsPermutation, length_permutation}
use Rattle.std.proofs.lemmas.List.Sums.{sum_by-cons, sum_by-set, sum_by_push, get_or-le-sum_by, sum_by-le}
use Rattle.foyer_policy.specs.Items.{weight_of, HasIdsOnce}
use Rattle.foyer_policy.specs.Policy.{IsPolicy}
use Rattle.foyer_policy.specs.declared.error.Reason.{Reason}
use Rattle.foyer_policy.specs.declared.error.Reason.TheVariants.{Handles, NoMemory}
use Rattle.foyer_policy.specs.declared.types.Event.{Event}
use Rattle.foyer_policy.specs.declared.types.Item.{Item}
use Rattle.foyer_core.specs.Bulk.{after_update}
use Rattle.foyer_core.specs.Core.{AreSums}
use Rattle.foyer_core.specs.CoreBulk.{ConfiguresEach}
use Rattle.foyer_core.specs.State.{Meaning, State, IsKept, usage_of}
use Rattle.foyer_core.specs.Steps.{Gets, GivesBack, Touches, ClonesHandle, after_get}
use Rattle.foyer_core.specs.Values.{Gone, Held}
use Rattle.foyer_core.proofs.Found.{once-permuted}
use Rattle.foyer_core.proofs.TurnLaws.{updates-keep}

module _ {K V P View C : Type 0} (m : Meaning K P View C) where
  -- how many records of a shard are in the index
  abbrev entries_of : State K V P View → ℕ
  entries_of s = length (m.policy.order s.view)

  -- a shard holds as much as another
  abbrev pub SameLoad : State K V P View → State K V P View → Type 0
  SameLoad s t = (usage_of m t ≡ usage_of m s) × (entries_of t ≡ entries_of s)

  module _ {X : Type 0} (f : X → State K V P View) (xs : List X) (n i : ℕ) (x : X) (usage entries : ℕ)
      (many : n ≡ length xs) (short : n < 2 ^ 64) (within : i < n) (read : x ≡ slice_index_or xs i x)
      (sums : AreSums m usage entries (map f xs))
      (u e : ℕ) (u-is : u ≡ usage_of m (f x)) (e-is : e ≡ entries_of (f x)) where
    inside : i < length (map f xs)
    inside = omega (arith, length-map xs f, many, within)

    here : slice_index_or (map f xs) i (f x) ≡ f x
    here = get_or-map f xs i x (f x) (omega (arith, many, within)) ∙ ap f (sym read)

    -- what one shard holds is a part of all
    u-part : u ≤ usage
    u-part = omega (arith, u-is, sums.0, ap (usage_of m) here, get_or-le-sum_by (usage_of m) (map f xs) i (f x) inside)

    e-part : e ≤ entries
    e-part = omega (arith, e-is, sums.1, ap entries_of here, get_or-le-sum_by entries_of (map f xs) i (f x) inside)

    -- `y` is written there, and read back as `z`
    module _ (y z : X) (back : z ≡ slice_index_or (slice_set xs i y) i z) (v d : ℕ) (v-of : v ≡ usage_of m (f z))
        (d-of : d ≡ entries_of (f z)) (small : (v < 2 ^ 64) × (d < 2 ^ 64)) where
      abbrev after : List (State K V P View)
      after = slice_set (map f xs) i (f y)

      same : z ≡ y
      same = back ∙ get_or-set_same xs i y z (omega (arith, many, within))

      v-is : v ≡ usage_of m (f y)
      v-is = v-of ∙ ap (λ (a : X). usage_of m (f a)) same

      d-is : d ≡ entries_of (f y)
      d-is = d-of ∙ ap (λ (a : X). entries_of (f a)) same

      all-small : All (λ s. (usage_of m s < 2 ^ 64) × (entries_of s < 2 ^ 64)) after
      all-small = All-set (λ s. (usage_of m s < 2 ^ 64) × (entries_of s < 2 ^ 64)) (map f xs) i (f y)
          (omega (arith, v-is, small.0), omega (arith, d-is, small.1)) sums.2

      u-sum : usage - u + v ≡ sum_by (usage_of m) after
      u-sum = omega (
        arith,
        u-is,
        v-is,
        u-part,
        sums.0,
        ap (usage_of m) here,
        sum_by-set (usage_of m) (map f xs) i (f y) (f x) inside,
      )

      e-sum : entries - e + d ≡ sum_by entries_of after
      e-sum = omega
          (arith, e-is, d-is, e-part, sums.1, ap entries_of here, sum_by-set entries_of (map f xs) i (f y) (f x) inside)

      -- it gives way to what the shard holds then
      pub sums_set : (usage' entries' : ℕ) → usage' ≡ usage - u + v → entries' ≡ entries - e + d →
          AreSums m usage' entries' (map f (slice_set xs i y))
      sums_set usage' entries' is is' = rw (map-set f xs i y) ((is ∙ u-sum), (is' ∙ e-sum), all-small)

      long : length after < 2 ^ 64
      long = omega (arith, length-set (map f xs) i (f y), length-map xs f, many, short)

      below : (g : State K V P View → ℕ) → All (λ s. g s < 2 ^ 64) after → (a : ℕ) → a ≡ sum_by g after → a < 2 ^ 128
      below g each a is = omega (arith, long, is, sum_by-le g (2 ^ 64) after (λ k z less. omega (arith, each k z less)))

      pub usage_fits : (u ≤ usage) × (usage - u + v < 2 ^ 128)
      usage_fits = (u-part, below (usage_of m) (λ k z less. (all-small k z less).0) (usage - u + v) u-sum)

      pub entries_fit : (e ≤ entries) × (entries - e + d < 2 ^ 128)
      entries_fit = (e-part, below entries_of (λ k z less. (all-small k z less).1) (entries - e + d) e-sum)

  -- one shard more
  pub sums_more : {X : Type 0} (f : X → State K V P View) (xs : List X) (n : ℕ) (x : X) (usage entries u e : ℕ) →
      n < length xs → x ≡ slice_index_or xs n x
      → AreSums m usage entries (map f (take n xs)) → u ≡ usage_of m (f x) → e ≡ entries_of (f x) → (u < 2 ^ 64)
      × (e < 2 ^ 64) → AreSums m (usage + u) (entries + e) (map f (take (n + 1) xs))
  sums_more {X} f xs n x usage entries u e less read sums u-is e-is small =
      let front : List (State K V P View) = map f (take n xs) in
      let more : map f (take (n + 1) xs) ≡ front ++ f x ∷ [] =
      ap (map f) (take_more xs n x less ∙ ap (λ (a : X). take n xs ++ a ∷ []) (sym read))
      ∙ map-append f (take n xs) (x ∷ []) in
      rw more (
        omega (arith, sums.0, u-is, sum_by_push (usage_of m) front (f x)),
        omega (arith, sums.1, e-is, sum_by_push entries_of front (f x)),
        All-push (λ s. (usage_of m s < 2 ^ 64) × (entries_of s < 2 ^ 64)) front (f x) sums.2
            (omega (arith, u-is, small.0), omega (arith, e-is, small.1)),
      )

  -- and all of them
  pub sums_all : {X : Type 0} (f : X → State K V P View) (xs : List X) (n : ℕ) (usage entries : ℕ) → length xs ≤ n →
      AreSums m usage entries (map f (take n xs)) → AreSums m usage entries (map f xs)
  sums_all {X} f xs n usage entries long sums =
      subst (λ (l : List X). AreSums m usage entries (map f l)) (take_all n xs long) sums

  -- where a shard holds as much as before, the sums stay
  module _ {X : Type 0} (f : X → State K V P View) (xs : List X) (n i : ℕ) (x : X) (usage entries : ℕ)
      (many : n ≡ length xs) (within : i < n) (read : x ≡ slice_index_or xs i x)
      (sums : AreSums m usage entries (map f xs)) where
    inside' : i < length (map f xs)
    inside' = omega (arith, length-map xs f, many, within)

    here' : slice_index_or (map f xs) i (f x) ≡ f x
    here' = get_or-map f xs i x (f x) (omega (arith, many, within)) ∙ ap f (sym read)

    pub sums_same : (y : X) → SameLoad (f x) (f y) → AreSums m usage entries (map f (slice_set xs i y))
    sums_same y same =
        let there = subst (λ (s : State K V P View). (usage_of m s < 2 ^ 64) × (entries_of s < 2 ^ 64)) here'
        (sums.2 i (f x) inside') in
        rw (map-set f xs i y) (
          omega (
            arith,
            same.0,
            sums.0,
            ap (usage_of m) here',
            sum_by-set (usage_of m) (map f xs) i (f y) (f x) inside',
          ),
          omega (arith, same.1, sums.1, ap entries_of here', sum_by-set entries_of (map f xs) i (f y) (f x) inside'),
          All-set (λ s. (usage_of m s < 2 ^ 64) × (entries_of s < 2 ^ 64)) (map f xs) i (f y)
              (omega (arith, same.0, there.0), omega (arith, same.1, there.1)) sums.2,
        )

  -- where each shard holds as much as before, the sums stay
  abbrev IsSmall : State K V P View → Type 0
  IsSmall s = (usage_of m s < 2 ^ 64) × (entries_of s < 2 ^ 64)

  zip_sums : (ss ts : List (State K V P View)) → AllZip SameLoad ss ts →
      (sum_by (usage_of m) ts ≡ sum_by (usage_of m) ss) × (sum_by entries_of ts ≡ sum_by entries_of ss)
      × (All IsSmall ss → All IsSmall ts)
  zip_sums [] [] h = (refl, refl, λ small. small)
  zip_sums [] (t ∷ ts) h = absurd h
  zip_sums (s ∷ ss) [] h = absurd h
  zip_sums (s ∷ ss) (t ∷ ts) h =
      let rest = zip_sums ss ts h.1 in (
        omega (arith, h.0.0, rest.0, sum_by-cons (usage_of m) s ss, sum_by-cons (usage_of m) t ts),
        omega (arith, h.0.1, rest.1, sum_by-cons entries_of s ss, sum_by-cons entries_of t ts),
        λ small. (let first = All-head IsSmall s ss small in
            All-cons IsSmall t ts (omega (arith, h.0.0, first.0), omega (arith, h.0.1, first.1))
            (rest.2 (All-tail IsSmall s ss small))),
      )

  module _ (good : IsPolicy m.policy) where
    same-view : (s t : State K V P View) → t.view ≡ s.view → SameLoad s t
    same-view s t h =
        (ap (λ (v : View). weight_of (m.policy.order v)) h, ap (λ (v : View). length (m.policy.order v)) h)

    pub same-load : (s t : State K V P View) → t ≡ s → SameLoad s t
    same-load s t h = same-view s t (ap (λ (a : State K V P View). a.view) h)

    permuted : (s t : State K V P View) → IsPermutation (m.policy.order s.view) (m.policy.order t.view) → SameLoad s t
    permuted s t h = (
      sum_by-IsPermutation (λ (i : Item). i.weight) (m.policy.order s.view) (m.policy.order t.view) h,
      length_permutation (m.policy.order s.view) (m.policy.order t.view) h,
    )

    then-same : (s t r : State K V P View) → SameLoad s t → SameLoad t r → SameLoad s r
    then-same s t r a b = (b.0 ∙ a.0, b.1 ∙ a.1)

    -- what a shard keeps says that each id is in once
    by-kept : (s t : State K V P View) → ∥ IsKept m s ∥₁ → (HasIdsOnce (m.policy.order s.view) → SameLoad s t) →
        SameLoad s t
    by-kept s t kept h = ∥∥₁_elim kept (hlevel props) (λ k. h k.once)

    got-once : (now : ℕ) (s t : State K V P View) (k : ℕ × K) (answer : Result (Option (Held K V P)) Reason) →
        Gets m now s k answer t → HasIdsOnce (m.policy.order s.view)
        → SameLoad s t × HasIdsOnce (m.policy.order t.view)
    got-once now s t k (Ok None) h once = (
      same-view s t (ap (λ (a : State K V P View). a.view) h.1),
      subst (λ (a : State K V P View). HasIdsOnce (m.policy.order a.view)) (sym h.1) once,
    )
    got-once now s t k (Ok (Some entry)) h once =
        let perm = good.acquire_order s.view entry.id once in
        subst (λ (a : State K V P View). SameLoad s a × HasIdsOnce (m.policy.order a.view)) (sym h.5) (
          permuted s (after_get m s entry.id h.0) perm,
          once-permuted (m.policy.order s.view) (m.policy.order (m.policy.acquire s.view entry.id)) perm once,
        )
    got-once now s t k (Err Handles) h once = (
      same-view s t (ap (λ (a : State K V P View). a.view) h.5),
      subst (λ (a : State K V P View). HasIdsOnce (m.policy.order a.view)) (sym h.5) once,
    )
    got-once now s t k (Err NoMemory) h once = (
      same-view s t (ap (λ (a : State K V P View). a.view) h.5),
      subst (λ (a : State K V P View). HasIdsOnce (m.policy.order a.view)) (sym h.5) once,
    )
    got-once now s t k (Err _) h once = absurd h

    gave-once : (s t : State K V P View) (id : ℕ) (leave : Option (Event × Gone K V P)) → GivesBack m s id leave t →
        HasIdsOnce (m.policy.order s.view) → SameLoad s t
    gave-once s t id leave h once = subst (SameLoad s) (sym h.after) (go (h.rec.handles == 1) h.rec.resident) where
      go : (b c : Bool) → SameLoad s
          (if b then
          (if c then record s {
            view = m.policy.release s.view id;
            records =
                update nat_eq s.records id (Some (record h.rec { handles = 0 }));
          }
          else record s { records = update nat_eq s.records id None })
          else record s { records = update nat_eq s.records id (Some (record h.rec { handles = h.rec.handles - 1 })) })
      go true true = permuted s
          (record s {
            view = m.policy.release s.view id;
            records =
                update nat_eq s.records id (Some (record h.rec { handles = 0 }));
          })
          (good.release_order s.view id once)
      go true false = (refl, refl)
      go false c = (refl, refl)

    pub gets_load : (now : ℕ) (s t : State K V P View) (k : ℕ × K) (answer : Result (Option (Held K V P)) Reason) →
        ∥ IsKept m s ∥₁ → Gets m now s k answer t → SameLoad s t
    gets_load now s t k answer kept h = by-kept s t kept (λ once. (got-once now s t k answer h once).0)

    gives_load : (s t : State K V P View) (id : ℕ) (leave : Option (Event × Gone K V P)) → ∥ IsKept m s ∥₁ →
        GivesBack m s id leave t → SameLoad s t
    gives_load s t id leave kept h = by-kept s t kept (gave-once s t id leave h)

    pub touches_load : (now : ℕ) (s t : State K V P View) (k : ℕ × K) (answer : Result Bool Reason) → ∥ IsKept m s ∥₁ →
        Touches m now s k answer t → SameLoad s t
    touches_load now s t k (Ok false) kept h = gets_load now s t k (Ok None) kept h
    touches_load now s t k (Ok true) kept h = by-kept s t kept (λ once.
        let got = got-once now s h.1 k (Ok (Some h.0)) h.2 once in
        then-same s h.1 t got.0 (gave-once h.1 t h.0.id None h.3 got.1))
    touches_load now s t k (Err Handles) kept h = gets_load now s t k (Err Handles) kept h
    touches_load now s t k (Err _) kept h = absurd h

    pub clones_load : (s t : State K V P View) (entry : Held K V P) (answer : Result (Held K V P) Reason) →
        ClonesHandle s entry answer t → SameLoad s t
    clones_load s t entry (Ok clone) h = same-view s t (ap (λ (a : State K V P View). a.view) h.4)
    clones_load s t entry (Err Handles) h = same-view s t (ap (λ (a : State K V P View). a.view) h.3)
    clones_load s t entry (Err NoMemory) h = same-view s t (ap (λ (a : State K V P View). a.view) h.3)
    clones_load s t entry (Err _) h = absurd h

    pub given_back_load : {A : Type 0} (s t : State K V P View) (id : ℕ) (x : Option (Event × Gone K V P) → Type 0)
        (result : Result (Option (Event × Gone K V P)) A) → ∥ IsKept m s ∥₁
        → IfOk result (λ leave. x leave × GivesBack m s id leave t) → OnErr result (t ≡ s) → SameLoad s t
    given_back_load s t id x (Ok leave) kept ok err = gives_load s t id leave kept ok.1
    given_back_load s t id x (Err e) kept ok err = same-view s t (ap (λ (a : State K V P View). a.view) err)

    -- another configuration
    abbrev LoadKept : State K V P View → State K V P View → Type 0
    LoadKept s t = ∥ IsKept m s ∥₁ → SameLoad s t

    update_load : (config : Option C) (s : State K V P View) (c : ℕ) → LoadKept s (after_update m s c config)
    update_load config s c kept =
        (let t = after_update m s c config in by-kept s t kept
        (λ once. permuted s t (good.update_order s.view c config once)))

    zip_kept : {X : Type 0} (f : X → State K V P View) (xs : List X) (ts : List (State K V P View)) →
        ((x : X) → ∥ IsKept m (f x) ∥₁) → AllZip LoadKept (map f xs) ts → AllZip SameLoad (map f xs) ts
    zip_kept f [] [] kept h = tt
    zip_kept f [] (t ∷ ts) kept h = absurd h
    zip_kept f (x ∷ xs) [] kept h = absurd h
    zip_kept f (x ∷ xs) (t ∷ ts) kept h = (h.0 (kept x), zip_kept f xs ts kept h.1)

    pub configured_sums : {X : Type 0} (f : X → State K V P View) (xs : List X) (ts : List (State K V P View)) →
        ((x : X) → ∥ IsKept m (f x) ∥₁) → (config : C) → ConfiguresEach m config (map f xs) ts
        → (usage entries : ℕ) → AreSums m usage entries (map f xs) → AreSums m usage entries ts
    configured_sums f xs ts kept config h usage entries sums =
        let each = updates-keep m LoadKept (Some config) (update_load (Some config)) (λ i s. s.capacity) (map f xs) ts
        h.counted h.each in
        let same = zip_sums (map f xs) ts (zip_kept f xs ts kept each) in
        (sums.0 ∙ sym same.0, sums.1 ∙ sym same.1, same.2 sums.2)
