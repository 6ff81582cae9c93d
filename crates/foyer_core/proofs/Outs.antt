-- Records that leave one after the other, by their ids.
use Rattle.std.proofs.Common.{◌≡◌, ℕ, ◌<◌, ◌≤◌, List, [], ◌∷◌, ◌++◌, Some, true, refl, sym, ◌∙◌, ap, subst, subst₂, arith}
use Rattle.std.specs.Prelude.{◌==◌, if◌then◌else◌}
use Rattle.std.proofs.lemmas.Bool.Decides.{nat_tests}
use Rattle.foyer_policy.specs.Items.{count_of, remove_id}
use Rattle.foyer_policy.specs.Policy.{Policy, IsPolicy, removed}
use Rattle.foyer_policy.specs.declared.types.Item.{Item}
use Rattle.foyer_policy.specs.declared.types.Event.{Event}
use Rattle.foyer_policy.proofs.ItemLemmas.{one_if, count-cons, found-id, found-where, sum-remove_id}
use Rattle.foyer_core.specs.Values.{Rec, Gone}
use Rattle.foyer_core.specs.State.{Meaning, State}
use Rattle.foyer_core.specs.Steps.{after_out, gone_of, ids_of, Leave}
use Rattle.foyer_core.specs.Bulk.{TakesOut, TakesRecordOut}
use Rattle.foyer_core.proofs.Evictions.{Leave-snoc}
use Rattle.foyer_core.proofs.LeaveLemmas.{leave-view}

-- one removal more
pub removed-more : {V C : Type 0} (m : Policy V C) (items : List Item) (i : Item) (v : V) →
    removed m (items ++ i ∷ []) v ≡ m.remove (removed m items v) i.id
removed-more m [] i v = refl
removed-more m (x ∷ xs) i v = removed-more m xs i (m.remove v x.id)

pub ids-more : (l : List Item) (i : Item) → ids_of l ++ i.id ∷ [] ≡ ids_of (l ++ i ∷ [])
ids-more [] i = refl
ids-more (x ∷ xs) i = ap (λ (l : List ℕ). x.id ∷ l) (ids-more xs i)

-- an item of a list is counted
pub counted_first : (i : Item) (l : List Item) → 0 < count_of i.id (i ∷ l)
counted_first i l =
    (let one : one_if i.id i ≡ 1 = (let e : (i.id == i.id) ≡ true = grind (arith, nat_tests) in rw e refl) in
    omega (arith, count-cons i.id i l))

module _ {K V P View C : Type 0} (m : Meaning K P View C) where
  -- some left, and the others are still in
  pub record OutSoFar (event : Event) (old : State K V P View) (left still : List Item)
      (ls : List (Event × Gone K V P)) (now : State K V P View) : Type 0 where
    pub leave : TakesOut m event left old ls now
    pub within : (id : ℕ) → count_of id still ≤ count_of id (m.policy.order now.view)

  pub outs-start : (event : Event) (old : State K V P View) (items : List Item) →
      ((id : ℕ) → count_of id items ≤ count_of id (m.policy.order old.view)) → OutSoFar event old [] items [] old
  outs-start event old items within = record { leave = refl; within = within }

  module _ (good : IsPolicy m.policy) (event : Event) (old : State K V P View) (left : List Item) (i : Item)
      (still : List Item) (ls : List (Event × Gone K V P)) (now : State K V P View)
      (h : OutSoFar event old left (i ∷ still) ls now) where
    -- the next one is in
    pub outs-next : 0 < count_of i.id (m.policy.order now.view)
    outs-next = omega (arith, h.within i.id, counted_first i still)

    still_within : (id : ℕ) → count_of id still ≤ count_of id (m.policy.order (m.policy.remove now.view i.id))
    still_within id =
        let found = found-where i.id (m.policy.order now.view) outs-next in
        let same : found.0.id ≡ i.id = found-id i.id found.0 (m.policy.order now.view) found.1 in
        let one : one_if id found.0 ≡ one_if id i = ap (λ (a : ℕ). if a == id then 1 else 0) same in
        let order : count_of id (m.policy.order (m.policy.remove now.view i.id))
        ≡ count_of id (remove_id i.id (m.policy.order now.view)) =
        ap (count_of id) (good.remove_order now.view i.id) in
        omega (
          arith,
          h.within id,
          count-cons id i still,
          sum-remove_id (one_if id) i.id found.0 (m.policy.order now.view) found.1,
        )

    by_record : (r : Rec K V P) → now.records i.id ≡ Some r
        → OutSoFar event old (left ++ i ∷ []) still (ls ++ (event, gone_of now.number i.id r) ∷ [])
        (record (after_out m now i.id r) { view = m.policy.remove now.view i.id })
    by_record r there = record {
      leave =
          let view : m.policy.remove now.view i.id ≡ removed m.policy (left ++ i ∷ []) old.view =
          ap (λ (v : View). m.policy.remove v i.id)
          (leave-view m event (ids_of left) old ls (removed m.policy left old.view) now h.leave)
          ∙ sym (removed-more m.policy left i old.view) in
          subst₂ (λ (ids : List ℕ) (w : View). Leave m event ids old (ls ++ (event, gone_of now.number i.id r) ∷ []) w
          (record (after_out m now i.id r) { view = m.policy.remove now.view i.id })) (ids-more left i) view
          (Leave-snoc m event (ids_of left) old ls (removed m.policy left old.view) now i.id r
          (m.policy.remove now.view i.id) h.leave there);
      within = still_within;
    }

    -- and leaves
    pub outs-more : (gone : Gone K V P) (new : State K V P View) → TakesRecordOut m now i.id gone new →
        OutSoFar event old (left ++ i ∷ []) still (ls ++ (event, gone) ∷ []) new
    outs-more gone new t =
        subst (λ (g : Gone K V P). OutSoFar event old (left ++ i ∷ []) still (ls ++ (event, g) ∷ []) new)
        (sym t.gone_is)
        (subst (λ (s : State K V P View). OutSoFar event old (left ++ i ∷ []) still
        (ls ++ (event, gone_of now.number i.id t.rec) ∷ []) s) (sym t.after) (by_record t.rec t.there))
