-- A record whose handles change keeps what a shard keeps.
use Rattle.std.proofs.Common.{◌≡◌, ◌≢◌, ℕ, ◌<◌, ◌≤◌, ◌⊎◌, inl, inr, Some, None, Option, true, false, true≢false, nat_eq, refl, sym, ap, ◌∙◌, subst, arith}
use Rattle.std.specs.Map.{update}
use Rattle.std.specs.List.Sorted.{IsPermutation}
use Rattle.std.proofs.lemmas.Map.{update_here, update_apart}
use Rattle.std.proofs.lemmas.Bool.Decides.{eqb_tells}
use Rattle.std.proofs.lemmas.List.Sorted.{sum_by-IsPermutation, IsPermutation-sym}
use Rattle.foyer_policy.specs.Items.{count_of, HasIdsOnce, find_id}
use Rattle.foyer_policy.specs.declared.types.Item.{Item}
use Rattle.foyer_policy.proofs.ItemLemmas.{one_if}
use Rattle.foyer_core.specs.declared.record.Data.{Data}
use Rattle.foyer_core.specs.Indexer.{same_key}
use Rattle.foyer_core.specs.Values.{Rec}
use Rattle.foyer_core.specs.State.{Meaning, State, key_of, item_of, is_phantom_record, IsKept}
use Rattle.foyer_core.proofs.Found.{found-permuted, once-permuted}

-- what stands in a record's place: nothing, where it was not in the index, or the record with handles
-- that are within the limit, and at least one where it is pinned or not in the index
pub record Stands {K V P : Type 0} (limit pins : ℕ) (r : Rec K V P) (w : Option (Rec K V P)) : Type 0 where
  pub same : (q : Rec K V P) → w ≡ Some q → (q.kept ≡ r.kept) × (q.resident ≡ r.resident)
  pub stays : r.resident ≡ true → (q : Rec K V P) × (w ≡ Some q)
  pub needed : (q : Rec K V P) → w ≡ Some q → (q.resident ≡ true) ⊎ (0 < q.handles)
  pub limited : (q : Rec K V P) → w ≡ Some q → q.handles ≤ limit
  pub pinned : (q : Rec K V P) → w ≡ Some q → 0 < pins → 0 < q.handles

pub stands_some : {K V P : Type 0} (limit pins : ℕ) (r : Rec K V P) (n : ℕ) → (r.resident ≡ true) ⊎ (0 < n) →
    n ≤ limit → (0 < pins → 0 < n)
    → Stands limit pins r (Some (record r { handles = n }))
stands_some {K} {V} {P} limit pins r n needed limited pinned = record {
  same = λ q e. (let s = same q e in (ap (λ (x : Rec K V P). x.kept) s, ap (λ (x : Rec K V P). x.resident) s));
  stays = λ res. (record r { handles = n }, refl);
  needed = λ q e. subst (λ (x : Rec K V P). (x.resident ≡ true) ⊎ (0 < x.handles)) (sym (same q e)) needed;
  limited = λ q e. subst (λ (x : Rec K V P). x.handles ≤ limit) (sym (same q e)) limited;
  pinned = λ q e pos. subst (λ (x : Rec K V P). 0 < x.handles) (sym (same q e)) (pinned pos);
} where
  same : (q : Rec K V P) → ◌≡◌ {A = Option (Rec K V P)} (Some (record r { handles = n })) (Some q) → q
      ≡ record r { handles = n }
  same q e = (let s : ◌≡◌ {A = Rec K V P} (record r { handles = n }) q = cc in sym s)

pub stands_none : {K V P : Type 0} (limit pins : ℕ) (r : Rec K V P) → r.resident ≡ false → Stands limit pins r None
stands_none limit pins r out = record {
  same = λ q e. absurd cc;
  stays = λ res. absurd (true≢false (sym res ∙ out));
  needed = λ q e. absurd cc;
  limited = λ q e. absurd cc;
  pinned = λ q e pos. absurd cc;
}

module _ {K V P View C : Type 0} (m : Meaning K P View C) (s : State K V P View) (kept : IsKept m s)
    (id : ℕ) (r : Rec K V P) (there : s.records id ≡ Some r) (v : View) (w : Option (Rec K V P))
    (perm : IsPermutation (m.policy.order s.view) (m.policy.order v))
    (pins : (j : ℕ) → j ≢ id → 0 < count_of j (m.policy.pinned v) → 0 < count_of j (m.policy.pinned s.view))
    (stands : Stands s.limits.handles (count_of id (m.policy.pinned v)) r w) where
  back : IsPermutation (m.policy.order v) (m.policy.order s.view)
  back = IsPermutation-sym (m.policy.order s.view) (m.policy.order v) perm

  now_once : HasIdsOnce (m.policy.order v)
  now_once = once-permuted (m.policy.order s.view) (m.policy.order v) perm kept.once

  same_count : (j : ℕ) → count_of j (m.policy.order v) ≡ count_of j (m.policy.order s.view)
  same_count j = sum_by-IsPermutation (one_if j) (m.policy.order s.view) (m.policy.order v) perm

  -- what is under an id now stayed, or stands in the record's place
  was : (j : ℕ) (q : Rec K V P) → update nat_eq s.records id w j ≡ Some q → ((j ≢ id) × (s.records j ≡ Some q))
      ⊎ ((j ≡ id) × (w ≡ Some q))
  was j q h = elim (eqb_tells j id) [
    | inl e ↦
        inr (e.1, sym (update_here s.records id w) ∙ subst (λ (a : ℕ). update nat_eq s.records id w a ≡ Some q) (e.1) h)
    | inr e ↦ inl (e.1, sym (update_apart s.records id w j e.1) ∙ h)
  ]

  -- it has the data that it had, and is in the index where it was
  old_of : (j : ℕ) (q : Rec K V P) → update nat_eq s.records id w j ≡ Some q → (o : Rec K V P)
      × (s.records j ≡ Some o) × (q.kept ≡ o.kept) × (q.resident ≡ o.resident)
  old_of j q h = elim (was j q h) [
    | inl e ↦ (q, e.1, refl, refl)
    | inr e ↦ (r, subst (λ (a : ℕ). s.records a ≡ Some r) (sym e.0) there, (stands.same q e.1).0, (stands.same q e.1).1)
  ]

  abbrev PlacedNow : Item → Type 0
  PlacedNow j = (q : Rec K V P) × (update nat_eq s.records id w j.id ≡ Some q) × (q.resident ≡ true)
      × (s.index (key_of q.kept) ≡ Some j.id) × (j ≡ item_of m j.id q.kept)

  placed_here : (j : Item) (q : Rec K V P) → j.id ≡ id → w ≡ Some q → r.resident ≡ true → s.index (key_of r.kept)
      ≡ Some j.id → j ≡ item_of m j.id r.kept → PlacedNow j
  placed_here j q e is res under item =
      let alike : q.kept ≡ r.kept = (stands.same q is).0 in (
        q,
        subst (λ (a : ℕ). update nat_eq s.records id w a ≡ Some q) (sym e) (update_here s.records id w ∙ is),
        (stands.same q is).1 ∙ res,
        ap (λ (x : Data K V P). s.index (key_of x)) alike ∙ under,
        item ∙ ap (λ (x : Data K V P). item_of m j.id x) (sym alike),
      )

  changed_placed : (j : Item) → find_id j.id (m.policy.order v) ≡ Some j → PlacedNow j
  changed_placed j h =
      let old = kept.placed j (found-permuted j.id j (m.policy.order v) (m.policy.order s.view) now_once back h) in
      elim (eqb_tells j.id id) [
        | inl e ↦ (let same : old.0 ≡ r = cc (old.1, there, e.1) in
            let res : r.resident ≡ true = subst (λ (x : Rec K V P). x.resident ≡ true) same old.2 in
            let n = stands.stays res in
            placed_here j n.0 e.1 n.1 res (subst (λ (x : Rec K V P). s.index (key_of x.kept) ≡ Some j.id) same old.3)
            (subst (λ (x : Rec K V P). j ≡ item_of m j.id x.kept) same old.4))
        | inr e ↦ (old.0, update_apart s.records id w j.id e.1 ∙ old.1, old.2, old.3, old.4)
      ]

  pub change_keeps : IsKept m (record s { view = v; records = update nat_eq s.records id w })
  change_keeps = record {
    once = now_once;
    placed = changed_placed;
    indexed = λ k j h. (
      omega (arith, (kept.indexed k j h).0, same_count j),
      λ q e. let o = old_of j q e in
          ap (λ (x : Data K V P). same_key m.same k (key_of x)) o.2 ∙ (kept.indexed k j h).1 o.0 o.1,
    );
    resident = λ j q h res. let o = old_of j q h in
        omega (arith, same_count j, kept.resident j o.0 o.1 (sym o.3 ∙ res));
    respects = kept.respects;
    needed = λ j q h. elim (was j q h) [ inl e ↦ kept.needed j q e.1 | inr e ↦ stands.needed q e.1 ];
    limited = λ j q h. elim (was j q h) [ inl e ↦ kept.limited j q e.1 | inr e ↦ stands.limited q e.1 ];
    pinned = λ j q h pos. elim (was j q h) [
      | inl e ↦ kept.pinned j q e.1 (pins j e.0 pos)
      | inr e ↦ stands.pinned q e.1 (subst (λ (a : ℕ). 0 < count_of a (m.policy.pinned v)) e.0 pos)
    ];
    plain = λ j q h res. let o = old_of j q h in ap (λ (x : Data K V P). is_phantom_record m x) o.2
        ∙ kept.plain j o.0 o.1 (sym o.3 ∙ res);
    fresh = λ j q h. let o = old_of j q h in kept.fresh j o.0 o.1;
    fits = omega (
      arith,
      kept.fits,
      sum_by-IsPermutation (λ (i : Item). i.weight) (m.policy.order s.view) (m.policy.order v)
          perm,
    );
  }
