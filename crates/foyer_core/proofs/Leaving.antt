-- A record that leaves keeps what a shard keeps.
use Rattle.std.proofs.Common.{◌≡◌, ◌≢◌, ℕ, ◌<◌, ◌⊎◌, inl, inr, Some, None, Option, Bool, true, false, true≢false, cond, ◌==◌, refl, sym, ap, ◌∙◌, subst, arith}
use Rattle.std.specs.Cmp.{IsEquivalence}
use Rattle.std.specs.Map.{update}
use Rattle.std.proofs.lemmas.Map.{update_here, update_apart}
use Rattle.std.proofs.lemmas.Bool.Decides.{eqb_tells, nat_tests}
use Rattle.foyer_policy.specs.Items.{count_of, find_id}
use Rattle.foyer_policy.specs.declared.types.Item.{Item}
use Rattle.foyer_core.specs.Indexer.{same_key}
use Rattle.foyer_core.specs.Values.{Rec}
use Rattle.foyer_core.specs.State.{Meaning, State, key_of, item_of, is_phantom_record, IsKept}
use Rattle.foyer_core.specs.Steps.{outside, after_out}
use Rattle.foyer_core.proofs.Found.{found-counted}
use Rattle.foyer_core.proofs.Keys.{same_key_laws}
use Rattle.foyer_core.proofs.Taken.{TakesOut}

-- what is under another id stays under its key
pub still : {A : Type 0} (eq : A → A → Bool) (f : A → Option ℕ) (k q : A) (a b : ℕ) →
    ((x y : A) → eq x y ≡ true → f x ≡ f y) → f k ≡ Some a → f q ≡ Some b → b ≢ a
    → (t : Bool) → eq k q ≡ t → update eq f k None q ≡ Some b
still eq f k q a b resp fk fq apart true is =
    absurd (let e : ◌≡◌ {A = Option ℕ} (Some a) (Some b) = sym fk ∙ resp k q is ∙ fq in apart cc)
still eq f k q a b resp fk fq apart false is = rw is fq

-- what is under a key after one was taken out was there before
before : {A : Type 0} (eq : A → A → Bool) (f : A → Option ℕ) (k q : A) (b : ℕ) → (t : Bool) → eq k q ≡ t →
    update eq f k None q ≡ Some b → (f q ≡ Some b) × (eq k q ≡ false)
before eq f k q b true is h = let e : ◌≡◌ {A = Option ℕ} None (Some b) = rw is at h in absurd cc
before eq f k q b false is h = (rw is at h, is)

-- a map that does not tell equal keys apart does not after an update
pub respects_update : {A X : Type 0} (eq : A → A → Bool) → IsEquivalence eq → (f : A → Option X) →
    ((x y : A) → eq x y ≡ true → f x ≡ f y)
    → (k : A) (w : Option X) (x y : A) → eq x y ≡ true → update eq f k w x ≡ update eq f k w y
respects_update {X = X} eq laws f resp k w x y e =
    let same : eq k x ≡ eq k y = laws.symm k x ∙ laws.congr x y k e ∙ laws.symm y k in
    rw same (ap (λ (z : Option X). cond (eq k y) w z) (resp x y e))

-- what stays of a record that left
pub outside_is : {K V P : Type 0} (r q : Rec K V P) → outside r ≡ Some q → (0 < r.handles)
    × (q ≡ record r { resident = false })
outside_is {K} {V} {P} r q h = go (r.handles == 0) refl h where
  go : (t : Bool) → (r.handles == 0) ≡ t → cond t None (Some (record r { resident = false })) ≡ Some q →
      (0 < r.handles) × (q ≡ record r { resident = false })
  go true is h = absurd cc
  go false is h =
      (grind (arith, nat_tests), let same : ◌≡◌ {A = Rec K V P} (record r { resident = false }) q = cc in sym same)

module _ {K V P View C : Type 0} (m : Meaning K P View C) (laws : IsEquivalence m.same) (s : State K V P View)
    (kept : IsKept m s)
    (i : Item) (v : View) (r : Rec K V P) (there : s.records i.id ≡ Some r)
    (out : TakesOut (m.policy.order s.view) (m.policy.order v) i)
    (pins : (id : ℕ) → 0 < count_of id (m.policy.pinned v) → 0 < count_of id (m.policy.pinned s.view)) where
  keys : IsEquivalence (same_key m.same)
  keys = same_key_laws m.same laws

  -- the record that leaves is in the index under its key
  leaving_here : s.index (key_of r.kept) ≡ Some i.id
  leaving_here =
      let old = kept.placed i out.here in
      let same : old.0 ≡ r = cc (old.1, there) in
      subst (λ (q : Rec K V P). s.index (key_of q.kept) ≡ Some i.id) same old.3

  leaving_apart : (id : ℕ) (j : Item) → find_id id (m.policy.order v) ≡ Some j → id ≢ i.id
  leaving_apart id j h e =
      let none : count_of id (m.policy.order v) ≡ 0 =
      subst (λ (a : ℕ). count_of a (m.policy.order v) ≡ 0) (sym e) out.gone in
      absurd (omega (arith, found-counted id j (m.policy.order v) h))

  -- what is under an id now stayed, or was the record that left
  stayed : (id : ℕ) (q : Rec K V P) → (after_out m s i.id r).records id ≡ Some q
      → ((id ≢ i.id) × (s.records id ≡ Some q)) ⊎ ((id ≡ i.id) × (0 < r.handles) × (q ≡ record r { resident = false }))
  stayed id q h = elim (eqb_tells id i.id) [
    | inl e ↦
        (let now : outside r ≡ Some q = sym (update_here s.records i.id (outside r))
        ∙ subst (λ (a : ℕ). (after_out m s i.id r).records a ≡ Some q) (e.1) h in
        let o = outside_is r q now in inr (e.1, o.0, o.1))
    | inr e ↦ inl (e.1, sym (update_apart s.records i.id (outside r) id e.1) ∙ h)
  ]

  left_placed : (j : Item) → find_id j.id (m.policy.order v) ≡ Some j
      → (q : Rec K V P) × ((after_out m s i.id r).records j.id ≡ Some q) × (q.resident ≡ true)
      × ((after_out m s i.id r).index (key_of q.kept) ≡ Some j.id) × (j ≡ item_of m j.id q.kept)
  left_placed j h =
      let apart : j.id ≢ i.id = leaving_apart j.id j h in
      let old = kept.placed j (out.finds j.id j h) in (
        old.0,
        update_apart s.records i.id (outside r) j.id apart ∙ old.1,
        old.2,
        still (same_key m.same) s.index (key_of r.kept) (key_of old.0.kept) i.id j.id kept.respects leaving_here old.3
            apart (same_key m.same (key_of r.kept) (key_of old.0.kept)) refl,
        old.4,
      )

  left_indexed : (k : ℕ × K) (id : ℕ) → (after_out m s i.id r).index k ≡ Some id
      → (0 < count_of id (m.policy.order v)) ×
      ((q : Rec K V P) → (after_out m s i.id r).records id ≡ Some q → same_key m.same k (key_of q.kept) ≡ true)
  left_indexed k id h =
      let b = before (same_key m.same) s.index (key_of r.kept) k id (same_key m.same (key_of r.kept) k) refl h in
      let old = kept.indexed k id b.0 in
      let apart : id ≢ i.id = λ e.
      absurd (let t : same_key m.same k (key_of r.kept) ≡ true = old.1 r (rw e there) in
      true≢false (sym t ∙ keys.symm k (key_of r.kept) ∙ b.1)) in (
        omega (arith, out.others id apart, old.0),
        λ q e. elim (stayed id q e) [ inl f ↦ old.1 q f.1 | inr f ↦ absurd (apart f.0) ],
      )

  left_resident : (id : ℕ) (q : Rec K V P) → (after_out m s i.id r).records id ≡ Some q → q.resident ≡ true →
      0 < count_of id (m.policy.order v)
  left_resident id q h res = elim (stayed id q h) [
    | inl f ↦ omega (arith, out.others id f.0, kept.resident id q f.1 res)
    | inr f ↦ absurd (let e : ◌≡◌ {A = Bool} false true = sym (ap (λ (x : Rec K V P). x.resident) f.2) ∙ res in cc)
  ]

  left_plain : (id : ℕ) (q : Rec K V P) → (after_out m s i.id r).records id ≡ Some q → q.resident ≡ true →
      is_phantom_record m q.kept ≡ false
  left_plain id q h res = elim (stayed id q h) [
    | inl f ↦ kept.plain id q f.1 res
    | inr f ↦ absurd (let e : ◌≡◌ {A = Bool} false true = sym (ap (λ (x : Rec K V P). x.resident) f.2) ∙ res in cc)
  ]

  left_handles : (q : Rec K V P) → q ≡ record r { resident = false } → q.handles ≡ r.handles
  left_handles q e = ap (λ (x : Rec K V P). x.handles) e

  pub leave_keeps : IsKept m (record (after_out m s i.id r) { view = v })
  leave_keeps = record {
    once = out.once;
    placed = left_placed;
    indexed = left_indexed;
    resident = left_resident;
    respects = respects_update (same_key m.same) keys s.index kept.respects (key_of r.kept) None;
    needed = λ id q h. elim (stayed id q h)
        [ inl f ↦ kept.needed id q f.1 | inr f ↦ inr (omega (arith, f.1, left_handles q f.2)) ];
    limited = λ id q h. elim (stayed id q h)
        [ inl f ↦ kept.limited id q f.1 | inr f ↦ omega (arith, kept.limited i.id r there, left_handles q f.2) ];
    pinned = λ id q h pos. elim (stayed id q h)
        [ inl f ↦ kept.pinned id q f.1 (pins id pos) | inr f ↦ omega (arith, f.1, left_handles q f.2) ];
    plain = left_plain;
    fresh = λ id q h. elim (stayed id q h)
        [ inl f ↦ kept.fresh id q f.1 | inr f ↦ omega (arith, kept.fresh i.id r there, f.0) ];
    fits = omega (arith, kept.fits, out.weight);
  }

  -- and its key is in the index no more
  pub leave_absent : (k : ℕ × K) → s.index k ≡ Some i.id → (after_out m s i.id r).index k ≡ None
  leave_absent k h =
      let e : same_key m.same (key_of r.kept) k ≡ true = keys.symm (key_of r.kept) k
      ∙ (kept.indexed k i.id h).1 r there in rw e
