-- Records by slot and by id: what a change of one slot makes of them.
use Rattle.std.proofs.Common.{◌≡◌, ◌≢◌, ℕ, Option, Some, None, true, false, nat_eq, refl, sym, ◌∙◌, ap, subst, inl, inr}
use Rattle.std.specs.Prelude.{option_map, option_and_then, ◌==◌, is_some, IsSomeAnd}
use Rattle.std.specs.Map.{update}
use Rattle.std.proofs.lemmas.Map.{update_here, update_apart}
use Rattle.std.proofs.lemmas.Bool.Decides.{eqb_tells}
use Rattle.foyer_core.specs.Values.{Kept}
use Rattle.foyer_core.specs.Table.{IsTable, rec_of, id_by, record_by}

some_one : (a b : ℕ) → Some a ≡ Some b → a ≡ b
some_one a b h = cc

module _ {K V P : Type 0} where
  -- a slot with so many handles
  abbrev pub with_handles : Kept K V P → ℕ → Kept K V P
  with_handles s n = record s { handles = n }

  pub id_by-some : (slots : ℕ → Option (Kept K V P)) (n : ℕ) (s : Kept K V P) → slots n ≡ Some s → id_by slots n
      ≡ Some s.id
  id_by-some slots n s h = ap (option_map (λ (s : Kept K V P). s.id)) h

  pub id_by-there : (slots : ℕ → Option (Kept K V P)) (n id : ℕ) → id_by slots n ≡ Some id → is_some (slots n) ≡ true
  id_by-there slots n id h = go (slots n) h where
    go : (o : Option (Kept K V P)) → option_map (λ (s : Kept K V P). s.id) o ≡ Some id → is_some o ≡ true
    go None h = absurd cc
    go (Some s) h = refl

  -- the same ids in the same slots
  pub table_same : (f g : ℕ → Option (Kept K V P)) (ids ids' : ℕ → Option ℕ) → ((n : ℕ) → id_by g n ≡ id_by f n) →
      ((id : ℕ) → ids' id ≡ ids id) → IsTable f ids → IsTable g ids'
  table_same f g ids ids' same also t = record {
    named = λ id n h. same n ∙ t.named id n (sym (also id) ∙ h);
    known = λ n id h. also id ∙ t.known n id (sym (same n) ∙ h);
  }

  module _ (f g : ℕ → Option (Kept K V P)) (ids ids' : ℕ → Option ℕ) (n : ℕ) (table : IsTable f ids) where
    -- another record of the same id in a slot
    module _ (s t : Kept K V P) (there : f n ≡ Some s) (id : t.id ≡ s.id)
        (write : (q : ℕ) → g q ≡ update nat_eq f n (Some t) q) (also : (q : ℕ) → ids' q ≡ ids q) where
      pub write_ids : (q : ℕ) → id_by g q ≡ id_by f q
      write_ids q = elim (eqb_tells q n) [
        | inl e ↦ subst (λ (x : ℕ). id_by g x ≡ id_by f x) (sym e.1)
            (id_by-some g n t (write n ∙ update_here f n (Some t)) ∙ ap (λ (x : ℕ). Some x) id
            ∙ sym (id_by-some f n s there))
        | inr e ↦ ap (option_map (λ (s : Kept K V P). s.id)) (write q ∙ update_apart f n (Some t) q e.1)
      ]

      pub write_table : IsTable g ids'
      write_table = table_same f g ids ids' write_ids also table

      pub write_records : (j : ℕ) → record_by g ids' j ≡ update nat_eq (record_by f ids) s.id (Some (rec_of t)) j
      write_records j = ap (λ (o : Option ℕ). option_map rec_of (option_and_then g o)) (also j)
          ∙ elim (eqb_tells j s.id) [
            | inl e ↦
                (let at : ids j ≡ Some n = table.known n j (id_by-some f n s there ∙ ap (λ (x : ℕ). Some x) (sym e.1)) in
                ap (λ (o : Option ℕ). option_map rec_of (option_and_then g o)) at
                ∙ ap (option_map rec_of) (write n ∙ update_here f n (Some t))
                ∙ sym (subst (λ (x : ℕ). update nat_eq (record_by f ids) s.id (Some (rec_of t)) x ≡ Some (rec_of t))
                (sym e.1) (update_here (record_by f ids) s.id (Some (rec_of t)))))
            | inr e ↦ go (ids j) refl e.1 ∙ sym (update_apart (record_by f ids) s.id (Some (rec_of t)) j e.1)
          ] where
            go : (o : Option ℕ) → ids j ≡ o → j ≢ s.id → option_map rec_of (option_and_then g o)
                ≡ option_map rec_of (option_and_then f o)
            go None h apart = refl
            go (Some m) h apart =
                let other : m ≢ n = λ e. apart
                (some_one j s.id (sym (table.named j m h) ∙ ap (id_by f) e ∙ id_by-some f n s there)) in
                ap (option_map rec_of) (write m ∙ update_apart f n (Some t) m other)

    -- a record with a new id in a free slot
    module _ (t : Kept K V P) (free : f n ≡ None) (new : ids t.id ≡ None)
        (write : (q : ℕ) → g q ≡ update nat_eq f n (Some t) q)
        (also : (q : ℕ) → ids' q ≡ update nat_eq ids t.id (Some n) q) where
      here : g n ≡ Some t
      here = write n ∙ update_here f n (Some t)

      other : (q : ℕ) → q ≢ n → g q ≡ f q
      other q apart = write q ∙ update_apart f n (Some t) q apart

      taken : (m id : ℕ) → id_by f m ≡ Some id → m ≢ n
      taken m id h e =
          (let x : None ≡ Some id = sym (ap (option_map (λ (s : Kept K V P). s.id)) free) ∙ ap (id_by f) (sym e)
          ∙ h in absurd cc)

      known' : (m id : ℕ) → ids id ≡ Some m → id ≢ t.id
      known' m id h e = (let x : None ≡ Some m = sym new ∙ ap ids (sym e) ∙ h in absurd cc)

      pub put_table : IsTable g ids'
      put_table = record {
        named = λ id m h. elim (eqb_tells id t.id) [
          | inl e ↦
              (let at : n ≡ m = some_one n m
              (sym (subst (λ (x : ℕ). ids' x ≡ Some n) (sym e.1) (also t.id ∙ update_here ids t.id (Some n))) ∙ h)
              in
              subst (λ (x : ℕ). id_by g x ≡ Some id) at (id_by-some g n t here ∙ ap (λ (x : ℕ). Some x) (sym e.1)))
          | inr e ↦
              (let old : id_by f m ≡ Some id = table.named id m
              (sym (also id ∙ update_apart ids t.id (Some n) id e.1) ∙ h) in
              ap (option_map (λ (s : Kept K V P). s.id)) (other m (taken m id old)) ∙ old)
        ];
        known = λ m id h. elim (eqb_tells m n) [
          | inl e ↦
              (let same : t.id ≡ id = some_one t.id id (sym (id_by-some g n t here) ∙ ap (id_by g) (sym e.1) ∙ h) in
              subst (λ (x : ℕ). ids' x ≡ Some m) same
              (also t.id ∙ update_here ids t.id (Some n) ∙ ap (λ (x : ℕ). Some x) (sym e.1)))
          | inr e ↦
              (let old : ids id ≡ Some m = table.known m id
              (sym (ap (option_map (λ (s : Kept K V P). s.id)) (other m e.1)) ∙ h) in
              also id ∙ update_apart ids t.id (Some n) id (known' m id old) ∙ old)
        ];
      }

      pub put_records : (j : ℕ) → record_by g ids' j ≡ update nat_eq (record_by f ids) t.id (Some (rec_of t)) j
      put_records j = elim (eqb_tells j t.id) [
        | inl e ↦ subst (λ (x : ℕ). record_by g ids' x ≡ update nat_eq (record_by f ids) t.id (Some (rec_of t)) x)
            (sym e.1)
            (ap (λ (o : Option ℕ). option_map rec_of (option_and_then g o))
            (also t.id ∙ update_here ids t.id (Some n)) ∙ ap (option_map rec_of) here
            ∙ sym (update_here (record_by f ids) t.id (Some (rec_of t))))
        | inr e ↦ ap (λ (o : Option ℕ). option_map rec_of (option_and_then g o))
            (also j ∙ update_apart ids t.id (Some n) j e.1) ∙ go (ids j) refl
            ∙ sym (update_apart (record_by f ids) t.id (Some (rec_of t)) j e.1)
      ] where
        go : (o : Option ℕ) → ids j ≡ o → option_map rec_of (option_and_then g o)
            ≡ option_map rec_of (option_and_then f o)
        go None h = refl
        go (Some m) h = ap (option_map rec_of) (other m (taken m j (table.named j m h)))

    -- a slot that is free again
    module _ (s : Kept K V P) (there : f n ≡ Some s) (write : (q : ℕ) → g q ≡ update nat_eq f n None q)
        (also : (q : ℕ) → ids' q ≡ update nat_eq ids s.id None q) where
      gone : g n ≡ None
      gone = write n ∙ update_here f n None

      stays : (q : ℕ) → q ≢ n → g q ≡ f q
      stays q apart = write q ∙ update_apart f n None q apart

      -- another id names another slot
      apart_slot : (m id : ℕ) → id ≢ s.id → ids id ≡ Some m → m ≢ n
      apart_slot m id apart h e = apart
          (some_one id s.id (sym (table.named id m h) ∙ ap (id_by f) e ∙ id_by-some f n s there))

      pub forget_table : IsTable g ids'
      forget_table = record {
        named = λ id m h. elim (eqb_tells id s.id) [
          | inl e ↦
              (let x : None ≡ Some m =
              sym (subst (λ (x : ℕ). ids' x ≡ None) (sym e.1) (also s.id ∙ update_here ids s.id None)) ∙ h in
              absurd cc)
          | inr e ↦ (let old : ids id ≡ Some m = sym (also id ∙ update_apart ids s.id None id e.1) ∙ h in
              ap (option_map (λ (s : Kept K V P). s.id)) (stays m (apart_slot m id e.1 old)) ∙ table.named id m old)
        ];
        known = λ m id h. elim (eqb_tells m n) [
          | inl e ↦
              (let x : None ≡ Some id = sym (ap (option_map (λ (s : Kept K V P). s.id)) gone) ∙ ap (id_by g) (sym e.1)
              ∙ h in absurd cc)
          | inr e ↦
              (let there' : id_by f m ≡ Some id = sym (ap (option_map (λ (s : Kept K V P). s.id)) (stays m e.1)) ∙ h in
              let old : ids id ≡ Some m = table.known m id there' in
              let apart : id ≢ s.id = λ q. e.1
              (some_one m n (sym old ∙ ap ids q ∙ table.known n s.id (id_by-some f n s there))) in
              also id ∙ update_apart ids s.id None id apart ∙ old)
        ];
      }

      pub forget_records : (j : ℕ) → record_by g ids' j ≡ update nat_eq (record_by f ids) s.id None j
      forget_records j = elim (eqb_tells j s.id) [
        | inl e ↦ subst (λ (x : ℕ). record_by g ids' x ≡ update nat_eq (record_by f ids) s.id None x) (sym e.1)
            (ap (λ (o : Option ℕ). option_map rec_of (option_and_then g o)) (also s.id ∙ update_here ids s.id None)
            ∙ sym (update_here (record_by f ids) s.id None))
        | inr e ↦ ap (λ (o : Option ℕ). option_map rec_of (option_and_then g o))
            (also j ∙ update_apart ids s.id None j e.1) ∙ go (ids j) refl e.1
            ∙ sym (update_apart (record_by f ids) s.id None j e.1)
      ] where
        go : (o : Option ℕ) → ids j ≡ o → j ≢ s.id → option_map rec_of (option_and_then g o)
            ≡ option_map rec_of (option_and_then f o)
        go None h apart = refl
        go (Some m) h apart = ap (option_map rec_of) (stays m (apart_slot m j apart h))

  -- the record of a slot is found by its id
  pub record_there : (f : ℕ → Option (Kept K V P)) (ids : ℕ → Option ℕ) (n : ℕ) → IsTable f ids → (s : Kept K V P) →
      f n ≡ Some s → record_by f ids s.id ≡ Some (rec_of s)
  record_there f ids n table s there = ap (λ (o : Option ℕ). option_map rec_of (option_and_then f o))
      (table.known n s.id (id_by-some f n s there)) ∙ ap (option_map rec_of) there

-- the record of a slot that has an id
pub named_there : {K V P : Type 0} (o : Option (Kept K V P)) (id : ℕ) → option_map (λ s. s.id) o ≡ Some id →
    IsSomeAnd o (λ s. s.id ≡ id)
named_there None id h = absurd cc
named_there (Some s) id h = cc

-- and that record itself
pub named_is : {K V P : Type 0} (o : Option (Kept K V P)) (id : ℕ) → option_map (λ s. s.id) o ≡ Some id →
    (s : Kept K V P) × (o ≡ Some s) × (s.id ≡ id)
named_is None id h = absurd cc
named_is (Some s) id h = (s, refl, cc)

-- to write what is there changes nothing
pub update_same : {A : Type 0} (f : ℕ → Option A) (k : ℕ) (x : A) → f k ≡ Some x → (q : ℕ) →
    update nat_eq f k (Some x) q ≡ f q
update_same f k x h q = elim (eqb_tells q k) [
  | inl e ↦ subst (λ (y : ℕ). update nat_eq f k (Some x) y ≡ f y) (sym e.1) (update_here f k (Some x) ∙ sym h)
  | inr e ↦ update_apart f k (Some x) q e.1
]

pub not_zero : (n : ℕ) → (n ≡ 0 → ⊥) → (n == 0) ≡ false
not_zero n h = elim (eqb_tells n 0) [ inl e ↦ absurd (h e.1) | inr e ↦ e.0 ]
