-- The records of a shard's slots that are in the index, and the items of its policy.
use Rattle.std.proofs.Common.{
  ◌≡◌,
  ◌≢◌,
  ◌⊎◌,
  ℕ,
  zero,
  suc,
  ◌+◌,
  ◌<◌,
  Bool,
  true,
  false,
  cond,
  List,
  [],
  ◌∷◌,
  Option,
  Some,
  None,
  get_or,
  refl,
  sym,
  ◌∙◌,
  ap,
  subst,
  inl,
  inr,
  Contains,
  arith,
  true≢false,
}
use Rattle.std.proofs.Math.Logic.{∥∥₁_elim}
use Rattle.std.proofs.Props.{props}
use Rattle.std.specs.Prelude.{◌==◌, sum_by, option_map, option_and_then, if◌then◌else◌}
use Rattle.std.specs.Cmp.{IsEquivalence}
use Rattle.std.proofs.lemmas.Bool.Decides.{nat_tests, eqb_tells}
use Rattle.std.proofs.lemmas.List.Sums.{sum_by-cons}
use Rattle.foyer_core.specs.Slots.{entries, entries_from}
use Rattle.foyer_policy.specs.Items.{weight_of, count_of, find_id, remove_id, HasIdsOnce}
use Rattle.foyer_policy.specs.Policy.{IsPolicy}
use Rattle.foyer_policy.specs.declared.types.Item.{Item}
use Rattle.foyer_policy.proofs.ItemLemmas.{one_if, count-cons, found-id, found-where, sum-remove_id, once-tail}
use Rattle.foyer_core.specs.Values.{Kept, Rec}
use Rattle.foyer_core.specs.Table.{rec_of}
use Rattle.foyer_core.specs.Records.{slot_in, number_of, record_in}
use Rattle.foyer_core.specs.State.{Meaning, State, IsKept}
use Rattle.foyer_core.proofs.Keeps.{counted_there}
use Rattle.foyer_core.proofs.ShardLemmas.{Holding, now_of}
use Rattle.foyer_core.proofs.SlotLemmas.{Contains-cons, Contains-cons_cases, Contains-entries}
use Rattle.foyer_core.proofs.StoredLemmas.{slot_record}
use Rattle.foyer_core.proofs.TableLemmas.{id_by-some, named_is}

module _ {K V P : Type 0} where
  -- what a slot with a number adds to the sum of weights, and to the count of an id
  abbrev pub weight_in : ℕ × Kept K V P → ℕ
  weight_in e = if e.1.resident then e.1.kept.weight else 0

  abbrev pub resident_one : Kept K V P → ℕ
  resident_one x = if x.resident then 1 else 0

  abbrev pub one_in : ℕ → ℕ × Kept K V P → ℕ
  one_in id e = if e.1.id == id then resident_one e.1 else 0

  -- a measure of an id, where the slot's record is in the index
  abbrev by_id : (ℕ → ℕ) → ℕ × Kept K V P → ℕ
  by_id f e = if e.1.resident then f e.1.id else 0

  here : (e : ℕ × Kept K V P) → one_in e.1.id e ≡ resident_one e.1
  here e = (let same : (e.1.id == e.1.id) ≡ true = grind (arith, nat_tests) in rw same refl)

  -- no slot has the id
  count-none : (id first : ℕ) (xs : List (Option (Kept K V P))) →
      ((n : ℕ) (x : Kept K V P) → get_or xs n None ≡ Some x → x.id ≢ id) → sum_by (one_in id) (entries_from first xs) ≡
      0
  count-none id first [] none = refl
  count-none id first (None ∷ rest) none = count-none id (first + 1) rest (λ n. none (suc n))
  count-none id first (Some x ∷ rest) none =
      let other : (x.id == id) ≡ false = grind (arith, nat_tests, none 0 x refl) in
      let zero_in : one_in id (first, x) ≡ 0 = rw other refl in
      omega (
        arith,
        sum_by-cons (one_in id) (first, x) (entries_from (first + 1) rest),
        count-none id (first + 1) rest (λ n. none (suc n)),
      )

  -- one slot has it
  count-one : (id first : ℕ) (xs : List (Option (Kept K V P))) (n : ℕ) (x : Kept K V P) → get_or xs n None ≡ Some x →
      x.id ≡ id
      → ((j : ℕ) (y : Kept K V P) → get_or xs j None ≡ Some y → y.id ≡ id → j ≡ n) →
      sum_by (one_in id) (entries_from first xs) ≡ resident_one x
  count-one id first [] n x there same only = absurd cc
  count-one id first (None ∷ rest) zero x there same only = absurd cc
  count-one id first (None ∷ rest) (suc n) x there same only =
      count-one id (first + 1) rest n x there same (λ j y h e. omega (arith, only (suc j) y h e))
  count-one id first (Some y ∷ rest) zero x there same only =
      let is : y ≡ x = cc in
      let own : (y.id == id) ≡ true = grind (arith, nat_tests, ap (λ (z : Kept K V P). z.id) is) in
      let one : one_in id (first, y) ≡ resident_one x = rw own (ap resident_one is) in
      let others = count-none id (first + 1) rest (λ n z h e. omega (arith, only (suc n) z h e)) in
      omega (arith, sum_by-cons (one_in id) (first, y) (entries_from (first + 1) rest), one, others)
  count-one id first (Some y ∷ rest) (suc n) x there same only =
      let other : (y.id == id) ≡ false = elim (eqb_tells y.id id)
      [ inl e ↦ absurd (omega (arith, only 0 y refl e.1)) | inr e ↦ e.0 ] in
      let zero_in : one_in id (first, y) ≡ 0 = rw other refl in
      let later = count-one id (first + 1) rest n x there same (λ j z h e. omega (arith, only (suc j) z h e)) in
      omega (arith, sum_by-cons (one_in id) (first, y) (entries_from (first + 1) rest), zero_in, later)

  none_out : (e : ℕ × Kept K V P) (c : Bool) → e.1.resident ≡ false → cond c (resident_one e.1) 0 ≡ 0
  none_out e true out = rw out refl
  none_out e false out = refl

  -- what is counted alike has the same sum of any measure of ids
  sums_alike : (f : ℕ → ℕ) (es : List (ℕ × Kept K V P)) (items : List Item) →
      ((id : ℕ) → sum_by (one_in id) es ≡ count_of id items) → sum_by (by_id f) es ≡ sum_by (λ i. f i.id) items
  sums_alike f [] [] alike = refl
  sums_alike f [] (i ∷ is) alike =
      let same : (i.id == i.id) ≡ true = grind (arith, nat_tests) in
      let one : one_if i.id i ≡ 1 = rw same refl in
      absurd (omega (arith, alike i.id, count-cons i.id i is))
  sums_alike f (e ∷ es) items alike = go e.1.resident refl (λ l. sums_alike f es l) where
    go : (b : Bool) → e.1.resident ≡ b →
        ((l : List Item) → ((id : ℕ) → sum_by (one_in id) es ≡ count_of id l) → sum_by (by_id f) es
        ≡ sum_by (λ i. f i.id) l)
        → sum_by (by_id f) (e ∷ es) ≡ sum_by (λ i. f i.id) items
    go false out rest =
        let none : by_id f e ≡ 0 = rw out refl in
        let nought : (id : ℕ) → one_in id e ≡ 0 = λ id. none_out e (e.1.id == id) out in
        omega (
          arith,
          sum_by-cons (by_id f) e es,
          none,
          rest items (λ id. omega (arith, alike id, sum_by-cons (one_in id) e es, nought id)),
        )
    go true res rest =
        let id = e.1.id in
        let one : one_in id e ≡ 1 = here e ∙ rw res refl in
        let found = found-where id items (omega (arith, alike id, sum_by-cons (one_in id) e es, one)) in
        let named : found.0.id ≡ id = found-id id found.0 items found.1 in
        let removed : (j : ℕ) → sum_by (one_in j) es ≡ count_of j (remove_id id items) = λ j.
        (let same : one_in j e ≡ one_if j found.0 = ap (λ (b : Bool). cond (e.1.id == j) (cond b 1 0) 0) res
        ∙ ap (λ (a : ℕ). cond (a == j) 1 0) (sym named) in
        omega (arith, alike j, sum_by-cons (one_in j) e es, sum-remove_id (one_if j) id found.0 items found.1, same)) in
        let own : by_id f e ≡ f found.0.id = ap (λ (b : Bool). cond b (f id) 0) res ∙ ap f (sym named) in
        omega (
          arith,
          sum_by-cons (by_id f) e es,
          own,
          rest (remove_id id items) removed,
          sum-remove_id (λ i. f i.id) id found.0 items found.1,
        )

  sums_by : (f g : ℕ × Kept K V P → ℕ) (es : List (ℕ × Kept K V P)) →
      ((e : ℕ × Kept K V P) → Contains es e → f e ≡ g e) → sum_by f es ≡ sum_by g es
  sums_by f g [] same = refl
  sums_by f g (e ∷ es) same = omega (
    arith,
    sum_by-cons f e es,
    sum_by-cons g e es,
    same e (0, omega arith, refl),
    sums_by f g es (λ x h. same x (Contains-cons e x es h)),
  )

-- measures that agree at each item that its id finds have one sum
items_alike : (f g : Item → ℕ) (l : List Item) → HasIdsOnce l → ((i : Item) → find_id i.id l ≡ Some i → f i ≡ g i) →
    sum_by f l ≡ sum_by g l
items_alike f g [] once same = refl
items_alike f g (i ∷ is) once same =
    let own : (i.id == i.id) ≡ true = grind (arith, nat_tests) in
    let first : f i ≡ g i = same i (rw own refl) in
    omega (arith, sum_by-cons f i is, sum_by-cons g i is, first, items_alike f g is (once-tail i is once) later)
  where
    later : (j : Item) → find_id j.id is ≡ Some j → f j ≡ g j
    later j found = elim (eqb_tells i.id j.id) [
      | inl e ↦ (
          let one : one_if j.id j ≡ 1 = (let own : (j.id == j.id) ≡ true = grind (arith, nat_tests) in rw own refl) in
          let head : one_if j.id i ≡ 1 = rw e.0 refl in
          absurd (omega (arith, once j.id, count-cons j.id i is, sum-remove_id (one_if j.id) j.id j is found)))
      | inr e ↦ same j (rw e.0 found)
    ]

-- what is found there is one record
pub one_record : {A : Type 0} (o : Option A) (a b : A) → o ≡ Some a → o ≡ Some b → a ≡ b
one_record o a b h k = cc

-- Walks over slots with their numbers: of one there it was shown that Q holds, or it is still to come.
module _ {A : Type 0} (Q : A → Type 0) (old rest : List (ℕ × A)) (head : ℕ × A) (steps : old ≡ head ∷ rest) (n : ℕ)
    (x : A) where
  -- it was shown of the next one
  pub passed : Q head.1 → Q x ⊎ Contains old (n, x) → Q x ⊎ Contains rest (n, x)
  passed shown (inl q) = inl q
  passed shown (inr listed) = elim
      (Contains-cons_cases head (n, x) rest (subst (λ (l : List (ℕ × A)). Contains l (n, x)) steps listed)) [
        | inl here ↦ inl (subst Q (ap (λ (p : ℕ × A). p.1) here) shown)
        | inr later ↦ inr later
      ]

-- the next one is not in the index
pub passed_by : {K V P : Type 0} (Q : Kept K V P → Type 0) (old rest : List (ℕ × Kept K V P)) (head : ℕ × Kept K V P)
    → old ≡ head ∷ rest → (n : ℕ) (x : Kept K V P)
    → x.resident ≡ true → head.1.resident ≡ false → Q x ⊎ Contains old (n, x) → Q x ⊎ Contains rest (n, x)
passed_by Q old rest head steps n x res out (inl q) = inl q
passed_by {K} {V} {P} Q old rest head steps n x res out (inr listed) =
    elim (Contains-cons_cases head (n, x) rest
    (subst (λ (l : List (ℕ × Kept K V P)). Contains l (n, x)) steps listed)) [
      | inl here ↦ absurd (true≢false (sym res ∙ sym (ap (λ (p : ℕ × Kept K V P). p.1.resident) here) ∙ out))
      | inr later ↦ inr later
    ]

-- nothing is to come
pub none_listed : {A : Type 0} (Q : Type 0) (old : List A) (x : A) → old ≡ [] → Q ⊎ Contains old x → Q
none_listed Q old x none (inl q) = q
none_listed {A} Q old x none (inr listed) =
    (let past = subst (λ (l : List A). Contains l x) none listed in absurd (omega (arith, past.1)))

-- the weight of a record, where there is one
abbrev weight_at : {K V P : Type 0} → Option (Rec K V P) → ℕ
weight_at None = 0
weight_at (Some r) = r.kept.weight

module _ {K V P View C : Type 0} (m : Meaning K P View C) (laws : IsEquivalence m.same) (good : IsPolicy m.policy)
    (o : Holding V m) where
  open o use {at, keys, t, view, sound}

  abbrev now : State K V P View
  now = now_of o

  -- the slots count each id as the policy does
  counted_by : IsKept m now → (id : ℕ) → sum_by (one_in id) (entries t.slots) ≡ count_of id (m.policy.order view)
  counted_by k' id = go (number_of t id) refl where
    no_item : record_in t id ≡ None → count_of id (m.policy.order view) ≡ 0
    no_item none = elim (eqb_tells (count_of id (m.policy.order view)) 0) [
      | inl e ↦ e.1
      | inr e ↦
          (let there = counted_there m laws good now k' id (omega (arith, e.1)) in let past = there.1 in absurd cc)
    ]

    by_slot : (x : Kept K V P) → record_in t id ≡ Some (rec_of x) → (b : Bool) → x.resident ≡ b → cond b 1 0
        ≡ count_of id (m.policy.order view)
    by_slot x there true res = omega (arith, k'.once id, k'.resident id (rec_of x) there res)
    by_slot x there false res = elim (eqb_tells (count_of id (m.policy.order view)) 0) [
      | inl e ↦ sym e.1
      | inr e ↦ (
          let found = counted_there m laws good now k' id (omega (arith, e.1)) in
          let same : rec_of x ≡ found.0 = (let past = found.1 in cc) in
          absurd (true≢false (sym found.2 ∙ ap (λ (r : Rec K V P). r.resident) (sym same) ∙ res)))
    ]

    go : (w : Option ℕ) → number_of t id ≡ w → sum_by (one_in id) (entries t.slots) ≡ count_of id (m.policy.order view)
    go None named =
        let none = count-none id 0 t.slots.slots (λ n x there e.
        (let known = t.agree.known n id (id_by-some (slot_in t) n x there ∙ ap Some e) in absurd cc)) in
        none ∙ sym (no_item (ap (λ (w : Option ℕ). option_map rec_of (option_and_then (slot_in t) w)) named))
    go (Some n) named =
        let x = named_is (slot_in t n) id (t.agree.named id n named) in
        let only : (j : ℕ) (y : Kept K V P) → get_or t.slots.slots j None ≡ Some y → y.id ≡ id → j ≡ n = λ j y there
        e. (let known = t.agree.known j id (id_by-some (slot_in t) j y there ∙ ap Some e) in cc) in
        let record_is : record_in t id ≡ Some (rec_of x.0) = ap (record_in t) (sym x.2)
        ∙ slot_record m at keys t n x.0 x.1 in
        count-one id 0 t.slots.slots n x.0 x.1 x.2 only ∙ by_slot x.0 record_is x.0.resident refl

  weighed_by : IsKept m now → sum_by weight_in (entries t.slots) ≡ weight_of (m.policy.order view)
  weighed_by k' =
      let weight : ℕ → ℕ = λ id. weight_at (record_in t id) in
      let slots = sums_by weight_in (by_id weight) (entries t.slots) (λ e listed.
      (let there = (Contains-entries t.slots e.0 e.1).0 listed in
      ap (λ (a : ℕ). cond e.1.resident a 0) (ap weight_at (sym (slot_record m at keys t e.0 e.1 there))))) in
      let items = items_alike (λ i. i.weight) (λ i. weight i.id) (m.policy.order view) k'.once (λ i found.
      (let p = k'.placed i found in ap (λ (j : Item). j.weight) p.4 ∙ ap weight_at (sym p.1))) in
      slots ∙ sums_alike weight (entries t.slots) (m.policy.order view) (counted_by k') ∙ sym items

  -- what the index holds stands in the order
  resident_by : IsKept m now → (id : ℕ) (r : Rec K V P) → now.records id ≡ Some r → r.resident ≡ true →
      0 < count_of id (m.policy.order view)
  resident_by k' id r there res = k'.resident id r there res

  pub resident_counted : (id : ℕ) (r : Rec K V P) → now.records id ≡ Some r → r.resident ≡ true →
      0 < count_of id (m.policy.order view)
  resident_counted id r there res = ∥∥₁_elim sound (hlevel props) (λ k'. resident_by k' id r there res)

  -- a record is that of a slot
  pub record_slot : (id : ℕ) (r : Rec K V P) → now.records id ≡ Some r → (n : ℕ) × (x : Kept K V P)
      × (slot_in t n ≡ Some x) × (rec_of x ≡ r)
  record_slot id r there = go (number_of t id) there where
    by_slot : (n : ℕ) (w : Option (Kept K V P)) → slot_in t n ≡ w → option_map rec_of w ≡ Some r → (n : ℕ) ×
        (x : Kept K V P) × (slot_in t n ≡ Some x) × (rec_of x ≡ r)
    by_slot n None is h = absurd cc
    by_slot n (Some x) is h = (n, x, is, cc)

    go : (w : Option ℕ) → option_map rec_of (option_and_then (slot_in t) w) ≡ Some r → (n : ℕ) × (x : Kept K V P)
        × (slot_in t n ≡ Some x) × (rec_of x ≡ r)
    go None h = absurd cc
    go (Some n) h = by_slot n (slot_in t n) refl h
