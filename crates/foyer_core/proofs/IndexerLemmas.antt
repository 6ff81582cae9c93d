-- What follows for a list that has the numbers of a view.
use Rattle.std.proofs.Common.{◌≡◌, ℕ, zero, suc, ◌<◌, List, [], ◌∷◌, Bool, true, false, cond, Some, length, get_or, sym, ap, ◌∙◌, arith}
use Rattle.std.specs.Prelude.{Option, Contains, slice_get}
use Rattle.std.specs.Cmp.{IsEquivalence}
use Rattle.std.specs.Map.{keys_of, values_of, lookup}
use Rattle.std.proofs.lemmas.Bool.{true≢false}
use Rattle.std.proofs.lemmas.Map.Entries.{lookup_from_place, length-keys_of, length-values_of}
use Rattle.std.proofs.lemmas.Map.Keys.{apart_from_distinct}
use Rattle.foyer_core.specs.Indexer.{same_key, same_key_equiv, AreNumbersOf}

module _ {K : Type 0} where
  listed_step : (e : K × ℕ) (es : List (K × ℕ)) (found : Option ℕ) (n : ℕ) (b : Bool) → cond b (Some e.1) found
      ≡ Some n → (found ≡ Some n → Contains (values_of es) n) → Contains (values_of (e ∷ es)) n
  listed_step e es found n true is rest = (0, omega arith, cc)
  listed_step e es found n false is rest = let r = rest is in (suc r.0, omega (arith, r.1), r.2)

  -- a number that a look-up finds is among the numbers
  listed : (test : K → Bool) (es : List (K × ℕ)) (n : ℕ) → lookup test es ≡ Some n → Contains (values_of es) n
  listed test [] n is = absurd cc
  listed test (e ∷ es) n is = listed_step e es (lookup test es) n (test e.0) is (listed test es n)

  -- the entry that has the number at a place
  entry_at : (es : List (K × ℕ)) (k n : ℕ) → k < length (values_of es) → get_or (values_of es) k n ≡ n → (key : K)
      × (slice_get es k ≡ Some (key, n))
  entry_at [] k n lt is = absurd (omega arith)
  entry_at (e ∷ es) zero n lt is = (e.0, ap (λ (m : ℕ). Some (e.0, m)) is)
  entry_at (e ∷ es) (suc k) n lt is = entry_at es k n (omega arith) is

  key_at : (es : List (K × ℕ)) (k : ℕ) (key d : K) (n : ℕ) → slice_get es k ≡ Some (key, n) → get_or (keys_of es) k d
      ≡ key
  key_at [] k key d n is = absurd cc
  key_at (e ∷ es) zero key d n is = ap (λ (p : K × ℕ). p.0) (let same : e ≡ (key, n) = cc in same)
  key_at (e ∷ es) (suc k) key d n is = key_at es k key d n is

module _ {K : Type 0} {eq : K → K → Bool} (laws : IsEquivalence eq) (view : ℕ × K → Option ℕ) (numbers : List ℕ)
    (are : AreNumbersOf eq view numbers) where
  key_of_place : (k n : ℕ) → k < length numbers → get_or numbers k n ≡ n → (q : ℕ × K) × (view q ≡ Some n)
      × (slice_get are.entries k ≡ Some (q, n))
  key_of_place k n lt is =
      let e = entry_at are.entries k n (rw are.values at lt) (rw are.values at is) in
      (e.0, are.complete e.0 ∙ lookup_from_place (same_key_equiv laws) are.entries k e.0 n are.distinct e.1, e.1)

  -- the keys of two places differ
  places_differ : (i j n : ℕ) (p q : ℕ × K) → i < j → j < length (keys_of are.entries) → slice_get are.entries i
      ≡ Some (p, n) → slice_get are.entries j ≡ Some (q, n) → same_key eq p q ≡ false
  places_differ i j n p q lt within here there =
      let differ : same_key eq (get_or (keys_of are.entries) i p) (get_or (keys_of are.entries) j p) ≡ false =
      apart_from_distinct (same_key eq) (keys_of are.entries) i j p are.distinct lt within in
      rw (key_at are.entries i p p n here, key_at are.entries j q p n there) at differ

  numbers_differ : ((p q : ℕ × K) (n : ℕ) → view p ≡ Some n → view q ≡ Some n → same_key eq p q ≡ true) → (i j n : ℕ)
      → i < j → j < length numbers → get_or numbers i n ≡ n → get_or numbers j n ≡ n → ⊥
  numbers_differ one i j n lt within here there =
      let p = key_of_place i n (omega arith) here in
      let q = key_of_place j n within there in
      let far : j < length (keys_of are.entries) =
      omega (arith, length-keys_of are.entries, length-values_of are.entries, ap length are.values) in
      true≢false (sym (one p.0 q.0 n p.1 q.1) ∙ places_differ i j n p.0 q.0 lt far p.2 q.2)
