-- A policy holds no more records than there are ids below the next one.
use Rattle.std.proofs.Common.{◌≡◌, ℕ, zero, suc, ◌<◌, ◌≤◌, List, [], ◌∷◌, Option, Some, None, length, refl, sym, ◌∙◌, subst, inl, inr, arith}
use Rattle.std.specs.Prelude.{◌==◌, true}
use Rattle.std.specs.Cmp.{IsEquivalence}
use Rattle.std.proofs.lemmas.Bool.Decides.{eqb_tells, nat_tests}
use Rattle.foyer_policy.specs.Items.{count_of, HasIdsOnce, find_id, remove_id}
use Rattle.foyer_policy.specs.Policy.{IsPolicy}
use Rattle.foyer_policy.specs.declared.types.Item.{Item}
use Rattle.foyer_policy.proofs.ItemLemmas.{one_if, found-id, found-where, once-remove_id, sum-remove_id}
use Rattle.foyer_core.specs.State.{Meaning, State, IsKept}
use Rattle.foyer_core.proofs.AdmitLemmas.{length-remove_id}
use Rattle.foyer_core.proofs.Found.{sum-removed}
use Rattle.foyer_core.proofs.Keeps.{counted_there}
use Rattle.foyer_core.proofs.Outs.{counted_first}

-- one number more
below_more : (n : ℕ) → ((l : List Item) → HasIdsOnce l → ((id : ℕ) → 0 < count_of id l → id < n) → length l ≤ n)
    → (l : List Item) → HasIdsOnce l → ((id : ℕ) → 0 < count_of id l → id < suc n) → length l ≤ suc n
below_more n fewer l once below = go (find_id n l) refl where
  go : (o : Option Item) → find_id n l ≡ o → length l ≤ suc n
  go None none =
      let rest = fewer l once (λ id pos. elim (eqb_tells id n) [
        | inl e ↦
            absurd (let f = found-where n l (subst (λ (a : ℕ). 0 < count_of a l) e.1 pos) in let y : None ≡ Some f.0 =
            sym none ∙ f.1 in cc)
        | inr e ↦ (let was = below id pos in let apart = e.1 in omega arith)
      ]) in
      omega arith
  go (Some i) is =
      let same : i.id ≡ n = found-id n i l is in
      let one : one_if n i ≡ 1 = (let e : (i.id == n) ≡ true = grind (arith, nat_tests) in rw e refl) in
      let rest = fewer (remove_id n l) (once-remove_id n l once) (λ id pos. elim (eqb_tells id n) [
        | inl e ↦
            absurd (let none = subst (λ (a : ℕ). 0 < count_of a (remove_id n l)) e.1 pos in
            omega (arith, sum-remove_id (one_if n) n i l is, once n))
        | inr e ↦ (let was = below id (omega (arith, sum-removed (one_if id) n l)) in let apart = e.1 in omega arith)
      ]) in
      omega (arith, length-remove_id n i l is)

-- where each id is there once at most, and below a number
below_all : (n : ℕ) (l : List Item) → HasIdsOnce l → ((id : ℕ) → 0 < count_of id l → id < n) → length l ≤ n
below_all zero [] once below = omega arith
below_all zero (x ∷ xs) once below = absurd (let b = below x.id (counted_first x xs) in omega arith)
below_all (suc n) l once below = below_more n (λ k o b. below_all n k o b) l once below

module _ {K V P View C : Type 0} (m : Meaning K P View C) (laws : IsEquivalence m.same) (good : IsPolicy m.policy) where
  pub entries_below : (s : State K V P View) → IsKept m s → length (m.policy.order s.view) ≤ s.next
  entries_below s kept = below_all s.next (m.policy.order s.view) kept.once
      (λ id pos. (let t = counted_there m laws good s kept id pos in kept.fresh id t.0 t.1))
