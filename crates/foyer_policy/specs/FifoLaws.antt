-- First in, first out is a policy.
use Rattle.std.proofs.Common.{◌≡◌, List, [], ◌∷◌, ◌++◌, Some, None, refl, ap, arith, inl}
use Rattle.std.proofs.lemmas.List.Sorted.{IsPermutation-refl, IsPermutation-sym, IsPermutation-to_front}
use Rattle.foyer_policy.specs.Items.{IsWithin}
use Rattle.foyer_policy.specs.Policy.{IsPolicy, popped_out}
use Rattle.foyer_policy.specs.Fifo.{fifo, take_first}
use Rattle.foyer_policy.specs.declared.types.Item.{Item}

take_first-is : (v w : List Item) (i : Item) → take_first v ≡ Some (i, w) → v ≡ i ∷ w
take_first-is [] w i h = absurd cc
take_first-is (x ∷ xs) w i h =
    (let e : ◌≡◌ {A = Item × List Item} (x, xs) (i, w) = cc in ap (λ (p : Item × List Item). p.0 ∷ p.1) e)

take_first-none : (v : List Item) → take_first v ≡ None → IsWithin v []
take_first-none [] h = λ f. omega arith
take_first-none (x ∷ xs) h = absurd cc

all_pops : (C : Type 0) (v : List Item) → popped_out (fifo C) v ≡ []
all_pops C [] = refl
all_pops C (i ∷ is) = all_pops C is

pub fifo_lawful : (C : Type 0) → IsPolicy (fifo C)
fifo_lawful C = record {
  opening_order = λ capacity c accepted. refl;
  fault_kind = λ c reason h. absurd cc;
  opening_credit = λ capacity c accepted. refl;
  pinned_within = λ v f. omega arith;
  push_order = λ v i. IsPermutation-sym (v ++ i ∷ []) (i ∷ v) (IsPermutation-to_front v i);
  push_pinned = λ v i. refl;
  push_credit = λ v i. omega arith;
  pop_order = λ v w i h. rw (take_first-is v w i h) (IsPermutation-refl (i ∷ w));
  pop_pinned = λ v w i h. refl;
  pop_none = take_first-none;
  pop_looks = λ v w i h. omega arith;
  pop_credit = λ v w i h. omega arith;
  none_looks = λ v h. refl;
  remove_order = λ v id. refl;
  remove_pinned = λ v id once. refl;
  remove_unpinned = λ v id free. refl;
  remove_credit = λ v id. omega arith;
  acquire_order = λ v id once. IsPermutation-refl v;
  acquire_pinned = λ v id once. inl refl;
  acquire_credit = λ v id. omega arith;
  release_order = λ v id once. IsPermutation-refl v;
  release_pinned = λ v id once. refl;
  release_credit = λ v id. omega arith;
  update_order = λ v capacity config once. IsPermutation-refl v;
  update_pinned = λ v capacity config. refl;
  update_credit = λ v capacity config. omega arith;
  clear_is = λ v. rw (all_pops C v) refl;
}
