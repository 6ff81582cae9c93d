-- Dictionaries that are no policies: for each law of `IsPolicy` but `fault_kind` some that it refuses, by that law
-- alone. Each is one of the plain policies here with a field that is wrong.
use Rattle.std.proofs.Common.{true, ◌≡◌, ℕ, ◌+◌, ◌≤◌, List, [], ◌∷◌, ◌++◌, Option, Some, None, length, refl, sym, ◌∙◌, ap, arith, inl}
use Rattle.std.specs.List.{fold}
use Rattle.std.proofs.lemmas.List.Sorted.{IsPermutation-refl, IsPermutation-sym, IsPermutation-to_front}
use Rattle.foyer_policy.specs.Items.{HasIdsOnce, IsWithin, remove_id, find_id}
use Rattle.foyer_policy.specs.Policy.{Policy, IsPolicy}
use Rattle.foyer_policy.specs.PopTimes.{pop_times}
use Rattle.foyer_policy.specs.Fifo.{fifo, take_first}
use Rattle.foyer_policy.specs.declared.types.Item.{Item}
use Rattle.foyer_policy.specs.declared.types.Hint.TheVariants.{Normal}
use Rattle.foyer_policy.specs.ItemLaws.{once-snoc}
pub mod Credits
pub mod Doubles
pub mod Dues
pub mod Orders
pub mod Pinning
pub mod Pins

-- the only configuration
abbrev pub Plain : Type 0
Plain = Unit {0}

-- an item of this id and of weight 1
abbrev pub item : ℕ → Item
item id = record { id = id; hash = 0; weight = 1; hint = Normal; expires = None }

pub once_alone : (i : Item) → HasIdsOnce (i ∷ [])
once_alone i = once-snoc [] i (λ id. omega arith) refl

pub once_pair : HasIdsOnce (item 0 ∷ item 1 ∷ [])
once_pair = once-snoc (item 0 ∷ []) (item 1) (once_alone (item 0)) refl

module _ {X : Type 0} where
  -- the first item, and a view made of it and the rest
  abbrev pub first_and : Option (Item × List Item) → (Item → List Item → X) → Option (Item × X)
  first_and None view = None
  first_and (Some p) view = Some (p.0, view p.0 p.1)

  abbrev pub or_stay : Option Item → X → (Item → X) → X
  or_stay None stay view = stay
  or_stay (Some i) stay view = view i

-- first in, first out
abbrev pub queue : Policy (List Item) Plain
queue = fifo Plain

module _ {X : Type 0} (start : X) (popped : X → Item → X) (credit : X → ℕ) where
  -- a queue beside a memory of what pops gave, which holds the credit
  abbrev pub queue_beside : Policy (List Item × X) Plain
  queue_beside = record {
    fault = λ c. None;
    takes = λ _ _. true;
    opening = λ capacity c. ([], start);
    order = λ v. v.0;
    pinned = λ v. [];
    push = λ v i. (v.0 ++ i ∷ [], v.1);
    pop = λ v. first_and (take_first v.0) (λ i rest. (rest, popped v.1 i));
    remove = λ v id. (remove_id id v.0, v.1);
    acquire = λ v id. v;
    release = λ v id. v;
    update = λ v capacity config. v;
    clear = λ v. ([], fold popped v.1 v.0);
    looks = λ v. 0;
    credit = λ v. credit v.1;
  }

  popped-is : (xs : List Item) (x : X) (w : List Item × X) (i : Item) → queue_beside.pop (xs, x) ≡ Some (i, w) →
      (xs ≡ i ∷ w.0) × (w.1 ≡ popped x i)
  popped-is [] x w i h = absurd cc
  popped-is (j ∷ js) x w i h =
      let e : ◌≡◌ {A = Item × (List Item × X)} (j, (js, popped x j)) (i, w) = cc in (
        ap (λ (p : Item × (List Item × X)). p.0 ∷ p.1.0) e,
        ap (λ (p : Item × (List Item × X)). p.1.1) (sym e)
            ∙ ap (λ (p : Item × (List Item × X)). popped x p.0) e,
      )

  popped-none : (xs : List Item) (x : X) → queue_beside.pop (xs, x) ≡ None → IsWithin xs []
  popped-none [] x h = λ f. omega arith
  popped-none (j ∷ js) x h = absurd cc

  all_popped : (xs : List Item) (x : X) → pop_times queue_beside.pop (length xs) (xs, x) ≡ ([], fold popped x xs)
  all_popped [] x = refl
  all_popped (j ∷ js) x = all_popped js (popped x j)

  pub queue_beside_lawful : credit start ≡ 0 → ((x : X) (i : Item) → credit (popped x i) ≤ credit x) →
      IsPolicy queue_beside
  queue_beside_lawful nothing less = record {
    opening_order = λ capacity c accepted. refl;
    fault_kind = λ c reason h. absurd cc;
    opening_credit = λ capacity c accepted. nothing;
    pinned_within = λ v f. omega arith;
    push_order = λ v i. IsPermutation-sym (v.0 ++ i ∷ []) (i ∷ v.0) (IsPermutation-to_front v.0 i);
    push_pinned = λ v i. refl;
    push_credit = λ v i. omega arith;
    pop_order = λ v w i h. rw ((popped-is v.0 v.1 w i h).0) (IsPermutation-refl (i ∷ w.0));
    pop_pinned = λ v w i h. refl;
    pop_none = λ v h. popped-none v.0 v.1 h;
    pop_looks = λ v w i h. omega (arith, ap credit (popped-is v.0 v.1 w i h).1, less v.1 i);
    pop_credit = λ v w i h. omega (arith, ap credit (popped-is v.0 v.1 w i h).1, less v.1 i);
    none_looks = λ v h. refl;
    remove_order = λ v id. refl;
    remove_pinned = λ v id once. refl;
    remove_unpinned = λ v id free. refl;
    remove_credit = λ v id. omega arith;
    acquire_order = λ v id once. IsPermutation-refl v.0;
    acquire_pinned = λ v id once. inl refl;
    acquire_credit = λ v id. omega arith;
    release_order = λ v id once. IsPermutation-refl v.0;
    release_pinned = λ v id once. refl;
    release_credit = λ v id. omega arith;
    update_order = λ v capacity config once. IsPermutation-refl v.0;
    update_pinned = λ v capacity config. refl;
    update_credit = λ v capacity config. omega arith;
    clear_is = λ v. rw (all_popped v.0 v.1) refl;
  }

-- a queue beside a number, the credit
abbrev pub counting : Policy (List Item × ℕ) Plain
counting = queue_beside 0 (λ n i. n) (λ n. n)

pub counting_lawful : IsPolicy counting
counting_lawful = queue_beside_lawful 0 (λ n i. n) (λ n. n) refl (λ n i. omega arith)

-- a queue beside the items that pops gave
abbrev pub remembering : Policy (List Item × List Item) Plain
remembering = queue_beside [] (λ gone i. gone ++ i ∷ []) (λ gone. 0)

pub remembering_lawful : IsPolicy remembering
remembering_lawful = queue_beside_lawful [] (λ gone i. gone ++ i ∷ []) (λ gone. 0) refl (λ gone i. omega arith)

-- a queue beside a list of pinned items, where acquire pins and release unpins
abbrev pub pinning : Policy (List Item × List Item) Plain
pinning = record {
  fault = λ c. None;
  takes = λ _ _. true;
  opening = λ capacity c. ([], []);
  order = λ v. v.0 ++ v.1;
  pinned = λ v. v.1;
  push = λ v i. (v.0 ++ i ∷ [], v.1);
  pop = λ v. first_and (take_first v.0) (λ i rest. (rest, v.1));
  remove = λ v id. or_stay (find_id id v.0) (v.0, remove_id id v.1) (λ i. (remove_id id v.0, v.1));
  acquire = λ v id. or_stay (find_id id v.0) v (λ i. (remove_id id v.0, v.1 ++ i ∷ []));
  release = λ v id. or_stay (find_id id v.1) v (λ i. (v.0 ++ i ∷ [], remove_id id v.1));
  update = λ v capacity config. v;
  clear = λ v. ([], []);
  looks = λ v. 0;
  credit = λ v. 0;
}
