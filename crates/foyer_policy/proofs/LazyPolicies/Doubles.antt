-- A dictionary that unpins what it should not, where one id stands twice: `remove_unpinned` refuses it, and every other
-- law holds of it.
use Rattle.std.proofs.Common.{◌≡◌, ℕ, ◌≤◌, Bool, true, false, cond, List, [], ◌∷◌, ◌++◌, refl, ◌∙◌, sym, arith}
use Rattle.std.specs.Prelude.{nat_le, if◌then◌else◌}
use Rattle.std.proofs.lemmas.Bool.Decides.{nat_tests}
use Rattle.std.proofs.lemmas.List.{append-nil}
use Rattle.std.proofs.lemmas.List.Sums.{sum_by-append}
use Rattle.foyer_policy.specs.Items.{count_of, IsNewIn, HasIdsOnce, remove_id}
use Rattle.foyer_policy.specs.Policy.{Policy, IsPolicy, removed}
use Rattle.foyer_policy.specs.declared.types.Item.{Item}
use Rattle.foyer_policy.specs.ItemLaws.{one_if}
use Rattle.foyer_policy.proofs.LazyPolicies.{Plain, item, pinning}
use Rattle.foyer_policy.proofs.LazyPolicies.Pinning.{all_popped, all_removed, pinning_lawful}

-- a remove that unpins all where it takes out one of two items of one id
abbrev pub remove_unpins_at_doubles : Policy (List Item × List Item) Plain
remove_unpins_at_doubles = record pinning {
  remove = λ v id. if nat_le 2 (count_of id v.0) then (remove_id id (v.0 ++ v.1), []) else pinning.remove v id;
}

pub not-remove_unpins_at_doubles : IsPolicy remove_unpins_at_doubles → ⊥
not-remove_unpins_at_doubles law =
    (let e : ◌≡◌ {A = List Item} [] (item 1 ∷ []) =
    law.remove_unpinned (item 0 ∷ item 0 ∷ [], item 1 ∷ []) 0 refl in cc)

remove-order : (v : List Item × List Item) (id : ℕ) →
    pinning.order (remove_unpins_at_doubles.remove v id) ≡ remove_id id (pinning.order v)
remove-order v id = go (nat_le 2 (count_of id v.0)) where
  go : (b : Bool) → pinning.order (cond b (remove_id id (v.0 ++ v.1), []) (pinning.remove v id))
      ≡ remove_id id (v.0 ++ v.1)
  go true = append-nil (remove_id id (v.0 ++ v.1))
  go false = pinning_lawful.remove_order v id

remove-pinned : (v : List Item × List Item) (id : ℕ) → HasIdsOnce (pinning.order v) →
    pinning.pinned (remove_unpins_at_doubles.remove v id) ≡ remove_id id (pinning.pinned v)
remove-pinned v id once = go (nat_le 2 (count_of id v.0)) refl where
  go : (b : Bool) → nat_le 2 (count_of id v.0) ≡ b →
      pinning.pinned (cond b (remove_id id (v.0 ++ v.1), []) (pinning.remove v id)) ≡ remove_id id v.1
  go true e =
      let two : 2 ≤ count_of id v.0 = grind (arith, nat_tests) in
      absurd (omega (arith, two, once id, sum_by-append (one_if id) v.0 v.1))
  go false e = pinning_lawful.remove_pinned v id once

removed-is : (ps rest : List Item) → removed remove_unpins_at_doubles ps ([], rest) ≡ removed pinning ps ([], rest)
removed-is [] rest = refl
removed-is (p ∷ ps) rest = removed-is ps (remove_id p.id rest)

-- with that one law it would be a policy
pub else-remove_unpins_at_doubles : ((v : List Item × List Item) (id : ℕ) → IsNewIn id v.1 →
    pinning.pinned (remove_unpins_at_doubles.remove v id) ≡ v.1) → IsPolicy remove_unpins_at_doubles
else-remove_unpins_at_doubles refused = record {
  opening_order = pinning_lawful.opening_order;
  fault_kind = pinning_lawful.fault_kind;
  opening_credit = pinning_lawful.opening_credit;
  pinned_within = pinning_lawful.pinned_within;
  push_order = pinning_lawful.push_order;
  push_pinned = pinning_lawful.push_pinned;
  push_credit = pinning_lawful.push_credit;
  pop_order = pinning_lawful.pop_order;
  pop_pinned = pinning_lawful.pop_pinned;
  pop_none = pinning_lawful.pop_none;
  pop_looks = pinning_lawful.pop_looks;
  pop_credit = pinning_lawful.pop_credit;
  none_looks = pinning_lawful.none_looks;
  remove_order = remove-order;
  remove_pinned = remove-pinned;
  remove_unpinned = refused;
  remove_credit = pinning_lawful.remove_credit;
  acquire_order = pinning_lawful.acquire_order;
  acquire_pinned = pinning_lawful.acquire_pinned;
  acquire_credit = pinning_lawful.acquire_credit;
  release_order = pinning_lawful.release_order;
  release_pinned = pinning_lawful.release_pinned;
  release_credit = pinning_lawful.release_credit;
  update_order = pinning_lawful.update_order;
  update_pinned = pinning_lawful.update_pinned;
  update_credit = pinning_lawful.update_credit;
  clear_is = λ v. rw (all_popped v.0 v.1) (sym (removed-is v.1 v.1 ∙ all_removed v.1));
}
