-- A dictionary in which due items leave last: the closed form of what leaves at a moment refuses it.
use Rattle.std.proofs.Common.{◌≡◌, ℕ, List, [], ◌∷◌, Option, Some, None, ap, arith}
use Rattle.std.specs.Prelude.{◌==◌, Bool}
use Rattle.foyer_policy.specs.Items.{HasIdsOnce}
use Rattle.foyer_policy.specs.Policy.{Policy, pops}
use Rattle.foyer_policy.specs.Moments.{first_due, due_or_pop, due_first, victims_due}
use Rattle.foyer_policy.specs.declared.types.Item.{Item}
use Rattle.foyer_policy.proofs.LazyPolicies.{Plain, item, queue, once_pair}

-- the item with id 1 is due
abbrev pub is_one : Item → Bool
is_one i = i.id == 1

-- the policy's own pop, and a due item only where it gives none
abbrev own_first : List Item → Option (Item × List Item) → Option (Item × List Item)
own_first v (Some p) = Some p
own_first v None = due_or_pop is_one queue v (first_due is_one queue v)

abbrev pub due_leave_last : Policy (List Item) Plain
due_leave_last = record (due_first is_one queue) { pop = λ v. own_first v (queue.pop v) }

abbrev first_id : List Item → ℕ
first_id [] = 0
first_id (i ∷ is) = i.id

pub not-due_leave_last : ((v : List Item) → HasIdsOnce v → pops due_leave_last v ≡ victims_due is_one queue v) → ⊥
not-due_leave_last closed =
    let e : ◌≡◌ {A = List Item} (item 0 ∷ item 1 ∷ []) (item 1 ∷ item 0 ∷ []) =
    closed (item 0 ∷ item 1 ∷ []) once_pair in
    omega (arith, ap first_id e)
