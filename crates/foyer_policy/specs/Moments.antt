-- A policy at a moment is a policy: where some items are due, they are the first to leave.
use Rattle.std.specs.Prelude.{◌==◌, ◌&&◌, ℕ, Bool, false, List, [], ◌∷◌, ◌++◌, Option, Some, None, length, nat_le}
use Rattle.std.specs.List.{filter}
use Rattle.foyer_policy.specs.Items.{count_of, find_id}
use Rattle.foyer_policy.specs.Policy.{Policy, pops, removed}
use Rattle.foyer_policy.specs.PopTimes.{pop_times}
use Rattle.foyer_policy.specs.declared.types.Item.{Item}

-- what expires at a moment is expired from then on
abbrev pub is_expired : ℕ → Option ℕ → Bool
is_expired now None = false
is_expired now (Some e) = nat_le e now

-- an item is due once it is expired
abbrev pub is_due : ℕ → Item → Bool
is_due now i = is_expired now i.expires

-- an item is due, and not among these, which are pinned
abbrev pub is_due_unpinned : (Item → Bool) → List Item → Item → Bool
is_due_unpinned due pinned i = due i && (count_of i.id pinned == 0)

-- the first of the items, taken from the order by its id
abbrev pub first_by_id : List Item → List Item → Option Item
first_by_id order [] = None
first_by_id order (i ∷ is) = find_id i.id order

module _ {V C : Type 0} (due : Item → Bool) (m : Policy V C) where
  -- the due items that are not pinned, in the policy's order
  abbrev pub due_items : V → List Item
  due_items v = filter (is_due_unpinned due (m.pinned v)) (m.order v)

  -- the first of them
  abbrev pub first_due : V → Option Item
  first_due v = first_by_id (m.order v) (due_items v)

  -- a due item is taken out; where there is none, the policy's own pop says what leaves
  abbrev pub due_or_pop : V → Option Item → Option (Item × V)
  due_or_pop v (Some i) = Some (i, m.remove v i.id)
  due_or_pop v None = m.pop v

  -- a due item is taken out without a look at another
  abbrev pub due_or_looks : V → Option Item → ℕ
  due_or_looks v (Some i) = 0
  due_or_looks v None = m.looks v

  abbrev pub pop_due : V → Option (Item × V)
  pop_due v = due_or_pop v (first_due v)

  -- the view once these pops were repeated until none
  abbrev pub popped_out_due : V → V
  popped_out_due v = pop_times pop_due (length (m.order v)) v

  -- the policy in which due items leave first, and which is m in all else
  abbrev pub due_first : Policy V C
  due_first = record m {
    pop = pop_due;
    looks = λ v. due_or_looks v (first_due v);
    clear = λ v. removed m (m.order (popped_out_due v)) (popped_out_due v);
  }

  -- all that leaves, in order: the due items, and then what the policy pops once they are removed
  abbrev pub victims_due : V → List Item
  victims_due v = due_items v ++ pops m (removed m (due_items v) v)

module _ {V C : Type 0} (now : ℕ) (m : Policy V C) where
  -- the policy at a moment: what is expired leaves first
  abbrev pub timed : Policy V C
  timed = due_first (is_due now) m

  -- all that leaves at a moment, in order
  abbrev pub victims_at : V → List Item
  victims_at = victims_due (is_due now) m
