-- What an eviction policy does, over an abstract view, and the laws that code above a policy may use.
use Rattle.std.specs.Prelude.{Bool, ◌≡◌, ◌==◌, ℕ, zero, suc, ◌+◌, ◌-◌, ◌≤◌, ◌⊎◌, List, [], ◌∷◌, Option, Some, None, option_and_then, length, nat_le, if◌then◌else◌}
use Rattle.std.specs.List.Sorted.{IsPermutation}
use Rattle.foyer_policy.specs.Items.{weight_of, IsNewIn, HasIdsOnce, IsWithin, remove_id, find_id}
use Rattle.foyer_policy.specs.PopTimes.{pop_times}
use Rattle.foyer_policy.specs.declared.types.Item.{Item}
use Rattle.foyer_policy.specs.declared.error.Reason.{Reason}
use Rattle.foyer_policy.specs.declared.error.Reason.TheVariants.{WrongPolicy}
use Rattle.foyer_policy.specs.declared.error.ErrorKind.TheVariants.{Config}
use Rattle.foyer_policy.specs.Errors.{kind_of}

-- A policy's meaning, over a view V and a configuration C: what each call makes of a view.
-- Records are named by their ids.
pub record Policy (V C : Type 0) : Type 0 where
  -- the first fault of a configuration, where it has one
  pub fault : C → Option Reason
  -- whether a configuration is of this policy
  pub takes : V → C → Bool
  -- the view of a new policy, of this capacity
  pub opening : ℕ → C → V
  -- the records that are in, in the policy's order
  pub order : V → List Item
  -- those of them that no pop gives
  pub pinned : V → List Item
  pub push : V → Item → V
  pub pop : V → Option (Item × V)
  pub remove : V → ℕ → V
  pub acquire : V → ℕ → V
  pub release : V → ℕ → V
  -- another capacity, and another configuration where one is given
  pub update : V → ℕ → Option C → V
  pub clear : V → V
  -- how many records the next pop reads
  pub looks : V → ℕ
  -- how many readings were paid for before they are made
  pub credit : V → ℕ

-- the item, unless it has this id
abbrev pub without : ℕ → Option Item → Option Item
without id None = None
without id (Some i) = if i.id == id then None else Some i

module _ {V C : Type 0} (m : Policy V C) where
  -- why a configuration is refused by a policy of this view: it is another policy's, or else has a fault
  abbrev pub refusal : V → C → Option Reason
  refusal v c = if m.takes v c then m.fault c else Some WrongPolicy

  -- the same of a configuration that may be given
  abbrev pub refusal_in : V → Option C → Option Reason
  refusal_in v config = option_and_then (refusal v) config

  -- what a call of pop answers, and the view that it leaves
  abbrev pub Pops : V → Option Item → V → Type 0
  Pops v None w = (m.pop v ≡ None) × (w ≡ v)
  Pops v (Some i) w = m.pop v ≡ Some (i, w)

  -- what leaves next, and the view that it leaves: the one definition of what may leave, in order
  abbrev pub victim : V → Option (Item × V)
  victim v = m.pop v

  abbrev pub and_then : Option (Item × V) → (V → List Item) → List Item
  and_then None next = []
  and_then (Some p) next = p.0 ∷ next p.1

  -- what leaves first where pop is repeated, at most so many
  abbrev pub first_pops : ℕ → V → List Item
  first_pops zero v = []
  first_pops (suc n) v = and_then (victim v) (λ w. first_pops n w)

  -- all that leaves where pop is repeated until none, in order
  abbrev pub pops : V → List Item
  pops v = first_pops (length (m.order v)) v

  abbrev pub view_or : Option (Item × V) → V → (V → V) → V
  view_or None v next = v
  view_or (Some p) v next = next p.1

  -- the view after so many victims left
  abbrev pub after_pops : ℕ → V → V
  after_pops zero v = v
  after_pops (suc n) v = view_or (victim v) v (λ w. after_pops n w)

  -- the view once nothing more leaves
  abbrev pub after_all_pops : V → V
  after_all_pops v = after_pops (length (m.order v)) v

  -- the view once pop itself was repeated until none, whatever an eviction takes
  abbrev pub popped_out : V → V
  popped_out v = pop_times m.pop (length (m.order v)) v

-- the shortest beginning of the items after which at most `target` is left of the usage, or all of them
abbrev pub until : ℕ → ℕ → List Item → List Item
until target usage [] = []
until target usage (i ∷ is) = if nat_le usage target then [] else i ∷ until target (usage - i.weight) is

module _ {V C : Type 0} (m : Policy V C) where
  -- what an eviction to a target takes: the shortest beginning of the pops after which the usage is
  -- at most the target, or all of them
  abbrev pub evicted : ℕ → V → List Item
  evicted target v = until target (weight_of (m.order v)) (pops m v)

  -- at most the item of this id is pinned anew
  abbrev pub PinsAtMost : V → ℕ → V → Type 0
  PinsAtMost v id w =
      (m.pinned w ≡ m.pinned v)
      ⊎ ((i : Item) × (find_id id (m.order v) ≡ Some i) × IsPermutation (i ∷ m.pinned v) (m.pinned w))

  -- the view once each of these was removed
  abbrev pub removed : List Item → V → V
  removed [] v = v
  removed (i ∷ is) v = removed is (m.remove v i.id)

  -- the laws that code above a policy may use
  pub record IsPolicy : Type 0 where
    -- a new policy holds nothing
    pub opening_order : (capacity : ℕ) (c : C) → m.fault c ≡ None → m.order (m.opening capacity c) ≡ []
    -- a configuration is refused for its own fault
    pub fault_kind : (c : C) (reason : Reason) → m.fault c ≡ Some reason → kind_of reason ≡ Config
    pub opening_credit : (capacity : ℕ) (c : C) → m.fault c ≡ None → m.credit (m.opening capacity c) ≡ 0
    -- what is pinned is in
    pub pinned_within : (v : V) → IsWithin (m.pinned v) (m.order v)
    -- push adds its item and no other
    pub push_order : (v : V) (i : Item) → IsPermutation (i ∷ m.order v) (m.order (m.push v i))
    pub push_pinned : (v : V) (i : Item) → m.pinned (m.push v i) ≡ m.pinned v
    pub push_credit : (v : V) (i : Item) → m.credit (m.push v i) ≤ m.credit v
    -- pop takes one item out and no pin, so never a pinned item, and is none only where all are pinned
    pub pop_order : (v w : V) (i : Item) → m.pop v ≡ Some (i, w) → IsPermutation (m.order v) (i ∷ m.order w)
    pub pop_pinned : (v w : V) (i : Item) → m.pop v ≡ Some (i, w) → m.pinned w ≡ m.pinned v
    pub pop_none : (v : V) → m.pop v ≡ None → IsWithin (m.order v) (m.pinned v)
    -- its readings are paid for, and one that gives none has none
    pub pop_looks : (v w : V) (i : Item) → m.pop v ≡ Some (i, w) → m.looks v + m.credit w ≤ m.credit v + 1
    pub pop_credit : (v w : V) (i : Item) → m.pop v ≡ Some (i, w) → m.credit w ≤ m.credit v
    pub none_looks : (v : V) → m.pop v ≡ None → m.looks v ≡ 0
    -- remove takes its item out alone, with its pin, and keeps the rest in order
    pub remove_order : (v : V) (id : ℕ) → m.order (m.remove v id) ≡ remove_id id (m.order v)
    pub remove_pinned : (v : V) (id : ℕ) → HasIdsOnce (m.order v) → m.pinned (m.remove v id) ≡ remove_id id (m.pinned v)
    -- and where no pin has the id, the pins stay, even where ids stand more than once
    pub remove_unpinned : (v : V) (id : ℕ) → IsNewIn id (m.pinned v) → m.pinned (m.remove v id) ≡ m.pinned v
    pub remove_credit : (v : V) (id : ℕ) → m.credit (m.remove v id) ≤ m.credit v
    -- acquire rearranges, pins at most its item and adds at most 1 to the credit
    pub acquire_order : (v : V) (id : ℕ) → HasIdsOnce (m.order v) → IsPermutation (m.order v) (m.order (m.acquire v id))
    pub acquire_pinned : (v : V) (id : ℕ) → HasIdsOnce (m.order v) → PinsAtMost v id (m.acquire v id)
    pub acquire_credit : (v : V) (id : ℕ) → m.credit (m.acquire v id) ≤ m.credit v + 1
    -- release rearranges and unpins its item alone
    pub release_order : (v : V) (id : ℕ) → HasIdsOnce (m.order v) → IsPermutation (m.order v) (m.order (m.release v id))
    pub release_pinned : (v : V) (id : ℕ) → HasIdsOnce (m.order v) → m.pinned (m.release v id)
        ≡ remove_id id (m.pinned v)
    pub release_credit : (v : V) (id : ℕ) → m.credit (m.release v id) ≤ m.credit v
    -- update rearranges
    pub update_order : (v : V) (capacity : ℕ) (config : Option C) → HasIdsOnce (m.order v) →
        IsPermutation (m.order v) (m.order (m.update v capacity config))
    pub update_pinned : (v : V) (capacity : ℕ) (config : Option C) → m.pinned (m.update v capacity config) ≡ m.pinned v
    pub update_credit : (v : V) (capacity : ℕ) (config : Option C) → m.credit (m.update v capacity config) ≤ m.credit v
    -- clear is pop until none, and then a remove of each item that is left, which is pinned
    pub clear_is : (v : V) → m.clear v ≡ removed (m.order (popped_out m v)) (popped_out m v)
