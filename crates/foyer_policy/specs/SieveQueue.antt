-- A Sieve as its code holds it: linked nodes, and the hand as a place.
use Rattle.std.specs.Prelude.{◌≡◌, ℕ, List, ◌++◌, Option, Some, None, map, IfSome, IsSome}
use Rattle.std.specs.Option.{option_map}
use Rattle.foyer_policy.specs.Lists.{Lists, list_at, find, first_or}
use Rattle.foyer_policy.specs.Items.{HasIdsOnce}
use Rattle.foyer_policy.specs.Sieve.{Entry, SieveView, items, turn, looks_at}
use Rattle.foyer_policy.specs.declared.types.Item.{Item}
use Rattle.foyer_policy.specs.Queued.{Queued}
use Rattle.foyer_policy.specs.declared.sieve.SieveState.{SieveState}

-- a node of the queue
abbrev pub Node : Type 0
Node = Queued SieveState

pub record Queue : Type 0 where
  pub nodes : Lists Node
  -- the place that the hand points to, where it points to one
  pub hand : Option ℕ
  -- how many bits the last pop read
  pub looks : ℕ

abbrev pub entry : (ℕ × Node) → Entry
entry e = record { item = e.1.item; visited = e.1.state.visited }

abbrev pub entries : List (ℕ × Node) → List Entry
entries l = map entry l

abbrev pub entry_items : List (ℕ × Node) → List Item
entry_items l = items (entries l)

-- the item at a place
abbrev pub item_at : List (List (ℕ × Node)) → ℕ → Option Item
item_at ls p = option_map (λ n. n.item) (find p ls)

-- the id of the item at the hand's place
abbrev pub hand_id : List (List (ℕ × Node)) → Option ℕ → Option ℕ
hand_id ls None = None
hand_id ls (Some p) = option_map (λ i. i.id) (item_at ls p)

abbrev pub view_of : Queue → SieveView
view_of q = record { queue = entries (list_at q.nodes.lists 0); hand = hand_id q.nodes.lists q.hand }

-- no two items have one id, and the hand points to a node that is in
pub record IsSound (ls : List (List (ℕ × Node))) (hand : Option ℕ) : Type 0 where
  pub once : HasIdsOnce (entry_items (list_at ls 0))
  pub there : IfSome hand (λ p. IsSome (find p ls))

-- What a pop leaves of a queue of one list, where these stood before the hand and from it on.
pub record IsTurn (before behind : List Entry) (left : List (ℕ × Node)) (item : Item) (hand : Option ℕ) (looks : ℕ) :
    Type 0 where
  pub front : List (ℕ × Node)
  pub back : List (ℕ × Node)
  pub parts : left ≡ front ++ back
  pub turns : turn before behind ≡ Some (record { victim = item; before = entries front; behind = entries back })
  -- the hand is at the first node from it on
  pub stands : hand ≡ first_or back None
  pub looked : looks ≡ looks_at (behind ++ before)
