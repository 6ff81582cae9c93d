-- An S3-FIFO as its code holds it: linked nodes in two lists, small and main.
use Rattle.std.specs.Prelude.{◌≡◌, ℕ, ◌<◌, ◌≤◌, Bool, true, false, List, [], ◌∷◌, ◌++◌, Option, Some, None, map, length}
use Rattle.std.specs.Option.{option_map}
use Rattle.foyer_policy.specs.Lists.{Lists, list_at, find}
use Rattle.foyer_policy.specs.Items.{HasIdsOnce, weight_of}
use Rattle.foyer_policy.specs.Policy.{without}
use Rattle.foyer_policy.specs.GhostQueue.{Ghost, GhostState, ghost_of}
use Rattle.foyer_policy.specs.S3Fifo.{Entry, Setting, S3FifoView, items, frequent_front, from_rare, main_turn, main_looks}
use Rattle.foyer_policy.specs.declared.types.Item.{Item}
use Rattle.foyer_policy.specs.declared.types.Ratio.{Ratio}
use Rattle.foyer_policy.specs.Queued.{Queued}
use Rattle.foyer_policy.specs.declared.s3fifo.queues.S3FifoState.{S3FifoState}

-- a node of one of the queues
abbrev pub Node : Type 0
Node = Queued S3FifoState

pub record S3Queues : Type 0 where
  pub nodes : Lists Node
  pub ghost : GhostState
  pub limit : ℕ
  pub small_ratio : Ratio
  pub ghost_ratio : Ratio
  pub threshold : ℕ
  -- how many frequencies of main the last pop read
  pub looks : ℕ

abbrev pub entry : (ℕ × Node) → Entry
entry e = record { item = e.1.item; frequency = e.1.state.frequency }

abbrev pub entries : List (ℕ × Node) → List Entry
entries l = map entry l

-- the entries of small and of main
abbrev pub small_of : List (List (ℕ × Node)) → List Entry
small_of ls = entries (list_at ls 0)

abbrev pub main_of : List (List (ℕ × Node)) → List Entry
main_of ls = entries (list_at ls 1)

-- the item at a place
abbrev pub item_at : List (List (ℕ × Node)) → ℕ → Option Item
item_at ls p = option_map (λ n. n.item) (find p ls)

abbrev pub setting : S3Queues → Setting
setting q = record { small_ratio = q.small_ratio; ghost_ratio = q.ghost_ratio; threshold = q.threshold }

abbrev pub view_of : S3Queues → S3FifoView
view_of q = record {
  small = small_of q.nodes.lists;
  main = main_of q.nodes.lists;
  ghost = ghost_of q.ghost;
  limit = q.limit;
  setting = setting q;
}

-- each node says which queue it is in, and no frequency passes 3
abbrev pub AreIn : Bool → List (ℕ × Node) → Type 0
AreIn main [] = Unit {0}
AreIn main (e ∷ es) = ((e.1.state.is_main ≡ main) × (e.1.state.frequency ≤ 3)) × AreIn main es

-- the nodes of both queues say so, and no two items have one id
pub record AreQueues (ls : List (List (ℕ × Node))) : Type 0 where
  pub small : AreIn false (list_at ls 0)
  pub main : AreIn true (list_at ls 1)
  pub once : HasIdsOnce (items (small_of ls) ++ items (main_of ls))

pub record IsSound (ls : List (List (ℕ × Node))) (small_weight : ℕ) (small_ratio ghost_ratio : Ratio) : Type 0 where
  pub queues : AreQueues ls
  pub weight : small_weight ≡ weight_of (items (small_of ls))
  pub small_denominator : 0 < small_ratio.den
  pub ghost_denominator : 0 < ghost_ratio.den

-- the items at all places, once one of them is out, or where none is
abbrev pub PlacesAfter : Option Item → List (List (ℕ × Node)) → List (List (ℕ × Node)) → Type 0
PlacesAfter None old new = (p : ℕ) → item_at new p ≡ item_at old p
PlacesAfter (Some i) old new = (p : ℕ) → item_at new p ≡ without i.id (item_at old p)

-- what is taken from small, where it is over its limit
abbrev pub TakesSmall : ℕ → List (List (ℕ × Node)) → Option Item → List (List (ℕ × Node)) → Type 0
TakesSmall t old None new = (from_rare t (small_of old) ≡ []) × (small_of new ≡ [])
    × (main_of new ≡ main_of old ++ small_of old)
TakesSmall t old (Some i) new = (e : Entry) × (from_rare t (small_of old) ≡ e ∷ small_of new) × (e.item ≡ i)
    × (main_of new ≡ main_of old ++ frequent_front t (small_of old))

-- a victim and its looks
abbrev pub Taken : Type 0
Taken = Item × ℕ

-- what is taken from main
abbrev pub TakesMain : List (List (ℕ × Node)) → Option Taken → List (List (ℕ × Node)) → Type 0
TakesMain old None new = (main_of old ≡ []) × (main_of new ≡ []) × (small_of new ≡ small_of old)
TakesMain old (Some r) new = (main_turn (main_of old) ≡ Some (record { victim = r.0; main = main_of new }))
    × (main_looks (main_of old) ≡ r.1) × (small_of new ≡ small_of old)

-- the view of these queues
abbrev pub view_with : List (List (ℕ × Node)) → Ghost → ℕ → Setting → S3FifoView
view_with ls g l s = record { small = small_of ls; main = main_of ls; ghost = g; limit = l; setting = s }

-- what a pop gives, and the view that it leaves
abbrev pub Gives : Option (Item × S3FifoView) → Option Item → S3FifoView → S3FifoView → Type 0
Gives o None old new = (o ≡ None) × (new ≡ old)
Gives o (Some i) old new = o ≡ Some (i, new)

-- the ghost queue has room for as many pushes, where it takes any
abbrev pub HasGhostRoom : S3Queues → ℕ → Type 0
HasGhostRoom q n = 0 < q.ghost.capacity → n ≤ q.ghost.room

-- what a pop takes from small can enter the ghost queue
abbrev pub HasRoomToPop : S3Queues → Type 0
HasRoomToPop q = q.limit < weight_of (items (small_of q.nodes.lists)) → HasGhostRoom q 1

-- there is room to pop all: what leaves main enters no ghost queue, nor does what leaves a small queue within its limit
abbrev pub CanClear : S3Queues → Type 0
CanClear q = q.limit < weight_of (items (small_of q.nodes.lists)) → HasGhostRoom q (length (small_of q.nodes.lists))

-- the next pop may enter what it takes into the ghost queue
abbrev pub WantsMemory : S3Queues → Type 0
WantsMemory q = (q.limit < weight_of (items (small_of q.nodes.lists))) × (0 < q.ghost.capacity)
