-- Sieve: one queue with a visited bit for each item, and a hand.
use Rattle.std.specs.Prelude.{◌==◌, ℕ, ◌+◌, Bool, true, false, List, [], ◌∷◌, ◌++◌, Option, Some, None, length, map, sum_by, if◌then◌else◌}
use Rattle.foyer_policy.specs.Lists.{or_else}
use Rattle.foyer_policy.specs.Policy.{Policy}
use Rattle.foyer_policy.specs.PopTimes.{pop_times}
use Rattle.foyer_policy.specs.declared.types.Item.{Item}

-- an item with its visited bit
pub record Entry : Type 0 where
  pub item : Item
  pub visited : Bool

-- what a contract sees of a Sieve
pub record SieveView : Type 0 where
  pub queue : List Entry
  -- the id of the item that the hand points to, where it points to one
  pub hand : Option ℕ

abbrev pub items : List Entry → List Item
items es = map (λ e. e.item) es

-- an entry with its bit taken off
abbrev pub cleared : Entry → Entry
cleared e = record { item = e.item; visited = false }

abbrev pub all_cleared : List Entry → List Entry
all_cleared es = map cleared es

-- how many bits are set
abbrev pub set_bits : List Entry → ℕ
set_bits = sum_by (λ e. if e.visited then 1 else 0)

-- what stands before the item of this id; everything where there is none
abbrev pub before_id : ℕ → List Entry → List Entry
before_id id [] = []
before_id id (e ∷ es) = if e.item.id == id then [] else e ∷ before_id id es

-- the item of this id and what follows it; nothing where there is none
abbrev pub from_id : ℕ → List Entry → List Entry
from_id id [] = []
from_id id (e ∷ es) = if e.item.id == id then e ∷ es else from_id id es

-- what stands before the hand; everything without a hand
abbrev pub before_hand : Option ℕ → List Entry → List Entry
before_hand None es = es
before_hand (Some id) es = before_id id es

-- what stands from the hand on; nothing without a hand
abbrev pub from_hand : Option ℕ → List Entry → List Entry
from_hand None es = []
from_hand (Some id) es = from_id id es

-- the queue from the hand on, followed by what stands before the hand
abbrev pub rotation : SieveView → List Entry
rotation v = from_hand v.hand v.queue ++ before_hand v.hand v.queue

-- the visited entries at the front
abbrev pub visited_front : List Entry → List Entry
visited_front [] = []
visited_front (e ∷ es) = if e.visited then e ∷ visited_front es else []

-- the first unvisited entry and what follows it
abbrev pub from_unvisited : List Entry → List Entry
from_unvisited [] = []
from_unvisited (e ∷ es) = if e.visited then from_unvisited es else e ∷ es

abbrev pub first_item : List Entry → Option Item
first_item [] = None
first_item (e ∷ es) = Some e.item

-- the first unvisited of a rotation, or else its first
abbrev pub unvisited_or_first : List Entry → Option Item
unvisited_or_first es = or_else (first_item (from_unvisited es)) (first_item es)

-- What a pop takes, and what then stands before the hand and from it on. The hand goes to the item that
-- followed the victim in the queue, so what followed it stands from the hand on.
pub record Turn : Type 0 where
  pub victim : Item
  pub before : List Entry
  pub behind : List Entry

-- All are visited, so the first of the rotation leaves and every bit is cleared.
abbrev pub where_all_visited : List Entry → List Entry → Option Turn
where_all_visited before (e ∷ es) = Some
    (record { victim = e.item; before = all_cleared before; behind = all_cleared es })
where_all_visited (e ∷ es) [] = Some (record { victim = e.item; before = []; behind = all_cleared es })
where_all_visited [] [] = None

-- All from the hand on are visited; the last argument is `from_unvisited before`. Where that begins with
-- an entry, this is the first unvisited of the rotation, and all that precede it there lose their bits.
abbrev pub where_behind_visited : List Entry → List Entry → List Entry → Option Turn
where_behind_visited before behind [] = where_all_visited before behind
where_behind_visited before behind (e ∷ es) = Some (record {
  victim = e.item;
  before = all_cleared (visited_front before);
  behind = es ++ all_cleared behind;
})

-- The last argument is `from_unvisited behind`. Where that begins with an entry, this is the first
-- unvisited of the rotation, and all that precede it there lose their bits.
abbrev pub first_unvisited : List Entry → List Entry → List Entry → Option Turn
first_unvisited before behind [] = where_behind_visited before behind (from_unvisited before)
first_unvisited before behind (e ∷ es) = Some (record {
  victim = e.item;
  before = before ++ all_cleared (visited_front behind);
  behind = es;
})

-- The pop of a queue, given what stands before the hand and from it on: the first unvisited entry of the
-- rotation `behind ++ before` leaves, and those before it there lose their bits. Where all are visited,
-- the first of the rotation leaves, and all bits are cleared.
abbrev pub turn : List Entry → List Entry → Option Turn
turn before behind = first_unvisited before behind (from_unvisited behind)

-- how many bits a pop of this rotation reads: those of the visited entries at its front, and one more
abbrev pub looks_at : List Entry → ℕ
looks_at [] = 0
looks_at (e ∷ es) = length (visited_front (e ∷ es)) + 1

-- the id of the first entry
abbrev pub first_id : List Entry → Option ℕ
first_id [] = None
first_id (e ∷ es) = Some e.item.id

abbrev pub after_turn : Turn → SieveView
after_turn t = record { queue = t.before ++ t.behind; hand = first_id t.behind }

abbrev pub popped : Option Turn → Option (Item × SieveView)
popped None = None
popped (Some t) = Some (t.victim, after_turn t)

abbrev pub sieve_pop : SieveView → Option (Item × SieveView)
sieve_pop v = popped (turn (before_hand v.hand v.queue) (from_hand v.hand v.queue))

-- the queue without the first item of this id
abbrev pub remove_entry : ℕ → List Entry → List Entry
remove_entry id [] = []
remove_entry id (e ∷ es) = if e.item.id == id then es else e ∷ remove_entry id es

-- the queue with the bit of the first item of this id set
abbrev pub visit : ℕ → List Entry → List Entry
visit id [] = []
visit id (e ∷ es) = if e.item.id == id then record { item = e.item; visited = true } ∷ es else e ∷ visit id es

-- the hand, where the item of this id goes
abbrev pub hand_without : ℕ → Option ℕ → Option ℕ
hand_without id None = None
hand_without id (Some h) = if h == id then None else Some h

-- Push appends with the bit off, acquire sets the bit. Every configuration is accepted.
abbrev pub sieve : (C : Type 0) → Policy SieveView C
sieve C = record {
  fault = λ c. None;
  takes = λ _ _. true;
  opening = λ capacity c. record { queue = []; hand = None };
  order = λ v. items v.queue;
  pinned = λ v. [];
  push = λ v i. record { queue = v.queue ++ record { item = i; visited = false } ∷ []; hand = v.hand };
  pop = sieve_pop;
  remove = λ v id. record { queue = remove_entry id v.queue; hand = hand_without id v.hand };
  acquire = λ v id. record { queue = visit id v.queue; hand = v.hand };
  release = λ v id. v;
  update = λ v capacity config. v;
  clear = λ v. pop_times sieve_pop (length v.queue) v;
  looks = λ v. looks_at (rotation v);
  credit = λ v. set_bits v.queue;
}
