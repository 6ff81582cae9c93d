-- Least recently used over lists of nodes: which view the lists stand for.
use Rattle.std.specs.Prelude.{◌≡◌, ℕ, ◌<◌, ◌^◌, Bool, true, false, List, [], ◌∷◌, map}
use Rattle.foyer_policy.specs.Queued.{Queued, items_of}
use Rattle.foyer_policy.specs.Items.{weight_of, HasIdsOnce}
use Rattle.foyer_policy.specs.Lists.{list_at}
use Rattle.foyer_policy.specs.Lru.{Pinned, LruView, IsWithinLimit, lru}
use Rattle.foyer_policy.specs.declared.types.Ratio.{Ratio}
use Rattle.foyer_policy.specs.declared.lru.LruState.{LruState}

-- what a contract sees of an `Lru`: the lists `low`, `high` and `pin`, the room, the span, the limit and the ratio in use
pub record LruLists : Type 0 where
  pub lists : List (List (ℕ × Queued LruState))
  pub room : ℕ
  pub span : ℕ
  pub limit : ℕ
  pub ratio : Ratio

abbrev pub pinned_of : (ℕ × Queued LruState) → Pinned
pinned_of e = record { item = e.1.item; is_high = e.1.state.high }

-- the view of these lists
abbrev pub view_of : List (List (ℕ × Queued LruState)) → ℕ → Ratio → LruView
view_of ls limit ratio = record {
  low = items_of (list_at ls 0);
  high = items_of (list_at ls 1);
  pin = map pinned_of (list_at ls 2);
  limit = limit;
  ratio = ratio;
}

abbrev pub lru_view : LruLists → LruView
lru_view l = view_of l.lists l.limit l.ratio

-- the state of an item with or without its high bit, pinned or not
abbrev pub state : Bool → Bool → LruState
state high pinned = record { high = high; pinned = pinned }

-- a fact of the state of each node
abbrev pub EachState : (LruState → Type 0) → List (ℕ × Queued LruState) → Type 0
EachState P [] = Unit {0}
EachState P (e ∷ es) = P e.1.state × EachState P es

-- the state of each node tells its list
pub record StatesTell (ls : List (List (ℕ × Queued LruState))) : Type 0 where
  pub low : EachState (λ s. s ≡ state false false) (list_at ls 0)
  pub high : EachState (λ s. s ≡ state true false) (list_at ls 1)
  pub pin : EachState (λ s. s.pinned ≡ true) (list_at ls 2)

-- what holds of every `Lru` of these lists, with the weight of its pool of high priority and of what is pinned
pub record IsLru (ls : List (List (ℕ × Queued LruState))) (limit : ℕ) (ratio : Ratio) (high_weight pinned_weight : ℕ) :
    Type 0 where
  pub once : HasIdsOnce (lru.order (view_of ls limit ratio))
  pub fits : weight_of (lru.order (view_of ls limit ratio)) < 2 ^ 64
  pub within : IsWithinLimit (view_of ls limit ratio)
  pub tell : StatesTell ls
  pub high : high_weight ≡ weight_of (view_of ls limit ratio).high
  pub pinned : pinned_weight ≡ weight_of (lru.pinned (view_of ls limit ratio))
  pub divides : 0 < ratio.den

-- what an entry weighs
abbrev pub weight_at : (ℕ × Queued LruState) → ℕ
weight_at e = e.1.item.weight

-- an entry with its high bit taken off
abbrev pub low_entry : (ℕ × Queued LruState) → (ℕ × Queued LruState)
low_entry e = (e.0, record { item = e.1.item; state = state false e.1.state.pinned })
