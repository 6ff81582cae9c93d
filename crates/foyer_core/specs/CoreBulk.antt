-- The calls of a core on all of its shards: each shard makes a step of its own, in the order of the shards.
use Rattle.std.specs.Prelude.{true, false, ◌≡◌, ℕ, ◌≤◌, ◌⊎◌, List, [], ◌∷◌, ◌++◌, Some, length, slice_get}
use Rattle.foyer_policy.specs.Items.{IsWithin}
use Rattle.foyer_policy.specs.declared.types.Event.{Event}
use Rattle.foyer_core.specs.Bulk.{after_capacity, after_update}
use Rattle.foyer_core.specs.Core.{Core, share_of, usage_of_core, entries_of_core}
use Rattle.foyer_core.specs.State.{Meaning, State, usage_of}
use Rattle.foyer_core.specs.Steps.{Evicts, Evicting}
use Rattle.foyer_core.specs.Values.{Gone}

module _ {S L : Type 0} where
  -- each one makes its step, and what leaves stands in their order
  abbrev pub InTurn : (S → List L → S → Type 0) → List S → List L → List S → Type 0
  InTurn step [] ls [] = ls ≡ []
  InTurn step (s ∷ ss) ls (t ∷ ts) = (own : List L) × (rest : List L) × (ls ≡ own ++ rest) × step s own t
      × InTurn step ss rest ts
  InTurn step [] ls (t ∷ ts) = ⊥
  InTurn step (s ∷ ss) ls [] = ⊥

  -- the first ones make their whole step, the next one makes a part of its step, and the others none: what want
  -- of memory leaves
  pub record InTurnUntil (whole part : S → List L → S → Type 0) (old : List S) (ls : List L) (new : List S) : Type
      0 where
    pub first : List S
    pub next : S
    pub others : List S
    pub olds : old ≡ first ++ next ∷ others
    pub done : List S
    pub begun : S
    pub news : new ≡ done ++ begun ∷ others
    pub first_leaves : List L
    pub next_leaves : List L
    pub told : ls ≡ first_leaves ++ next_leaves
    pub wholly : InTurn whole first first_leaves done
    pub partly : part next next_leaves begun

module _ {K V P View S W A : Type 0} where
  -- the shards change so, with these leaves, and all else of the core stays
  pub record OfShards (steps : List (State K V P View) → List (Event × Gone K V P) → List (State K V P View) → Type 0)
      (old : Core K V P View S W A) (ls : List (Event × Gone K V P)) (new : Core K V P View S W A) : Type 0 where
    pub stepped : steps old.shards ls new.shards
    pub rest : new ≡ record old { shards = new.shards }

module _ {K V P View C : Type 0} (m : Meaning K P View C) where
  -- each shard gets its share of a capacity, which its policy is told: nothing leaves
  pub record SharesOut (capacity : ℕ) (old new : List (State K V P View)) : Type 0 where
    pub counted : length new ≡ length old
    pub each : (i : ℕ) (s : State K V P View) → slice_get old i ≡ Some s
        → slice_get new i ≡ Some (after_capacity m s (share_of capacity (length old) i))

  -- each shard's policy takes a configuration as one of its own
  abbrev pub TakenByEach : C → List (State K V P View) → Type 0
  TakenByEach config shards = (i : ℕ) (s : State K V P View) → slice_get shards i ≡ Some s
      → m.policy.takes s.view config ≡ true

  -- some shard's policy does not
  abbrev pub NotTaken : C → List (State K V P View) → Type 0
  NotTaken config shards = (i : ℕ) × (s : State K V P View) × (slice_get shards i ≡ Some s)
      × (m.policy.takes s.view config ≡ false)

  -- each shard's policy is told another configuration, with the capacity that the shard has: nothing leaves
  pub record ConfiguresEach (config : C) (old new : List (State K V P View)) : Type 0 where
    pub counted : length new ≡ length old
    pub each : (i : ℕ) (s : State K V P View) → slice_get old i ≡ Some s
        → slice_get new i ≡ Some (after_update m s s.capacity (Some config))

  -- another configuration of a core: so it is with its shards, and all else of the core stays
  pub record Configures {S W A : Type 0} (config : C) (old new : Core K V P View S W A) : Type 0 where
    pub shards : ConfiguresEach config old.shards new.shards
    pub rest : new ≡ record old { shards = new.shards }

  -- the evictions of a shard to its capacity
  abbrev pub EvictsToCapacity : State K V P View → List (Event × Gone K V P) → State K V P View → Type 0
  EvictsToCapacity old ls new = Evicts m old.capacity old ls new

  -- some beginning of them
  abbrev pub EvictingToCapacity : State K V P View → List (Event × Gone K V P) → State K V P View → Type 0
  EvictingToCapacity old ls new = Evicting m old.capacity old ls new

  -- Another capacity of a core: all shares and the policies' limits are set, and then, with these steps, the shards
  -- evict.
  pub record Resizes {S W A : Type 0}
      (evicts : List (State K V P View) → List (Event × Gone K V P) → List (State K V P View) → Type 0)
      (capacity : ℕ) (old : Core K V P View S W A) (ls : List (Event × Gone K V P)) (new : Core K V P View S W A) :
      Type 0 where
    pub shared : List (State K V P View)
    pub shares : SharesOut capacity old.shards shared
    pub evicted : OfShards evicts (record old { capacity = capacity; shards = shared }) ls new

  -- no shard holds anything that is pinned
  abbrev pub NothingPinned : {S W A : Type 0} → Core K V P View S W A → Type 0
  NothingPinned core = (i : ℕ) (s : State K V P View) → slice_get core.shards i ≡ Some s → m.policy.pinned s.view ≡ []

  -- nothing is in the index
  abbrev pub IsEmptied : {S W A : Type 0} → Core K V P View S W A → Type 0
  IsEmptied core = (usage_of_core m core ≡ 0) × (entries_of_core m core ≡ 0)

  -- the usage of each shard is at most its capacity, or all that it holds is pinned
  abbrev pub FitsOrPinned : {S W A : Type 0} → Core K V P View S W A → Type 0
  FitsOrPinned core = (i : ℕ) (s : State K V P View) → slice_get core.shards i ≡ Some s
      → (usage_of m s ≤ s.capacity) ⊎ IsWithin (m.policy.order s.view) (m.policy.pinned s.view)
