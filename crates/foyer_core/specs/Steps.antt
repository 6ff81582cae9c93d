-- The steps of a shard.
use Rattle.std.specs.Prelude.{◌≡◌, ◌≢◌, ℕ, Bool, ◌+◌, ◌-◌, ◌<◌, ◌≤◌, ◌^◌, ◌==◌, ◌&&◌, not, max, List, [], ◌∷◌, ◌++◌, Option, Some, None, Result, Ok, Err, true, false, nat_eq, if◌then◌else◌, map, length}
use Rattle.std.specs.Map.{update}
use Rattle.foyer_policy.specs.Policy.{victim, evicted, after_pops}
use Rattle.foyer_policy.specs.declared.types.Item.{Item}
use Rattle.foyer_policy.specs.declared.types.Event.{Event}
use Rattle.foyer_policy.specs.declared.types.Event.TheVariants.{Evict, Replace, Remove}
use Rattle.foyer_policy.specs.declared.types.Source.{Source}
use Rattle.foyer_policy.specs.declared.types.Source.TheVariants.{Memory}
use Rattle.foyer_policy.specs.declared.error.Reason.{Reason}
use Rattle.foyer_policy.specs.declared.error.Reason.TheVariants.{Ids, Handles, Weight, NoMemory}
use Rattle.foyer_core.specs.declared.record.Data.{Data}
use Rattle.foyer_core.specs.Indexer.{same_key}
use Rattle.foyer_core.specs.Values.{Rec, Gone, Held, Incoming}
use Rattle.foyer_core.specs.State.{Meaning, State, key_of, hit, item_of, is_phantom_record, pinned_beside}

-- a record that is not in the index stays only while it has a handle
abbrev pub outside : {K V P : Type 0} → Rec K V P → Option (Rec K V P)
outside r = if r.handles == 0 then None else Some (record r { resident = false })

-- what a leave tells of a record of the core of this number
abbrev pub gone_of : {K V P : Type 0} → ℕ → ℕ → Rec K V P → Gone K V P
gone_of number id r = record { number = number; id = id; kept = r.kept }

-- an entry of a record
abbrev pub entry_of : {K V P View : Type 0} → State K V P View → ℕ → Data K V P → Source → Held K V P
entry_of s id d source = record { number = s.number; id = id; kept = d; source = source; left = true }

-- what gives way, as leaves
abbrev pub replaced_leaves : {K V P : Type 0} → Option (Gone K V P) → List (Event × Gone K V P)
replaced_leaves None = []
replaced_leaves (Some g) = (Replace, g) ∷ []

-- the ids of items
abbrev pub ids_of : List Item → List ℕ
ids_of items = map (λ i. i.id) items

-- a record of new data: it gets the next id, and so many handles
abbrev pub newcomer : {K V P View : Type 0} → State K V P View → Data K V P → ℕ → Incoming K V P
newcomer s d handles = record { id = s.next; kept = d; handles = handles }

-- an id that was given, or that may be
abbrev pub HasId : {K V P View : Type 0} → State K V P View → ℕ → Type 0
HasId s id = id < max s.next s.limits.ids

-- or neither
abbrev pub LacksId : {K V P View : Type 0} → State K V P View → ℕ → Type 0
LacksId s id = max s.next s.limits.ids ≤ id

-- so many more handles of a record
abbrev pub after_handles : {K V P View : Type 0} → State K V P View → ℕ → ℕ → Rec K V P → State K V P View
after_handles s id more r = record s
    { records = update nat_eq s.records id (Some (record r { handles = r.handles + more })) }

-- one more handle of a record
abbrev pub after_handle : {K V P View : Type 0} → State K V P View → ℕ → Rec K V P → State K V P View
after_handle s id r = after_handles s id 1 r

-- A handle of a record is refused: F9 at the limit of handles, or F7 where the record could not be shared.
-- Nothing has changed.
abbrev pub RefusesHandle : {K V P View : Type 0} → State K V P View → ℕ → Reason → State K V P View → Type 0
RefusesHandle {K} {V} {P} old id Handles new = (r : Rec K V P) × (old.records id ≡ Some r)
    × (old.limits.handles ≤ r.handles) × (new ≡ old)
RefusesHandle {K} {V} {P} old id NoMemory new = (r : Rec K V P) × (old.records id ≡ Some r)
    × (r.handles < old.limits.handles) × (new ≡ old)
RefusesHandle old id _ new = ⊥

-- So many handles of a record are refused together, in the same way.
abbrev pub RefusesHandles : {K V P View : Type 0} → State K V P View → ℕ → ℕ → Reason → State K V P View → Type 0
RefusesHandles {K} {V} {P} old id more Handles new = (r : Rec K V P) × (old.records id ≡ Some r)
    × (old.limits.handles < r.handles + more) × (new ≡ old)
RefusesHandles {K} {V} {P} old id more NoMemory new = (r : Rec K V P) × (old.records id ≡ Some r)
    × (r.handles + more ≤ old.limits.handles) × (new ≡ old)
RefusesHandles old id more _ new = ⊥

-- What a clone of an entry answers: an entry like it, which is one more handle of its record, or a refusal
-- of the handle. The policy is not told.
abbrev pub ClonesHandle : {K V P View : Type 0} → State K V P View → Held K V P → Result (Held K V P) Reason →
    State K V P View → Type 0
ClonesHandle {K} {V} {P} old entry (Ok clone) new =
    (r : Rec K V P) × (old.records entry.id ≡ Some r) × (r.handles < old.limits.handles)
    × (clone ≡ record entry { left = true }) × (new ≡ after_handle old entry.id r)
ClonesHandle old entry (Err reason) new = RefusesHandle old entry.id reason new

-- the record of an id is not in the index
abbrev pub IsOutdated : {K V P View : Type 0} → State K V P View → ℕ → Type 0
IsOutdated {K} s id = (k : ℕ × K) → s.index k ≢ Some id

module _ {K V P View C : Type 0} (m : Meaning K P View C) where
  -- the record of this id is out of the index
  abbrev pub after_out : State K V P View → ℕ → Rec K V P → State K V P View
  after_out s id r = record s {
    index = update (same_key m.same) s.index (key_of r.kept) None;
    records =
        update nat_eq s.records id (outside r);
  }

  -- The records of these ids leave for this reason, in this order, and the policy's view becomes `v`.
  abbrev pub Leave : Event → List ℕ → State K V P View → List (Event × Gone K V P) → View → State K V P View → Type 0
  Leave event [] old [] v new = new ≡ record old { view = v }
  Leave event (id ∷ ids) old (l ∷ ls) v new =
      (r : Rec K V P) × (old.records id ≡ Some r) × (l ≡ (event, gone_of old.number id r))
      × Leave event ids (after_out old id r) ls v new
  Leave event [] old (l ∷ ls) v new = ⊥
  Leave event (id ∷ ids) old [] v new = ⊥

  -- some beginning of the evictions to a target: what want of memory leaves
  pub record Evicting (target : ℕ) (old : State K V P View) (ls : List (Event × Gone K V P))
      (new : State K V P View) : Type 0 where
    pub left : List Item
    pub rest : List Item
    pub parts : left ++ rest ≡ evicted m.policy target old.view
    pub leave : Leave Evict (ids_of left) old ls (after_pops m.policy (length left) old.view) new

  -- all of them
  abbrev pub Evicts : ℕ → State K V P View → List (Event × Gone K V P) → State K V P View → Type 0
  Evicts target old ls new =
      Leave Evict (ids_of (evicted m.policy target old.view)) old ls
      (after_pops m.policy (length (evicted m.policy target old.view)) old.view) new

  -- one eviction: the next victim leaves
  pub record EvictsOne (old : State K V P View) (gone : Gone K V P) (new : State K V P View) : Type 0 where
    pub item : Item
    pub view : View
    pub rec : Rec K V P
    pub popped : victim m.policy old.view ≡ Some (item, view)
    pub there : old.records item.id ≡ Some rec
    pub gone_is : gone ≡ gone_of old.number item.id rec
    pub after : new ≡ record (after_out old item.id rec) { view = view }

  -- the record of this id, where there is one, gives way to a newer one
  abbrev pub GivesWay : Option ℕ → State K V P View → List (Event × Gone K V P) → State K V P View → Type 0
  GivesWay None old ls new = (ls ≡ []) × (new ≡ old)
  GivesWay (Some id) old ls new = Leave Replace (id ∷ []) old ls (m.policy.remove old.view id) new

  -- a record comes into the index and the policy, and the next id is above its own
  abbrev pub after_push : State K V P View → Incoming K V P → State K V P View
  after_push s i = record s {
    view = m.policy.push s.view (item_of m i.id i.kept);
    index = update (same_key m.same) s.index (key_of i.kept) (Some i.id);
    records = update nat_eq s.records i.id (Some record { kept = i.kept; handles = i.handles; resident = true });
    next = max s.next (i.id + 1);
  }

  -- a record comes in, and its key's record gives way
  pub record Admits (old : State K V P View) (i : Incoming K V P) (replaced : Option (Gone K V P))
      (new : State K V P View) : Type 0 where
    pub last : State K V P View
    pub gives_way : GivesWay (old.index (key_of i.kept)) old (replaced_leaves replaced) last
    pub after : new ≡ after_push last i

  -- there is an id for the record, its handles may be, and its weight fits beside what is pinned
  abbrev pub MayInsert : State K V P View → Incoming K V P → Type 0
  MayInsert old i = HasId old i.id × (i.handles ≤ old.limits.handles)
      × (i.kept.weight + pinned_beside m old (key_of i.kept) < 2 ^ 64)

  -- a record is held and does not come into the index, and the next id is above its own
  abbrev pub after_hold : State K V P View → Incoming K V P → State K V P View
  after_hold s i = record s {
    records = update nat_eq s.records i.id (Some record { kept = i.kept; handles = i.handles; resident = false });
    next = max s.next (i.id + 1);
  }

  -- An insert of a plain record that is not refused: the evictions to the capacity less its weight, then
  -- its key's record, where it is still there, gives way, then the record comes in. The entry has this source.
  pub record InsertsPlain (source : Source) (old : State K V P View) (i : Incoming K V P)
      (ls : List (Event × Gone K V P)) (entry : Held K V P) (new : State K V P View) : Type 0 where
    pub may : MayInsert old i
    pub evictions : List (Event × Gone K V P)
    pub replaced : List (Event × Gone K V P)
    pub mid : State K V P View
    pub last : State K V P View
    pub leaves : ls ≡ evictions ++ replaced
    pub evicts : Evicts (old.capacity - i.kept.weight) old evictions mid
    pub gives_way : GivesWay (mid.index (key_of i.kept)) mid replaced last
    pub entry_is : entry ≡ entry_of old i.id i.kept source
    pub after : new ≡ after_push last i

  -- An insert of a plain record that is refused: for an id, a handle or the weight before anything, or for want
  -- of memory after some beginning of the evictions.
  abbrev pub RefusesPlain : State K V P View → Incoming K V P → Reason → List (Event × Gone K V P) → State K V P View
      → Type 0
  RefusesPlain old i Ids ls new = LacksId old i.id × (ls ≡ []) × (new ≡ old)
  RefusesPlain old i Handles ls new = HasId old i.id × (old.limits.handles < i.handles) × (ls ≡ []) × (new ≡ old)
  RefusesPlain old i Weight ls new =
      HasId old i.id × (i.handles ≤ old.limits.handles)
      × (2 ^ 64 ≤ i.kept.weight + pinned_beside m old (key_of i.kept)) × (ls ≡ []) × (new ≡ old)
  RefusesPlain old i NoMemory ls new = MayInsert old i × Evicting (old.capacity - i.kept.weight) old ls new
  RefusesPlain old i _ ls new = ⊥

  -- there is an id for a record, and its handles may be
  abbrev pub MayHold : State K V P View → Incoming K V P → Type 0
  MayHold old i = HasId old i.id × (i.handles ≤ old.limits.handles)

  -- one of both, for a record that is phantom, or is not
  abbrev pub MayBy : Bool → State K V P View → Incoming K V P → Type 0
  MayBy true old i = MayHold old i
  MayBy false old i = MayInsert old i

  -- An insert of a phantom record that is not refused: its key's record gives way, then it is told as
  -- `Remove`. Nothing is evicted, and it is in the index at no time. The entry has this source.
  pub record InsertsPhantom (source : Source) (old : State K V P View) (i : Incoming K V P)
      (ls : List (Event × Gone K V P)) (entry : Held K V P) (new : State K V P View) : Type 0 where
    pub may : MayHold old i
    pub replaced : List (Event × Gone K V P)
    pub last : State K V P View
    pub leaves : ls ≡ replaced ++ (Remove, record { number = old.number; id = i.id; kept = i.kept }) ∷ []
    pub gives_way : GivesWay (old.index (key_of i.kept)) old replaced last
    pub entry_is : entry ≡ entry_of old i.id i.kept source
    pub after : new ≡ after_hold last i

  -- An insert of a phantom record that is refused: for an id, a handle or for want of memory. Nothing has
  -- changed.
  abbrev pub RefusesPhantom : State K V P View → Incoming K V P → Reason → List (Event × Gone K V P) →
      State K V P View → Type 0
  RefusesPhantom old i Ids ls new = LacksId old i.id × (ls ≡ []) × (new ≡ old)
  RefusesPhantom old i Handles ls new = HasId old i.id × (old.limits.handles < i.handles) × (ls ≡ []) × (new ≡ old)
  RefusesPhantom old i NoMemory ls new = MayHold old i × (ls ≡ []) × (new ≡ old)
  RefusesPhantom old i _ ls new = ⊥

  -- an insert of a record that is phantom, or is not
  abbrev pub InsertsBy : Bool → Source → State K V P View → Incoming K V P → List (Event × Gone K V P) → Held K V P →
      State K V P View → Type 0
  InsertsBy true source old i ls entry new = InsertsPhantom source old i ls entry new
  InsertsBy false source old i ls entry new = InsertsPlain source old i ls entry new

  abbrev pub RefusesBy : Bool → State K V P View → Incoming K V P → Reason → List (Event × Gone K V P) →
      State K V P View → Type 0
  RefusesBy true old i reason ls new = RefusesPhantom old i reason ls new
  RefusesBy false old i reason ls new = RefusesPlain old i reason ls new

  -- an insert that is not refused, and one that is
  abbrev pub Inserts : Source → State K V P View → Incoming K V P → List (Event × Gone K V P) → Held K V P →
      State K V P View → Type 0
  Inserts source old i ls entry new = InsertsBy (is_phantom_record m i.kept) source old i ls entry new

  abbrev pub RefusesInsert : State K V P View → Incoming K V P → Reason → List (Event × Gone K V P) → State K V P View
      → Type 0
  RefusesInsert old i reason ls new = RefusesBy (is_phantom_record m i.kept) old i reason ls new

  -- one more handle of a record of the index, which the policy is told of
  abbrev pub after_get : State K V P View → ℕ → Rec K V P → State K V P View
  after_get s id r = record s {
    view = m.policy.acquire s.view id;
    records =
        update nat_eq s.records id (Some (record r { handles = r.handles + 1 }));
  }

  -- What a get answers at a moment: nothing where the key hits nothing, else an entry, or a refusal: F9 at the
  -- limit of handles, or F7 where the record could not be shared. A refused one changes nothing.
  abbrev pub Gets : ℕ → State K V P View → ℕ × K → Result (Option (Held K V P)) Reason → State K V P View → Type 0
  Gets now old k (Ok None) new = (hit m now old k ≡ None) × (new ≡ old)
  Gets now old k (Ok (Some entry)) new =
      (r : Rec K V P) × (hit m now old k ≡ Some entry.id) × (old.records entry.id ≡ Some r)
      × (r.handles < old.limits.handles) × (entry ≡ entry_of old entry.id r.kept Memory)
      × (new ≡ after_get old entry.id r)
  Gets now old k (Err Handles) new = (id : ℕ) × (r : Rec K V P) × (hit m now old k ≡ Some id)
      × (old.records id ≡ Some r) × (old.limits.handles ≤ r.handles) × (new ≡ old)
  Gets now old k (Err NoMemory) new = (id : ℕ) × (r : Rec K V P) × (hit m now old k ≡ Some id)
      × (old.records id ≡ Some r) × (r.handles < old.limits.handles) × (new ≡ old)
  Gets now old k (Err _) new = ⊥

  -- the last handle is gone: what is in the index is released, and else forgotten
  abbrev pub after_last : State K V P View → ℕ → Rec K V P → State K V P View
  after_last s id r =
      if r.resident
      then record s
      { view = m.policy.release s.view id; records = update nat_eq s.records id (Some (record r { handles = 0 })) }
      else record s { records = update nat_eq s.records id None }

  -- one handle less
  abbrev pub after_give_back : State K V P View → ℕ → Rec K V P → State K V P View
  after_give_back s id r = if r.handles == 1 then after_last s id r
      else record s { records = update nat_eq s.records id (Some (record r { handles = r.handles - 1 })) }

  -- a phantom record leaves with its last handle
  abbrev pub last_leave : ℕ → ℕ → Rec K V P → Option (Event × Gone K V P)
  last_leave number id r = if (r.handles == 1) && (not r.resident && is_phantom_record m r.kept)
      then Some (Evict, gone_of number id r) else None

  -- a handle is taken back
  pub record GivesBack (old : State K V P View) (id : ℕ) (leave : Option (Event × Gone K V P))
      (new : State K V P View) : Type 0 where
    pub rec : Rec K V P
    pub there : old.records id ≡ Some rec
    pub held : 0 < rec.handles
    pub leaves : leave ≡ last_leave old.number id rec
    pub after : new ≡ after_give_back old id rec

  -- What a touch answers at a moment: a get, whose entry is given back at once. It is refused at the limit of handles
  -- alone (F9).
  abbrev pub Touches : ℕ → State K V P View → ℕ × K → Result Bool Reason → State K V P View → Type 0
  Touches now old k (Ok false) new = Gets now old k (Ok None) new
  Touches now old k (Ok true) new = (entry : Held K V P) × (mid : State K V P View)
      × Gets now old k (Ok (Some entry)) mid × GivesBack mid entry.id None new
  Touches now old k (Err Handles) new = Gets now old k (Err Handles) new
  Touches now old k (Err _) new = ⊥

  -- What a remove answers: nothing where the key has no record in the index, else an entry, and the record
  -- leaves as `Remove`; or a refusal of the handle.
  abbrev pub Removes : State K V P View → ℕ × K → Result (Option (Held K V P × Gone K V P)) Reason → State K V P View
      → Type 0
  Removes old k (Ok None) new = (old.index k ≡ None) × (new ≡ old)
  Removes old k (Ok (Some out)) new =
      (r : Rec K V P) × (old.index k ≡ Some out.0.id) × (old.records out.0.id ≡ Some r)
      × (r.handles < old.limits.handles)
      × (out.0 ≡ entry_of old out.0.id r.kept Memory)
      × Leave Remove (out.0.id ∷ []) (after_handle old out.0.id r) ((Remove, out.1) ∷ [])
      (m.policy.remove old.view out.0.id) new
  Removes old k (Err reason) new = (id : ℕ) × (old.index k ≡ Some id) × RefusesHandle old id reason new
