-- What contracts see of a shard's records.
use Rattle.std.specs.Prelude.{ℕ, Option, count_by, is_some, length, unwrap_or}
use Rattle.foyer_core.specs.Slots.{get, HasRoomFor}
use Rattle.foyer_core.specs.declared.records.Records.{Records}
use Rattle.foyer_core.specs.Values.{Kept, Rec}
use Rattle.foyer_core.specs.Ids.{slot_of, HasPlacesFor, HasRoomForId}
use Rattle.foyer_core.specs.Table.{record_by, id_by}

module _ {K V P : Type 0} where
  -- what is in a slot
  abbrev pub slot_in : Records K V P → ℕ → Option (Kept K V P)
  slot_in t = get t.slots

  -- the slot of an id
  abbrev pub number_of : Records K V P → ℕ → Option ℕ
  number_of t = slot_of t.ids

  -- the record of an id
  abbrev pub record_in : Records K V P → ℕ → Option (Rec K V P)
  record_in t = record_by (slot_in t) (number_of t)

  -- the id of a slot's record
  abbrev pub id_in : Records K V P → ℕ → Option ℕ
  id_in t = id_by (slot_in t)

  -- the slot for a record whose id stands in this one, or nowhere
  abbrev pub slot_to : Records K V P → Option ℕ → ℕ
  slot_to t stands = unwrap_or stands t.slots.next

  -- how many slots there are: a new one has this number
  abbrev pub count_in : Records K V P → ℕ
  count_in t = length t.slots.slots

  -- one more record fits with no allocation
  abbrev pub HasRoom : Records K V P → Type 0
  HasRoom t = HasRoomFor t.slots 1 × HasRoomForId t.ids

  -- and no place for its id is missing
  abbrev pub HasAllRoom : Records K V P → Type 0
  HasAllRoom t = HasRoom t × HasPlacesFor t.ids (count_by is_some t.slots.slots)
