-- What contracts see of where ids' records stand.
use Rattle.std.specs.Prelude.{ℕ, ◌<◌, ◌/◌, Option, nat_eq, vec_len}
use Rattle.std.specs.HashMap.{get as get_key, spare}
use Rattle.foyer_core.specs.Near.{slot_near, or_slot}
use Rattle.foyer_core.specs.declared.records.ids.Ids.{Ids}

-- the slot of an id
abbrev pub slot_of : Ids → ℕ → Option ℕ
slot_of t id = or_slot (slot_near t.end t.near.items id) (get_key nat_eq t.far id)

-- one more id fits with no allocation
abbrev pub HasRoomForId : Ids → Type 0
HasRoomForId t = 0 < spare t.far

-- beside so many records an id needs no more places
abbrev pub HasPlacesFor : Ids → ℕ → Type 0
HasPlacesFor t records = records < vec_len t.near / 2
