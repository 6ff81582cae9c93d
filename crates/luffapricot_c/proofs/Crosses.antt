-- What C holds of a cache may cross threads.
use denote.RattleType.{RattleType}
use denote.Param.Send.{IsSend, IsSync, sendable}
use denote.Param.SendFields.{as_row_send, as_row_sync}
use Rattle.std.proofs.Crossing.{crosses, Vec-send, Vec-sync, send as heap, sync as heap_sync}
use Rattle.std.specs.contracts.alloc.Global as Global
use Rattle.std.specs.contracts.impls.GlobalAllocator.TheImpl.{ghosts}
use Rattle.smallvec.specs.contracts.small_vec.SmallVec as Small
use Rattle.smallvec.specs.contracts.storage.Data as Data
use Rattle.slab.specs.contracts.Slab as Slab
use Rattle.slab.specs.contracts.Entry as Entry
use Rattle.foyer_core.specs.contracts.entry.CoreEntry as CoreEntry
use Rattle.foyer_core.specs.contracts.entry.Left as Left
use Rattle.foyer_core.specs.contracts.piece.Piece as Piece
use Rattle.foyer_core.specs.contracts.properties.CacheProperties as Properties
use Rattle.luffapricot_c.proofs.CoreCrosses.{core, entry, gone, piece, tag_finder}
use Rattle.luffapricot_c.proofs.PoliciesCross.{any}
use Rattle.luffapricot_c.specs.contracts.key.Key as Key
use Rattle.luffapricot_c.specs.contracts.value.Value as Value
use Rattle.luffapricot_c.specs.contracts.hold.Held as Held
use Rattle.luffapricot_c.specs.contracts.hold.Hold as Hold
use Rattle.luffapricot_c.specs.contracts.cache.ByteCache as ByteCache

module _ (T N : RattleType) (t : IsSend T) (ts : IsSync T) where
  stored : IsSend (Data.the_field T N Global.the_row ghosts).row
  stored = let v = Vec-send T t in let h = heap in search (sendable, crosses) depth 30

  pub small : IsSend (Small.the_field T N Global.the_row ghosts).row
  small = let d = stored in search sendable depth 20

  stored_sync : IsSync (Data.the_field T N Global.the_row ghosts).row
  stored_sync = let v = Vec-sync T ts in let h = heap_sync in search (sendable, crosses) depth 30

  pub small_sync : IsSync (Small.the_field T N Global.the_row ghosts).row
  small_sync = let d = stored_sync in search sendable depth 20

module _ (T : RattleType) (t : IsSend T) where
  slot : IsSend (Entry.the_field T).row
  slot = search sendable depth 20

  pub slab : IsSend (Slab.the_field T Global.the_row ghosts).row
  slab = let e = Vec-send (Entry.the_row T) (as_row_send (Entry.the_field T) slot) in search sendable depth 20

key_field : IsSend Key.the_field.row
key_field = search (small, sendable, crosses) depth 20

key : IsSend Key.the_row
key = as_row_send Key.the_field key_field

key_sync : IsSync Key.the_row
key_sync = as_row_sync Key.the_field (search (small_sync, sendable, crosses) depth 20)

value : IsSend Value.the_row
value = as_row_send Value.the_field (search (small, sendable, crosses) depth 20)

value_sync : IsSync Value.the_row
value_sync = as_row_sync Value.the_field (search (small_sync, sendable, crosses) depth 20)

properties : IsSend Properties.the_row
properties = as_row_send Properties.the_field (search (sendable, crosses) depth 20)

properties_sync : IsSync Properties.the_row
properties_sync = as_row_sync Properties.the_field (search (sendable, crosses) depth 20)

left : IsSend (Left.the_field Key.the_row Value.the_row Properties.the_row).row
left = gone Key.the_row Value.the_row Properties.the_row key value properties key_sync value_sync properties_sync

left_row : IsSend (Left.the_row Key.the_row Value.the_row Properties.the_row)
left_row = as_row_send (Left.the_field Key.the_row Value.the_row Properties.the_row) left

listed : IsSend (Piece.the_row Key.the_row Value.the_row Properties.the_row)
listed = as_row_send (Piece.the_field Key.the_row Value.the_row Properties.the_row)
    (piece Key.the_row Value.the_row Properties.the_row key value properties key_sync value_sync properties_sync)

handle : IsSend (CoreEntry.the_field Key.the_row Value.the_row Properties.the_row).row
handle = entry Key.the_row Value.the_row Properties.the_row key value properties key_sync value_sync properties_sync

held : IsSend Held.the_field.row
held = let h = handle in let l = left in let m = left_row in
    let p = Vec-send (Piece.the_row Key.the_row Value.the_row Properties.the_row) listed in
    search (sendable, crosses) depth 20

hold : IsSend Hold.the_row
hold = as_row_send Hold.the_field (let h = held in search sendable depth 20)

pub cache : IsSend ByteCache.the_row
cache = as_row_send ByteCache.the_field
    (let k = key in let f = key_field in let v = value in let p = properties in let ks = key_sync in let vs = value_sync in
    let ps = properties_sync in let s = slab Hold.the_row hold in let l = left in let m = left_row in
    search (core, tag_finder, any, sendable, crosses) depth 20)
