-- The policies may cross threads.
use denote.RattleType.{RattleType}
use denote.Param.Send.{IsSend, sendable}
use denote.Param.SendFields.{as_row_send}
use Rattle.std.proofs.Crossing.{crosses, frees, send as heap, Vec-send}
use Rattle.std.proofs.MapsCrossing.{crosses as maps_cross}
use Rattle.std.specs.contracts.alloc.Global as Global
use Rattle.std.specs.contracts.impls.GlobalAllocator.TheImpl.{ghosts}
use Rattle.foyer_policy.proofs.BlockCrosses.{Deed-send, Nodes-send}
use Rattle.foyer_policy.specs.contracts.lists.Lists as Lists
use Rattle.foyer_policy.specs.contracts.lists.arena.Arena as Arena
use Rattle.foyer_policy.specs.contracts.lists.arena.Links as Links
use Rattle.foyer_policy.specs.contracts.lists.block.Base as Base
use Rattle.foyer_policy.specs.contracts.dated_lists.DatedLists as Dated
use Rattle.foyer_policy.specs.contracts.dated_lists.tracking.Tracking as Tracking
use Rattle.foyer_policy.specs.contracts.dates.Dates as Dates
use Rattle.foyer_policy.specs.contracts.dates.slots.Slots as Slots
use Rattle.foyer_policy.specs.contracts.dates.slots.row.Row as Row
use Rattle.foyer_policy.specs.contracts.min_tree.MinTree as MinTree
use Rattle.foyer_policy.specs.contracts.sketch.Sketch as Sketch
use Rattle.foyer_policy.specs.contracts.ghost_queue.GhostQueue as GhostQueue
use Rattle.foyer_policy.specs.contracts.queued.Queued as Queued
use Rattle.foyer_policy.specs.contracts.kept.Kept as Kept
use Rattle.foyer_policy.specs.contracts.link.Link as Link
use Rattle.foyer_policy.specs.contracts.lru.LruState as LruState
use Rattle.foyer_policy.specs.contracts.s3fifo.queues.S3FifoState as S3FifoState
use Rattle.foyer_policy.specs.contracts.sieve.SieveState as SieveState
use Rattle.foyer_policy.specs.contracts.fifo.Fifo as Fifo
use Rattle.foyer_policy.specs.contracts.lru.Lru as Lru
use Rattle.foyer_policy.specs.contracts.lfu.Lfu as Lfu
use Rattle.foyer_policy.specs.contracts.s3fifo.S3Fifo as S3Fifo
use Rattle.foyer_policy.specs.contracts.sieve.Sieve as Sieve
use Rattle.foyer_policy.specs.contracts.any.AnyEviction as Any
use Rattle.foyer_policy.specs.declared.queued.HasItem as has_item

link : IsSend Link.the_row
link = search sendable depth 20

link_field : IsSend Link.the_field.row
link_field = search sendable depth 20

links : IsSend Links.the_row
links = search sendable depth 20

row : IsSend Row.the_field.row
row = search (sendable, crosses) depth 20

min_tree : IsSend MinTree.the_field.row
min_tree = search (sendable, crosses) depth 20

date_slots : IsSend Slots.the_field.row
date_slots = let r = row in let m = min_tree in search sendable depth 20

dates : IsSend Dates.the_field.row
dates = let s = Vec-send Slots.the_row (as_row_send Slots.the_field date_slots) in search (sendable, crosses) depth 20

tracking : IsSend Tracking.the_field.row
tracking = let d = dates in search sendable depth 20

sketch : IsSend Sketch.the_field.row
sketch = search (sendable, crosses) depth 20

ghost_queue : IsSend GhostQueue.the_field.row
ghost_queue = search (sendable, crosses, maps_cross) depth 20

module _ (T N : RattleType) (t : IsSend T) where
  base : IsSend (Base.the_field Links.the_row T).row
  base = search sendable depth 20

  arena : IsSend (Arena.the_field T N).row
  arena = let b = base in let n = Nodes-send Links.the_row T links t in
      let d = Deed-send Links.the_row T Global.the_row ghosts frees in let h = heap in search sendable depth 20

  lists : IsSend (Lists.the_field T N).row
  lists = let a = arena in let l = link in let m = link_field in search (sendable, crosses) depth 20

  module _ (i : has_item.Ghosts T.Denot) where
    dated : IsSend (Dated.the_field T N i).row
    dated = let l = lists in let d = tracking in search (sendable, crosses) depth 20

queued : (S : RattleType) → IsSend S → IsSend (Queued.the_field S).row
queued S s = search sendable depth 20

kept_field : IsSend Kept.the_field.row
kept_field = search (queued, sendable) depth 20

kept : IsSend Kept.the_row
kept = as_row_send Kept.the_field kept_field

lru_node : IsSend (Queued.the_row LruState.the_row)
lru_node = search sendable depth 20

s3fifo_node : IsSend (Queued.the_row S3FifoState.the_row)
s3fifo_node = search sendable depth 20

sieve_node : IsSend (Queued.the_row SieveState.the_row)
sieve_node = search sendable depth 20

fifo : IsSend Fifo.the_field.row
fifo = let k = kept in search (dated, sendable, crosses) depth 20

lru : IsSend Lru.the_field.row
lru = let k = lru_node in search (dated, sendable, crosses) depth 20

lfu : IsSend Lfu.the_field.row
lfu = let k = kept in let s = sketch in search (dated, sendable, crosses) depth 20

s3fifo : IsSend S3Fifo.the_field.row
s3fifo = let k = s3fifo_node in let g = ghost_queue in search (dated, sendable, crosses) depth 20

sieve : IsSend Sieve.the_field.row
sieve = let k = sieve_node in search (dated, sendable, crosses) depth 20

any_field : IsSend Any.the_field.row
any_field = let a = fifo in let b = lru in let c = lfu in let d = s3fifo in let e = sieve in search sendable depth 20

pub any : IsSend Any.the_row
any = as_row_send Any.the_field any_field
