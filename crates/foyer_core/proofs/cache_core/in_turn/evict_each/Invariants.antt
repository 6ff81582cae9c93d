use Rattle.std.proofs.Common.{◌≡◌, map, vec_len}
use Rattle.foyer_core.specs.Bulk.{GoesOn, EvictsUnpinned}
use Rattle.foyer_core.specs.Shards.{opens_of, state_of}
use Rattle.foyer_core.specs.State.{at_moment}
use Rattle.foyer_core.specs.Stored.{meaning}
use Rattle.foyer_core.proofs.InTurn.{InFirst}
use Rattle.foyer_core.proofs.cache_core.in_turn.evict_each.Given as goal

-- the shards so far made their steps
abbrev pub invariant-loop-place : goal.invariant-loop-place
invariant-loop-place g l = record {
  begun : GoesOn l.fn.leaves.items l.leaves.items
      (λ ls. InFirst
      (EvictsUnpinned
      (at_moment l.now (meaning g.K.PartialEq.eq g.E.Eviction.model g.P.Properties.hint_of g.P.Properties.phantom_of g.P.Properties.expiry_of))) l.place
      (map state_of l.fn.shards.items) ls (map state_of l.shards.items));
  opens : map opens_of l.shards.items ≡ map opens_of l.fn.shards.items;
  len : vec_len l.shards ≡ vec_len l.fn.shards;
}
