use Rattle.std.proofs.Common.{◌≡◌, take, length, vec_len, vec_capacity}
use Rattle.std.specs.List.{AllZip}
use Rattle.foyer_policy.specs.Items.{IsWithin}
use Rattle.foyer_core.specs.Bulk.{Picks, Says}
use Rattle.foyer_core.specs.Shards.{state_of}
use Rattle.foyer_core.specs.Stored.{meaning}
use Rattle.foyer_core.proofs.cache_core.in_turn.pick_each.Given as goal

-- of the shards so far it is picked
abbrev pub invariant-loop-shard : goal.invariant-loop-shard
invariant-loop-shard g l = record {
  picked : AllZip
      (λ s list. Picks (meaning g.K.PartialEq.eq g.E.Eviction.model g.P.Properties.hint_of g.P.Properties.phantom_of g.P.Properties.expiry_of)
      (Says g.F.Fn l.predicate) (state_of s) list.items
      × IsWithin list.items (g.E.Eviction.model.order (g.E.Eviction.view s.store.eviction)))
      (take l.shard-index l.shards) l.lists.items;
  many : vec_len l.lists ≡ l.shard-index;
  room : vec_capacity l.lists ≡ length l.shards;
}
