-- the last entries have ended
use Rattle.std.proofs.Common.{◌≡◌, vec_len}
use Rattle.foyer_core.specs.Cores.{core_of, fetches_of, meaning_of_core}
use Rattle.foyer_core.proofs.Dropping.{DroppedTo}
use Rattle.foyer_core.proofs.cache_core.CacheCore.drop_entries.Given as goal

abbrev pub invariant-loop-entry : goal.invariant-loop-entry
invariant-loop-entry g l = record {
  dropped : DroppedTo (meaning_of_core l.fn.self)
      (λ builder key. g.S.HashBuilder.hash_of builder (g.K.Hash.hash_input key)) l.fn.entries.items l.entries.items
      (core_of l.fn.self) (core_of l.self);
  fetches : fetches_of l.self ≡ fetches_of l.fn.self;
}

abbrev pub decreases-loop-entry : goal.decreases-loop-entry
decreases-loop-entry g l = vec_len l.entries
