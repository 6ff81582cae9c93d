use Rattle.std.proofs.Common.{map}
use Rattle.foyer_core.specs.Shards.{opens_of, state_of}
use Rattle.foyer_core.specs.Stored.{meaning}
use Rattle.foyer_core.proofs.Hashing.{new_hashed}
use Rattle.foyer_core.proofs.IdleLemmas.{none_open}
use Rattle.foyer_core.proofs.Origins.{new_belong}
use Rattle.foyer_core.proofs.cache_core.CacheCore.with_index.Goals as goal

pub invariant_of-result-clause-whole : goal.invariant_of-result-clause-whole
invariant_of-result-clause-whole g c =
    record {
      belong = new_belong (meaning g.K.PartialEq.eq g.E.Eviction.model g.P.Properties.hint_of g.P.Properties.phantom_of g.P.Properties.expiry_of)
          c.args.config c.args.config.shards (map state_of c.in_ok-shards.shards.items) c.in_ok-shards.ensures.made;
      hashed = new_hashed (λ k. g.S.HashBuilder.hash_of c.args.config.hash_builder (g.K.Hash.hash_input k))
          (meaning g.K.PartialEq.eq g.E.Eviction.model g.P.Properties.hint_of g.P.Properties.phantom_of g.P.Properties.expiry_of) c.args.config
          c.args.config.shards (map state_of c.in_ok-shards.shards.items) c.in_ok-shards.ensures.made;
      summed = rw c.deref.ensures.value at c.of_all-load.ensures;
    }

pub returns-clause-fetches : goal.returns-clause-fetches
returns-clause-fetches g c = (
  c.in_ok-shards.ensures.opens,
  none_open (map opens_of c.in_ok-shards.shards.items) c.in_ok-shards.ensures.opens,
)
