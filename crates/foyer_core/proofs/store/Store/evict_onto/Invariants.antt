use Rattle.std.proofs.Common.{◌<◌, length, vec_len, vec_capacity}
use Rattle.foyer_core.specs.Records.{HasRoom}
use Rattle.foyer_core.specs.State.{at_moment}
use Rattle.foyer_core.specs.Stores.{meaning_of, state_of, HasPlaces}
use Rattle.foyer_core.proofs.Evictions.{Begun}
use Rattle.foyer_core.specs.Bulk.{GoesOn}
use Rattle.foyer_core.proofs.store.Store.evict_onto.Given as goal

-- what left so far is a beginning of the evictions
abbrev pub invariant-loop-self : goal.invariant-loop-self
invariant-loop-self g l = record {
  begun : GoesOn l.fn.leaves.items l.leaves.items
      (λ ls. Begun (at_moment l.now (meaning_of l.fn.self)) l.target (state_of l.fn.self) ls (state_of l.self));
  one_more : vec_len l.fn.leaves < vec_capacity l.fn.leaves → vec_len l.leaves < vec_capacity l.leaves;
  room : HasRoom l.fn.self.records → HasRoom l.self.records;
  places : HasPlaces l.fn.self → HasPlaces l.self;
}

abbrev pub decreases-loop-self : goal.decreases-loop-self
decreases-loop-self g l = length (g.E.Eviction.model.order (g.E.Eviction.view l.self.eviction))
