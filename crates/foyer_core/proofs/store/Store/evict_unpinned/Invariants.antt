use Rattle.std.proofs.Common.{length}
use Rattle.foyer_core.specs.State.{at_moment}
use Rattle.foyer_core.specs.Stores.{meaning_of, state_of}
use Rattle.foyer_core.specs.Bulk.{GoesOn}
use Rattle.foyer_core.proofs.Unpinned.{BegunAll}
use Rattle.foyer_core.proofs.store.Store.evict_unpinned.Given as goal

-- what left so far is a beginning of the pops
abbrev pub invariant-loop-self : goal.invariant-loop-self
invariant-loop-self g l = GoesOn l.fn.leaves.items l.leaves.items
    (λ ls. BegunAll (at_moment l.now (meaning_of l.fn.self)) (state_of l.fn.self) ls (state_of l.self))

abbrev pub decreases-loop-self : goal.decreases-loop-self
decreases-loop-self g l = length (g.E.Eviction.model.order (g.E.Eviction.view l.self.eviction))
