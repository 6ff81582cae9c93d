use Rattle.foyer_policy.proofs.GhostLemmas.{same_ghost, set-reordered}
use Rattle.foyer_policy.proofs.ghost_queue.GhostQueue.reserve.Goals as goal

pub returns-clause-queue : goal.returns-clause-queue
returns-clause-queue c = rw (← c.self.view_is)
    (same_ghost _ _ _ _ c.self.inside.capacity c.reserve.ensures.items
    (set-reordered c.self.inside.hashes.keys c.reserve-2.new.self.keys c.reserve-2.ensures.keys.2))
