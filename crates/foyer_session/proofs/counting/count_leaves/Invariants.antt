-- What is left to count leads to the counts that all lead to.
use Rattle.std.proofs.Common.{◌≡◌, drop}
use Rattle.foyer_session.specs.Counting.{leaves_counted}
use Rattle.foyer_session.proofs.counting.count_leaves.Given as goal

abbrev pub invariant-loop-event : goal.invariant-loop-event
invariant-loop-event g l =
    leaves_counted g.P.Properties.phantom_of g.P.Properties.expiry_of l.now (drop l.event-index l.leaves) l.stats
    ≡ leaves_counted g.P.Properties.phantom_of g.P.Properties.expiry_of l.now l.leaves l.fn.stats
