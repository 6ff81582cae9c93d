-- What is left to count leads to the counts that all lead to.
use Rattle.std.proofs.Common.{◌≡◌, drop}
use Rattle.foyer_raw.specs.Counts.{leaves_counted}
use Rattle.foyer_raw.proofs.CountLemmas.{counted_in_turn}
use Rattle.foyer_raw.proofs.counted.counts.count_leaves.Given as goal

abbrev pub invariant-loop-event : goal.invariant-loop-event
invariant-loop-event g l =
    counted_in_turn g.P.Properties.phantom_of g.P.Properties.expiry_of l.now (drop l.event-index l.leaves) l.stats
    ≡ leaves_counted g.P.Properties.phantom_of g.P.Properties.expiry_of l.now l.leaves l.fn.stats
