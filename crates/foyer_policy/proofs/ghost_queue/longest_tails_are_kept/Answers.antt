use Rattle.foyer_policy.specs.FitLaws.{IsLongestTail-fit}
use Rattle.foyer_policy.specs.GhostQueue.{pair_weight}
use Rattle.foyer_policy.proofs.ghost_queue.longest_tails_are_kept.Goals as goal

pub returns : goal.returns
returns c = λ most g. IsLongestTail-fit pair_weight most g.pairs
