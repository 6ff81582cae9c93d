use Rattle.std.proofs.Common.{sym, ◌∙◌}
use Rattle.foyer_policy.proofs.GhostLemmas.{has}
use Rattle.foyer_policy.proofs.ghost_queue.GhostQueue.contains.Goals as goal

pub returns : goal.returns
returns c = rw (← c.self.view_is) (c.contains.ensures ∙ sym (has c.self.inside.hashes.keys c.args.hash))
