use Rattle.foyer_policy.specs.Block.{IsFilled}
use Rattle.foyer_policy.proofs.FreeLemmas.{filled-back}
use Rattle.foyer_policy.proofs.lists.free.take_free.Goals as goal

pub set_after-requires-clause-there : goal.set_after-requires-clause-there
set_after-requires-clause-there g c = λ x e.
    let near = rw c.links-links.ensures at c.requires.beside in
    let at : IsFilled c.args.nodes.now.links x = near.0 x e in
    rw c.set_before.ensures.links
    (filled-back c.links-links.result.now.before c.links-links.result.now.after c.args.nodes.now.links x at)
