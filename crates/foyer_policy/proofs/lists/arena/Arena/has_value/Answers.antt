use Rattle.std.proofs.Common.{sym}
use Rattle.foyer_policy.proofs.NotingLemmas.{arena-links}
use Rattle.foyer_policy.proofs.lists.arena.Arena.has_value.Goals as goal

pub links-requires : goal.links-requires
links-requires g c =
    let h = c.requires.arena in
    (sym h.block.0, arena-links c.args.self.now c.args.place h c.if-place-self.true)
