use Rattle.foyer_policy.proofs.LruMoves.{pinned_iff}
use Rattle.foyer_policy.proofs.lru.LruEviction.is_pinned.Goals as goal

pub returns : goal.returns
returns c =
    let i = c.self.inside in
    rw (← c.self.view_is, c.get.ensures.value, c.state.ensures)
    (pinned_iff i.lists.lists i.limit i.ratio c.self.invariant.once c.get.ensures.apart c.args.place
    c.get.result.now c.self.invariant.tell c.get.ensures.value)
