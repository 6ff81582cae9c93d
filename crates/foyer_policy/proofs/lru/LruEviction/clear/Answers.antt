use Rattle.std.proofs.Common.{◌∙◌, ap, set, []}
use Rattle.foyer_policy.proofs.LruPushes.{nothing_held}
use Rattle.foyer_policy.proofs.lru.LruEviction.clear.Goals as goal

pub returns-clause-places : goal.returns-clause-places
returns-clause-places c =
    nothing_held c.self.inside.lists.lists c.drain-3.new.lists.lists
    (c.drain-3.ensures.lists ∙ ap (λ x. set x 2 [])
    (c.drain-2.ensures.lists ∙ ap (λ x. set x 1 []) c.drain.ensures.lists)) c.drain-3.ensures.count
