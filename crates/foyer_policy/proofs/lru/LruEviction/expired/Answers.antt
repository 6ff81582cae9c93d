use Rattle.std.proofs.Common.{◌++◌, sym, ◌∙◌, append_assoc}
use Rattle.foyer_policy.specs.Queued.{items_of}
use Rattle.foyer_policy.specs.Lists.{list_at}
use Rattle.foyer_policy.specs.Lru.{lru}
use Rattle.foyer_policy.specs.LruLists.{view_of}
use Rattle.foyer_policy.specs.Moments.{is_due}
use Rattle.foyer_policy.proofs.DueLemmas.{first_due-is}
use Rattle.foyer_policy.proofs.lru.LruEviction.expired.Goals as goal

-- what is pinned stands behind the two lists that are walked
pub returns-clause-first : goal.returns-clause-first
returns-clause-first c =
    let i = c.self.inside in
    let low = items_of (list_at i.lists.lists 0) in
    let high = items_of (list_at i.lists.lists 1) in
    let v = view_of i.lists.lists i.limit i.ratio in
    rw (← c.self.view_is)
    (c.first_of_lists.ensures.first
    ∙ sym (first_due-is (is_due c.args.now) lru v (low ++ high) (sym (append_assoc low high (lru.pinned v)))
    c.self.invariant.once))
