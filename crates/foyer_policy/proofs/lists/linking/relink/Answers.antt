use Rattle.std.proofs.Common.{None, length, refl, arith, ◌<◌}
use Rattle.std.proofs.lemmas.List.{get_or_read_under}
use Rattle.foyer_policy.specs.Arena.{get}
use Rattle.foyer_policy.proofs.ArenaLemmas.{some_node}
use Rattle.foyer_policy.proofs.LinkedLemmas.{Linked-relinked}
use Rattle.foyer_policy.proofs.HoldsLemmas.{some_after_set}
use Rattle.foyer_policy.proofs.lists.linking.relink.Goals as goal

pub set_links-requires : goal.set_links-requires
set_links-requires g c = (
  omega arith,
  (
    c.set_after.ensures.arena,
    (rw (c.set_after.ensures.links c.args.place) (some_after_set _ _ _ c.requires.there), c.requires.list),
  ),
)

pub returns-clause-linked : goal.returns-clause-linked
returns-clause-linked g c = λ ls v here old.
    let k = c.args.list in let p = c.args.place in let n1 = c.set_after.new.nodes in let last =
    c.index-tails-list.result in
    let now = some_node (get n1 p) (rw (c.set_after.ensures.links p) (some_after_set _ _ _ c.requires.there)) in
    let lt : k < length c.args.tails.now = omega (arith, c.requires.list, c.requires.heads, c.requires.tails) in
    let is_last = get_or_read_under c.args.tails.now k (length c.args.tails.now) last None c.index-tails-list.is
    lt refl in
    let written = rw (now.1, c.end.ensures) at c.set_links.ensures.node in
    rw c.to-2.ensures
    (Linked-relinked (get c.args.nodes.now) (get n1) (get c.set_links.new.self) c.args.heads.now c.set_after.new.heads
    c.args.tails.now ls k p v last c.to.result now.0
    old (omega (arith, c.requires.list, c.requires.heads, old.heads_len)) here is_last c.to.ensures
    c.set_after.ensures.links now.1 written c.set_links.ensures.others c.set_after.ensures.heads)
