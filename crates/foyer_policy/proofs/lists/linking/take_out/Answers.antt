use Rattle.std.proofs.Common.{map, arith, sym, ap, ◌∙◌}
use Rattle.foyer_policy.specs.Arena.{get, value_of}
use Rattle.foyer_policy.specs.Chain.{lists_of}
use Rattle.foyer_policy.specs.Lists.{drop_place}
use Rattle.foyer_policy.proofs.LinkedLemmas.{find-value, Linked-alike, all_but-gone}
use Rattle.foyer_policy.proofs.HoldsLemmas.{contains_found, taken, Holds-again, lists_of-Holds}
use Rattle.foyer_policy.proofs.lists.linking.take_out.Goals as goal

pub remove-requires : goal.remove-requires
remove-requires g c = (
  omega arith,
  (
    c.unlink.ensures.arena,
    rw c.unlink.ensures.node
        (contains_found c.args.nodes.now c.args.heads.now c.args.tails.now
        (lists_of c.args.nodes.now c.args.heads.now) c.args.place c.requires.sound.linked c.requires.there),
  ),
)

pub returns-clause-value : goal.returns-clause-value
returns-clause-value g c =
    sym (find-value (get c.args.nodes.now) c.args.heads.now c.args.tails.now
    (lists_of c.args.nodes.now c.args.heads.now) c.args.place c.requires.sound.linked c.requires.there)
    ∙ ap value_of (sym c.unlink.ensures.node) ∙ c.remove.ensures.value

pub returns-clause-sound : goal.returns-clause-sound
returns-clause-sound g c =
    let p = c.args.place in let ls = lists_of c.args.nodes.now c.args.heads.now in let f = get c.unlink.new.nodes in
    let left = get c.remove.new.self in
    Holds-again c.remove.new.self c.unlink.new.heads c.unlink.new.tails (map (drop_place p) ls)
    (taken c.args.nodes.now c.remove.new.self c.args.heads.now c.args.tails.now c.unlink.new.heads c.unlink.new.tails
    p c.requires.sound c.requires.there
    c.remove.ensures.arena
    (Linked-alike _ left c.unlink.new.heads c.unlink.new.tails (map (drop_place p) ls)
    (all_but-gone f left p c.remove.ensures.gone c.remove.ensures.others) c.unlink.ensures.linked)
    (omega (arith, c.remove.ensures.counts.0, c.unlink.ensures.used)))

pub returns-clause-lists : goal.returns-clause-lists
returns-clause-lists g c =
    let p = c.args.place in let ls = lists_of c.args.nodes.now c.args.heads.now in let f = get c.unlink.new.nodes in
    let left = get c.remove.new.self in
    lists_of-Holds c.remove.new.self c.unlink.new.heads c.unlink.new.tails (map (drop_place p) ls)
    (taken c.args.nodes.now c.remove.new.self c.args.heads.now c.args.tails.now c.unlink.new.heads c.unlink.new.tails
    p c.requires.sound c.requires.there
    c.remove.ensures.arena
    (Linked-alike _ left c.unlink.new.heads c.unlink.new.tails (map (drop_place p) ls)
    (all_but-gone f left p c.remove.ensures.gone c.remove.ensures.others) c.unlink.ensures.linked)
    (omega (arith, c.remove.ensures.counts.0, c.unlink.ensures.used)))
