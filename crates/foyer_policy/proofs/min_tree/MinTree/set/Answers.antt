use Rattle.std.proofs.Common.{◌≡◌, ◌∙◌, ◌+◌, ◌-◌, ◌*◌, ◌/◌, ◌<◌, length, set, refl, ap, arith}
use Rattle.std.proofs.lemmas.List.{get_or_read}
use Rattle.foyer_policy.specs.MinTree.{least_of, IsLeast}
use Rattle.foyer_policy.proofs.MinTreeLemmas.{Up-leaf, Up-next, Up-root, Up-stop}
use Rattle.foyer_policy.proofs.min_tree.MinTree.set.Goals as goal

pub loop-node-init : goal.loop-node-init
loop-node-init c = (
  refl,
  refl,
  Up-leaf c.self.inside.first_leaf c.self.inside.nodes.items c.args.self.now c.args.index
      c.args.number c.self.invariant.0 c.self.view_is c.requires,
)

pub loop-node-preserved : goal.loop-node-preserved
loop-node-preserved c =
    let up = c.loop-node.invariant.2 in
    let t = c.loop-node.self-inside in
    let xs = t.nodes.items in
    let at = 4 * ((c.loop-node.node + 2) / 4) - 2 in
    let is : c.least_number-least.result ≡ least_of xs at = c.least_number-least.ensures
    ∙ ap (λ ns. least_of ns at) c.deref.ensures.value in (
      c.loop-node.invariant.0,
      c.loop-node.invariant.1,
      Up-next t.first_leaf (set c.args.self.now c.args.index c.args.number) xs c.loop-node.node c.least_number-least.result up
          c.loop-node-test.true is,
    )

pub invariant_of-self : goal.invariant_of-self
invariant_of-self c =
    let up = c.loop-node.invariant.2 in
    let t = c.loop-node.self-inside in (
      record {
        height = c.self.invariant.0.height;
        lowest = c.loop-node.invariant.0 ∙ c.self.invariant.0.lowest;
        size = up.size;
        least = Up-root t.first_leaf (set c.args.self.now c.args.index c.args.number) t.nodes.items c.loop-node.node up
            c.loop-node-test.false;
      },
      omega arith,
    )

pub invariant_of-self-then-index-least : goal.invariant_of-self-then-index-least
invariant_of-self-then-index-least c =
    let up = c.loop-node.invariant.2 in
    let t = c.loop-node.self-inside in
    let xs = t.nodes.items in
    let p = (c.loop-node.node + 2) / 4 in
    let is : c.least_number-least.result ≡ least_of xs (4 * p - 2) = c.least_number-least.ensures
    ∙ ap (λ ns. least_of ns (4 * p - 2)) c.deref.ensures.value in
    let room : p < length xs = omega arith in
    let at_node = get_or_read xs p _ room c.index.ensures 0 in
    let here : IsLeast xs p = omega arith in (
      record {
        height = c.self.invariant.0.height;
        lowest = c.loop-node.invariant.0 ∙ c.self.invariant.0.lowest;
        size = up.size;
        least = Up-stop t.first_leaf (set c.args.self.now c.args.index c.args.number) xs c.loop-node.node up here;
      },
      omega arith,
    )

pub returns-then-index-least : goal.returns-then-index-least
returns-then-index-least c = c.loop-node.invariant.2.final

pub returns : goal.returns
returns c = c.loop-node.invariant.2.final
