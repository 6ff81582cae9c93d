use Rattle.std.proofs.Common.{◌≡◌, ◌-◌, ◌*◌, length, ap, ◌∙◌, arith}
use Rattle.std.proofs.lemmas.List.{length-replicate}
use Rattle.foyer_policy.proofs.MinTreeLemmas.{all-equal, at-most}
use Rattle.foyer_policy.proofs.min_tree.MinTree.new.Goals as goal

pub invariant_of-result : goal.invariant_of-result
invariant_of-result c =
    let lowest = c.in-Some.ensures.lowest in
    let some = at-most 1 lowest.0 (omega arith) in
    let are = c.in-Ok.ensures.items_if_clones_equal (λ y e. e) in
    let size : length c.in-Ok.nodes.items ≡ 4 * c.in-Some.first - 2 = ap length are ∙ length-replicate _ _ in (
      record {
        height = lowest.0;
        lowest = lowest.1;
        size = omega (arith, lowest.1);
        least = rw are (all-equal c.in-Some.first _ _ (omega (arith, lowest.1)));
      },
      omega (arith, lowest.1),
    )
