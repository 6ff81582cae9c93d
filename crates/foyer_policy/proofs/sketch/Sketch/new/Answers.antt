use Rattle.std.proofs.Common.{◌≡◌, ◌*◌, ◌<◌, ℕ, List, replicate, sym, ◌∙◌, ap, subst, arith}
use Rattle.foyer_policy.specs.Sketch.{sketch_of, IsSketch}
use Rattle.foyer_policy.proofs.SketchKept.{IsSketch-new, sketch_of-new}
use Rattle.foyer_policy.proofs.sketch.Sketch.new.Goals as goal

zeros : (c : goal.In-Ok) → c.in-Ok.counters.items ≡ replicate (c.args.rows * c.args.buckets) 0
zeros c = c.in-Ok.ensures.items_if_clones_equal (λ y e. e)

pub invariant_of-result : goal.invariant_of-result
invariant_of-result c =
    let r : 0 < c.args.rows = omega arith in
    let b : 0 < c.args.buckets = omega arith in
    subst (λ (xs : List ℕ). IsSketch c.args.rows c.args.buckets xs 0) (sym (zeros c))
    (IsSketch-new c.args.rows c.args.buckets r b)

pub returns-clause-made : goal.returns-clause-made
returns-clause-made c = ap (λ (xs : List ℕ). sketch_of c.args.rows c.args.buckets xs 0) (zeros c)
    ∙ sketch_of-new c.args.rows c.args.buckets
