use Rattle.std.proofs.Common.{◌≡◌, ◌/◌, ℕ, List, length, map, sym, ◌∙◌, ap, subst, arith}
use Rattle.std.specs.Vec.{with_items}
use Rattle.std.proofs.lemmas.List.{with_items_is}
use Rattle.foyer_policy.specs.Sketch.{sketch_of, IsSketch, halved}
use Rattle.foyer_policy.proofs.SketchKept.{IsSketch-halved, sketch_of-halved}
use Rattle.foyer_policy.proofs.sketch.Sketch.halve.Goals as goal

pub invariant_of-self : goal.invariant_of-self
invariant_of-self c =
    let i = c.self.inside in
    let n : length c.halve_all.new.counters ≡ i.counters.len = omega arith in
    let written : (with_items i.counters c.halve_all.new.counters).items ≡ map (λ n. n / 2) i.counters.items =
    with_items_is i.counters c.halve_all.new.counters n
    ∙ (c.halve_all.ensures ∙ ap (map (λ n. n / 2)) c.as_mut_slice.ensures.value) in
    subst (λ (xs : List ℕ). IsSketch i.rows i.buckets xs i.step) (sym written)
    (IsSketch-halved i.rows i.buckets i.counters.items i.step c.self.invariant)

pub returns : goal.returns
returns c =
    let i = c.self.inside in
    let n : length c.halve_all.new.counters ≡ i.counters.len = omega arith in
    let written : (with_items i.counters c.halve_all.new.counters).items ≡ map (λ n. n / 2) i.counters.items =
    with_items_is i.counters c.halve_all.new.counters n
    ∙ (c.halve_all.ensures ∙ ap (map (λ n. n / 2)) c.as_mut_slice.ensures.value) in
    ap (λ (xs : List ℕ). sketch_of i.rows i.buckets xs i.step) written
    ∙ (sketch_of-halved i.rows i.buckets i.counters.items i.step ∙ ap halved c.self.view_is)
