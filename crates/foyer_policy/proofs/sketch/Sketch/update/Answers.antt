use Rattle.std.proofs.Common.{◌≡◌, ◌+◌, ◌/◌, ℕ, List, length, map, sym, ◌∙◌, ap, subst, arith}
use Rattle.std.specs.Simd.{first_chunks}
use Rattle.std.specs.Vec.{with_items}
use Rattle.std.proofs.lemmas.List.{with_items_is}
use Rattle.foyer_policy.specs.Sketch.{sketch_of, IsSketch, counted, counting}
use Rattle.foyer_policy.proofs.SketchKept.{IsSketch-counted, IsSketch-settled, sketch_of-settled}
use Rattle.foyer_policy.proofs.sketch.Sketch.update.Goals as goal

-- the counters that were written, without a halving
written : (c : goal.Else-self) → (with_items c.self.inside.counters c.count.new.counters).items ≡ c.count.new.counters
written c =
    (let n : length c.count.new.counters ≡ c.self.inside.counters.len = omega arith in
    with_items_is c.self.inside.counters c.count.new.counters n)

-- and with one
halves : (c : goal.After-self-then-self-2-1) →
    (with_items (with_items c.self.inside.counters c.count.new.counters) c.halve_all.new.counters).items
    ≡ map (λ n. n / 2) c.count.new.counters
halves c =
    let n : length c.count.new.counters ≡ c.self.inside.counters.len = omega arith in
    let v = with_items c.self.inside.counters c.count.new.counters in
    let m : length c.halve_all.new.counters ≡ c.self.inside.counters.len = omega arith in
    with_items_is v c.halve_all.new.counters m
    ∙ (c.halve_all.ensures ∙ ap (map (λ n. n / 2))
    (c.deref_mut-then-self.ensures.value ∙ with_items_is c.self.inside.counters c.count.new.counters n))

pub invariant_of-self : goal.invariant_of-self
invariant_of-self c =
    let i = c.self.inside in
    let now = c.count.new.counters in
    let is : first_chunks i.buckets i.rows now
    ≡ counted i.buckets c.args.hash 0 (first_chunks i.buckets i.rows i.counters.items) =
    c.count.ensures ∙ ap (λ xs. counted i.buckets c.args.hash 0 (first_chunks i.buckets i.rows xs))
    c.deref_mut.ensures.value in
    let n : length now ≡ length i.counters.items = omega (arith, i.counters.ok.0) in
    subst (λ (xs : List ℕ). IsSketch i.rows i.buckets xs ((i.step + 1) / 2)) (sym (halves c))
    (IsSketch-settled i.rows i.buckets i.counters.items i.step c.args.hash now is n c.if-self.true c.self.invariant)

pub invariant_of-self-else-self : goal.invariant_of-self-else-self
invariant_of-self-else-self c =
    let i = c.self.inside in
    let now = c.count.new.counters in
    let is : first_chunks i.buckets i.rows now
    ≡ counted i.buckets c.args.hash 0 (first_chunks i.buckets i.rows i.counters.items) =
    c.count.ensures ∙ ap (λ xs. counted i.buckets c.args.hash 0 (first_chunks i.buckets i.rows xs))
    c.deref_mut.ensures.value in
    let n : length now ≡ length i.counters.items = omega (arith, i.counters.ok.0) in
    subst (λ (xs : List ℕ). IsSketch i.rows i.buckets xs (i.step + 1)) (sym (written c))
    (IsSketch-counted i.rows i.buckets i.counters.items i.step c.args.hash now is n c.if-self.false c.self.invariant)

pub returns-then-self : goal.returns-then-self
returns-then-self c =
    let i = c.self.inside in
    let now = c.count.new.counters in
    let is : first_chunks i.buckets i.rows now
    ≡ counted i.buckets c.args.hash 0 (first_chunks i.buckets i.rows i.counters.items) =
    c.count.ensures ∙ ap (λ xs. counted i.buckets c.args.hash 0 (first_chunks i.buckets i.rows xs))
    c.deref_mut.ensures.value in
    ap (λ (xs : List ℕ). sketch_of i.rows i.buckets xs ((i.step + 1) / 2)) (halves c)
    ∙ (sketch_of-settled i.rows i.buckets i.counters.items i.step c.args.hash now is c.if-self.true
    ∙ ap (counting c.args.hash) c.self.view_is)
