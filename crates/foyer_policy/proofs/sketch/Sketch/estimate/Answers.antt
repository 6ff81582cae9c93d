use Rattle.std.proofs.Common.{◌≡◌, ◌<◌, ℕ, List, length, ◌∙◌, ap, subst, arith}
use Rattle.foyer_policy.specs.Sketch.{Sketch, HasPast, estimate_of, sketch_of}
use Rattle.foyer_policy.proofs.ChunkLemmas.{length-first_chunks}
use Rattle.foyer_policy.proofs.SketchPasts.{estimates_bounded}
use Rattle.foyer_policy.proofs.SketchKept.{estimate-le}
use Rattle.foyer_policy.proofs.sketch.Sketch.estimate.Goals as goal

past : (c : goal.After-least_counter) → HasPast c.args.self.now
past c = subst HasPast c.self.view_is c.self.invariant.past

some_rows : (c : goal.After-least_counter) → 0 < length c.args.self.now.rows
some_rows c =
    subst (λ (s : Sketch). 0 < length s.rows) c.self.view_is
    (omega (
      arith,
      length-first_chunks c.self.inside.buckets c.self.inside.rows c.self.inside.counters.items,
      c.self.invariant.some_rows,
    ))

some_buckets : (c : goal.After-least_counter) → 0 < c.args.self.now.buckets
some_buckets c = subst (λ (s : Sketch). 0 < s.buckets) c.self.view_is c.self.invariant.some_buckets

pub returns-clause-past : goal.returns-clause-past
returns-clause-past c = past c

same : (c : goal.After-least_counter) → c.least_counter.result ≡ estimate_of c.args.self.now c.args.hash
same c =
    let i = c.self.inside in
    c.least_counter.ensures ∙
    (ap (λ (xs : List ℕ). estimate_of (sketch_of i.rows i.buckets xs i.step) c.args.hash) c.deref.ensures.value
    ∙ ap (λ (s : Sketch). estimate_of s c.args.hash) c.self.view_is)

pub returns-clause-at_least : goal.returns-clause-at_least
returns-clause-at_least c = λ p is. rw (same c)
    (estimates_bounded c.args.self.now p c.args.hash (some_rows c) (some_buckets c) is).0

pub returns-clause-at_most : goal.returns-clause-at_most
returns-clause-at_most c = rw (same c) (estimate-le c.args.self.now c.args.hash (some_rows c) (some_buckets c) (past c))
