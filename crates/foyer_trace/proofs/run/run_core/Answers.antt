use Rattle.std.proofs.Common.{◌≡◌, ◌∙◌, ◌+◌, ◌-◌, ◌<◌, ◌^◌, ◌++◌, ◌∷◌, [], ℕ, ap, arith, drop, length, subst, sum_by, zero-add}
use Rattle.std.proofs.lemmas.List.{drop_all}
use Rattle.std.proofs.lemmas.List.Sums.{sum_by-append}
use Rattle.foyer_replay.specs.declared.counts.Counts.{Counts}
use Rattle.foyer_trace.specs.Runs.{Serves}
use Rattle.foyer_trace.specs.Trace.{requests_of, requests_of_windows}
use Rattle.foyer_trace.proofs.Runs.{Completes, completes_end, completes_more, left_is, windows_more}
use Rattle.foyer_trace.proofs.run.run_core.Goals as goal

pub loop-number-preserved : goal.loop-number-preserved
loop-number-preserved g c =
    let inv = c.loop-number.invariant in
    let terms = c.args.plan.now.terms in
    let warmup = c.args.plan.now.warmup in
    let items = c.args.trace.now in
    let k = c.loop-number.number in
    let window = c.index-trace-number.result in
    let left = c.loop-number.left in
    let all = requests_of_windows terms items in
    let some = requests_of terms window.parts.items in
    let rest = requests_of_windows terms (drop (k + 1) items) in
    let start = c.in_ok-runner.runner.core in
    let now = c.loop-number.runner.core in
    let next = c.run_one.new.runner.core in
    let was = c.loop-number.windows.items in
    let items' = c.push.new.self.items in
    let counts = c.in_ok-counts.counts in
    let hits = λ (it : Counts). it.hits in
    let misses = λ (it : Counts). it.misses in
    let served : Serves now left some counts.hits counts.misses next =
    subst (λ t. Serves now left (requests_of t window.parts.items) counts.hits counts.misses next) inv.terms
    c.in_ok-counts.ensures.counted in
    let before : Completes warmup all left (some ++ rest) (sum_by hits was) (sum_by misses was) start now =
    subst (λ xs. Completes warmup all left xs (sum_by hits was) (sum_by misses was) start now)
    (windows_more terms items k window c.loop-number-test.true c.index-trace-number.is) inv.rest in
    let hit : sum_by hits items' ≡ sum_by hits was + counts.hits =
    ap (sum_by hits) c.in_ok-push.ensures.items
    ∙ (sum_by-append hits was (counts ∷ []) ∙ ap (λ n. sum_by hits was + n) (zero-add counts.hits)) in
    let miss : sum_by misses items' ≡ sum_by misses was + counts.misses =
    ap (sum_by misses) c.in_ok-push.ensures.items
    ∙ (sum_by-append misses was (counts ∷ []) ∙ ap (λ n. sum_by misses was + n) (zero-add counts.misses)) in
    let many = left_is terms window.parts.items left c.len.result inv.fits c.len.ensures in
    let fewer : left - length some ≡ c.saturating_sub-left.result = omega (arith, many, c.saturating_sub-left.ensures) in
    record {
      new = inv.new;
      rest = subst (λ n. Completes warmup all n rest (sum_by hits items') (sum_by misses items') start next) fewer
          (completes_more warmup all left some rest (sum_by hits was) (sum_by misses was) (sum_by hits items')
          (sum_by misses items') counts.hits counts.misses start now next served hit miss before);
      terms = c.in_ok-counts.ensures.terms ∙ inv.terms;
      fits = omega (arith, inv.fits, c.saturating_sub-left.ensures);
    }

pub returns : goal.returns
returns g c =
    let inv = c.loop-number.invariant in
    let terms = c.args.plan.now.terms in
    let items = c.args.trace.now in
    let k = c.loop-number.number in
    let windows = c.loop-number.windows.items in
    let start = c.in_ok-runner.runner.core in
    let now = c.loop-number.runner.core in
    record {
      start = start;
      end = now;
      new = inv.new;
      served = completes_end c.args.plan.now.warmup (requests_of_windows terms items) c.loop-number.left
          (requests_of_windows terms (drop k items)) (sum_by (λ it. it.hits) windows) (sum_by (λ it. it.misses) windows) start
          now (ap (requests_of_windows terms) (drop_all k items (omega (arith, c.loop-number-test.false)))) inv.rest;
    }
