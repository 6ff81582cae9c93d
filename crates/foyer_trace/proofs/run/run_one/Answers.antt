use Rattle.std.proofs.Common.{◌≡◌, ◌∙◌, ◌+◌, ◌-◌, ◌++◌, ap, arith, drop, length, refl, rules, subst, sym}
use Rattle.std.proofs.lemmas.List.{drop_all}
use Rattle.foyer_replay.proofs.Counting.{length_listed}
use Rattle.foyer_trace.specs.Runs.{Serves}
use Rattle.foyer_trace.specs.Trace.{request_at, requests_of, requests_of_part}
use Rattle.foyer_trace.proofs.Runs.{Completes, completes_end, completes_more, completes_start, requests_more}
use Rattle.foyer_trace.proofs.run.run_one.Goals as goal

pub loop-number-init : goal.loop-number-init
loop-number-init g c =
    let none : c.default-counts.result.hits ≡ 0 = search rules in
    let empty : c.default-counts.result.misses ≡ 0 = search rules in
    let all = requests_of c.args.runner.now.terms c.deref-part-items.result.now in
    let start = c.args.runner.now.core in
    record {
      rest = completes_start c.args.warmup all c.args.warmup all c.default-counts.result.hits c.default-counts.result.misses
          start start refl refl none empty refl;
      terms = refl;
    }

pub loop-number-preserved : goal.loop-number-preserved
loop-number-preserved g c =
    let inv = c.loop-number.invariant in
    let terms = c.args.runner.now.terms in
    let items = c.deref-part-items.result.now in
    let k = c.loop-number.number-counter in
    let part = c.part-item.result in
    let left = c.loop-number.left in
    let all = requests_of terms items in
    let some = requests_of_part terms part in
    let rest = requests_of terms (drop (k + 1) items) in
    let start = c.args.runner.now.core in
    let now = c.loop-number.runner.core in
    let next = c.serve.new.self.core in
    let was = c.loop-number.counts in
    let more = c.in_ok-more.more in
    let sum = c.in_ok-sum.sum in
    let served : Serves now left some more.hits more.misses next =
    subst (λ t. Serves now left (requests_of_part t part) more.hits more.misses next) inv.terms
    c.in_ok-more.ensures.counted in
    let before : Completes c.args.warmup all left (some ++ rest) was.hits was.misses start now =
    subst (λ xs. Completes c.args.warmup all left xs was.hits was.misses start now)
    (requests_more terms items k part c.loop-number-test.true c.part-item.is) inv.rest in
    let many = length_listed (request_at part terms) 0 (length part.keys.items) in
    let fewer : left - length some ≡ c.saturating_sub-left.result =
    omega (arith, many, c.len.ensures, c.saturating_sub-left.ensures) in
    record {
      rest = subst (λ n. Completes c.args.warmup all n rest sum.hits sum.misses start next) fewer
          (completes_more c.args.warmup all left some rest was.hits was.misses sum.hits sum.misses more.hits more.misses
          start now next served c.in_ok-sum.ensures.hits c.in_ok-sum.ensures.misses before);
      terms = c.in_ok-more.ensures.terms ∙ inv.terms;
    }

pub returns : goal.returns
returns g c =
    let terms = c.args.runner.now.terms in
    let items = c.deref-part-items.result.now in
    let k = c.loop-number.number-counter in
    let counts = c.loop-number.counts in
    let start = c.args.runner.now.core in
    let now = c.loop-number.runner.core in
    record {
      terms = c.loop-number.invariant.terms;
      counted = subst (λ ps. Serves start c.args.warmup (requests_of terms ps) counts.hits counts.misses now)
          c.deref-part-items.ensures.value
          (completes_end c.args.warmup (requests_of terms items) c.loop-number.left (requests_of terms (drop k items))
          counts.hits counts.misses start now
          (ap (requests_of terms) (drop_all k items (omega (arith, c.loop-number-test.false)))) c.loop-number.invariant.rest);
    }
