use Rattle.std.proofs.Common.{◌≡◌, ◌+◌, ◌-◌, ◌<◌, ◌≤◌, suc, ◌∷◌, [], arith, subst}
use Rattle.foyer_replay.specs.Counting.{listed, hits_in, misses_in}
use Rattle.foyer_replay.specs.Cores.{core_of, serves_of}
use Rattle.foyer_replay.proofs.Counting.{completes_end, completes_more, completes_skip, hits_one, misses_one, listed_more, listed_none}
use Rattle.foyer_replay.proofs.run.replay.Goals as goal
use Rattle.foyer_replay.proofs.run.replay.Goals.{then-place-skipped, else-place-skipped}

pub loop-place-preserved : goal.loop-place-preserved
loop-place-preserved g c =
    let inv = c.loop-place.invariant in
    let nth = g.Q.Requests.nth c.args.requests.now in
    let count = g.Q.Requests.count c.args.requests.now in
    let place = c.loop-place.place in
    let skipped = c.args.skipped in
    let o = c.in-Ok.outcome in
    let was = c.loop-place.counts in
    let is = c.if-place-skipped.counts in
    let more = listed_more nth place count (omega arith) in
    let served = subst (λ r. serves_of c.args.core.now r o (core_of c.loop-place.core) (core_of c.serve.new.self)) c.request-request.ensures
    c.in-Ok.ensures.served in
    elim c.if-place-skipped.branch [
      | then-place-skipped w ↦
          let gone : skipped - place ≡ 0 = omega arith in
          let none : skipped - (place + 1) ≡ 0 = omega arith in
          let hs : is.hits ≡ was.hits + hits_in (o ∷ []) = cc in
          let ms : is.misses ≡ was.misses + misses_in (o ∷ []) = cc in
          record {
            rest = rw none (completes_more (serves_of c.args.core.now) skipped (listed nth 0 count) (nth place)
                (listed nth (place + 1) (count - (place + 1))) o was.hits was.misses is.hits is.misses
                (core_of c.args.core.now) (core_of c.loop-place.core) (core_of c.serve.new.self) served hs ms (rw (gone, more) at inv.rest));
            hits = omega (arith, hits_one o);
            misses = omega (arith, misses_one o);
          }
      | else-place-skipped w ↦
          let one : skipped - place ≡ suc (skipped - (place + 1)) = omega arith in
          let hs : is.hits ≡ was.hits = cc in
          let ms : is.misses ≡ was.misses = cc in
          record {
            rest = rw (hs, ms) (completes_skip (serves_of c.args.core.now) skipped (listed nth 0 count) (skipped - (place + 1)) (nth place)
                (listed nth (place + 1) (count - (place + 1))) o was.hits was.misses
                (core_of c.args.core.now) (core_of c.loop-place.core) (core_of c.serve.new.self) served (rw (one, more) at inv.rest));
            hits = omega arith;
            misses = omega arith;
          }
    ]

pub returns-clause-counted : goal.returns-clause-counted
returns-clause-counted g c =
    let nth = g.Q.Requests.nth c.args.requests.now in
    let count = g.Q.Requests.count c.args.requests.now in
    let place = c.loop-place.place in
    completes_end (serves_of c.args.core.now) c.args.skipped (listed nth 0 count) (c.args.skipped - place)
    (listed nth place (count - place)) c.loop-place.counts.hits c.loop-place.counts.misses (core_of c.args.core.now)
    (core_of c.loop-place.core) (listed_none nth place count (omega arith)) c.loop-place.invariant.rest
