use Rattle.std.proofs.Common.{◌≡◌, ◌+◌, ◌<◌, ◌∷◌, arith, ap, sym, ◌∙◌}
use Rattle.std.proofs.lemmas.List.Sums.{sum_by-cons}
use Rattle.foyer_policy.specs.FitLaws.{fit-le, over-le}
use Rattle.foyer_policy.specs.GhostQueue.{Pair, pair_weight, ghost_weight, without_hashes}
use Rattle.foyer_policy.specs.GhostParts.{set_of}
use Rattle.foyer_policy.proofs.GhostLemmas.{set-removed, goes-pairs, goes-hashes}
use Rattle.foyer_policy.proofs.ghost_queue.shrink.Goals as goal

pub loop-left-preserved : goal.loop-left-preserved
loop-left-preserved c =
    let i = c.loop-left.invariant in
    let most = c.args.most in
    let old = c.loop-left.pairs.items in
    let left = c.pop_front.new.self.items in
    let pair : Pair = (c.in-Some.hash, c.in-Some.weight) in
    let is : old ≡ pair ∷ left = c.in-Some.ensures.items in
    let more : most < ghost_weight old = omega (arith, i.weight, c.loop-left-test.true) in
    let out = set-removed c.loop-left.hashes.keys c.remove.new.self.keys c.in-Some.hash c.remove.ensures.updates.0 in
    let sum : ghost_weight old ≡ c.in-Some.weight + ghost_weight left = ap ghost_weight is
    ∙ sum_by-cons pair_weight pair left in
    record {
      weight = omega (arith, i.weight, sum);
      pairs = goes-pairs most pair old left is more ∙ i.pairs;
      hashes = goes-hashes most pair old left (set_of c.loop-left.hashes.keys) (set_of c.remove.new.self.keys) is more
          out ∙ i.hashes;
      capacity = c.pop_front.ensures.capacity ∙ i.capacity;
      len = omega (arith, c.in-Some.ensures.cases, i.len);
      spare = omega (arith, c.remove.ensures.spare, i.spare);
    }

pub returns-clause-pairs : goal.returns-clause-pairs
returns-clause-pairs c =
    sym (fit-le pair_weight c.args.most c.loop-left.pairs.items
    (omega (arith, c.loop-left.invariant.weight, c.loop-left-test.false))) ∙ c.loop-left.invariant.pairs

pub returns-clause-hashes : goal.returns-clause-hashes
returns-clause-hashes c =
    sym (ap (without_hashes (set_of c.loop-left.hashes.keys))
    (over-le pair_weight c.args.most c.loop-left.pairs.items
    (omega (arith, c.loop-left.invariant.weight, c.loop-left-test.false)))) ∙ c.loop-left.invariant.hashes
