use Rattle.std.proofs.Common.{List, ◌-◌, ◌<◌, ◌∷◌, ◌++◌, [], arith, ap, sym, ◌∙◌}
use Rattle.std.specs.Prelude.{min}
use Rattle.std.specs.HashSet.{spare}
use Rattle.std.specs.VecDeque.{deque_len, deque_capacity}
use Rattle.foyer_policy.specs.FitLaws.{fit_within}
use Rattle.std.specs.FinSet.{insert}
use Rattle.foyer_policy.specs.Items.{fit, over}
use Rattle.foyer_policy.specs.GhostQueue.{Pair, pair_weight, ghost_weight, without_hashes}
use Rattle.foyer_policy.specs.GhostParts.{set_of}
use Rattle.foyer_policy.proofs.GhostLemmas.{same_ghost, set-inserted, on_ok, pushed}
use Rattle.foyer_policy.proofs.ghost_queue.GhostQueue.push_reserved.Goals as goal

pub overflow_add-self : goal.overflow_add-self
overflow_add-self c =
    let most = c.saturating_sub-most.result in
    omega (
      arith,
      c.shrink-left.ensures.weight,
      ap ghost_weight c.shrink-left.ensures.pairs,
      fit_within pair_weight most c.self.inside.pairs.items,
      c.saturating_sub-most.ensures,
      c.saturating_sub-most.type_inv,
      c.ranges.weight.fits,
      c.self.ranges,
    )

pub returns-clause-queue : goal.returns-clause-queue
returns-clause-queue c =
    let pairs = c.push_back_reserved.ensures.items
    ∙ ap (λ (l : List Pair). l ++ (c.args.hash, c.args.weight) ∷ [])
    (c.shrink-left.ensures.pairs ∙ ap (λ most. fit pair_weight most c.self.inside.pairs.items)
    c.saturating_sub-most.ensures) in
    let room : 0 < min (deque_capacity c.self.inside.pairs - deque_len c.self.inside.pairs)
    (spare c.self.inside.hashes) = rw (← c.self.view_is) at c.requires (omega (arith, c.if-self-eq0.false)) in
    let spared : 0 < spare c.shrink-left.new.hashes = omega (arith, room, c.shrink-left.ensures.spare) in
    let updated = on_ok _ _ (c.insert.ensures.succeeds spared) c.insert.ensures.updates in
    let hashes = set-inserted c.shrink-left.new.hashes.keys c.insert.new.self.keys c.args.hash updated.0
    ∙ ap (λ s. insert s c.args.hash)
    (c.shrink-left.ensures.hashes ∙
    ap (λ most. without_hashes (set_of c.self.inside.hashes.keys)
    (over pair_weight most c.self.inside.pairs.items)) c.saturating_sub-most.ensures) in
    rw (← c.self.view_is)
    (same_ghost _ _ _ _ c.self.inside.capacity pairs hashes
    ∙ sym (pushed _ c.args.hash c.args.weight c.if-self-eq0.false))
