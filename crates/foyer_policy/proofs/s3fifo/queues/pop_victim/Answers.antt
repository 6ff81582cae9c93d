use Rattle.std.proofs.Common.{◌≡◌, [], ap, subst, ◌∙◌, refl, arith}
use Rattle.std.specs.Option.{option_map}
use Rattle.foyer_policy.specs.GhostQueue.{ghost_of}
use Rattle.foyer_policy.specs.S3Fifo.{S3FifoView, from_main, from_rare, promoted}
use Rattle.foyer_policy.specs.S3FifoQueues.{view_with, small_of, Gives}
use Rattle.foyer_policy.proofs.S3FifoRare.{over-none}
use Rattle.foyer_policy.proofs.s3fifo.queues.pop_victim.Goals as goal

pub returns-in-None-clause-pops : goal.returns-in-None-clause-pops
returns-in-None-clause-pops c = λ s same.
    let g = ghost_of c.args.ghost_queue.now in
    let v : S3FifoView = view_with c.args.queues.now.lists g c.args.limit s in
    let t = c.in-None.ensures.takes in
    let middle : view_with c.take_small.new.queues.lists g c.args.limit s ≡ promoted v = rw (t.1, t.2) refl in
    let rare : from_rare s.threshold (small_of c.args.queues.now.lists) ≡ [] =
    ap (λ n. from_rare n (small_of c.args.queues.now.lists)) same ∙ t.0 in
    let given = c.pop_main-in-None.ensures.gives g c.args.limit s in
    let w : S3FifoView = view_with c.pop_main-in-None.new.queues.lists g c.args.limit s in
    let r = option_map (λ x. x.item) c.pop_main-in-None.result in
    over-none v w r (omega (arith, c.if-weight-limit.false, c.requires.weight)) rare
    (subst (λ (u : S3FifoView). Gives (from_main u) r u w) middle given)
