use Rattle.std.proofs.Common.{◌≡◌, ◌++◌, sym, ap, ◌∙◌, arith, append-nil, length}
use Rattle.std.proofs.lemmas.List.{nil_from_length}
use Rattle.foyer_raw.proofs.Drained.{taken_front}
use Rattle.foyer_raw.proofs.shards.locked.Goals as goal

pub returns-clause-len : goal.returns-clause-len
returns-clause-len g c =
    let from = c.into_iter-shard-iterator.result in
    let xs = c.loop-shard.yielded in
    let to = c.loop-shard.shard-iterator in
    let none = nil_from_length to.rest.items (sym to.rest.ok.0 ∙ c.in-None.ensures.steps.0) in
    let whole : xs ≡ c.args.made.items =
    sym (append-nil xs) ∙ ap (λ l. xs ++ l) (sym none) ∙ sym (taken_front from xs to c.loop-shard.yielded_by)
    ∙ c.into_iter-shard-iterator.ensures.into_iter_gives.0 in
    omega (arith, c.loop-shard.invariant, ap length whole, c.args.made.ok.0)
