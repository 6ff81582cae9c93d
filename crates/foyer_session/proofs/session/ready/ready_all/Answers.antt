use Rattle.std.proofs.Common.{◌++◌, sym, ap, ◌∙◌, append-nil}
use Rattle.std.proofs.lemmas.List.{nil_from_length}
use Rattle.foyer_session.proofs.RunLemmas.{taken_front}
use Rattle.foyer_session.proofs.session.ready.ready_all.Goals as goal

pub returns-clause-commands : goal.returns-clause-commands
returns-clause-commands g c =
    let from = c.into_iter-command-iterator.result in
    let xs = c.loop-command.yielded in
    let to = c.loop-command.command-iterator in
    let none = nil_from_length to.rest.items (sym to.rest.ok.0 ∙ c.in-None.ensures.steps.0) in
    c.loop-command.invariant ∙ sym (append-nil xs) ∙ ap (λ l. xs ++ l) (sym none)
    ∙ sym (taken_front from xs to c.loop-command.yielded_by)
    ∙ c.into_iter-command-iterator.ensures.into_iter_gives.0
