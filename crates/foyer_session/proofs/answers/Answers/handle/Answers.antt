use Rattle.std.proofs.Common.{◌<◌, length, sym, ap, ◌∙◌, arith, inl, inr}
use Rattle.std.specs.Prelude.{option_and_then, slice_get}
use Rattle.std.proofs.lemmas.List.{length-map}
use Rattle.foyer_session.specs.Tokens.{got_by, handle_in, numbers_of}
use Rattle.foyer_session.proofs.AnswerLemmas.{handles_from-there, none_gets, got-past, got-many}
use Rattle.foyer_session.proofs.answers.Answers.handle.Goals as goal

pub returns-then-at-len : goal.returns-then-at-len
returns-then-at-len c =
    let waiters = c.self.inside.waiters in
    let tokens = numbers_of waiters.items in
    let inside : c.args.at < length tokens =
    omega (arith, c.if-at-len.true, c.len.ensures, waiters.ok.0, length-map waiters.items (λ w. w.token)) in
    sym (ap (λ got. option_and_then (λ pair. handle_in pair.1) (slice_get got c.args.at))
    (sym c.self.view_is ∙ ap (λ gets. got_by gets tokens) c.in-Handles.is)
    ∙ handles_from-there c.in-Handles.first tokens c.args.at inside)

pub returns-else-at-len : goal.returns-else-at-len
returns-else-at-len c =
    let waiters = c.self.inside.waiters in
    sym (got-past (λ pair. handle_in pair.1) c.args.self.now c.args.at
    (omega (
      arith,
      c.if-at-len.false,
      c.len.ensures,
      waiters.ok.0,
      ap length c.self.view_is,
      got-many c.self.inside.gets waiters.items,
    )))

pub returns-in-Nothing : goal.returns-in-Nothing
returns-in-Nothing c =
    sym (ap (λ got. option_and_then (λ pair. handle_in pair.1) (slice_get got c.args.at)) (sym c.self.view_is)
    ∙ none_gets c.self.inside.gets (numbers_of c.self.inside.waiters.items) c.args.at (inl c.in-Nothing.is))

pub returns-in-Fault : goal.returns-in-Fault
returns-in-Fault c =
    sym (ap (λ got. option_and_then (λ pair. handle_in pair.1) (slice_get got c.args.at)) (sym c.self.view_is)
    ∙ none_gets c.self.inside.gets (numbers_of c.self.inside.waiters.items) c.args.at
    (inr (c.in-Fault.field-0, c.in-Fault.is)))
