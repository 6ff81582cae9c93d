use Rattle.std.proofs.Common.{◌≡◌, ◌+◌, ◌++◌, ◌∷◌, [], length, map, replicate, refl, ap, ◌∙◌, arith}
use Rattle.std.proofs.lemmas.List.{length-replicate}
use Rattle.foyer_session.specs.Step.{entries_by, given}
use Rattle.foyer_session.specs.Tokens.{got_of, numbers_of}
use Rattle.foyer_session.proofs.HandLemmas.{alike_of, entries_are, given_all, given_long, one_after}
use Rattle.foyer_session.proofs.session.insertion.tell_inserted.Goals as goal

pub answer_all-answers-requires-clause-each : goal.answer_all-answers-requires-clause-each
answer_all-answers-requires-clause-each g c =
    let made = c.args.inserted in
    let are = entries_are made.answers.outcome (replicate (length made.answers.waiters.items) made.entry)
    c.requires.each in
    rw are (omega (arith, length-replicate (length made.answers.waiters.items) made.entry, made.answers.waiters.ok.0))

pub answer_all-answers-requires-clause-alike : goal.answer_all-answers-requires-clause-alike
answer_all-answers-requires-clause-alike g c =
    let made = c.args.inserted in
    let n = length made.answers.waiters.items in
    let are = entries_are made.answers.outcome (replicate n made.entry) c.requires.each in
    rw are (alike_of n made.entry (replicate n made.entry) c.requires.untold refl)

pub hand_out-handle-requires-clause-room : goal.hand_out-handle-requires-clause-room
hand_out-handle-requires-clause-room g c =
    let made = c.args.inserted in
    let n = length made.answers.waiters.items in
    let out = c.answer_all-answers in
    let are = entries_are made.answers.outcome (replicate n made.entry) c.requires.each in
    let mid = out.ensures.handles ∙ ap (λ o. c.args.handles.now.items ++ map given (entries_by o)) are in
    omega (
      arith,
      ap length mid,
      given_long c.args.handles.now.items n made.entry,
      out.ensures.capacity,
      c.requires.room,
      made.answers.waiters.ok.0,
      c.args.handles.now.ok.0,
      out.new.handles.ok.0,
    )

pub returns-clause-answer : goal.returns-clause-answer
returns-clause-answer g c =
    let made = c.args.inserted in
    let n = length made.answers.waiters.items in
    let out = c.answer_all-answers in
    let are = entries_are made.answers.outcome (replicate n made.entry) c.requires.each in
    let mid = out.ensures.handles ∙ ap (λ o. c.args.handles.now.items ++ map given (entries_by o)) are in
    let got = out.ensures.answers ∙
    ap (λ o. got_of (length c.args.handles.now.items) o (numbers_of made.answers.waiters.items)) are in
    let number = c.hand_out-handle.ensures.number ∙ ap length mid ∙ given_long c.args.handles.now.items n made.entry in
    rw (c.new.ensures.answer, c.hand_out-handle.ensures.«record», got, number) refl

pub returns-clause-handles : goal.returns-clause-handles
returns-clause-handles g c =
    let made = c.args.inserted in
    let n = length made.answers.waiters.items in
    let out = c.answer_all-answers in
    let are = entries_are made.answers.outcome (replicate n made.entry) c.requires.each in
    let mid = out.ensures.handles ∙ ap (λ o. c.args.handles.now.items ++ map given (entries_by o)) are
    ∙ ap (λ l. c.args.handles.now.items ++ l) (given_all n made.entry) in
    c.hand_out-handle.ensures.handles ∙ ap (λ l. l ++ given made.entry ∷ []) mid
    ∙ one_after c.args.handles.now.items n (given made.entry)
