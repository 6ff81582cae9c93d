use Rattle.std.proofs.Common.{◌≡◌, Some, None, length, refl, sym, ap, ◌∙◌}
use Rattle.std.specs.Prelude.{option_map, slice_get}
use Rattle.std.proofs.lemmas.Option.{slice_get_past, slice_get_read}
use Rattle.foyer_session.proofs.AnswerLemmas.{got-tokens}
use Rattle.foyer_session.proofs.answers.Answers.token.Goals as goal

pub returns-in_err-waiting : goal.returns-in_err-waiting
returns-in_err-waiting c =
    let waiters = c.self.inside.waiters.items in
    let past : slice_get waiters c.args.at ≡ None = ap (λ xs. slice_get xs c.args.at) (sym c.deref.ensures.value)
    ∙ slice_get_past c.deref.result.now c.args.at c.in_err-waiting.ensures.lookup.3 in
    c.from_residual.ensures ∙
    sym (ap (λ got. option_map (λ pair. pair.0) (slice_get got c.args.at)) (sym c.self.view_is)
    ∙ got-tokens c.self.inside.gets waiters c.args.at ∙ ap (option_map (λ w. w.token)) past)

pub returns : goal.returns
returns c =
    let waiters = c.self.inside.waiters.items in
    let found = c.in_ok-waiting.ensures.lookup in
    let there : slice_get waiters c.args.at ≡ Some c.in_ok-waiting.waiting.now =
    ap (λ xs. slice_get xs c.args.at) (sym c.deref.ensures.value)
    ∙ slice_get_read c.deref.result.now (length c.deref.result.now) c.args.at c.in_ok-waiting.waiting.now refl
    found.3.0 found.1 in
    sym (ap (λ got. option_map (λ pair. pair.0) (slice_get got c.args.at)) (sym c.self.view_is)
    ∙ got-tokens c.self.inside.gets waiters c.args.at ∙ ap (option_map (λ w. w.token)) there)
