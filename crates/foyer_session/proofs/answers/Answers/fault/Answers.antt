use Rattle.std.proofs.Common.{◌≡◌, Err, sym, ap, ◌∙◌, refl, subst, inl, inr}
use Rattle.std.specs.Prelude.{All}
use Rattle.foyer_session.specs.Tokens.{got_by, IsNoFault, numbers_of}
use Rattle.foyer_session.proofs.AnswerLemmas.{each_gets-all, fine_gets}
use Rattle.foyer_session.proofs.answers.Answers.fault.Goals as goal

pub returns-in-Fault-clause-some : goal.returns-in-Fault-clause-some
returns-in-Fault-clause-some c =
    let tokens = numbers_of c.self.inside.waiters.items in
    subst (All (λ got. got.1 ≡ Err c.in-Fault.error))
    (ap (λ gets. got_by gets tokens) (sym c.in-Fault.is) ∙ c.self.view_is)
    (each_gets-all (λ got. got ≡ Err c.in-Fault.error) (Err c.in-Fault.error) tokens refl)

pub returns-in-Handles-clause-none : goal.returns-in-Handles-clause-none
returns-in-Handles-clause-none c = subst (All (λ got. IsNoFault got.1)) c.self.view_is
    (fine_gets c.self.inside.gets (numbers_of c.self.inside.waiters.items)
    (inl (c.in-Handles.field-0, c.in-Handles.is)))

pub returns-in-Nothing-clause-none : goal.returns-in-Nothing-clause-none
returns-in-Nothing-clause-none c = subst (All (λ got. IsNoFault got.1)) c.self.view_is
    (fine_gets c.self.inside.gets (numbers_of c.self.inside.waiters.items) (inr c.in-Nothing.is))
