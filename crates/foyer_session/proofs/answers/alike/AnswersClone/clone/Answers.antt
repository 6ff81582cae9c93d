use Rattle.std.proofs.Common.{ap, subst, ◌∙◌}
use Rattle.foyer_session.specs.Alike.{SameAnswers}
use Rattle.foyer_session.specs.Tokens.{got_by, numbers_of}
use Rattle.foyer_session.proofs.AlikeLemmas.{same_answers}
use Rattle.foyer_session.proofs.answers.alike.AnswersClone.clone.Goals as goal

pub returns : goal.returns
returns c = record {
  cases = subst (λ got. SameAnswers got (got_by c.in_ok-gets.gets (numbers_of c.in_ok-waiters.waiters.items)))
      c.self.view_is
      (same_answers c.self.inside.gets c.in_ok-gets.gets c.self.inside.waiters.items c.in_ok-waiters.waiters.items
      c.in_ok-gets.ensures
      (c.in_ok-waiters.ensures.items_if_clones_equal
      (λ x y same. ap (λ n. record { token = n; waiter = tt }) same.0) ∙ c.as_slice.ensures.value));
}
