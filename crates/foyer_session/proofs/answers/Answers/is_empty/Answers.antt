use Rattle.std.proofs.Common.{◌==◌, length, sym, ap, ◌∙◌}
use Rattle.foyer_session.proofs.AnswerLemmas.{got-many}
use Rattle.foyer_session.proofs.answers.Answers.is_empty.Goals as goal

pub returns : goal.returns
returns c = c.is_empty.ensures ∙ ap (λ n. n == 0)
    (c.self.inside.waiters.ok.0 ∙
    sym (ap length (sym c.self.view_is) ∙ got-many c.self.inside.gets c.self.inside.waiters.items))
