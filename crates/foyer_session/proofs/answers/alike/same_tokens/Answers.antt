use Rattle.std.proofs.Common.{nat_eq, ◌∙◌}
use Rattle.foyer_session.proofs.AlikeLemmas.{and_true, tokens_eq}
use Rattle.foyer_session.proofs.answers.alike.same_tokens.Goals as goal

pub returns : goal.returns
returns c = c.eq.ensures ∙ tokens_eq _ (λ x y. and_true (nat_eq x.token y.token)) c.args.waiters.now c.args.others.now
