use Rattle.std.proofs.Common.{true, false, nat_eq, ◌∙◌, sym, refl}
use Rattle.std.specs.Cmp.Lexicographic.{pointwise}
use Rattle.foyer_session.specs.Tokens.{numbers_of}
use Rattle.foyer_session.proofs.AlikeLemmas.{answers_eq_is}
use Rattle.foyer_session.proofs.answers.alike.AnswersPartialEq.eq.Goals as goal

pub returns-then-is_empty : goal.returns-then-is_empty
returns-then-is_empty c =
    c.if-is_empty.true ∙
    sym (answers_eq_is _ c.self.inside.gets c.other.inside.gets c.self.inside.waiters.items
    c.other.inside.waiters.items c.args.self.now c.args.other.now true true _
    c.self.view_is c.other.view_is
    (sym c.if-same_tokens.true ∙ c.same_tokens.ensures
    ∙ (λ i. pointwise nat_eq (numbers_of (c.deref.ensures.value i)) (numbers_of (c.deref-2.ensures.value i))))
    (sym c.if-is_empty.true ∙ c.is_empty.ensures) refl)

pub returns-else-is_empty : goal.returns-else-is_empty
returns-else-is_empty c =
    sym (answers_eq_is _ c.self.inside.gets c.other.inside.gets c.self.inside.waiters.items
    c.other.inside.waiters.items c.args.self.now c.args.other.now true false c.equal_gets.result
    c.self.view_is c.other.view_is
    (sym c.if-same_tokens.true ∙ c.same_tokens.ensures
    ∙ (λ i. pointwise nat_eq (numbers_of (c.deref.ensures.value i)) (numbers_of (c.deref-2.ensures.value i))))
    (sym c.if-is_empty.false ∙ c.is_empty.ensures) c.equal_gets.ensures)

pub returns-else-same_tokens : goal.returns-else-same_tokens
returns-else-same_tokens c =
    c.if-same_tokens.false ∙
    sym (answers_eq_is _ c.self.inside.gets c.other.inside.gets c.self.inside.waiters.items
    c.other.inside.waiters.items c.args.self.now c.args.other.now false _ _
    c.self.view_is c.other.view_is
    (sym c.if-same_tokens.false ∙ c.same_tokens.ensures
    ∙ (λ i. pointwise nat_eq (numbers_of (c.deref.ensures.value i)) (numbers_of (c.deref-2.ensures.value i))))
    refl refl)
