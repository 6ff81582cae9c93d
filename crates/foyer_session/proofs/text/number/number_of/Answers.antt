use Rattle.std.proofs.Common.{sym, arith, eqb-true, ◌∙◌}
use Rattle.foyer_session.proofs.NumberLemmas.{number_of-other, number_of-stopped, number_of-read, IsFront-more}
use Rattle.foyer_session.proofs.text.number.number_of.Goals as goal

pub returns-then-is_empty : goal.returns-then-is_empty
returns-then-is_empty c =
    sym (number_of-other c.args.word.now
    (λ number. omega (arith, number.some, eqb-true _ _ (sym c.is_empty.ensures ∙ c.if-is_empty.true))))

pub returns-then-word-gt-MOST_DIGITS : goal.returns-then-word-gt-MOST_DIGITS
returns-then-word-gt-MOST_DIGITS c =
    sym (number_of-other c.args.word.now (λ number. omega (arith, number.short, c.if-word-gt-MOST_DIGITS.true)))

pub returns-in_default : goal.returns-in_default
returns-in_default c =
    sym (number_of-stopped c.args.word.now c.loop-byte.byte-index c.loop-byte.value c.loop-byte-test.true
    c.loop-byte.invariant.2 c.in_default.ensures)

pub loop-byte-preserved : goal.loop-byte-preserved
loop-byte-preserved c = (
  c.loop-byte.invariant.0,
  c.loop-byte.invariant.1,
  IsFront-more c.args.word.now c.loop-byte.byte-index c.loop-byte.value c.in-Some.more c.loop-byte-test.true
      c.loop-byte.invariant.2 c.in-Some.ensures,
)

pub returns : goal.returns
returns c = number_of-read c.args.word.now c.loop-byte.byte-index c.loop-byte.value c.loop-byte.invariant.0
    c.loop-byte.invariant.1 c.loop-byte-test.false c.loop-byte.invariant.2
