use Rattle.std.proofs.Common.{sym, ap, length, ◌∙◌, eqb-true}
use Rattle.std.proofs.lemmas.List.{take_rest}
use Rattle.foyer_session.proofs.WordLemmas.{words-spaces, words-next, some_from_test}
use Rattle.foyer_session.proofs.text.parse.next_word.Goals as goal

pub returns-then-is_empty-clause-none : goal.returns-then-is_empty-clause-none
returns-then-is_empty-clause-none c =
    let rest = take_rest c.args.bytes.now c.spaces_len.result in
    words-spaces c.spaces_len.result c.args.bytes.now c.spaces_len.ensures.spaces
    (ap length (sym rest) ∙ eqb-true _ _ (sym c.is_empty.ensures ∙ c.if-is_empty.true))

pub returns-clause-some : goal.returns-clause-some
returns-clause-some c =
    words-next c.spaces_len.result c.len_before.result c.args.bytes.now _ c.split_at.result.0.now
    c.split_at.result.1.now
    (take_rest c.args.bytes.now c.spaces_len.result) c.spaces_len.ensures.spaces c.spaces_len.ensures.end
    (some_from_test _ _ c.is_empty.ensures c.if-is_empty.false)
    c.len_before.ensures.within c.len_before.ensures.before c.len_before.ensures.end c.split_at.ensures.front
    c.split_at.ensures.back
