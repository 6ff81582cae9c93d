use Rattle.std.proofs.Common.{◌++◌, ap, ◌∙◌, arith}
use Rattle.foyer_session.proofs.HandLemmas.{alike_back, alike_untold}
use Rattle.foyer_session.proofs.session.waiters.answer_all.Goals as goal

pub hand_out_all-record-requires-clause-untold : goal.hand_out_all-record-requires-clause-untold
hand_out_all-record-requires-clause-untold g c =
    (let alike = c.requires.alike in alike_untold c.in-Entries.entries.items (rw c.in-Entries.is at alike))

pub returns-in-Entries-clause-handles : goal.returns-in-Entries-clause-handles
returns-in-Entries-clause-handles g c =
    let alike = c.requires.alike in
    let back = alike_back c.in-Entries.entries.items (rw c.in-Entries.is at alike) in
    rw c.in-Entries.is (c.hand_out_all-record.ensures.handles ∙ ap (λ l. c.args.handles.now.items ++ l) back)
