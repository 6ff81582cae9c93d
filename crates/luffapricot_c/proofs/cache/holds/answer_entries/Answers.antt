use Rattle.std.proofs.Common.{◌∙◌, arith, sym}
use Rattle.std.proofs.lemmas.List.{nil_from_length}
use Rattle.luffapricot_c.proofs.HoldLemmas.{each_done}
use Rattle.luffapricot_c.proofs.cache.holds.answer_entries.Goals as goal

pub returns : goal.returns
returns c =
    sym (each_done c.loop-entry.waiters.items c.loop-entry.entries.items c.loop-entry.holds
    (nil_from_length c.loop-entry.entries.items
    (omega (arith, c.loop-entry.entries.ok.0, c.in_default.ensures.cases.0)))) ∙ c.loop-entry.invariant
