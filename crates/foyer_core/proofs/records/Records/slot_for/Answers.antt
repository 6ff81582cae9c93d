use Rattle.std.proofs.Common.{sym, ◌∙◌, ap, arith}
use Rattle.std.specs.Prelude.{option_and_then, option_map}
use Rattle.foyer_core.specs.Records.{slot_in}
use Rattle.foyer_core.specs.Table.{rec_of}
use Rattle.foyer_core.proofs.SlotLemmas.{within_there}
use Rattle.foyer_core.proofs.TableLemmas.{named_is}
use Rattle.foyer_core.proofs.records.Records.slot_for.Goals as goal

pub returns-in-Some-clause-within : goal.returns-in-Some-clause-within
returns-in-Some-clause-within g c = λ id stands.
    let t = c.args.self.now in
    let n = c.in-Some.slot in
    let s = named_is (slot_in t n) id (t.agree.named id n (sym stands ∙ c.in-Some.is)) in
    omega (arith, within_there t.slots.slots n s.0 s.1)

pub returns-in-Some-clause-here : goal.returns-in-Some-clause-here
returns-in-Some-clause-here g c = λ id stands. ap (λ o. option_map rec_of (option_and_then (slot_in c.args.self.now) o))
    (sym stands ∙ c.in-Some.is)

pub returns-in-None-clause-here : goal.returns-in-None-clause-here
returns-in-None-clause-here g c = λ id stands. ap (λ o. option_map rec_of (option_and_then (slot_in c.args.self.now) o))
    (sym stands ∙ c.in-None.is)
    ∙ sym (ap (option_map rec_of) c.next_slot.ensures.free)
