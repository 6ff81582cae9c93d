use Rattle.foyer_policy.proofs.NotingLemmas.{written-again}
use Rattle.foyer_policy.proofs.dated_lists.noting.note_slot_at.Goals as goal

pub returns : goal.returns
returns g c = written-again g.row.N c.args.lists.now c.get_mut.ensures.apart c.args.place
    c.get_mut.result.now c.set_slot.new.self c.get_mut.ensures.value c.set_slot.ensures
