use Rattle.foyer_policy.specs.declared.error.Reason.TheVariants.{NoMemory}
use Rattle.foyer_core.specs.Values.{Incoming, incoming_of}
use Rattle.foyer_core.specs.Steps.{RefusesInsert}
use Rattle.foyer_core.specs.State.{at_moment, is_phantom_record}
use Rattle.foyer_core.specs.Stores.{meaning_of, state_of}
use Rattle.foyer_core.proofs.Moments.{may_at}
use Rattle.foyer_core.proofs.Returning.{memory_refuses}
use Rattle.foyer_core.proofs.Told.{goes_start}
use Rattle.foyer_core.proofs.store.Store.emplace_slot.Goals as goal

pub returns-in_default-clause-inserted : goal.returns-in_default-clause-inserted
returns-in_default-clause-inserted g c =
    let s = c.args.self.now in
    let m = at_moment c.args.now (meaning_of s) in
    let inc : Incoming g.row.K.Denot g.row.V.Denot g.row.P.Denot = incoming_of c.args.slot in
    rw c.new.ensures
    (goes_start c.args.leaves.now.items (λ ls. RefusesInsert m (state_of s) inc NoMemory ls (state_of s))
    (memory_refuses m (state_of s) inc
    (may_at (meaning_of s) c.args.now (is_phantom_record m inc.kept) (state_of s) inc c.requires.may)))

pub returns-in_default-entry-clause-inserted : goal.returns-in_default-entry-clause-inserted
returns-in_default-entry-clause-inserted g c =
    let s = c.args.self.now in
    let m = at_moment c.args.now (meaning_of s) in
    let inc : Incoming g.row.K.Denot g.row.V.Denot g.row.P.Denot = incoming_of c.args.slot in
    rw c.new-in_default-entry.ensures
    (goes_start c.args.leaves.now.items (λ ls. RefusesInsert m (state_of s) inc NoMemory ls (state_of s))
    (memory_refuses m (state_of s) inc
    (may_at (meaning_of s) c.args.now (is_phantom_record m inc.kept) (state_of s) inc c.requires.may)))

pub returns-in-Some-insert_slot-clause-inserted : goal.returns-in-Some-insert_slot-clause-inserted
returns-in-Some-insert_slot-clause-inserted g c = rw (c.set_slot.ensures, c.in-Some.ensures)
    (c.in-Some-insert_slot.ensures.inserted c.args.source)

pub returns-in-None-clause-inserted : goal.returns-in-None-clause-inserted
returns-in-None-clause-inserted g c = rw c.new-in-None.ensures (c.in-None.ensures.inserted c.args.source)
