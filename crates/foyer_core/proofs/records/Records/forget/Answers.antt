use Rattle.std.proofs.Common.{◌≡◌, ℕ, subst, nat_eq, None}
use Rattle.std.specs.Map.{update}
use Rattle.foyer_core.specs.Records.{slot_in, number_of}
use Rattle.foyer_core.specs.Slots.{get}
use Rattle.foyer_core.specs.Ids.{slot_of}
use Rattle.foyer_core.proofs.TableLemmas.{forget_table, forget_records}
use Rattle.foyer_core.proofs.records.Records.forget.Goals as goal

pub invariant_of-self : goal.invariant_of-self
invariant_of-self g c = record {
  agree = forget_table (slot_in c.args.self.now) (get c.remove-found.new.self) (number_of c.args.self.now)
      (slot_of c.remove.new.self) c.args.slot c.args.self.now.agree c.remove-found.result c.remove-found.ensures.value
      c.remove-found.ensures.slots
      (subst (λ (n : ℕ). (q : ℕ) → slot_of c.remove.new.self q ≡ update nat_eq (number_of c.args.self.now) n None q)
      c.id.ensures c.remove.ensures.ids);
}

pub returns-clause-records : goal.returns-clause-records
returns-clause-records g c = forget_records (slot_in c.args.self.now) (get c.remove-found.new.self)
    (number_of c.args.self.now) (slot_of c.remove.new.self) c.args.slot c.args.self.now.agree c.remove-found.result
    c.remove-found.ensures.value
    c.remove-found.ensures.slots
    (subst (λ (n : ℕ). (q : ℕ) → slot_of c.remove.new.self q ≡ update nat_eq (number_of c.args.self.now) n None q)
    c.id.ensures c.remove.ensures.ids)
