use Rattle.std.proofs.Common.{◌≡◌, ℕ, Some, subst, nat_eq}
use Rattle.std.specs.Map.{update}
use Rattle.foyer_core.specs.Records.{slot_in, number_of}
use Rattle.foyer_core.specs.Slots.{get}
use Rattle.foyer_core.specs.Ids.{slot_of}
use Rattle.foyer_core.proofs.TableLemmas.{put_table, put_records}
use Rattle.foyer_core.proofs.records.Records.put_new.Goals as goal

pub invariant_of-self : goal.invariant_of-self
invariant_of-self g c = record {
  agree = put_table (slot_in c.args.self.now) (get c.insert-place.new.self) (number_of c.args.self.now)
      (slot_of c.name.new.self) c.insert-place.result c.args.self.now.agree c.args.slot c.insert-place.ensures.free
      c.requires.new
      c.insert-place.ensures.slots
      (subst (λ (n : ℕ). (q : ℕ) → slot_of c.name.new.self q ≡ update nat_eq (number_of c.args.self.now) n
      (Some c.insert-place.result) q) c.id-id.ensures c.name.ensures);
}

pub returns-clause-records : goal.returns-clause-records
returns-clause-records g c = put_records (slot_in c.args.self.now) (get c.insert-place.new.self)
    (number_of c.args.self.now) (slot_of c.name.new.self) c.insert-place.result c.args.self.now.agree c.args.slot
    c.insert-place.ensures.free c.requires.new
    c.insert-place.ensures.slots
    (subst (λ (n : ℕ). (q : ℕ) → slot_of c.name.new.self q ≡ update nat_eq (number_of c.args.self.now) n
    (Some c.insert-place.result) q) c.id-id.ensures c.name.ensures)
