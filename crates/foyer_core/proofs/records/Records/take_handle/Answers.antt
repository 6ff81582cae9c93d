use Rattle.std.proofs.Common.{◌≡◌, ◌-◌, Some, refl, sym, ◌∙◌, ap, nat_eq}
use Rattle.std.specs.Map.{update}
use Rattle.foyer_core.specs.Values.{Kept, Rec}
use Rattle.foyer_core.specs.Table.{rec_of}
use Rattle.foyer_core.specs.Records.{slot_in, number_of, record_in}
use Rattle.foyer_core.proofs.SlotLemmas.{write_at}
use Rattle.foyer_core.proofs.TableLemmas.{write_table, write_records, with_handles}
use Rattle.foyer_core.proofs.records.Records.take_handle.Goals as goal

pub invariant_of-self : goal.invariant_of-self
invariant_of-self g c =
    let there = sym c.in-Some.ensures.value in
    let same : c.take_handle.new.self.id ≡ c.in-Some.found.now.id =
    ap (λ (s : Kept g.row.K.Denot g.row.V.Denot g.row.P.Denot). s.id) c.take_handle.ensures.taken in
    record {
      agree = write_table (slot_in c.args.self.now) _ (number_of c.args.self.now) (number_of c.args.self.now)
          c.args.slot c.args.self.now.agree c.in-Some.found.now c.take_handle.new.self there same
          (write_at c.args.self.now.slots c.args.slot c.in-Some.found.now c.take_handle.new.self there) (λ q. refl);
    }

pub returns-clause-records : goal.returns-clause-records
returns-clause-records g c s is id =
    let here : slot_in c.args.self.now c.args.slot ≡ Some c.in-Some.found.now = sym c.in-Some.ensures.value in
    let id_same : c.take_handle.new.self.id ≡ c.in-Some.found.now.id =
    ap (λ (s : Kept g.row.K.Denot g.row.V.Denot g.row.P.Denot). s.id) c.take_handle.ensures.taken in
    let same : c.in-Some.found.now ≡ s = cc in
    let wrote : rec_of c.take_handle.new.self
    ≡ rec_of (with_handles c.in-Some.found.now (c.in-Some.found.now.handles - 1)) =
    ap rec_of c.take_handle.ensures.taken in
    write_records (slot_in c.args.self.now) _ (number_of c.args.self.now) (number_of c.args.self.now) c.args.slot
    c.args.self.now.agree c.in-Some.found.now c.take_handle.new.self here id_same
    (write_at c.args.self.now.slots c.args.slot c.in-Some.found.now c.take_handle.new.self here) (λ q. refl) id
    ∙ ap (λ (r : Rec g.row.K.Denot g.row.V.Denot g.row.P.Denot). update nat_eq (record_in c.args.self.now)
    c.in-Some.found.now.id (Some r) id) wrote
    ∙ ap (λ (x : Kept g.row.K.Denot g.row.V.Denot g.row.P.Denot). update nat_eq (record_in c.args.self.now) x.id
    (Some (rec_of (with_handles x (x.handles - 1)))) id) same
