use Rattle.std.proofs.Common.{◌≡◌, ℕ, Some, refl, sym, ◌∙◌, ap, nat_eq}
use Rattle.std.specs.Map.{update}
use Rattle.foyer_core.specs.Values.{Kept}
use Rattle.foyer_core.specs.Table.{rec_of}
use Rattle.foyer_core.specs.Records.{slot_in, number_of, record_in}
use Rattle.foyer_core.proofs.SlotLemmas.{write_at}
use Rattle.foyer_core.proofs.TableLemmas.{write_table, write_records}
use Rattle.foyer_core.proofs.records.Records.replace.Goals as goal

pub invariant_of-self : goal.invariant_of-self
invariant_of-self g c =
    let s = c.args.self.now in
    let there : slot_in s c.args.place ≡ Some c.in-Some.found.now = sym c.in-Some.ensures.value in
    let named : c.in-Some.found.now.id ≡ c.args.slot.id = rw there at c.requires in
    let same : c.replace.new.dest.id ≡ c.in-Some.found.now.id =
    ap (λ (x : Kept g.row.K.Denot g.row.V.Denot g.row.P.Denot). x.id) c.replace.ensures.after ∙ sym named in
    record {
      agree = write_table (slot_in s) _ (number_of s) (number_of s) c.args.place s.agree c.in-Some.found.now
          c.replace.new.dest there same (write_at s.slots c.args.place c.in-Some.found.now c.replace.new.dest there)
          (λ q. refl);
    }

pub returns-clause-records : goal.returns-clause-records
returns-clause-records g c id =
    let s = c.args.self.now in
    let there : slot_in s c.args.place ≡ Some c.in-Some.found.now = sym c.in-Some.ensures.value in
    let named : c.in-Some.found.now.id ≡ c.args.slot.id = rw there at c.requires in
    let same : c.replace.new.dest.id ≡ c.in-Some.found.now.id =
    ap (λ (x : Kept g.row.K.Denot g.row.V.Denot g.row.P.Denot). x.id) c.replace.ensures.after ∙ sym named in
    write_records (slot_in s) _ (number_of s) (number_of s) c.args.place s.agree c.in-Some.found.now
    c.replace.new.dest there same (write_at s.slots c.args.place c.in-Some.found.now c.replace.new.dest there)
    (λ q. refl) id
    ∙ ap (λ (x : Kept g.row.K.Denot g.row.V.Denot g.row.P.Denot). update nat_eq (record_in s) c.in-Some.found.now.id
    (Some (rec_of x)) id) c.replace.ensures.after
    ∙ ap (λ (a : ℕ). update nat_eq (record_in s) a (Some (rec_of c.args.slot)) id) named
