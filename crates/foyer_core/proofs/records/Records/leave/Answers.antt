use Rattle.std.proofs.Common.{◌≡◌, Some, refl, sym, ◌∙◌, ap, nat_eq, false}
use Rattle.std.specs.Prelude.{◌==◌}
use Rattle.std.specs.Map.{update}
use Rattle.foyer_core.specs.Values.{Kept}
use Rattle.foyer_core.specs.Steps.{outside}
use Rattle.foyer_core.specs.Table.{rec_of}
use Rattle.foyer_core.specs.Records.{slot_in, number_of, record_in}
use Rattle.foyer_core.proofs.SlotLemmas.{write_at}
use Rattle.foyer_core.proofs.TableLemmas.{write_table, write_records, not_zero}
use Rattle.foyer_core.proofs.records.Records.leave.Goals as goal

pub invariant_of-self : goal.invariant_of-self
invariant_of-self g c =
    let there = sym c.in-Some.ensures.value in
    let same : c.leave-left.new.self.id ≡ c.in-Some.found.now.id =
    ap (λ (s : Kept g.row.K.Denot g.row.V.Denot g.row.P.Denot). s.id) c.leave-left.ensures.out in
    record {
      agree = write_table (slot_in c.args.self.now) _ (number_of c.args.self.now) (number_of c.args.self.now)
          c.args.slot c.args.self.now.agree c.in-Some.found.now c.leave-left.new.self there same
          (write_at c.args.self.now.slots c.args.slot c.in-Some.found.now c.leave-left.new.self there) (λ q. refl);
    }

pub returns-then-handles-eq0-clause-room : goal.returns-then-handles-eq0-clause-room
returns-then-handles-eq0-clause-room g c room = c.forget.ensures.room room

pub returns-else-handles-eq0-clause-records : goal.returns-else-handles-eq0-clause-records
returns-else-handles-eq0-clause-records g c s is id =
    let here : slot_in c.args.self.now c.args.slot ≡ Some c.in-Some.found.now = sym c.in-Some.ensures.value in
    let id_same : c.leave-left.new.self.id ≡ c.in-Some.found.now.id =
    ap (λ (s : Kept g.row.K.Denot g.row.V.Denot g.row.P.Denot). s.id) c.leave-left.ensures.out in
    let same : c.in-Some.found.now ≡ s = cc in
    let kept : c.leave-left.new.self.handles ≡ c.in-Some.found.now.handles =
    ap (λ (s : Kept g.row.K.Denot g.row.V.Denot g.row.P.Denot). s.handles) c.leave-left.ensures.out in
    let some : (c.in-Some.found.now.handles == 0) ≡ false =
    not_zero c.in-Some.found.now.handles (λ e. c.if-handles-eq0.false (c.handles.ensures ∙ kept ∙ e)) in
    let wrote : Some (rec_of c.leave-left.new.self) ≡ outside (rec_of c.in-Some.found.now) =
    ap (λ (s : Kept g.row.K.Denot g.row.V.Denot g.row.P.Denot). Some (rec_of s)) c.leave-left.ensures.out
    ∙ rw some refl in
    write_records (slot_in c.args.self.now) _ (number_of c.args.self.now) (number_of c.args.self.now) c.args.slot
    c.args.self.now.agree c.in-Some.found.now c.leave-left.new.self here id_same
    (write_at c.args.self.now.slots c.args.slot c.in-Some.found.now c.leave-left.new.self here) (λ q. refl) id
    ∙ ap (λ r. update nat_eq (record_in c.args.self.now) c.in-Some.found.now.id r id) wrote
    ∙ ap (λ (x : Kept g.row.K.Denot g.row.V.Denot g.row.P.Denot). update nat_eq (record_in c.args.self.now) x.id
    (outside (rec_of x)) id) same
