use Rattle.std.proofs.Common.{◌∙◌, sym, inr}
use Rattle.foyer_core.specs.Questions.{IsTold}
use Rattle.foyer_core.specs.Values.{Kept}
use Rattle.foyer_core.proofs.Residents.{none_listed, passed, passed_by}
use Rattle.foyer_core.proofs.SlotLemmas.{Contains-entries}
use Rattle.foyer_core.proofs.store.Store.tell_by_slot.Goals as goal

pub loop-slot-init : goal.loop-slot-init
loop-slot-init g c n x there res =
    let s = c.args.self.now in
    let all = c.into_iter-slot-iterator.ensures.into_iter_gives ∙ c.iter-slot-items.ensures in
    inr (rw all ((Contains-entries s.records.slots n x).1 there))

pub loop-slot-preserved-then-is_resident : goal.loop-slot-preserved-then-is_resident
loop-slot-preserved-then-is_resident g c n x there res =
    let told : IsTold g.F.Fn c.args.tell.now c.in-Some.slot.now.kept.key c.in-Some.slot.now.kept.value = record {
      shown_key = _;
      shown_value = _;
      shows = (c.key.ensures, c.value.ensures);
      ends = record { met = c.tell.ensures };
    } in
    passed (λ (y : Kept g.row.K.Denot g.row.V.Denot g.row.P.Denot). IsTold g.F.Fn c.args.tell.now y.kept.key
    y.kept.value)
    c.loop-slot.slot-iterator c.next.new.self (c.in-Some.field-0-0, c.in-Some.slot.now) c.in-Some.ensures.steps n x
    told (c.loop-slot.invariant n x there res)

pub loop-slot-preserved : goal.loop-slot-preserved
loop-slot-preserved g c n x there res =
    passed_by
    (λ (y : Kept g.row.K.Denot g.row.V.Denot g.row.P.Denot). IsTold g.F.Fn c.args.tell.now y.kept.key y.kept.value)
    c.loop-slot.slot-iterator c.next.new.self (c.in-Some.field-0-0, c.in-Some.slot.now) c.in-Some.ensures.steps n x
    res (sym c.is_resident.ensures ∙ c.if-is_resident.false) (c.loop-slot.invariant n x there res)

pub returns : goal.returns
returns g c n x there res =
    none_listed (IsTold g.F.Fn c.args.tell.now x.kept.key x.kept.value) c.loop-slot.slot-iterator (n, x)
    c.in-None.ensures.steps.0 (c.loop-slot.invariant n x there res)
