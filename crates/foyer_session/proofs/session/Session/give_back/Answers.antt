use Rattle.std.proofs.Math.Logic.{∥∥₁_elim, ∥∥₁_map}
use Rattle.std.proofs.Props.{props}
use Rattle.std.proofs.Common.{None, ap, arith, length, refl, sym, ◌∙◌}
use Rattle.std.proofs.lemmas.List.{length-set}
use Rattle.std.proofs.lemmas.Bool.{false≢true}
use Rattle.foyer_core.specs.Cores.{core_of, fetches_of}
use Rattle.foyer_session.specs.Sessions.{meaning_of_session}
use Rattle.foyer_session.proofs.OwnLemmas.{owned_entry}
use Rattle.foyer_session.proofs.StepLemmas.{gave_back_owns}
use Rattle.foyer_session.proofs.WaitsLemmas.{still_waiting}
use Rattle.foyer_session.proofs.session.Session.give_back.Goals as goal

pub invariant_of-self-2 : goal.invariant_of-self-2
invariant_of-self-2 g c =
    let s = c.args.self.now in
    let held = sym c.take.ensures.entry ∙ c.in-Some.is in
    record {
      owns = rw c.take.ensures.handles (∥∥₁_map s.owns (λ o.
          gave_back_owns (meaning_of_session s) (core_of s.core) (core_of c.give_back.new.self) s.handles.items o
          c.args.number c.in-Some.entry c.give_back.result held
          (c.give_back.ensures.owned.1) c.give_back.ensures.taken));
      waits = (let s = c.args.self.now in still_waiting (fetches_of s.core) (fetches_of c.give_back.new.self)
          s.waiting c.give_back.ensures.fetches s.waits);
      room = omega (
        arith,
        s.room,
        ap length c.take.ensures.handles,
        length-set s.handles.items c.args.number None,
        c.take.ensures.capacity,
        s.handles.ok.0,
        c.take.new.handles.ok.0,
      );
    }

pub unreachable-requires : goal.unreachable-requires
unreachable-requires g c =
    let s = c.args.self.now in
    let held = sym c.take.ensures.entry ∙ c.in-Some.is in
    ∥∥₁_elim s.owns (hlevel props)
    (λ o. false≢true
    (c.in-Err.ensures.owned.1
    (owned_entry (core_of s.core) s.handles.items c.args.number c.in-Some.entry o held)))

pub returns-clause-step : goal.returns-clause-step
returns-clause-step g c =
    let held = sym c.take.ensures.entry ∙ c.in-Some.is in
    rw (c.new-in-Ok.ensures.answer, c.new-in-Ok.ensures.leaves) (
      c.in-Some.entry,
      c.in-Ok.leave,
      held,
      c.in-Ok.ensures.taken,
      c.take.ensures.handles,
      refl,
      c.give_back.ensures.fetches,
      c.with_leave.ensures,
    )
