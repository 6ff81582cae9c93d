use Rattle.std.proofs.Common.{◌≡◌, ap, true}
use Rattle.foyer_core.specs.Cores.{fetches_of, hashes_of}
use Rattle.foyer_core.proofs.Sound.{core_sound}
use Rattle.foyer_session.specs.Sessions.{session_of, terms_of}
use Rattle.foyer_session.proofs.CoreLemmas.{open_at}
use Rattle.foyer_session.proofs.LedgerCalls.{call_answered, call_settled}
use Rattle.foyer_session.proofs.ToldLemmas.{step_told}
use Rattle.foyer_session.proofs.WaitsLemmas.{place_waits}
use Rattle.foyer_session.proofs.session.Session.step.Goals as goal

pub returns-clause-step : goal.returns-clause-step
returns-clause-step g c = rw (c.in_ok-ready.ensures.command, c.make_room.ensures.session) at c.carry_out.ensures.step

pub returns-clause-told : goal.returns-clause-told
returns-clause-told g c =
    let s = c.args.self.now in
    let equal : (a b : g.row.K.Denot) → g.K.PartialEq.eq a b ≡ true → hashes_of s.core a ≡ hashes_of s.core b =
    λ a b same. ap (g.S.HashBuilder.hash_of s.core.hash_builder) (g.met.K.Hash.respects_eq a b same) in
    step_told (terms_of s) g.met.K.Eq.laws g.met.E.Eviction.lawful (session_of s) (session_of c.carry_out.new.self)
    equal (core_sound s.core g.met.K.Eq.laws g.met.E.Eviction.lawful equal)
    (place_waits g.K.PartialEq.eq (fetches_of s.core) (open_at s.core))
    g.Q.Predicate.picks c.in_ok-ready.ready.command c.carry_out.result
    (rw c.make_room.ensures.session at c.carry_out.ensures.step)

pub returns-clause-settled : goal.returns-clause-settled
returns-clause-settled g c =
    call_settled g.met.K.Eq.laws c.args.self.now g.Q.Predicate.picks (session_of c.carry_out.new.self) c.args.command
    c.carry_out.result
    (rw (c.in_ok-ready.ensures.command, c.make_room.ensures.session) at c.carry_out.ensures.step)

pub returns-clause-answered : goal.returns-clause-answered
returns-clause-answered g c =
    call_answered g.met.K.Eq.laws c.args.self.now g.Q.Predicate.picks (session_of c.carry_out.new.self) c.args.command
    c.carry_out.result
    (rw (c.in_ok-ready.ensures.command, c.make_room.ensures.session) at c.carry_out.ensures.step)
