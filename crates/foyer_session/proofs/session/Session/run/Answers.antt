use Rattle.std.proofs.Common.{◌≡◌, length, map, true, sym, ap, ◌∙◌, arith, append_assoc}
use Rattle.std.proofs.lemmas.List.{length-map}
use Rattle.foyer_core.specs.Cores.{fetches_of, hashes_of}
use Rattle.foyer_core.proofs.Sound.{core_sound}
use Rattle.foyer_session.specs.Sessions.{session_of, terms_of}
use Rattle.foyer_session.proofs.CoreLemmas.{open_at}
use Rattle.foyer_session.proofs.LedgerCalls.{call_answered_more, call_settled_more, call_settled_none}
use Rattle.foyer_session.proofs.RunLemmas.{Run-more, all_yielded}
use Rattle.foyer_session.proofs.ToldLemmas.{step_told, told_more, told_none}
use Rattle.foyer_session.proofs.WaitsLemmas.{place_waits}
use Rattle.foyer_session.proofs.session.Session.run.Goals as goal

pub loop-ready-init : goal.loop-ready-init
loop-ready-init g c =
    let all : c.into_iter-ready-iterator.result.rest.items ≡ c.in_ok-all.all.items =
    c.into_iter-ready-iterator.ensures.into_iter_gives.0 in
    let commands = ap (map (λ ready. ready.command)) all ∙ c.in_ok-all.ensures.commands in
    let count : length c.into_iter-ready-iterator.result.rest.items ≡ length c.args.commands.items =
    sym (length-map c.into_iter-ready-iterator.result.rest.items (λ ready. ready.command)) ∙ ap length commands in
    record {
      run = rw c.in-Ok.ensures.items c.make_room.ensures.session;
      told = rw c.in-Ok.ensures.items
          (told_none (terms_of c.args.self.now) (session_of c.args.self.now) (session_of c.make_room.new.self)
          c.make_room.ensures.session);
      settled = rw c.in-Ok.ensures.items
          (call_settled_none g.met.K.Eq.laws c.args.self.now _ (session_of c.make_room.new.self)
          c.make_room.ensures.session);
      answered = tt;
      commands = commands;
      handles = omega (arith, count, c.in_ok-make_room.ensures.handles, c.len-count.ensures, c.args.commands.ok.0);
      pieces = omega (arith, count, c.in_ok-make_room.ensures.pieces, c.len-count.ensures, c.args.commands.ok.0);
      replies =
          omega (
            arith,
            count,
            c.in-Ok.ensures.len,
            c.in-Ok.ensures.capacity,
            c.len-count.ensures,
            c.args.commands.ok.0,
          );
    }

pub loop-ready-preserved : goal.loop-ready-preserved
loop-ready-preserved g c =
    let inv = c.loop-ready.invariant in
    let rest = c.in-Some.ensures.steps.0 in
    let one = ap length rest in
    let now = c.loop-ready.self in
    let equal : (a b : g.row.K.Denot) → g.K.PartialEq.eq a b ≡ true → hashes_of now.core a ≡ hashes_of now.core b =
    λ a b same. ap (g.S.HashBuilder.hash_of now.core.hash_builder) (g.met.K.Hash.respects_eq a b same) in
    record {
      run = rw c.push_reserved.ensures.items (Run-more (terms_of c.args.self.now) g.Q.Predicate.picks
          (λ ready. ready.command) (session_of c.args.self.now) c.loop-ready.yielded c.loop-ready.replies.items
          (session_of c.loop-ready.self) c.in-Some.ready c.carry_out-reply.result
          (session_of c.carry_out-reply.new.self) inv.run c.carry_out-reply.ensures.step);
      told = rw c.push_reserved.ensures.items
          (told_more (terms_of c.args.self.now) (session_of c.args.self.now) (session_of now)
          (session_of c.carry_out-reply.new.self) c.loop-ready.replies.items
          c.carry_out-reply.result inv.told
          (step_told (terms_of now) g.met.K.Eq.laws g.met.E.Eviction.lawful (session_of now)
          (session_of c.carry_out-reply.new.self) equal
          (core_sound now.core g.met.K.Eq.laws g.met.E.Eviction.lawful equal)
          (place_waits g.K.PartialEq.eq (fetches_of now.core) (open_at now.core))
          g.Q.Predicate.picks c.in-Some.ready.command c.carry_out-reply.result c.carry_out-reply.ensures.step));
      settled = rw c.push_reserved.ensures.items
          (call_settled_more g.met.K.Eq.laws c.args.self.now now g.Q.Predicate.picks (λ ready. ready.command)
          c.loop-ready.yielded c.loop-ready.replies.items
          c.in-Some.ready c.carry_out-reply.result (session_of c.carry_out-reply.new.self) inv.run inv.settled
          c.carry_out-reply.ensures.step);
      answered = rw c.push_reserved.ensures.items
          (call_answered_more g.met.K.Eq.laws c.args.self.now now g.Q.Predicate.picks (λ ready. ready.command)
          c.loop-ready.yielded c.loop-ready.replies.items
          c.in-Some.ready c.carry_out-reply.result (session_of c.carry_out-reply.new.self) inv.run inv.settled
          c.carry_out-reply.ensures.step inv.answered);
      commands = rw append_assoc (rw rest at inv.commands);
      handles = omega (arith, inv.handles, one, c.carry_out-reply.ensures.taken, c.carry_out-reply.ensures.capacity);
      pieces = omega
          (arith, inv.pieces, one, c.carry_out-reply.ensures.pieces_len, c.carry_out-reply.ensures.pieces_capacity);
      replies = omega (arith, inv.replies, one, c.push_reserved.ensures.len, c.push_reserved.ensures.capacity);
    }

pub returns-clause-run : goal.returns-clause-run
returns-clause-run g c =
    let inv = c.loop-ready.invariant in
    let rest = c.loop-ready.ready-iterator.rest in
    rw (all_yielded (λ ready. ready.command) c.loop-ready.yielded rest.items c.args.commands.items
    (sym rest.ok.0 ∙ c.in-None.ensures.steps.0) inv.commands) at inv.run

pub returns-clause-settled : goal.returns-clause-settled
returns-clause-settled g c =
    let inv = c.loop-ready.invariant in
    let rest = c.loop-ready.ready-iterator.rest in
    rw (all_yielded (λ ready. ready.command) c.loop-ready.yielded rest.items c.args.commands.items
    (sym rest.ok.0 ∙ c.in-None.ensures.steps.0) inv.commands) at inv.settled

pub returns-clause-answered : goal.returns-clause-answered
returns-clause-answered g c =
    let inv = c.loop-ready.invariant in
    let rest = c.loop-ready.ready-iterator.rest in
    rw (all_yielded (λ ready. ready.command) c.loop-ready.yielded rest.items c.args.commands.items
    (sym rest.ok.0 ∙ c.in-None.ensures.steps.0) inv.commands) at inv.answered
