use Rattle.std.proofs.Common.{◌≡◌, ◌+◌, ◌*◌, ◌≤◌, ◌++◌, length, map, vec_len, vec_capacity}
use Rattle.foyer_session.specs.Ledger.{AreAnswered, IsSettled}
use Rattle.foyer_session.specs.Observed.{IsTold}
use Rattle.foyer_session.specs.Run.{Run}
use Rattle.foyer_session.specs.Sessions.{session_of, taken, terms_of}
use Rattle.foyer_session.proofs.session.Session.run.Given as goal

-- the replies so far are a run of the commands so far and tell the index, and there is room for the rest
abbrev pub invariant-loop-ready : goal.invariant-loop-ready
invariant-loop-ready g l = record {
  run : Run (terms_of l.fn.self) g.Q.Predicate.picks (session_of l.fn.self)
      (map (λ ready. ready.command) l.yielded) l.replies.items (session_of l.self);
  told : IsTold (terms_of l.fn.self) (session_of l.fn.self) l.replies.items (session_of l.self);
  settled : IsSettled (terms_of l.fn.self) (session_of l.fn.self) (map (λ ready. ready.command) l.yielded)
      l.replies.items (session_of l.self);
  answered : AreAnswered (terms_of l.fn.self) (session_of l.fn.self) (map (λ ready. ready.command) l.yielded)
      l.replies.items (session_of l.self);
  commands : map (λ ready. ready.command) (l.yielded ++ l.ready-iterator.rest.items) ≡ l.fn.commands.items;
  handles : taken l.self + 2 * length l.ready-iterator.rest.items ≤ vec_capacity l.self.handles;
  pieces : vec_len l.self.pieces + length l.ready-iterator.rest.items ≤ vec_capacity l.self.pieces;
  replies : vec_len l.replies + length l.ready-iterator.rest.items ≤ vec_capacity l.replies;
}
