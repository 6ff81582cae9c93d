-- the last entries were handed out
use Rattle.std.proofs.Common.{◌≡◌, ◌+◌, ◌≤◌, ◌++◌, map, reverse, vec_len, vec_capacity}
use Rattle.foyer_session.specs.Step.{first_told, given}
use Rattle.foyer_session.specs.Tokens.{AreUntold}
use Rattle.foyer_session.proofs.HandLemmas.{told_from}
use Rattle.foyer_session.proofs.session.waiters.hand_out_all.Given as goal

abbrev pub invariant-loop-entry : goal.invariant-loop-entry
invariant-loop-entry g l = record {
  handles : l.handles.items ++ reverse (map given l.entries.items) ≡ l.fn.handles.items
      ++ reverse (map given l.fn.entries.items);
  told : told_from l.told l.entries.items ≡ first_told l.fn.entries.items;
  untold : AreUntold l.entries.items;
  room : vec_len l.handles + vec_len l.entries ≤ vec_capacity l.handles;
  capacity : vec_capacity l.handles ≡ vec_capacity l.fn.handles;
}

abbrev pub decreases-loop-entry : goal.decreases-loop-entry
decreases-loop-entry g l = vec_len l.entries
