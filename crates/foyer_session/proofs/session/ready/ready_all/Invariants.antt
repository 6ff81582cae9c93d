use Rattle.std.proofs.Common.{◌≡◌, map}
use Rattle.foyer_session.proofs.session.ready.ready_all.Given as goal

-- the commands so far are ready
abbrev pub invariant-loop-command : goal.invariant-loop-command
invariant-loop-command g l = map (λ ready. ready.command) l.all.items ≡ l.yielded
