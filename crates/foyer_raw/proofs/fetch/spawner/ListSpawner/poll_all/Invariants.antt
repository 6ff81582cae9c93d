use Rattle.std.proofs.Common.{◌-◌, ◌<◌, vec_len}
use Rattle.futures.specs.Task.{IsArmed, Keeps}
use Rattle.foyer_raw.proofs.fetch.spawner.ListSpawner.poll_all.Given as goal

-- each task before the place is pending, and so has armed the context
abbrev pub invariant-loop-place : goal.invariant-loop-place
invariant-loop-place g l = Keeps l.initial.cx l.cx × (0 < l.place → IsArmed l.cx)

abbrev pub decreases-loop-place : goal.decreases-loop-place
decreases-loop-place g l = vec_len l.self.tasks - l.place
