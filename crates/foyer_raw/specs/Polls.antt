-- What polls answer.
use Rattle.std.specs.Prelude.{⊤}
use Rattle.futures.specs.declared.task.Poll.{Poll}
use Rattle.futures.specs.Poll.{OnPending}

-- any answer may come after it that might have come before it
abbrev pub GivesAny : {A : Type 0} → Poll A → Type 0
GivesAny {A} p = OnPending p (A → ⊤ → ⊤)
