-- What a missing answer of a record's properties counts as.
use Rattle.std.specs.Prelude.{Bool, false, Option, unwrap_or}
use Rattle.foyer_policy.specs.declared.types.Hint.{Hint}
use Rattle.foyer_policy.specs.declared.types.Hint.TheVariants.{Normal}

-- whether the record is a phantom: only where its properties say so
abbrev pub is_phantom : Option Bool → Bool
is_phantom answer = unwrap_or answer false

-- the hint to the policy, which is normal where none was given
abbrev pub hint_or_normal : Option Hint → Hint
hint_or_normal answer = unwrap_or answer Normal
