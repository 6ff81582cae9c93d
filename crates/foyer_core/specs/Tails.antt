-- What contracts see of the last words of an entry.
use Rattle.std.specs.Prelude.{Option, None, Some}
use Rattle.std.specs.Arc.{arc_value}
use Rattle.foyer_policy.specs.declared.types.Source.{Source}
use Rattle.foyer_core.specs.declared.entry.tail.Tail.{Tail}
use Rattle.foyer_core.specs.declared.entry.tail.Tail.TheVariants.{Alone, Shared}
use Rattle.foyer_core.specs.declared.share.Body.{Body}

-- where the entry came from
abbrev pub source_of : {K V P : Type 0} → Tail K V P → Source
source_of (Alone source _ _) = source
source_of (Shared source _ _ _) = source

-- the share for its leave
abbrev pub share_of : {K V P : Type 0} → Tail K V P → Option (Body K V P)
share_of (Alone _ _ _) = None
share_of (Shared _ _ _ share) = Some (arc_value share)
