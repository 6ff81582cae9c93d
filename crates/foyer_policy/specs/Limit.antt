-- Ratios of a configuration: when one is refused, and what it is of a capacity.
use Rattle.std.specs.Prelude.{◌==◌, ℕ, ◌-◌, ◌*◌, ◌/◌, ◌^◌, min, Bool, ◌&&◌, Option, Some, None, Result, Ok, Err, nat_lt, nat_le, if◌then◌else◌}
use Rattle.foyer_policy.specs.declared.types.Ratio.{Ratio}
use Rattle.foyer_policy.specs.declared.limit.Range.{Range}
use Rattle.foyer_policy.specs.declared.limit.Range.TheVariants.{Closed, Open}
use Rattle.foyer_policy.specs.declared.error.Field.{Field}
use Rattle.foyer_policy.specs.declared.error.Reason.{Reason}
use Rattle.foyer_policy.specs.declared.error.Reason.TheVariants.{ZeroDenominator, RatioRange}

-- the part of a capacity that a ratio is, rounded down, and cut to the greatest `usize`
abbrev pub limit_of : ℕ → Ratio → ℕ
limit_of capacity ratio = min (capacity * ratio.num / ratio.den) (2 ^ 64 - 1)

-- whether a ratio lies in a range
abbrev pub is_in_range : Range → Ratio → Bool
is_in_range Closed ratio = nat_le ratio.num ratio.den
is_in_range Open ratio = nat_lt 0 ratio.num && nat_lt ratio.num ratio.den

-- the first fault of a field's ratio, which must lie in a range: a denominator of 0 comes first
abbrev pub ratio_fault : Range → Field → Ratio → Option Reason
ratio_fault range field ratio =
    if ratio.den == 0 then Some ZeroDenominator else if is_in_range range ratio then None else Some (RatioRange field)

-- what a test of a configuration answers: its fault, where it has one
abbrev pub ok_unless : Option Reason → Result Unit Reason
ok_unless None = Ok tt
ok_unless (Some reason) = Err reason
