use Rattle.std.proofs.Common.{sym, ◌∙◌}
use Rattle.std.specs.Prelude.{count_ones}
use Rattle.std.proofs.lemmas.Bool.{eqb-true}
use Rattle.foyer_core.proofs.Masks.{masked}
use Rattle.foyer_core.proofs.cache_core.shards.part_of.Goals as goal

pub returns-then-is_power_of_two : goal.returns-then-is_power_of_two
returns-then-is_power_of_two c = masked c.args.hash c.args.shards
    (eqb-true (count_ones c.args.shards) 1 (sym c.is_power_of_two.ensures ∙ c.if-is_power_of_two.true))
