use Rattle.std.proofs.Common.{ap}
use Rattle.std.specs.Prelude.{option_and_then}
use Rattle.foyer_core.specs.Inflight.{numbers_in}
use Rattle.foyer_core.specs.Slots.{get}
use Rattle.foyer_core.proofs.InflightLemmas.{led_none}
use Rattle.foyer_core.proofs.inflight.InflightManager.is_empty.Goals as goal

pub returns : goal.returns
returns g c =
    let s = c.args.self.now in (
      λ yes q. ap (option_and_then (get s.inflights)) (c.is_empty.ensures.0 yes q),
      λ none. c.is_empty.ensures.1 (λ q. led_none (get s.inflights) (numbers_in s.index q) (s.linked.led q) (none q)),
    )
