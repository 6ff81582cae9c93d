use Rattle.std.proofs.Common.{refl, ap}
use Rattle.std.specs.Prelude.{option_and_then}
use Rattle.foyer_core.specs.Inflight.{no_opens, numbers_in, opens_by}
use Rattle.foyer_core.specs.Slots.{get}
use Rattle.foyer_core.proofs.InflightLemmas.{open_empty, same_opens}
use Rattle.foyer_core.proofs.inflight.InflightManager.new.Goals as goal

pub invariant_of-result-clause-sound : goal.invariant_of-result-clause-sound
invariant_of-result-clause-sound g c = open_empty (opens_by (numbers_in c.new.result) (get c.new-2.result) 0 0)
    (λ q. ap (option_and_then (get c.new-2.result)) (c.new.ensures q))

pub returns : goal.returns
returns g c = same_opens (opens_by (numbers_in c.new.result) (get c.new-2.result) 0 0) no_opens
    (λ q. ap (option_and_then (get c.new-2.result)) (c.new.ensures q)) refl refl
