use Rattle.foyer_policy.proofs.SketchPasts.{estimates_bounded}
use Rattle.foyer_policy.proofs.sketch.estimates_are_bounded.Goals as goal

pub returns : goal.returns
returns c = estimates_bounded
