use Rattle.std.proofs.Common.{◌≡◌, rules}
use Rattle.foyer_raw.proofs.Looked.{looked_as}
use Rattle.foyer_raw.proofs.cache.RawCache.get_copied.Goals as goal

pub returns : goal.returns
returns g c = looked_as g.K.PartialEq.eq g.P.Properties.expiry_of c.args.now c.args.key.now _ (λ value copy. copy ≡ value)
    c.read.result (λ v t h. search rules) c.read.ensures
