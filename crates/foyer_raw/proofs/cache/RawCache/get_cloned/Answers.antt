use Rattle.std.proofs.Common.{Ok, rules}
use Rattle.foyer_raw.proofs.Looked.{live_as}
use Rattle.foyer_raw.proofs.cache.RawCache.get_cloned.Goals as goal

pub returns-in-Some-Ok : goal.returns-in-Some-Ok
returns-in-Some-Ok g c = live_as g.K.PartialEq.eq g.P.Properties.expiry_of c.args.now c.args.key.now _ g.V.Clone.is_clone
    (Ok c.in-Some-Ok.clone) c.in-Some-Ok.clone (λ v h. search rules) (rw (c.in-Some-Ok.is, c.in-Some-Ok.field-0-is) at c.in_ok-clone.ensures)
