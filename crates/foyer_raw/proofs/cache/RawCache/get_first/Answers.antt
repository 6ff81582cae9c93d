use Rattle.std.proofs.Common.{◌≡◌, true, false}
use Rattle.foyer_policy.specs.Moments.{is_expired}
use Rattle.foyer_core.specs.Values.{Held}
use Rattle.foyer_raw.proofs.Entered.{entry_so}
use Rattle.foyer_raw.proofs.cache.RawCache.get_first.Goals as goal

pub returns-clause-key : goal.returns-clause-key
returns-clause-key g c = entry_so
    (λ (e : Held g.row.K.Denot g.row.V.Denot g.row.P.Denot). g.K.PartialEq.eq c.args.key.1 e.kept.key ≡ true)
    c.get_first-found.result c.entry_found.result c.get_first-found.ensures.asked c.entry_found.ensures

pub returns-clause-live : goal.returns-clause-live
returns-clause-live g c = entry_so
    (λ (e : Held g.row.K.Denot g.row.V.Denot g.row.P.Denot).
    is_expired c.args.now.0 (g.P.Properties.expiry_of e.kept.properties) ≡ false)
    c.get_first-found.result c.entry_found.result c.get_first-found.ensures.live c.entry_found.ensures
