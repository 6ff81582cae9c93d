use Rattle.std.proofs.Common.{◌≡◌, ℕ, true, false, subst}
use Rattle.foyer_policy.specs.Moments.{is_expired}
use Rattle.foyer_core.specs.Looks.{IfHit}
use Rattle.foyer_core.specs.Values.{Held}
use Rattle.foyer_raw.proofs.Entered.{entry_so}
use Rattle.foyer_raw.proofs.cache.RawCache.get.Goals as goal

pub returns-clause-key : goal.returns-clause-key
returns-clause-key g c = entry_so
    (λ (e : Held g.row.K.Denot g.row.V.Denot g.row.P.Denot). g.K.PartialEq.eq c.args.key.now e.kept.key ≡ true)
    c.get-found.result c.entry_found.result
    (subst (λ (k : g.row.K.Denot). IfHit c.get-found.result
    (λ (e : Held g.row.K.Denot g.row.V.Denot g.row.P.Denot). g.K.PartialEq.eq k e.kept.key ≡ true))
    c.hashed-key.ensures.key c.get-found.ensures.asked)
    c.entry_found.ensures

pub returns-clause-live : goal.returns-clause-live
returns-clause-live g c = entry_so
    (λ (e : Held g.row.K.Denot g.row.V.Denot g.row.P.Denot).
    is_expired c.args.now (g.P.Properties.expiry_of e.kept.properties) ≡ false)
    c.get-found.result c.entry_found.result
    (subst (λ (now : ℕ). IfHit c.get-found.result (λ (e : Held g.row.K.Denot g.row.V.Denot g.row.P.Denot).
    is_expired now (g.P.Properties.expiry_of e.kept.properties) ≡ false))
    c.new.ensures c.get-found.ensures.live)
    c.entry_found.ensures
