use Rattle.foyer_raw.proofs.Faultless.{faultless}
use Rattle.foyer_raw.proofs.cache.RawCache.new.Goals as goal

-- once the shards are made the configuration has no fault
pub returns-in_err-new-3-clause-refused : goal.returns-in_err-new-3-clause-refused
returns-in_err-new-3-clause-refused g c =
    rw (faultless g.E.Eviction.model c.args.config c.if-config-eq0.false c.in_ok-made.ensures.accepted) tt

pub returns-in_err-new-2-clause-refused : goal.returns-in_err-new-2-clause-refused
returns-in_err-new-2-clause-refused g c =
    rw (faultless g.E.Eviction.model c.args.config c.if-config-eq0.false c.in_ok-made.ensures.accepted) tt

pub returns-in_err-stripes-clause-refused : goal.returns-in_err-stripes-clause-refused
returns-in_err-stripes-clause-refused g c =
    rw (faultless g.E.Eviction.model c.args.config c.if-config-eq0.false c.in_ok-made.ensures.accepted) tt

pub returns-in_err-share-clause-refused : goal.returns-in_err-share-clause-refused
returns-in_err-share-clause-refused g c =
    rw (faultless g.E.Eviction.model c.args.config c.if-config-eq0.false c.in_ok-made.ensures.accepted) tt

pub returns-clause-accepted : goal.returns-clause-accepted
returns-clause-accepted g c =
    faultless g.E.Eviction.model c.args.config c.if-config-eq0.false c.in_ok-made.ensures.accepted

pub returns-clause-refused : goal.returns-clause-refused
returns-clause-refused g c =
    rw (faultless g.E.Eviction.model c.args.config c.if-config-eq0.false c.in_ok-made.ensures.accepted) tt
