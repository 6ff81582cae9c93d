use Rattle.std.proofs.Common.{◌+◌, length, Ok, Err}
use Rattle.foyer_policy.specs.declared.types.Source.TheVariants.{Outer}
use Rattle.foyer_core.specs.Core.{InsertsWeighed}
use Rattle.foyer_core.specs.CoreFetches.{open_in}
use Rattle.foyer_core.specs.Cores.{core_of, fetches_of, hashes_of, meaning_of_core}
use Rattle.foyer_core.specs.Inflight.{waiters_of}
use Rattle.foyer_core.specs.CallLaws.{InsertLaws}
use Rattle.foyer_core.specs.State.{at_moment, coming_in}
use Rattle.foyer_core.proofs.Told.{goes_all}
use Rattle.foyer_core.proofs.cache_core.CacheCore.insert_with_properties.Goals as goal

pub returns-in-Ok-clause-inserted : goal.returns-in-Ok-clause-inserted
returns-in-Ok-clause-inserted g c =
    let s = c.args.self.now in
    goes_all c.insert_with_properties_onto.new.leaves.items
    (λ ls. InsertsWeighed (at_moment c.args.now (meaning_of_core s)) Outer
    (g.W.Weighter.weighs (core_of s).weighter c.args.key c.args.value)
    (g.A.Filter.admits (core_of s).filter c.args.key c.args.value)
    (hashes_of s c.args.key) c.args.key c.args.value
    (λ admitted. coming_in g.P.Properties.location_of g.P.Properties.with_phantom_of admitted c.args.properties)
    (1 + length (waiters_of (open_in (fetches_of s) (hashes_of s c.args.key, c.args.key))))
    (Ok record { entry = c.in-Ok.made.entry; leaves = ls }) (core_of s)
    (core_of c.insert_with_properties_onto.new.self))
    (rw c.new-leaves.ensures.items at c.in-Ok.ensures.inserted)

pub returns-in-Ok-clause-laws : goal.returns-in-Ok-clause-laws
returns-in-Ok-clause-laws g c =
    let s = c.args.self.now in
    let t = c.insert_with_properties_onto.new.self in
    goes_all c.insert_with_properties_onto.new.leaves.items
    (λ ls. InsertLaws (meaning_of_core s) (hashes_of s) (hashes_of t) (hashes_of s c.args.key) (core_of s)
    (Ok record { entry = c.in-Ok.made.entry; leaves = ls }) (core_of t))
    (rw c.new-leaves.ensures.items at c.in-Ok.ensures.laws)

pub returns-in-Err-clause-inserted : goal.returns-in-Err-clause-inserted
returns-in-Err-clause-inserted g c =
    let s = c.args.self.now in
    goes_all c.insert_with_properties_onto.new.leaves.items
    (λ ls. InsertsWeighed (at_moment c.args.now (meaning_of_core s)) Outer
    (g.W.Weighter.weighs (core_of s).weighter c.args.key c.args.value)
    (g.A.Filter.admits (core_of s).filter c.args.key c.args.value)
    (hashes_of s c.args.key) c.args.key c.args.value
    (λ admitted. coming_in g.P.Properties.location_of g.P.Properties.with_phantom_of admitted c.args.properties)
    (1 + length (waiters_of (open_in (fetches_of s) (hashes_of s c.args.key, c.args.key))))
    (Err record { reason = c.in-Err.error; leaves = ls }) (core_of s)
    (core_of c.insert_with_properties_onto.new.self))
    (rw c.new-leaves.ensures.items at c.in-Err.ensures.inserted)

pub returns-in-Err-clause-laws : goal.returns-in-Err-clause-laws
returns-in-Err-clause-laws g c =
    let s = c.args.self.now in
    let t = c.insert_with_properties_onto.new.self in
    goes_all c.insert_with_properties_onto.new.leaves.items
    (λ ls. InsertLaws (meaning_of_core s) (hashes_of s) (hashes_of t) (hashes_of s c.args.key) (core_of s)
    (Err record { reason = c.in-Err.error; leaves = ls }) (core_of t))
    (rw c.new-leaves.ensures.items at c.in-Err.ensures.laws)
