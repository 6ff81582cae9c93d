use Rattle.std.proofs.Common.{◌≡◌, ◌∙◌, Option, Some, None, ap, length, map, refl, sym, subst}
use Rattle.std.specs.Prelude.{IfNone, IfSome, option_map, slice_get}
use Rattle.std.proofs.lemmas.Option.{slice_get-map, slice_get_past, slice_get_read}
use Rattle.foyer_core.specs.Cores.{core_of}
use Rattle.foyer_core.specs.Holds.{HasNoResident}
use Rattle.foyer_core.specs.Shards.{state_of}
use Rattle.foyer_core.specs.State.{State}
use Rattle.foyer_core.proofs.Naming.{leads}
use Rattle.foyer_core.proofs.cache_core.CacheCore.resident_from.Goals as goal

pub returns-in-Some : goal.returns-in-Some
returns-in-Some g c =
    let s = c.args.self.now in
    let found = c.in-Some.ensures.lookup in
    let there : slice_get s.shards.items c.args.shard ≡ Some c.in-Some.shard.now =
    ap (λ xs. slice_get xs c.args.shard) (sym c.deref.ensures.value)
    ∙ slice_get_read c.deref.result.now (length c.deref.result.now) c.args.shard c.in-Some.shard.now refl
    found.3.0 found.1 in
    let here : slice_get (map state_of s.shards.items) c.args.shard ≡ Some (state_of c.in-Some.shard.now) =
    slice_get-map state_of s.shards.items c.args.shard ∙ ap (option_map state_of) there in
    record {
      some = leads (core_of s) c.args.shard (state_of c.in-Some.shard.now) s.whole.belong here c.resident_from.result
          c.resident_from.ensures.some;
      none = subst (λ (o : Option (State g.row.K.Denot g.row.V.Denot g.row.P.Denot g.E.Eviction.View)).
          IfNone c.resident_from.result (IfSome o HasNoResident)) (sym here) c.resident_from.ensures.none;
    }

pub returns-in-None-clause-none : goal.returns-in-None-clause-none
returns-in-None-clause-none g c =
    let s = c.args.self.now in
    let there : slice_get s.shards.items c.args.shard ≡ None =
    ap (λ xs. slice_get xs c.args.shard) (sym c.deref.ensures.value)
    ∙ slice_get_past c.deref.result.now c.args.shard c.in-None.ensures.lookup.3 in
    let here : slice_get (map state_of s.shards.items) c.args.shard ≡ None =
    slice_get-map state_of s.shards.items c.args.shard ∙ ap (option_map state_of) there in
    subst (λ (o : Option (State g.row.K.Denot g.row.V.Denot g.row.P.Denot g.E.Eviction.View)). IfSome o HasNoResident)
    (sym here) tt
