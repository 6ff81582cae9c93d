use Rattle.std.proofs.Common.{◌∙◌, Some, map, refl, sym, ap, option_map, vec_len, arith}
use Rattle.foyer_core.specs.Shards.{opens_of, state_of}
use Rattle.foyer_core.specs.Stored.{meaning}
use Rattle.foyer_core.proofs.SharingOut.{updated-over, over-configured}
use Rattle.foyer_core.proofs.Zips.{map-write}
use Rattle.std.proofs.lemmas.Option.{slice_get-map, slice_get_read}
use Rattle.foyer_core.proofs.cache_core.in_turn.configure_each.Goals as goal

pub loop-place-preserved : goal.loop-place-preserved
loop-place-preserved g c =
    let m = meaning g.K.PartialEq.eq g.E.Eviction.model g.P.Properties.hint_of g.P.Properties.phantom_of g.P.Properties.expiry_of in
    let now = c.loop-place.shards in
    let x = c.index_mut.result.now in
    record {
      begun = updated-over m (λ i s. s.capacity) (Some c.args.config.now) state_of
          (map state_of c.args.shards.now.items) now.items c.loop-place.place x c.configure.new.self (vec_len now)
          (state_of x).capacity
          now.ok.0 (omega arith) c.index_mut.ensures.value c.loop-place.invariant.begun c.configure.ensures.configured
          refl;
      opens = map-write opens_of now.items (vec_len now) c.loop-place.place x c.configure.new.self now.ok.0
          (omega arith) c.index_mut.ensures.value c.configure.ensures.opens ∙ c.loop-place.invariant.opens;
      len = c.loop-place.invariant.len;
    }

pub returns-clause-configured : goal.returns-clause-configured
returns-clause-configured g c =
    let m = meaning g.K.PartialEq.eq g.E.Eviction.model g.P.Properties.hint_of g.P.Properties.phantom_of g.P.Properties.expiry_of in
    over-configured m state_of c.args.shards.now.items (map state_of c.loop-place.shards.items) c.loop-place.place
    (omega arith) c.args.config.now c.loop-place.invariant.begun

pub configure-requires-clause-taken : goal.configure-requires-clause-taken
configure-requires-clause-taken g c κs within =
    let now = c.loop-place.shards in
    let x = c.index_mut.result.now in
    let here = sym (c.loop-place.invariant.begun.left c.loop-place.place (omega arith))
    ∙ slice_get-map state_of now.items c.loop-place.place
    ∙ ap (option_map state_of)
    (slice_get_read now.items (vec_len now) c.loop-place.place x now.ok.0 (omega arith) c.index_mut.ensures.value) in
    c.requires.taken c.loop-place.place (state_of x) here
