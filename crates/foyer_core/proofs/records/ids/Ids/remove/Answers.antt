use Rattle.std.proofs.Common.{◌≡◌, ◌%◌, ◌<◌, ℕ, Option, Some, None, length, subst, ap, ◌∙◌, arith}
use Rattle.std.specs.HashMap.{get as get_key}
use Rattle.std.specs.Map.{update}
use Rattle.std.specs.Prelude.{IsSome, nat_eq, not, slice_index_or}
use Rattle.std.proofs.lemmas.Option.{slice_get-get_or}
use Rattle.foyer_core.specs.Ids.{slot_of}
use Rattle.foyer_core.specs.Near.{slot_near, slot_at, or_slot}
use Rattle.foyer_core.proofs.NearLemmas.{written, recent_some, some_recent}
use Rattle.foyer_core.proofs.records.ids.Ids.remove.Goals as goal

pub returns-clause-ids : goal.returns-clause-ids
returns-clause-ids c q = let old = c.args.self.now in
    let far = get_key nat_eq old.far in
    let is : IsSome (slot_near old.end old.near.items c.args.id) =
    subst (λ (o : Option ℕ). IsSome o) c.find_near.ensures (c.is_none.ensures ∙ ap not c.if-is_none.false) in
    let recent = recent_some old.near.items old.end c.args.id is in
    let some : 0 < length old.near.items = some_recent (length old.near.items) old.end c.args.id recent in
    let long : c.len.result ≡ length old.near.items = c.len.ensures ∙ old.near.ok.0 in
    let at : c.place_of-place.result ≡ c.args.id % length old.near.items =
    c.place_of-place.ensures.low old.bits (c.len.ensures ∙ old.sized (omega (arith, some, long, c.len.ensures)))
    ∙ ap (λ (n : ℕ). c.args.id % n) long in
    let within : c.place_of-place.result < length old.near.items = omega (arith, c.place_of-place.ensures.within, long) in
    let none : or_slot (slot_at (Some c.none.result)) (far c.args.id) ≡ None =
    ap (λ (o : Option ℕ). or_slot o (far c.args.id)) c.none.ensures ∙ old.apart c.args.id is in
    written old.near.items far old.end c.args.id c.place_of-place.result
    (slice_index_or old.near.items c.place_of-place.result (record { slot = 0 })) c.none.result at
    (slice_get-get_or old.near.items c.place_of-place.result (record { slot = 0 }) within) recent q
    ∙ ap (λ (o : Option ℕ). update nat_eq (slot_of old) c.args.id o q) none
