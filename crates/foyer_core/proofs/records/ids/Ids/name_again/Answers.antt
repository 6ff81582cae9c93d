use Rattle.std.proofs.Common.{◌≡◌, ◌%◌, ◌<◌, ℕ, Option, true, length, sym, subst, ap, ◌∙◌, arith}
use Rattle.std.specs.HashMap.{get as get_key}
use Rattle.std.specs.Map.{update}
use Rattle.std.specs.Prelude.{nat_eq, slice_index_or}
use Rattle.std.proofs.lemmas.Option.{slice_get-get_or}
use Rattle.foyer_core.specs.Ids.{slot_of}
use Rattle.foyer_core.specs.Near.{slot_near, or_slot, is_recent}
use Rattle.foyer_core.proofs.NearLemmas.{written, apart-written, some_recent, not_far}
use Rattle.foyer_core.proofs.records.ids.Ids.name_again.Goals as goal

pub invariant_of-self-clause-apart : goal.invariant_of-self-clause-apart
invariant_of-self-clause-apart c = let old = c.args.self.now in
    let long : c.len-places.result ≡ length old.near.items = c.len-places.ensures ∙ old.near.ok.0 in
    let recent = subst (λ (n : ℕ). is_recent n old.end c.args.id ≡ true) long (sym c.is_recent.ensures ∙ c.if-is_recent.true) in
    let some : 0 < length old.near.items = some_recent (length old.near.items) old.end c.args.id recent in
    let power = c.len-places.ensures ∙ old.sized (omega (arith, some, long, c.len-places.ensures)) in
    let at = c.place_of.ensures.low old.bits power ∙ ap (λ (n : ℕ). c.args.id % n) long in
    let within : c.place_of.result < length old.near.items = omega (arith, c.place_of.ensures.within, long) in
    let free = not_far (slot_near old.end old.near.items c.args.id) (get_key nat_eq old.far c.args.id) c.requires.new in
    apart-written old.near.items (get_key nat_eq old.far) old.end c.args.id c.place_of.result
    (slice_index_or old.near.items c.place_of.result (record { slot = 0 })) c.in-Some.standing at
    (slice_get-get_or old.near.items c.place_of.result (record { slot = 0 }) within) recent old.apart free

pub returns-in-Some : goal.returns-in-Some
returns-in-Some c q = let old = c.args.self.now in
    let long : c.len-places.result ≡ length old.near.items = c.len-places.ensures ∙ old.near.ok.0 in
    let recent = subst (λ (n : ℕ). is_recent n old.end c.args.id ≡ true) long (sym c.is_recent.ensures ∙ c.if-is_recent.true) in
    let some : 0 < length old.near.items = some_recent (length old.near.items) old.end c.args.id recent in
    let power = c.len-places.ensures ∙ old.sized (omega (arith, some, long, c.len-places.ensures)) in
    let at = c.place_of.ensures.low old.bits power ∙ ap (λ (n : ℕ). c.args.id % n) long in
    let within : c.place_of.result < length old.near.items = omega (arith, c.place_of.ensures.within, long) in
    written old.near.items (get_key nat_eq old.far) old.end c.args.id c.place_of.result
    (slice_index_or old.near.items c.place_of.result (record { slot = 0 })) c.in-Some.standing at
    (slice_get-get_or old.near.items c.place_of.result (record { slot = 0 }) within) recent q
    ∙ ap (λ (o : Option ℕ). update nat_eq (slot_of old) c.args.id (or_slot o (get_key nat_eq old.far c.args.id)) q)
    c.in-Some.ensures
