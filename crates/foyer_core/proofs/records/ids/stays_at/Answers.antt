use Rattle.std.proofs.Common.{◌≡◌, ◌+◌, ◌-◌, ◌%◌, ◌^◌, ◌∙◌, refl, arith}
use Rattle.foyer_core.proofs.NearLemmas.{stays-none, stays-there}
use Rattle.foyer_core.proofs.records.ids.stays_at.Goals as goal

pub returns-then-place_of-near : goal.returns-then-place_of-near
returns-then-place_of-near c id at recent =
    let many = c.places_of-places.ensures.value in
    let is : c.place_of-2.result ≡ (c.args.end % 2 ^ c.args.bits + (2 ^ c.args.bits - 1 - c.args.place)) % 2 ^ c.args.bits =
    c.place_of-2.ensures.low c.args.bits many
    ∙ rw (c.place_of.ensures.low c.args.bits many) (rw many refl) in
    stays-none c.args.near.now c.args.end c.args.bits c.args.place c.place_of-2.result c.requires.half is id at recent
    c.none.result c.if-place_of-near.true c.none.ensures

pub returns : goal.returns
returns c id at recent =
    let many = c.places_of-places.ensures.value in
    let is : c.place_of-2.result ≡ (c.args.end % 2 ^ c.args.bits + (2 ^ c.args.bits - 1 - c.args.place)) % 2 ^ c.args.bits =
    c.place_of-2.ensures.low c.args.bits many
    ∙ rw (c.place_of.ensures.low c.args.bits many) (rw many refl) in
    stays-there c.args.near.now c.args.end c.args.bits c.args.place c.place_of-2.result c.requires.half is id at recent
    c.place_of-3.result (record { slot = 0 }) (omega (arith, c.if-place_of-near.false)) c.place_of-3.ensures.within
    c.place_of-3.ensures.low
