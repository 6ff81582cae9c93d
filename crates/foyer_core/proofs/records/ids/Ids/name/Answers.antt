-- The next id is named at its place, and the one that stood there goes far.
use Rattle.std.proofs.Common.{◌≡◌, ◌+◌, ◌%◌, ◌<◌, ℕ, Some, None, length, sym, subst, ap, ◌∙◌, arith}
use Rattle.std.specs.HashMap.{get as get_key}
use Rattle.std.specs.Map.{update}
use Rattle.std.specs.Prelude.{nat_eq, slice_set}
use Rattle.std.proofs.lemmas.Option.{slice_get_read}
use Rattle.foyer_core.specs.Near.{slot_near, or_slot, AreApart}
use Rattle.foyer_core.proofs.NearLemmas.{named, apart-named}
use Rattle.foyer_core.proofs.records.ids.Ids.name.Goals as goal

pub invariant_of-self-clause-apart : goal.invariant_of-self-clause-apart
invariant_of-self-clause-apart c = let old = c.args.self.now in
    let long : c.len-places.result ≡ length old.near.items = c.len-places.ensures ∙ old.near.ok.0 in
    let some : 0 < length old.near.items = omega (arith, long, c.if-places-eq0.false) in
    let power = c.len-places.ensures ∙ old.sized (omega (arith, c.len-places.ensures, c.if-places-eq0.false)) in
    let at = c.place_of-place.ensures.low old.bits power ∙ ap (λ (n : ℕ). c.args.id % n) long in
    let stood = slice_get_read old.near.items c.len-places.result c.place_of-place.result c.index-older.result.now long
    c.place_of-place.ensures.within c.index-older.ensures in
    apart-named old.near.items (get_key nat_eq old.far) c.args.id c.place_of-place.result c.args.slot
    c.in-Some.standing c.index-older.result.now some at stood c.in-Some.ensures (get_key nat_eq c.outstay.new.far)
    (λ q is. c.outstay.ensures.older q (ap (λ (n : ℕ). q + n) long ∙ is))
    (λ q is. c.outstay.ensures.others q (λ e. is (ap (λ (n : ℕ). q + n) (sym long) ∙ e)))
    (subst (λ (n : ℕ). AreApart (slot_near n old.near.items) (get_key nat_eq old.far)) (sym c.if-id-self.false) old.apart)
    (subst (λ (n : ℕ). or_slot (slot_near n old.near.items c.args.id) (get_key nat_eq old.far c.args.id) ≡ None)
    (sym c.if-id-self.false) c.requires.new)

pub returns : goal.returns
returns c = let old = c.args.self.now in
    let long : c.len-places.result ≡ length old.near.items = c.len-places.ensures ∙ old.near.ok.0 in
    let some : 0 < length old.near.items = omega (arith, long, c.if-places-eq0.false) in
    let power = c.len-places.ensures ∙ old.sized (omega (arith, c.len-places.ensures, c.if-places-eq0.false)) in
    let at = c.place_of-place.ensures.low old.bits power ∙ ap (λ (n : ℕ). c.args.id % n) long in
    let stood = slice_get_read old.near.items c.len-places.result c.place_of-place.result c.index-older.result.now long
    c.place_of-place.ensures.within c.index-older.ensures in
    subst (λ (n : ℕ). (q : ℕ) → or_slot (slot_near (c.args.id + 1)
    (slice_set old.near.items c.place_of-place.result c.in-Some.standing) q) (get_key nat_eq c.outstay.new.far q)
    ≡ update nat_eq (λ q. or_slot (slot_near n old.near.items q) (get_key nat_eq old.far q)) c.args.id
    (Some c.args.slot) q) c.if-id-self.false
    (named old.near.items (get_key nat_eq old.far) c.args.id c.place_of-place.result c.args.slot
    c.in-Some.standing c.index-older.result.now some at stood c.in-Some.ensures (get_key nat_eq c.outstay.new.far)
    (λ q is. c.outstay.ensures.older q (ap (λ (n : ℕ). q + n) long ∙ is))
    (λ q is. c.outstay.ensures.others q (λ e. is (ap (λ (n : ℕ). q + n) (sym long) ∙ e))))
