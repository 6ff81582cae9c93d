use Rattle.std.proofs.Common.{◌≡◌, Some, None, sym, ◌∙◌, ap, rules}
use Rattle.foyer_core.specs.Stores.{meaning_of}
use Rattle.foyer_core.specs.Records.{slot_in}
use Rattle.foyer_core.proofs.StoredLemmas.{none_not}
use Rattle.foyer_core.proofs.Holdings.{holding}
use Rattle.foyer_core.proofs.ShardLemmas.{placed}
use Rattle.foyer_core.proofs.PinLemmas.{own_pinned_weight, own_free_weight}
use Rattle.foyer_core.proofs.store.Store.own_pinned.Goals as goal

pub unreachable-requires : goal.unreachable-requires
unreachable-requires g c =
    let s = c.args.self.now in
    let none : slot_in s.records c.in-Some.slot ≡ None = sym (rw c.in_default-get.is at c.get.ensures) in
    none_not (slot_in s.records c.in-Some.slot)
    (s.stored.led (c.args.hash, c.args.key.now) c.in-Some.slot (sym c.slot_under.ensures ∙ c.in-Some.is)) none

pub is_pinned-pinned-requires : goal.is_pinned-pinned-requires
is_pinned-pinned-requires g c =
    let s = c.args.self.now in
    let x = c.in-Some-get.found.now in
    let there : slot_in s.records c.in-Some.slot ≡ Some x = sym (rw c.in-Some-get.is at c.get.ensures) in
    let at = ap (g.E.Eviction.at s.eviction) c.at.ensures
    ∙ placed (meaning_of s) g.met.K.Eq.laws g.met.E.Eviction.lawful (holding s) (c.args.hash, c.args.key.now)
    c.in-Some.slot (sym c.slot_under.ensures ∙ c.in-Some.is) x there in
    rw at (search rules)

pub returns-then-pinned : goal.returns-then-pinned
returns-then-pinned g c =
    let s = c.args.self.now in
    let lawful = g.met.E.Eviction.lawful in
    let laws = g.met.K.Eq.laws in
    let x = c.in-Some-get.found.now in
    let there : slot_in s.records c.in-Some.slot ≡ Some x = sym (rw c.in-Some-get.is at c.get.ensures) in
    let led = sym c.slot_under.ensures ∙ c.in-Some.is in
    let at = ap (g.E.Eviction.at s.eviction) c.at.ensures
    ∙ placed (meaning_of s) laws lawful (holding s) (c.args.hash, c.args.key.now) c.in-Some.slot led x there in
    let tells = rw at at c.is_pinned-pinned.ensures in
    rw c.weight.ensures (own_pinned_weight (meaning_of s) laws lawful (holding s) (c.args.hash, c.args.key.now)
    c.in-Some.slot led x there (tells.0 c.if-pinned.true))

pub returns-else-pinned : goal.returns-else-pinned
returns-else-pinned g c =
    let s = c.args.self.now in
    let lawful = g.met.E.Eviction.lawful in
    let laws = g.met.K.Eq.laws in
    let x = c.in-Some-get.found.now in
    let there : slot_in s.records c.in-Some.slot ≡ Some x = sym (rw c.in-Some-get.is at c.get.ensures) in
    let led = sym c.slot_under.ensures ∙ c.in-Some.is in
    let at = ap (g.E.Eviction.at s.eviction) c.at.ensures
    ∙ placed (meaning_of s) laws lawful (holding s) (c.args.hash, c.args.key.now) c.in-Some.slot led x there in
    let tells = rw at at c.is_pinned-pinned.ensures in
    own_free_weight (meaning_of s) laws lawful (holding s) (c.args.hash, c.args.key.now) c.in-Some.slot led x there
    (λ pos. absurd (let yes = tells.1 pos in cc))
