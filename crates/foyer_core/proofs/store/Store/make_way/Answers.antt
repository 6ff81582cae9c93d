use Rattle.std.proofs.Common.{◌≡◌, ℕ, Some, None, sym, ◌∙◌, ap}
use Rattle.std.proofs.Math.Logic.{∥∥₁_elim}
use Rattle.std.proofs.Props.{props}
use Rattle.std.specs.Prelude.{option_and_then}
use Rattle.foyer_core.specs.Stores.{meaning_of, state_of}
use Rattle.foyer_core.specs.Records.{slot_in, id_in}
use Rattle.foyer_core.proofs.Holdings.{holding}
use Rattle.foyer_core.proofs.ShardLemmas.{hits}
use Rattle.foyer_core.proofs.StoredLemmas.{none_not}
use Rattle.foyer_core.proofs.Phantoms.{taken_gives_way}
use Rattle.foyer_core.proofs.store.Store.make_way.Goals as goal

pub unreachable-requires : goal.unreachable-requires
unreachable-requires g c =
    let s = c.args.self.now in
    let none : slot_in s.records c.in-Some.slot ≡ None = sym (rw c.in_default-get.is at c.get.ensures) in
    none_not (slot_in s.records c.in-Some.slot)
    (s.stored.led (c.args.hash, c.args.key.now) c.in-Some.slot (sym c.slot_under.ensures ∙ c.in-Some.is)) none

pub take_out-requires-after_bounds : goal.take_out-requires-after_bounds
take_out-requires-after_bounds g c κs within =
    let s = c.args.self.now in
    let m = meaning_of s in
    let k : ℕ × g.row.K.Denot = (c.args.hash, c.args.key.now) in
    let x = c.in-Some-get.found.now in
    let there : slot_in s.records c.in-Some.slot ≡ Some x = sym (rw c.in-Some-get.is at c.get.ensures) in
    let hit = hits m g.met.K.Eq.laws g.met.E.Eviction.lawful (holding s) k c.in-Some.slot
    (sym c.slot_under.ensures ∙ c.in-Some.is) x there in
    rw c.id-id.ensures (∥∥₁_elim s.sound (hlevel props) (λ kept. (kept.indexed k x.id hit).0))

pub returns-clause-gives_way : goal.returns-clause-gives_way
returns-clause-gives_way g c =
    let s = c.args.self.now in
    let m = meaning_of s in
    let k : ℕ × g.row.K.Denot = (c.args.hash, c.args.key.now) in
    let x = c.in-Some-get.found.now in
    let there : slot_in s.records c.in-Some.slot ≡ Some x = sym (rw c.in-Some-get.is at c.get.ensures) in
    let hit = hits m g.met.K.Eq.laws g.met.E.Eviction.lawful (holding s) k c.in-Some.slot
    (sym c.slot_under.ensures ∙ c.in-Some.is) x there in
    taken_gives_way m (state_of s) (option_and_then (id_in s.records) (g.I.Finder.view s.index k)) c.id-id.result
    (hit ∙ ap (λ (i : ℕ). Some i) (sym c.id-id.ensures)) c.take_out.result (state_of c.take_out.new.self)
    c.take_out.ensures.taken
