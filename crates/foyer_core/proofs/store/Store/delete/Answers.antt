use Rattle.std.proofs.Common.{◌≡◌, ℕ, Some, None, refl, sym, ◌∙◌, arith}
use Rattle.std.proofs.Math.Logic.{∥∥₁_elim}
use Rattle.std.proofs.Props.{props}
use Rattle.foyer_core.specs.Stores.{meaning_of, state_of}
use Rattle.foyer_core.specs.Table.{rec_of}
use Rattle.foyer_core.specs.Records.{slot_in}
use Rattle.foyer_core.proofs.Holdings.{holding}
use Rattle.foyer_core.proofs.ShardLemmas.{hits, found, resident}
use Rattle.foyer_core.proofs.StoredLemmas.{none_not}
use Rattle.foyer_core.proofs.NoEntryLemmas.{out_deletes}
use Rattle.foyer_core.proofs.store.Store.delete.Goals as goal

pub unreachable-requires : goal.unreachable-requires
unreachable-requires g c =
    let s = c.args.self.now in
    let none : slot_in s.records c.in-Some.slot ≡ None = sym (rw c.in_default-get.is at c.get.ensures) in
    none_not (slot_in s.records c.in-Some.slot)
    (s.stored.led (c.args.hash, c.args.key.now) c.in-Some.slot (sym c.slot_under.ensures ∙ c.in-Some.is)) none

pub returns-then-handles-self : goal.returns-then-handles-self
returns-then-handles-self g c =
    let s = c.args.self.now in
    let lawful = g.met.E.Eviction.lawful in
    let laws = g.met.K.Eq.laws in
    let k : ℕ × g.row.K.Denot = (c.args.hash, c.args.key.now) in
    let x = c.in-Some-get.found.now in
    let there : slot_in s.records c.in-Some.slot ≡ Some x = sym (rw c.in-Some-get.is at c.get.ensures) in
    let led = sym c.slot_under.ensures ∙ c.in-Some.is in
    rw c.new.ensures record {
      deletes = (
        x.id,
        hits (meaning_of s) laws lawful (holding s) k c.in-Some.slot led x there,
        (
          rec_of x,
          found (meaning_of s) laws lawful (holding s) k c.in-Some.slot led x there,
          omega (arith, c.handles.ensures, c.if-handles-self.true),
          refl,
        ),
      );
    }

pub take_out-requires-after_bounds : goal.take_out-requires-after_bounds
take_out-requires-after_bounds g c κs within =
    let s = c.args.self.now in
    let m = meaning_of s in
    let k : ℕ × g.row.K.Denot = (c.args.hash, c.args.key.now) in
    let x = c.in-Some-get.found.now in
    let there : slot_in s.records c.in-Some.slot ≡ Some x = sym (rw c.in-Some-get.is at c.get.ensures) in
    let hit = hits m g.met.K.Eq.laws g.met.E.Eviction.lawful (holding s) k c.in-Some.slot
    (sym c.slot_under.ensures ∙ c.in-Some.is) x there in
    rw c.id-id.ensures (∥∥₁_elim s.sound (hlevel props) (λ kept. (kept.indexed k x.id hit).0))

pub returns : goal.returns
returns g c =
    let s = c.args.self.now in
    let m = meaning_of s in
    let lawful = g.met.E.Eviction.lawful in
    let laws = g.met.K.Eq.laws in
    let k : ℕ × g.row.K.Denot = (c.args.hash, c.args.key.now) in
    let x = c.in-Some-get.found.now in
    let there : slot_in s.records c.in-Some.slot ≡ Some x = sym (rw c.in-Some-get.is at c.get.ensures) in
    let led = sym c.slot_under.ensures ∙ c.in-Some.is in
    record {
      deletes = out_deletes m (state_of s) s.sound k x.id (rec_of x)
          (hits m laws lawful (holding s) k c.in-Some.slot led x there)
          (found m laws lawful (holding s) k c.in-Some.slot led x there)
          (omega (arith, c.handles.ensures, c.if-handles-self.false))
          (resident m laws lawful (holding s) k c.in-Some.slot led x there)
          c.take_out.result (state_of c.take_out.new.self) (rw c.id-id.ensures at c.take_out.ensures.taken);
    }
