use Rattle.std.proofs.Common.{◌≡◌, ℕ, ◌<◌, ◌∙◌, Some, length, refl, sym, ap}
use Rattle.std.specs.Prelude.{option_and_then}
use Rattle.foyer_core.specs.Inflight.{OpenFetch, closed, numbers_in, opens_by}
use Rattle.foyer_core.specs.Inflights.{opens_of}
use Rattle.foyer_core.specs.Slots.{get}
use Rattle.foyer_core.proofs.InflightLemmas.{led_to, same_opens, take_linked, take_open, take_places}
use Rattle.foyer_core.proofs.inflight.InflightManager.take.Goals as goal

pub unreachable-requires : goal.unreachable-requires
unreachable-requires g c =
    let s = c.args.self.now in
    led_to (get s.inflights c.in_ok-number.number)
    (s.linked.led (c.args.hash, c.args.key.now) c.in_ok-number.number (sym c.in_ok-number.ensures))
    (sym c.in_default.ensures)

pub invariant_of-self : goal.invariant_of-self
invariant_of-self g c =
    let s = c.args.self.now in
    let k : ℕ × g.row.K.Denot = (c.args.hash, c.args.key.now) in
    let n = c.in_ok-number.number in
    let there = sym c.in_ok-number.ensures in
    let write = c.remove-2.ensures.slots in
    record {
      linked = take_linked g.met.K.Eq.laws (numbers_in s.index) (numbers_in c.remove.new.self) (get s.inflights)
          (get c.remove-2.new.self) k n s.linked there c.remove.ensures.view write;
      sound = take_open g.met.K.Eq.laws (numbers_in s.index) (numbers_in c.remove.new.self) (get s.inflights)
          (get c.remove-2.new.self) k n s.linked there c.remove.ensures.view write s.next_fetch s.next_token s.sound;
    }

pub returns-clause-opens : goal.returns-clause-opens
returns-clause-opens g c =
    let s = c.args.self.now in
    let k : ℕ × g.row.K.Denot = (c.args.hash, c.args.key.now) in
    let n = c.in_ok-number.number in
    let write = c.remove-2.ensures.slots in
    same_opens (opens_by (numbers_in c.remove.new.self) (get c.remove-2.new.self) s.next_fetch s.next_token)
    (closed g.K.PartialEq.eq (opens_of s) k)
    (take_places g.met.K.Eq.laws (numbers_in s.index) (numbers_in c.remove.new.self) (get s.inflights)
    (get c.remove-2.new.self) k n s.linked (sym c.in_ok-number.ensures) c.remove.ensures.view write) refl refl

pub returns-clause-waited : goal.returns-clause-waited
returns-clause-waited g c =
    let s = c.args.self.now in
    let k : ℕ × g.row.K.Denot = (c.args.hash, c.args.key.now) in
    let there : (opens_of s).by_key k ≡ Some c.remove-2.result =
    ap (option_and_then (get s.inflights)) (sym c.in_ok-number.ensures) ∙ c.remove-2.ensures.value in
    let some : 0 < length c.remove-2.result.tokens = s.sound.waited k c.remove-2.result there in
    let view : c.waiters.inside.waiters.items ≡ c.remove-2.result.tokens =
    ap (λ (o : OpenFetch g.row.N.Denot g.row.R.Denot). o.tokens) c.waiters.view_is in
    rw view some
