use Rattle.std.proofs.Common.{◌≡◌, ℕ, Some, None, true, sym, ◌∙◌, subst, arith}
use Rattle.std.specs.Prelude.{IsSomeAnd, Option}
use Rattle.foyer_policy.specs.Policy.{Pops, without}
use Rattle.foyer_core.specs.Values.{Kept}
use Rattle.foyer_core.specs.Stores.{meaning_of}
use Rattle.foyer_core.specs.Table.{rec_of}
use Rattle.foyer_core.specs.Records.{slot_in}
use Rattle.foyer_core.proofs.StoredLemmas.{none_not}
use Rattle.foyer_core.proofs.Holdings.{holding}
use Rattle.foyer_core.proofs.LeftLemmas.{
  stood_there,
  stood_known,
  victim_lighter,
  victim_weight,
  victim_entries,
  victim_gone,
  victim_led,
  victim_resident,
  victim_after,
  victim_kept,
  victim_stored,
  victim_record,
  still_kept,
  still_stored,
  still_weighed,
  still_counted,
}
use Rattle.foyer_core.proofs.store.Store.pop_one.Goals as goal

pub invariant_of-self : goal.invariant_of-self
invariant_of-self g c =
    let s = c.args.self.now in
    let lawful = g.met.E.Eviction.lawful in
    let laws = g.met.K.Eq.laws in
    record {
      sound = still_kept (meaning_of s) laws lawful (holding s) (g.E.Eviction.view c.pop_at.new.self)
          c.in_err-victim.ensures.err_view;
      stored = still_stored (meaning_of s) laws lawful (holding s) (g.E.Eviction.view c.pop_at.new.self)
          c.in_err-victim.ensures.err_view (g.E.Eviction.at c.pop_at.new.self) c.in_err-victim.ensures.err_places;
      weighed = still_weighed (meaning_of s) laws lawful (holding s) (g.E.Eviction.view c.pop_at.new.self)
          c.in_err-victim.ensures.err_view s.usage s.weighed;
      counted = still_counted (meaning_of s) laws lawful (holding s) (g.E.Eviction.view c.pop_at.new.self)
          c.in_err-victim.ensures.err_view s.entries s.counted;
      numbered = s.numbered;
    }

pub invariant_of-self-in_default : goal.invariant_of-self-in_default
invariant_of-self-in_default g c =
    let s = c.args.self.now in
    let lawful = g.met.E.Eviction.lawful in
    let laws = g.met.K.Eq.laws in
    let p : Pops g.E.Eviction.model (g.E.Eviction.view s.eviction) None (g.E.Eviction.view c.pop_at.new.self) =
    rw c.in_default.is at c.in_ok-victim.ensures.pops in
    let places = rw c.in_default.is at c.in_ok-victim.ensures.none in
    record {
      sound = still_kept (meaning_of s) laws lawful (holding s) (g.E.Eviction.view c.pop_at.new.self) p.1;
      stored = still_stored (meaning_of s) laws lawful (holding s) (g.E.Eviction.view c.pop_at.new.self) p.1
          (g.E.Eviction.at c.pop_at.new.self) places;
      weighed = still_weighed (meaning_of s) laws lawful (holding s) (g.E.Eviction.view c.pop_at.new.self) p.1 s.usage
          s.weighed;
      counted = still_counted (meaning_of s) laws lawful (holding s) (g.E.Eviction.view c.pop_at.new.self) p.1 s.entries
          s.counted;
      numbered = s.numbered;
    }

pub unreachable-requires : goal.unreachable-requires
unreachable-requires g c =
    let s = c.args.self.now in
    let i = c.in-Some.victim.1 in
    let n = c.number-slot.result in
    let stood : g.E.Eviction.at s.eviction n ≡ Some i =
    rw c.number-slot.ensures (rw c.in-Some.is at c.in_ok-victim.ensures.stood) in
    let none : slot_in s.records n ≡ None = sym (rw c.in_default-get.is at c.get.ensures) in
    none_not (slot_in s.records n)
    (stood_there (meaning_of s) g.met.K.Eq.laws g.met.E.Eviction.lawful (holding s) n i stood) none

pub take-requires-after_bounds : goal.take-requires-after_bounds
take-requires-after_bounds g c κs within =
    let s = c.args.self.now in
    let p : g.E.Eviction.model.pop (g.E.Eviction.view s.eviction) ≡ Some
    (c.in-Some.victim.1, g.E.Eviction.view c.pop_at.new.self) = rw c.in-Some.is at c.in_ok-victim.ensures.pops in
    let stood : g.E.Eviction.at s.eviction c.number-slot.result ≡ Some c.in-Some.victim.1 =
    rw c.number-slot.ensures (rw c.in-Some.is at c.in_ok-victim.ensures.stood) in
    let known = stood_known (meaning_of s) g.met.K.Eq.laws g.met.E.Eviction.lawful (holding s) c.number-slot.result
    c.in-Some.victim.1 stood in
    let there : slot_in s.records c.number-slot.result ≡ Some c.in-Some-get.found.now =
    sym (rw c.in-Some-get.is at c.get.ensures) in
    rw (c.hash.ensures, c.key.ensures) (victim_led (meaning_of s) g.met.K.Eq.laws g.met.E.Eviction.lawful (holding s)
    c.in-Some.victim.1 (g.E.Eviction.view c.pop_at.new.self) p c.number-slot.result c.in-Some-get.found.now
    known there)

pub overflow_sub-self : goal.overflow_sub-self
overflow_sub-self g c =
    let s = c.args.self.now in
    let p : g.E.Eviction.model.pop (g.E.Eviction.view s.eviction) ≡ Some
    (c.in-Some.victim.1, g.E.Eviction.view c.pop_at.new.self) = rw c.in-Some.is at c.in_ok-victim.ensures.pops in
    victim_lighter (meaning_of s) g.met.K.Eq.laws g.met.E.Eviction.lawful (holding s) c.in-Some.victim.1
    (g.E.Eviction.view c.pop_at.new.self) p s.usage s.weighed

pub overflow_sub-self-2 : goal.overflow_sub-self-2
overflow_sub-self-2 g c =
    let s = c.args.self.now in
    let p : g.E.Eviction.model.pop (g.E.Eviction.view s.eviction) ≡ Some
    (c.in-Some.victim.1, g.E.Eviction.view c.pop_at.new.self) = rw c.in-Some.is at c.in_ok-victim.ensures.pops in
    (victim_entries (meaning_of s) g.met.K.Eq.laws g.met.E.Eviction.lawful (holding s) c.in-Some.victim.1
    (g.E.Eviction.view c.pop_at.new.self) p s.entries s.counted).0

pub leave-requires : goal.leave-requires
leave-requires g c =
    let s = c.args.self.now in
    let p : g.E.Eviction.model.pop (g.E.Eviction.view s.eviction) ≡ Some
    (c.in-Some.victim.1, g.E.Eviction.view c.pop_at.new.self) = rw c.in-Some.is at c.in_ok-victim.ensures.pops in
    let stood : g.E.Eviction.at s.eviction c.number-slot.result ≡ Some c.in-Some.victim.1 =
    rw c.number-slot.ensures (rw c.in-Some.is at c.in_ok-victim.ensures.stood) in
    let known = stood_known (meaning_of s) g.met.K.Eq.laws g.met.E.Eviction.lawful (holding s) c.number-slot.result
    c.in-Some.victim.1 stood in
    let there : slot_in s.records c.number-slot.result ≡ Some c.in-Some-get.found.now =
    sym (rw c.in-Some-get.is at c.get.ensures) in
    let res = victim_resident (meaning_of s) g.met.K.Eq.laws g.met.E.Eviction.lawful (holding s) c.in-Some.victim.1
    (g.E.Eviction.view c.pop_at.new.self) p c.number-slot.result c.in-Some-get.found.now
    known there in
    subst (λ (o : Option (Kept g.row.K.Denot g.row.V.Denot g.row.P.Denot)). IsSomeAnd o (λ x. x.resident ≡ true))
    (sym there) res

pub invariant_of-self-2 : goal.invariant_of-self-2
invariant_of-self-2 g c =
    let s = c.args.self.now in
    let lawful = g.met.E.Eviction.lawful in
    let laws = g.met.K.Eq.laws in
    let v = g.E.Eviction.view c.pop_at.new.self in
    let x = c.in-Some-get.found.now in
    let p : g.E.Eviction.model.pop (g.E.Eviction.view s.eviction) ≡ Some (c.in-Some.victim.1, v) =
    rw c.in-Some.is at c.in_ok-victim.ensures.pops in
    let there : slot_in s.records c.number-slot.result ≡ Some x = sym (rw c.in-Some-get.is at c.get.ensures) in
    let stood : g.E.Eviction.at s.eviction c.number-slot.result ≡ Some c.in-Some.victim.1 =
    rw c.number-slot.ensures (rw c.in-Some.is at c.in_ok-victim.ensures.stood) in
    let known = stood_known (meaning_of s) g.met.K.Eq.laws g.met.E.Eviction.lawful (holding s) c.number-slot.result
    c.in-Some.victim.1 stood in
    let places : (q : ℕ) → g.E.Eviction.at c.pop_at.new.self q ≡ without c.in-Some.victim.1.id (g.E.Eviction.at s.eviction q)
    = rw c.in-Some.is at c.in_ok-victim.ensures.places in
    let gone = rw (c.hash.ensures, c.key.ensures) at c.take.ensures in
    let lighter = victim_lighter (meaning_of s) laws lawful (holding s) c.in-Some.victim.1 v p s.usage s.weighed in
    let fewer = victim_entries (meaning_of s) laws lawful (holding s) c.in-Some.victim.1 v p s.entries s.counted in
    record {
      sound = victim_kept (meaning_of s) laws lawful (holding s) c.in-Some.victim.1 v p c.number-slot.result x known there
          c.leave.new.self (c.leave.ensures.slots x there) (c.leave.ensures.records x there)
          (g.E.Eviction.at c.pop_at.new.self) places (g.I.Finder.view c.take.new.self) gone;
      stored = victim_stored (meaning_of s) laws lawful (holding s) c.in-Some.victim.1 v p c.number-slot.result x known
          there c.leave.new.self (c.leave.ensures.slots x there) (c.leave.ensures.records x there)
          (g.E.Eviction.at c.pop_at.new.self) places (g.I.Finder.view c.take.new.self) gone;
      weighed = victim_weight (meaning_of s) laws lawful (holding s) c.in-Some.victim.1 v p s.usage s.weighed;
      counted = fewer.1;
      numbered = omega (arith, s.numbered, fewer.0);
    }

pub returns-clause-some : goal.returns-clause-some
returns-clause-some g c =
    let s = c.args.self.now in
    let lawful = g.met.E.Eviction.lawful in
    let laws = g.met.K.Eq.laws in
    let v = g.E.Eviction.view c.pop_at.new.self in
    let x = c.in-Some-get.found.now in
    let p : g.E.Eviction.model.pop (g.E.Eviction.view s.eviction) ≡ Some (c.in-Some.victim.1, v) =
    rw c.in-Some.is at c.in_ok-victim.ensures.pops in
    let there : slot_in s.records c.number-slot.result ≡ Some x = sym (rw c.in-Some-get.is at c.get.ensures) in
    let stood : g.E.Eviction.at s.eviction c.number-slot.result ≡ Some c.in-Some.victim.1 =
    rw c.number-slot.ensures (rw c.in-Some.is at c.in_ok-victim.ensures.stood) in
    let known = stood_known (meaning_of s) g.met.K.Eq.laws g.met.E.Eviction.lawful (holding s) c.number-slot.result
    c.in-Some.victim.1 stood in
    let places : (q : ℕ) → g.E.Eviction.at c.pop_at.new.self q ≡ without c.in-Some.victim.1.id (g.E.Eviction.at s.eviction q)
    = rw c.in-Some.is at c.in_ok-victim.ensures.places in
    let gone = rw (c.hash.ensures, c.key.ensures) at c.take.ensures in
    record {
      item = c.in-Some.victim.1;
      view = v;
      rec = rec_of x;
      popped = p;
      there = victim_record (meaning_of s) laws lawful (holding s) c.in-Some.victim.1 v p c.number-slot.result x known
          there c.leave.new.self (c.leave.ensures.slots x there) (c.leave.ensures.records x there)
          (g.E.Eviction.at c.pop_at.new.self) places (g.I.Finder.view c.take.new.self) gone;
      gone_is = c.leave.ensures.left x there ∙ victim_gone (meaning_of s) laws lawful (holding s) c.in-Some.victim.1 v p
          c.number-slot.result x known there;
      after = victim_after (meaning_of s) laws lawful (holding s) c.in-Some.victim.1 v p c.number-slot.result x known there
          c.leave.new.self (c.leave.ensures.slots x there) (c.leave.ensures.records x there)
          (g.E.Eviction.at c.pop_at.new.self) places (g.I.Finder.view c.take.new.self) gone;
    }
