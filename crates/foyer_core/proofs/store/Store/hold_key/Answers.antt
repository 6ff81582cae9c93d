use Rattle.std.proofs.Common.{◌≡◌, ℕ, ◌+◌, Some, refl, ◌∙◌, ap, arith, rules}
use Rattle.foyer_policy.specs.declared.types.Source.TheVariants.{Memory}
use Rattle.foyer_core.specs.Steps.{entry_of}
use Rattle.foyer_core.specs.Stores.{meaning_of, state_of}
use Rattle.foyer_core.specs.Table.{rec_of}
use Rattle.foyer_core.specs.Records.{slot_in}
use Rattle.foyer_core.proofs.StoredLemmas.{count_stored}
use Rattle.foyer_core.proofs.Holdings.{holding}
use Rattle.foyer_core.proofs.ShardLemmas.{found, placed, got_after, got_kept, got_counted, got_entries}
use Rattle.foyer_core.proofs.store.Store.hold_key.Goals as goal

pub returns-then-handles-self : goal.returns-then-handles-self
returns-then-handles-self g c =
    let s = c.args.self.now in
    let x = c.in-Some.found.now in
    let there : slot_in s.records c.in-Some.slot ≡ Some x = c.in-Some.ensures.there in
    rw c.new.ensures record {
      holds = (
        x.id,
        rec_of x,
        c.in-Some.ensures.hits,
        found (meaning_of s) g.met.K.Eq.laws g.met.E.Eviction.lawful (holding s) (c.args.hash, c.args.key.now)
            c.in-Some.slot c.in-Some.ensures.led x there,
        omega (arith, c.handles.ensures, c.if-handles-self.true),
        refl,
      );
    }

pub look_ahead-requires : goal.look_ahead-requires
look_ahead-requires g c =
    let s = c.args.self.now in
    let x = c.in-Some.found.now in
    let there : slot_in s.records c.in-Some.slot ≡ Some x = c.in-Some.ensures.there in
    let at = ap (g.E.Eviction.at s.eviction) c.at-place.ensures
    ∙ placed (meaning_of s) g.met.K.Eq.laws g.met.E.Eviction.lawful (holding s) (c.args.hash, c.args.key.now)
    c.in-Some.slot c.in-Some.ensures.led x there in
    rw at (search rules)

pub acquire-requires : goal.acquire-requires
acquire-requires g c =
    let s = c.args.self.now in
    let x = c.in-Some.found.now in
    let there : slot_in s.records c.in-Some.slot ≡ Some x = c.in-Some.ensures.there in
    let at = ap (g.E.Eviction.at s.eviction) c.at-place.ensures
    ∙ placed (meaning_of s) g.met.K.Eq.laws g.met.E.Eviction.lawful (holding s) (c.args.hash, c.args.key.now)
    c.in-Some.slot c.in-Some.ensures.led x there in
    rw at (search rules)

pub invariant_of-self : goal.invariant_of-self
invariant_of-self g c =
    let s = c.args.self.now in
    let lawful = g.met.E.Eviction.lawful in
    let laws = g.met.K.Eq.laws in
    let m = meaning_of s in
    let k : ℕ × g.row.K.Denot = (c.args.hash, c.args.key.now) in
    let x = c.in-Some.found.now in
    let there : slot_in s.records c.in-Some.slot ≡ Some x = c.in-Some.ensures.there in
    let led = c.in-Some.ensures.led in
    let at = ap (g.E.Eviction.at s.eviction) c.at-place.ensures
    ∙ placed m laws lawful (holding s) k c.in-Some.slot led x there in
    let view = g.E.Eviction.view c.acquire.new.self in
    let viewed : view ≡ m.policy.acquire (g.E.Eviction.view s.eviction) x.id = rw at at c.acquire.ensures.view in
    let t = c.add_handle.new.self in
    let write = c.add_handle.ensures.slots x there in
    record {
      sound = got_kept m laws lawful (holding s) k c.in-Some.slot led x there t view viewed write
          c.add_handle.ensures.ids (omega (arith, c.handles.ensures, c.if-handles-self.false));
      stored = count_stored m (g.E.Eviction.at s.eviction) (g.I.Finder.view s.index) s.records
          (g.E.Eviction.at c.acquire.new.self) t c.in-Some.slot (x.handles + 1) x there write
          c.add_handle.ensures.ids c.acquire.ensures.places s.stored;
      weighed = got_counted m laws lawful (holding s) k c.in-Some.slot led x there t view viewed write
          c.add_handle.ensures.ids s.usage s.weighed;
      counted = got_entries m laws lawful (holding s) k c.in-Some.slot led x there t view viewed write
          c.add_handle.ensures.ids s.entries s.counted;
      numbered = s.numbered;
    }

pub returns : goal.returns
returns g c =
    let s = c.args.self.now in
    let lawful = g.met.E.Eviction.lawful in
    let laws = g.met.K.Eq.laws in
    let m = meaning_of s in
    let k : ℕ × g.row.K.Denot = (c.args.hash, c.args.key.now) in
    let x = c.in-Some.found.now in
    let there : slot_in s.records c.in-Some.slot ≡ Some x = c.in-Some.ensures.there in
    let led = c.in-Some.ensures.led in
    let at = ap (g.E.Eviction.at s.eviction) c.at-place.ensures
    ∙ placed m laws lawful (holding s) k c.in-Some.slot led x there in
    let view = g.E.Eviction.view c.acquire.new.self in
    let viewed : view ≡ m.policy.acquire (g.E.Eviction.view s.eviction) x.id = rw at at c.acquire.ensures.view in
    let t = c.add_handle.new.self in
    let write = c.add_handle.ensures.slots x there in record {
      holds = (
        entry_of (state_of s) x.id x.kept Memory,
        refl,
        c.id-id.ensures,
        (
          rec_of x,
          c.in-Some.ensures.hits,
          found m laws lawful (holding s) k c.in-Some.slot led x there,
          omega (arith, c.handles.ensures, c.if-handles-self.false),
          refl,
          got_after m laws lawful (holding s) k c.in-Some.slot led x there t view viewed write
              c.add_handle.ensures.ids,
        ),
      );
    }
