use Rattle.std.proofs.Common.{◌≡◌, ap, arith}
use Rattle.foyer_policy.specs.declared.types.Source.TheVariants.{Outer}
use Rattle.foyer_core.specs.Values.{Kept}
use Rattle.foyer_core.specs.Steps.{RefusesInsert, newcomer}
use Rattle.foyer_core.specs.Settled.{entry_in}
use Rattle.foyer_core.specs.State.{at_moment}
use Rattle.foyer_core.specs.Stores.{meaning_of, state_of}
use Rattle.foyer_core.proofs.AdmitLemmas.{new_out}
use Rattle.foyer_core.proofs.Holdings.{holding}
use Rattle.foyer_core.proofs.Moments.{refuses_at}
use Rattle.foyer_core.proofs.NoEntryLemmas.{settled_handles}
use Rattle.foyer_core.proofs.Told.{goes_start}
use Rattle.foyer_core.proofs.store.Store.put.Goals as goal

pub returns-in-Some : goal.returns-in-Some
returns-in-Some g c =
    let s = c.args.self.now in
    rw c.new.ensures record {
      puts = goes_start c.args.leaves.now.items
          (λ ls. RefusesInsert (at_moment c.args.now (meaning_of s)) (state_of s) (newcomer (state_of s) c.args.kept 1) c.in-Some.reason
          ls (state_of s))
          (refuses_at (meaning_of s) c.args.now (state_of s) (newcomer (state_of s) c.args.kept 1) c.in-Some.reason
          c.in-Some.ensures.some);
    }

pub insert_slot-requires-clause-out : goal.insert_slot-requires-clause-out
insert_slot-requires-clause-out g c κs within =
    let id : c.outside.result.id ≡ c.args.self.now.next =
    ap (λ (x : Kept g.row.K.Denot g.row.V.Denot g.row.P.Denot). x.id) c.outside.ensures in
    new_out (meaning_of c.args.self.now) g.met.K.Eq.laws g.met.E.Eviction.lawful (holding c.args.self.now)
    c.outside.result.id (omega arith)

pub returns-in_default-insert_slot : goal.returns-in_default-insert_slot
returns-in_default-insert_slot g c = rw c.new-in_default-insert_slot.ensures
    record { puts = rw c.outside.ensures at (c.in_default-insert_slot.ensures.inserted Outer) }

pub returns : goal.returns
returns g c =
    let s = c.args.self.now in
    let went = rw c.outside.ensures at (c.in-Some-insert_slot.ensures.inserted Outer) in
    record {
      puts = record {
        more = went.more;
        told = went.told;
        so = record {
          entry = entry_in (state_of s) (newcomer (state_of s) c.args.kept 1) Outer;
          mid = state_of c.insert_slot.new.self;
          inserts = went.so;
          gives_back = c.in-Ok.ensures.taken;
        };
      };
    }

pub unreachable-requires : goal.unreachable-requires
unreachable-requires g c =
    let s = c.args.self.now in
    let m = at_moment c.args.now (meaning_of s) in
    let went = rw c.outside.ensures at (c.in-Some-insert_slot.ensures.inserted Outer) in
    let one = settled_handles m Outer (state_of s) (newcomer (state_of s) c.args.kept 1) went.more
    (state_of c.insert_slot.new.self) went.so in
    absurd (omega (arith, one, c.in-Err.ensures.foreign))
