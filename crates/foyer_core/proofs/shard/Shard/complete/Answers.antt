use Rattle.std.proofs.Common.{◌≡◌, ℕ, ◌+◌, ◌-◌, Some, length, sym, subst, arith}
use Rattle.std.specs.Prelude.{MatchResult}
use Rattle.std.proofs.Math.Logic.{∥∥₁_map}
use Rattle.foyer_core.specs.Fetching.{Apart}
use Rattle.foyer_core.specs.Inflight.{Opens, asked, closed}
use Rattle.foyer_core.specs.Inflights.{opens_of}
use Rattle.foyer_core.specs.State.{at_moment}
use Rattle.foyer_core.specs.Steps.{Inserts, RefusesInsert, newcomer}
use Rattle.foyer_core.specs.Stores.{meaning_of, state_of}
use Rattle.foyer_core.specs.Waited.{ending_of}
use Rattle.foyer_core.proofs.ApartLemmas.{closed_apart, inserts_apart, new_apart, refuses_apart, step_apart}
use Rattle.foyer_core.proofs.Completing.{came_ends}
use Rattle.foyer_core.proofs.Moments.{kept_at}
use Rattle.foyer_core.proofs.Told.{goes_all}
use Rattle.foyer_core.proofs.WaitedLemmas.{either_way}
use Rattle.foyer_core.proofs.shard.Shard.complete.Goals as goal

pub invariant_of-self : goal.invariant_of-self
invariant_of-self g c =
    let s = c.args.self.now in
    let f = opens_of s.inflights in
    let k : ℕ × g.row.K.Denot = (c.args.kept.hash, c.args.kept.key) in
    let shut = closed g.K.PartialEq.eq f k in
    record {
      apart = step_apart g.P.Properties.expiry_of (state_of s.store) f (opens_of c.take.new.self) shut c.take.result c.take.ensures.opens
          c.take.ensures.same s.apart
          (closed_apart g.P.Properties.expiry_of (state_of s.store) f g.K.PartialEq.eq k s.apart);
    }

pub invariant_of-self-2 : goal.invariant_of-self-2
invariant_of-self-2 g c =
    let s = c.args.self.now in
    let m = at_moment c.args.now (meaning_of s.store) in
    let f = opens_of s.inflights in
    let old = state_of s.store in
    let new = state_of c.emplace_data-came.new.self in
    let k : ℕ × g.row.K.Denot = (c.args.kept.hash, c.args.kept.key) in
    let i = newcomer old c.args.kept (1 + (c.len.result - 1)) in
    let went = c.emplace_data-came.ensures.inserted in
    let sound = ∥∥₁_map s.store.sound (kept_at (meaning_of s.store) c.args.now old) in
    record {
      apart = subst (λ (x : Opens g.row.K.Denot g.row.N.Denot g.row.R.Denot). Apart m.expires new x)
          (sym c.in-Some.ensures.opens)
          (either_way c.emplace_data-came.result went.so
          (λ made h. inserts_apart m f old sound i (new_apart m f old c.args.kept (1 + (c.len.result - 1))) c.args.source
          went.more made.entry new h s.apart)
          (λ error h. closed_apart m.expires new f g.K.PartialEq.eq k
          (refuses_apart m f old i error went.more new h s.apart)));
    }

pub returns : goal.returns
returns g c =
    let s = c.args.self.now in
    let m = at_moment c.args.now (meaning_of s.store) in
    let f = opens_of s.inflights in
    let old = state_of s.store in
    let new = state_of c.emplace_data-came.new.self in
    let k : ℕ × g.row.K.Denot = (c.args.kept.hash, c.args.kept.key) in
    let count = c.len.result - 1 in
    let i = newcomer old c.args.kept (1 + count) in
    let many : length c.in-Some.waiters.items ≡ 1 + count =
    omega (arith, c.len.ensures, c.in-Some.ensures.waited, c.in-Some.waiters.ok.0) in
    record {
      completed = came_ends m c.args.source old new f (opens_of c.take.new.self) k c.args.kept c.in-Some.ensures.opens
          (asked (Some c.args.fetch) (f.by_key k)) c.in-Some.waiters.items c.in-Some.ensures.taken
          c.emplace_data-came.result c.emplace_data-came.new.leaves.items count many c.emplace_data-came.ensures.others
          (goes_all c.emplace_data-came.new.leaves.items
          (λ ls. MatchResult c.emplace_data-came.result (λ made. Inserts m c.args.source old i ls made.entry new)
          (λ error. RefusesInsert m old i error ls new))
          (rw c.new-leaves.ensures.items at c.emplace_data-came.ensures.inserted)) (ending_of c.found.result)
          c.found.ensures;
    }
