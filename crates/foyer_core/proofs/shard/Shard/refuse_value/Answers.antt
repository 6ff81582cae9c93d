use Rattle.std.proofs.Common.{◌≡◌, ℕ, ◌+◌, ◌-◌, [], true, Some, Err, length, ◌∙◌, arith}
use Rattle.foyer_core.specs.declared.record.Data.{Data}
use Rattle.foyer_core.specs.Inflight.{asked, closed}
use Rattle.foyer_core.specs.Inflights.{opens_of}
use Rattle.foyer_core.specs.State.{at_moment}
use Rattle.foyer_core.specs.Stores.{meaning_of, state_of}
use Rattle.foyer_core.specs.Waited.{Ending, ending_of}
use Rattle.foyer_core.proofs.ApartLemmas.{closed_apart, step_apart}
use Rattle.foyer_core.proofs.Completing.{refused_ends}
use Rattle.foyer_core.proofs.shard.Shard.refuse_value.Goals as goal

pub invariant_of-self : goal.invariant_of-self
invariant_of-self g c =
    let s = c.args.self.now in
    let f = opens_of s.inflights in
    let k : ℕ × g.row.K.Denot = (c.args.hash, c.args.key.now) in
    let shut = closed g.K.PartialEq.eq f k in
    record {
      apart = step_apart g.P.Properties.expiry_of (state_of s.store) f (opens_of c.take.new.self) shut c.take.result c.take.ensures.opens
          c.take.ensures.same s.apart
          (closed_apart g.P.Properties.expiry_of (state_of s.store) f g.K.PartialEq.eq k s.apart);
    }

pub returns-clause-completed : goal.returns-clause-completed
returns-clause-completed g c now source value =
    let s = c.args.self.now in
    let m = at_moment now (meaning_of s.store) in
    let f = opens_of s.inflights in
    let old = state_of s.store in
    let k : ℕ × g.row.K.Denot = (c.args.hash, c.args.key.now) in
    let of : g.row.V.Denot → Data g.row.K.Denot g.row.V.Denot g.row.P.Denot =
    λ (v : g.row.V.Denot).
    record {
      key = c.args.key.now;
      value = v;
      properties = c.args.properties.now;
      hash = c.args.hash;
      weight =
          c.args.weight;
    } in
    let count = c.len-further.result - 1 in
    let many : length c.in-Some.waiters.items ≡ 1 + count =
    omega (arith, c.len-further.ensures, c.in-Some.ensures.waited, c.in-Some.waiters.ok.0) in
    let ended : Ending g.row.K.Denot g.row.V.Denot g.row.P.Denot g.row.N.Denot =
    record { found = true; waiters = c.in-Some.waiters.items; outcome = Err c.out_of_memory-error.result; leaves = [] } in
    let is : ending_of c.found.result ≡ ended = c.found.ensures
    ∙ (λ j. record {
      found = true;
      waiters = c.in-Some.waiters.items;
      outcome = Err c.out_of_memory-error.result;
      leaves =
          c.new.ensures.items j;
    }) in
    refused_ends m source old old f (opens_of c.take.new.self) k (of value) c.in-Some.ensures.opens
    (asked (Some c.args.fetch) (f.by_key k)) c.in-Some.waiters.items c.in-Some.ensures.taken
    (1 + count) many c.out_of_memory-error.result [] (ending_of c.found.result) is
    (c.out_of_memory-error.ensures now value)
