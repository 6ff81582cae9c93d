use Rattle.std.proofs.Common.{◌+◌}
use Rattle.foyer_policy.specs.declared.error.Reason.{Reason}
use Rattle.foyer_policy.specs.declared.error.Reason.TheVariants.{NoMemory}
use Rattle.foyer_core.specs.declared.record.Data.{Data}
use Rattle.std.specs.Prelude.{unwrap_or}
use Rattle.foyer_core.specs.Steps.{RefusesInsert, newcomer}
use Rattle.foyer_core.specs.State.{at_moment}
use Rattle.foyer_core.specs.Stores.{meaning_of, state_of}
use Rattle.foyer_core.proofs.Completing.{refusal_is}
use Rattle.foyer_core.proofs.Moments.{refuses_at}
use Rattle.foyer_core.proofs.store.Store.out_of_memory.Goals as goal

pub returns : goal.returns
returns g c now value =
    let s = c.args.self.now in
    let of : g.row.V.Denot → Data g.row.K.Denot g.row.V.Denot g.row.P.Denot =
    λ (v : g.row.V.Denot).
    record {
      key = c.args.key.now;
      value = v;
      properties = c.args.properties.now;
      hash = c.args.hash;
      weight =
          c.args.weight;
    } in
    let reason : Reason = unwrap_or c.new_refusal-refusal.result NoMemory in
    rw (c.new.ensures, c.unwrap_or.ensures)
    (refuses_at (meaning_of s) now (state_of s) (newcomer (state_of s) (of value) (1 + c.args.further)) reason
    (refusal_is (meaning_of s) (state_of s) (λ v. newcomer (state_of s) (of v) (1 + c.args.further))
    c.new_refusal-refusal.result c.new_refusal-refusal.ensures.some c.new_refusal-refusal.ensures.none value))
