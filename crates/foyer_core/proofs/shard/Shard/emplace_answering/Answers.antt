use Rattle.std.proofs.Common.{◌≡◌, ◌∙◌, ℕ, ◌+◌, Some, length, replicate, refl, sym, ap}
use Rattle.std.proofs.Math.Logic.{∥∥₁_map}
use Rattle.foyer_core.specs.Inflight.{waiters_of}
use Rattle.foyer_core.specs.Inflights.{opens_of}
use Rattle.foyer_core.specs.State.{at_moment, key_of}
use Rattle.foyer_core.specs.Steps.{newcomer}
use Rattle.foyer_core.specs.Stores.{meaning_of, state_of}
use Rattle.foyer_core.specs.Values.{Held}
use Rattle.foyer_core.specs.declared.record.Data.{Data}
use Rattle.foyer_core.proofs.ApartLemmas.{arrived_apart, new_apart, refuses_apart}
use Rattle.foyer_core.proofs.Moments.{kept_at}
use Rattle.foyer_core.proofs.Returning.{inserted_entry}
use Rattle.foyer_core.proofs.shard.Shard.emplace_answering.Goals as goal

pub invariant_of-self : goal.invariant_of-self
invariant_of-self g c =
    let s = c.args.self.now in
    let m = at_moment c.args.now (meaning_of s.store) in
    let old = state_of s.store in
    let i = newcomer old c.args.kept (1 + c.further-further.result.count) in
    let went = c.in-Ok.ensures.inserted in
    record {
      apart = arrived_apart m (opens_of s.inflights) old (∥∥₁_map s.store.sound (kept_at (meaning_of s.store) c.args.now old)) i
          (new_apart m (opens_of s.inflights) old c.args.kept (1 + c.further-further.result.count)) c.args.source
          went.more c.in-Ok.made.entry
          (state_of c.emplace.new.self) went.so
          c.in-Ok.made.entry.kept.hash c.in-Ok.made.entry.kept.key refl refl (opens_of c.answers-answers.new.self)
          c.answers-answers.ensures.closed s.apart;
    }

pub invariant_of-self-in-Err-1 : goal.invariant_of-self-in-Err-1
invariant_of-self-in-Err-1 g c =
    let s = c.args.self.now in
    let old = state_of s.store in
    let i = newcomer old c.args.kept (1 + c.further-further.result.count) in
    let went = c.in-Err.ensures.inserted in
    record {
      apart = refuses_apart (at_moment c.args.now (meaning_of s.store)) (opens_of s.inflights) old i c.in-Err.error went.more
          (state_of c.emplace.new.self) went.so s.apart;
    }

pub returns-in-Ok-clause-given : goal.returns-in-Ok-clause-given
returns-in-Ok-clause-given g c =
    let s = c.args.self.now in
    let old = state_of s.store in
    let went = c.in-Ok.ensures.inserted in
    ap (λ (e : Held g.row.K.Denot g.row.V.Denot g.row.P.Denot). e.kept)
    (inserted_entry (at_moment c.args.now (meaning_of s.store)) c.args.source old
    (newcomer old c.args.kept (1 + c.further-further.result.count)) went.more c.in-Ok.made.entry
    (state_of c.emplace.new.self) went.so)

pub returns-in-Ok-clause-answers : goal.returns-in-Ok-clause-answers
returns-in-Ok-clause-answers g c =
    let f = opens_of c.args.self.now.inflights in
    let many : c.further-further.result.count ≡ length (waiters_of (f.by_key (key_of c.in-Ok.made.entry.kept))) =
    (rw (c.hash.ensures, c.key.ensures) at c.further-further.ensures.count)
    ∙ ap (λ (d : Data g.row.K.Denot g.row.V.Denot g.row.P.Denot). length (waiters_of (f.by_key (key_of d))))
    (sym (returns-in-Ok-clause-given g c)) in (
      c.answers-answers.ensures.waiters,
      c.answers-answers.ensures.entries
          ∙ ap Some (c.in-Ok.ensures.others ∙ ap (λ (n : ℕ). replicate n c.in-Ok.made.entry) many),
    )

pub returns-in-Ok-clause-inserted : goal.returns-in-Ok-clause-inserted
returns-in-Ok-clause-inserted g c = rw (c.further-further.ensures.count, c.hash.ensures, c.key.ensures) at c.in-Ok.ensures.inserted

pub returns-in-Err-clause-inserted : goal.returns-in-Err-clause-inserted
returns-in-Err-clause-inserted g c = rw (c.further-further.ensures.count, c.hash.ensures, c.key.ensures) at c.in-Err.ensures.inserted
