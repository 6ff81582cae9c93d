use Rattle.std.proofs.Common.{◌≡◌, ◌∙◌, ℕ, ◌+◌, ap, arith, subst, sym}
use Rattle.foyer_policy.specs.declared.types.Source.TheVariants.{Outer}
use Rattle.foyer_core.specs.Inflight.{closed, waiters_of}
use Rattle.foyer_core.specs.Inflights.{opens_of}
use Rattle.foyer_core.specs.Settled.{entry_in}
use Rattle.foyer_core.specs.State.{at_moment, key_of}
use Rattle.foyer_core.specs.Steps.{Inserts, newcomer}
use Rattle.foyer_core.specs.Stores.{meaning_of, state_of}
use Rattle.foyer_core.specs.Values.{Held}
use Rattle.foyer_core.specs.Waited.{AnswersEach, waiting_for}
use Rattle.foyer_core.specs.declared.record.Data.{Data}
use Rattle.foyer_core.proofs.ApartLemmas.{answer_apart, within_equal, within_same}
use Rattle.foyer_core.proofs.NoEntryLemmas.{settled_handles}
use Rattle.foyer_core.proofs.Origins.{gives_back_from, nothing_new}
use Rattle.foyer_core.proofs.Returning.{inserted_entry}
use Rattle.foyer_core.proofs.ShardTold.{back_index}
use Rattle.foyer_core.proofs.shard.Shard.put_answering.Goals as goal

pub unreachable-requires : goal.unreachable-requires
unreachable-requires g c =
    let s = c.args.self.now in
    let m = at_moment c.args.now (meaning_of s.store) in
    let old = state_of s.store in
    let i = newcomer old c.args.kept (1 + waiting_for (opens_of s.inflights) (key_of c.args.kept)) in
    let new = state_of c.emplace_answering.new.self.store in
    let went = c.in-Ok.ensures.inserted in
    let is = inserted_entry m Outer old i went.more c.in-Ok.field-0.entry new went.so in
    let many = settled_handles m Outer old i went.more new
    (subst (λ (e : Held g.row.K.Denot g.row.V.Denot g.row.P.Denot). Inserts m Outer old i went.more e new) is went.so) in
    let id : c.id.result ≡ i.id = c.id.ensures ∙ ap (λ (e : Held g.row.K.Denot g.row.V.Denot g.row.P.Denot). e.id) is in
    absurd (omega (arith, many, rw id at c.in_default.ensures.foreign))

pub invariant_of-self : goal.invariant_of-self
invariant_of-self g c =
    let t = c.emplace_answering.new.self in
    let m = meaning_of t.store in
    let f = opens_of t.inflights in
    let old = state_of t.store in
    let new = state_of c.take_back_at.new.self in
    record {
      apart = answer_apart m.expires f old new c.take_back_at.result c.take_back_at.ensures.taken c.take_back_at.ensures.err
          (λ leave h. within_same old new (back_index m old c.id.result leave new h)
          (gives_back_from nothing_new m old c.id.result leave new h))
          (λ h. within_equal old new h) t.apart;
    }

pub returns-in-Ok-take_back_at : goal.returns-in-Ok-take_back_at
returns-in-Ok-take_back_at g c =
    let s = c.args.self.now in
    let f = opens_of s.inflights in
    let m = at_moment c.args.now (meaning_of s.store) in
    let old = state_of s.store in
    let i = newcomer old c.args.kept (1 + waiting_for f (key_of c.args.kept)) in
    let new = state_of c.emplace_answering.new.self.store in
    let went = c.in-Ok.ensures.inserted in
    let is = inserted_entry m Outer old i went.more c.in-Ok.field-0.entry new went.so in
    record {
      puts = record {
        more = went.more;
        told = went.told;
        so = record {
          entry = c.in-Ok.field-0.entry;
          mid = new;
          inserts = went.so;
          gives_back = rw c.id.ensures at c.in-Ok-take_back_at.ensures.taken;
        };
      };
      answers = subst (λ (e : Held g.row.K.Denot g.row.V.Denot g.row.P.Denot). AnswersEach
          (waiters_of (f.by_key (key_of e.kept))) e c.in-Ok.field-0.answers) is c.in-Ok.ensures.answers;
      closed = subst (λ (d : Data g.row.K.Denot g.row.V.Denot g.row.P.Denot).
          opens_of c.emplace_answering.new.self.inflights ≡ closed g.K.PartialEq.eq f (key_of d))
          (ap (λ (e : Held g.row.K.Denot g.row.V.Denot g.row.P.Denot). e.kept) is) c.in-Ok.ensures.closed;
      opens = tt;
    }
