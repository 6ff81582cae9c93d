use Rattle.std.proofs.Common.{◌≡◌, ℕ, ◌∙◌, Option, true, refl, sym, ap, subst}
use Rattle.std.proofs.lemmas.Bool.{eq-eqb}
use Rattle.foyer_core.specs.Indexer.{same_key}
use Rattle.foyer_core.specs.Inflight.{HasNumbers, OpenFetch, after_enqueue, enqueued}
use Rattle.foyer_core.specs.Inflights.{opens_of}
use Rattle.foyer_core.specs.Stores.{meaning_of, state_of}
use Rattle.foyer_core.proofs.ApartLemmas.{asked_apart, enqueued_apart}
use Rattle.foyer_core.proofs.InflightLemmas.{opens_alike}
use Rattle.foyer_core.proofs.WaitedLemmas.{enqueued_alike, hit_alike, index_alike}
use Rattle.foyer_core.proofs.shard.Shard.enqueue.Goals as goal

pub invariant_of-self : goal.invariant_of-self
invariant_of-self g c =
    let s = c.args.self.now in
    let eq = g.K.PartialEq.eq in
    let f = opens_of s.inflights in
    let k : ℕ × g.row.K.Denot = (c.args.hash, c.args.key.now) in
    let own : ℕ × g.row.K.Denot = (c.args.hash, c.in-Ok.own) in
    let same : same_key eq own k ≡ true = rw (eq-eqb c.args.hash c.args.hash refl)
    (c.requires.clones c.args.key.now c.in-Ok.own c.in-Ok.ensures.cases) in
    let m = meaning_of s.store in
    let old = state_of s.store in
    let alike = hit_alike m c.args.now old s.store.sound own k same in
    let to = after_enqueue eq c.args.now f own c.args.waiter c.args.required in
    record {
      apart = asked_apart m.expires old f (opens_of c.enqueue.new.self) to c.enqueue.result c.enqueue.ensures.opens
          c.enqueue.ensures.err s.apart
          (enqueued_apart m c.args.now old f own c.args.waiter c.args.required
          (λ q h. index_alike m old s.store.sound own q h) (alike ∙ c.requires.missing) s.apart);
    }

pub returns-in-Ok-Lead : goal.returns-in-Ok-Lead
returns-in-Ok-Lead g c =
    let s = c.args.self.now in
    let eq = g.K.PartialEq.eq in
    let f = opens_of s.inflights in
    let k : ℕ × g.row.K.Denot = (c.args.hash, c.args.key.now) in
    let own : ℕ × g.row.K.Denot = (c.args.hash, c.in-Ok.own) in
    let same : same_key eq own k ≡ true = rw (eq-eqb c.args.hash c.args.hash refl)
    (c.requires.clones c.args.key.now c.in-Ok.own c.in-Ok.ensures.cases) in
    let alike : f.by_key own ≡ f.by_key k = opens_alike g.met.K.Eq.laws s.inflights own k same in
    let numbers : HasNumbers s.store.limits.ids f k =
    subst (λ (n : ℕ). HasNumbers n f k) c.ids-ids.ensures (c.lacks.ensures.no c.if-lacks.false) in
    record {
      missed = tt;
      looked_up = (
        c.requires.missing,
        numbers,
        sym c.in-Ok-Lead.field-0-is ∙ c.in-Ok-Lead.ensures.answer
            ∙ ap (λ (o : Option (OpenFetch g.row.N.Denot g.row.R.Denot)). enqueued o s.inflights.next_fetch
            s.inflights.next_token c.args.required) alike,
        refl,
        c.in-Ok-Lead.ensures.opens ∙ enqueued_alike g.met.K.Eq.laws f own k same alike c.args.now c.args.waiter c.args.required,
      );
    }

pub returns-in-Ok-Wait : goal.returns-in-Ok-Wait
returns-in-Ok-Wait g c =
    let s = c.args.self.now in
    let eq = g.K.PartialEq.eq in
    let f = opens_of s.inflights in
    let k : ℕ × g.row.K.Denot = (c.args.hash, c.args.key.now) in
    let own : ℕ × g.row.K.Denot = (c.args.hash, c.in-Ok.own) in
    let same : same_key eq own k ≡ true = rw (eq-eqb c.args.hash c.args.hash refl)
    (c.requires.clones c.args.key.now c.in-Ok.own c.in-Ok.ensures.cases) in
    let alike : f.by_key own ≡ f.by_key k = opens_alike g.met.K.Eq.laws s.inflights own k same in
    let numbers : HasNumbers s.store.limits.ids f k =
    subst (λ (n : ℕ). HasNumbers n f k) c.ids-ids.ensures (c.lacks.ensures.no c.if-lacks.false) in
    record {
      missed = tt;
      looked_up = (
        c.requires.missing,
        numbers,
        sym c.in-Ok-Wait.field-0-is ∙ c.in-Ok-Wait.ensures.answer
            ∙ ap (λ (o : Option (OpenFetch g.row.N.Denot g.row.R.Denot)). enqueued o s.inflights.next_fetch
            s.inflights.next_token c.args.required) alike,
        refl,
        c.in-Ok-Wait.ensures.opens ∙ enqueued_alike g.met.K.Eq.laws f own k same alike c.args.now c.args.waiter c.args.required,
      );
    }
