use Rattle.std.proofs.Common.{◌∙◌, inl, inr, rules, Some}
use Rattle.std.specs.Prelude.{Ok, Err}
use Rattle.foyer_core.specs.Shards.{state_of, meaning_of, opens_of}
use Rattle.foyer_core.specs.Steps.{Gets}
use Rattle.foyer_core.proofs.StoredLemmas.{err_is}
use Rattle.foyer_raw.specs.Conditional.{IsAgain, SetsExpiry}
use Rattle.foyer_raw.specs.Told.{told_of}
use Rattle.foyer_raw.proofs.Used.{nothing_told, puts_again, used}
use Rattle.foyer_raw.proofs.counted.CountedShard.set_expires.Goals as goal

pub returns-in_ok-put_answering-in-Some-kept : goal.returns-in_ok-put_answering-in-Some-kept
returns-in_ok-put_answering-in-Some-kept g c =
    let s = c.args.self.now in
    let m = meaning_of s.shard in
    let mid = state_of c.get.new.self in
    let back = c.take_back.new.self in
    let kept = c.in-Some-kept.kept in
    let put = c.in_ok-put_answering-in-Some-kept in
    let gets : Gets m c.args.now.0 (state_of s.shard) c.args.key (Ok (Some c.in-Some.entry)) mid =
    rw (← c.key.view_is) (rw c.in-Some.is at c.in_ok-entry.ensures.gets) in
    puts_again m c.args.now.0
    (IsAgain g.K.Clone.is_clone g.V.Clone.is_clone g.P.Clone.is_clone g.P.Properties.with_expiry_of c.args.expires)
    c.args.key (Ok put.field-0) (told_of c.put_answering.new.leaves) (state_of s.shard) (state_of back)
    (state_of c.put_answering.new.self.shard) c.in-Some.entry kept (opens_of s.shard) (opens_of back)
    (opens_of c.put_answering.new.self.shard) s.stats c.count-2.new.self c.put_answering.new.self.stats
    (used m g.met.K.Eq.laws g.met.E.Eviction.lawful c.args.now.0 (state_of s.shard) s.shard.store.sound c.args.key
    c.in-Some.entry mid gets c.take_back.result (state_of back) c.take_back.ensures.taken c.take_back.ensures.foreign)
    c.in-Some-kept.ensures (c.take_back.ensures.opens ∙ c.get.ensures.opens) c.count-2.ensures
    put.ensures.puts put.ensures.answers put.ensures.opens put.ensures.counts

pub returns-in_err-put_answering-in-Some-kept : goal.returns-in_err-put_answering-in-Some-kept
returns-in_err-put_answering-in-Some-kept g c =
    let s = c.args.self.now in
    let m = meaning_of s.shard in
    let mid = state_of c.get.new.self in
    let back = c.take_back.new.self in
    let kept = c.in-Some-kept.kept in
    let put = c.in_err-put_answering-in-Some-kept in
    let gets : Gets m c.args.now.0 (state_of s.shard) c.args.key (Ok (Some c.in-Some.entry)) mid =
    rw (← c.key.view_is) (rw c.in-Some.is at c.in_ok-entry.ensures.gets) in
    err_is c.from_residual-in_err-put_answering-in-Some-kept.result put.field-0.0
    (λ r. SetsExpiry m c.args.now.0
    (IsAgain g.K.Clone.is_clone g.V.Clone.is_clone g.P.Clone.is_clone g.P.Properties.with_expiry_of c.args.expires)
    c.args.key r (told_of c.put_answering.new.leaves) (state_of s.shard) (state_of c.put_answering.new.self.shard)
    (opens_of s.shard) (opens_of c.put_answering.new.self.shard) s.stats c.put_answering.new.self.stats)
    c.from_residual-in_err-put_answering-in-Some-kept.ensures.1
    (inl (puts_again m c.args.now.0
    (IsAgain g.K.Clone.is_clone g.V.Clone.is_clone g.P.Clone.is_clone g.P.Properties.with_expiry_of c.args.expires)
    c.args.key (Err put.field-0.0) (told_of c.put_answering.new.leaves) (state_of s.shard) (state_of back)
    (state_of c.put_answering.new.self.shard) c.in-Some.entry kept (opens_of s.shard) (opens_of back)
    (opens_of c.put_answering.new.self.shard) s.stats c.count-2.new.self c.put_answering.new.self.stats
    (used m g.met.K.Eq.laws g.met.E.Eviction.lawful c.args.now.0 (state_of s.shard) s.shard.store.sound c.args.key
    c.in-Some.entry mid gets c.take_back.result (state_of back) c.take_back.ensures.taken c.take_back.ensures.foreign)
    c.in-Some-kept.ensures (c.take_back.ensures.opens ∙ c.get.ensures.opens) c.count-2.ensures
    put.ensures.puts put.ensures.answers put.ensures.opens put.ensures.counts))

pub returns-in-None : goal.returns-in-None
returns-in-None g c =
    let s = c.args.self.now in
    let m = meaning_of s.shard in
    let mid = state_of c.get.new.self in
    let gets : Gets m c.args.now.0 (state_of s.shard) c.args.key (Ok (Some c.in-Some.entry)) mid =
    rw (← c.key.view_is) (rw c.in-Some.is at c.in_ok-entry.ensures.gets) in
    inr (
      nothing_told c.args.leaves.now c.requires.untold,
      c.take_back.ensures.opens ∙ c.get.ensures.opens,
      inr (
        (search rules),
        (
          c.in-Some.entry,
          used m g.met.K.Eq.laws g.met.E.Eviction.lawful c.args.now.0 (state_of s.shard) s.shard.store.sound c.args.key
              c.in-Some.entry mid gets c.take_back.result (state_of c.take_back.new.self) c.take_back.ensures.taken
              c.take_back.ensures.foreign,
        ),
        (search rules),
      ),
    )
