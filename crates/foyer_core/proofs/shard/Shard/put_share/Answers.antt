use Rattle.std.proofs.Common.{◌≡◌, ◌∙◌, ℕ, ◌+◌, None, Ok, Err, length, sym, subst}
use Rattle.std.specs.Prelude.{Option}
use Rattle.foyer_core.specs.Bulk.{GoesOn}
use Rattle.foyer_core.specs.Inflight.{OpenFetch, waiters_of}
use Rattle.foyer_core.specs.Inflights.{opens_of}
use Rattle.foyer_core.specs.NoEntry.{PutsAnswering}
use Rattle.foyer_core.specs.State.{key_of}
use Rattle.foyer_core.specs.Steps.{newcomer}
use Rattle.foyer_core.specs.Stores.{meaning_of, state_of}
use Rattle.foyer_core.proofs.InflightLemmas.{closed_already, opens_alike}
use Rattle.foyer_core.proofs.shard.Shard.put_share.Goals as goal

pub put-requires-clause-alone : goal.put-requires-clause-alone
put-requires-clause-alone g c κs within = c.has_fetches.ensures c.if-has_fetches.false

pub returns-in-Ok-clause-puts : goal.returns-in-Ok-clause-puts
returns-in-Ok-clause-puts g c =
    let s = c.args.self.now in
    let f = opens_of s.inflights in
    let old = state_of s.store in
    let k : ℕ × g.row.K.Denot = (c.args.kept.hash, c.args.kept.key) in
    let none : f.by_key k ≡ None = c.has_fetches.ensures c.if-has_fetches.false k in
    subst (λ (o : Option (OpenFetch g.row.N.Denot g.row.R.Denot)). GoesOn c.args.leaves.now.items c.put.new.leaves.items
    (λ ls. PutsAnswering (meaning_of s.store) c.args.now old (newcomer old c.args.kept (1 + length (waiters_of o)))
    (Ok c.in-Ok.last) ls (state_of c.put.new.self.store)))
    (sym none) c.in-Ok.ensures.puts

pub returns-in-Ok-clause-answers : goal.returns-in-Ok-clause-answers
returns-in-Ok-clause-answers g c =
    let f = opens_of c.args.self.now.inflights in
    let none : f.by_key (key_of c.args.kept) ≡ None = c.has_fetches.ensures c.if-has_fetches.false
    (key_of c.args.kept) in
    rw none (c.nobody.ensures.waiters, c.nobody.ensures.entries)

pub returns-in-Ok-clause-closed : goal.returns-in-Ok-clause-closed
returns-in-Ok-clause-closed g c =
    let s = c.args.self.now in
    let k = key_of c.args.kept in
    c.put.ensures.opens ∙ closed_already g.K.PartialEq.eq (opens_of s.inflights) k
    (λ q h. opens_alike g.met.K.Eq.laws s.inflights k q h) (c.has_fetches.ensures c.if-has_fetches.false k)

pub returns-in-Err-clause-puts : goal.returns-in-Err-clause-puts
returns-in-Err-clause-puts g c =
    let s = c.args.self.now in
    let f = opens_of s.inflights in
    let old = state_of s.store in
    let k : ℕ × g.row.K.Denot = (c.args.kept.hash, c.args.kept.key) in
    let none : f.by_key k ≡ None = c.has_fetches.ensures c.if-has_fetches.false k in
    subst (λ (o : Option (OpenFetch g.row.N.Denot g.row.R.Denot)). GoesOn c.args.leaves.now.items c.put.new.leaves.items
    (λ ls. PutsAnswering (meaning_of s.store) c.args.now old (newcomer old c.args.kept (1 + length (waiters_of o)))
    (Err c.in-Err.error) ls (state_of c.put.new.self.store)))
    (sym none) c.in-Err.ensures.puts
