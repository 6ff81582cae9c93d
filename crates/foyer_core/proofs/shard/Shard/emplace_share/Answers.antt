use Rattle.std.proofs.Common.{◌≡◌, ◌∙◌, ℕ, ◌+◌, None, length, sym, ap, subst}
use Rattle.std.specs.Prelude.{Option}
use Rattle.foyer_core.specs.Bulk.{GoesOn}
use Rattle.foyer_core.specs.Looks.{whole}
use Rattle.foyer_core.specs.Inflight.{OpenFetch, waiters_of}
use Rattle.foyer_core.specs.Inflights.{opens_of}
use Rattle.foyer_core.specs.State.{at_moment, key_of}
use Rattle.foyer_core.specs.Steps.{Inserts, RefusesInsert, newcomer}
use Rattle.foyer_core.specs.Stores.{meaning_of, state_of}
use Rattle.foyer_core.specs.Values.{Held}
use Rattle.foyer_core.specs.Waited.{waiting_for}
use Rattle.foyer_core.proofs.LookLemmas.{whole_is}
use Rattle.foyer_core.proofs.InflightLemmas.{closed_already, opens_alike}
use Rattle.foyer_core.proofs.Told.{goes_start}
use Rattle.foyer_core.proofs.shard.Shard.emplace_share.Goals as goal

pub returns-in_default-clause-inserted : goal.returns-in_default-clause-inserted
returns-in_default-clause-inserted g c =
    let s = c.args.self.now in
    let old = state_of s.store in
    goes_start c.args.leaves.now.items
    (λ ls. RefusesInsert (at_moment c.args.now (meaning_of s.store)) old
    (newcomer old c.args.kept (1 + waiting_for (opens_of s.inflights) (key_of c.args.kept))) c.out_of_memory.result ls old)
    (rw (c.hash.ensures, c.key-key.ensures, c.properties-properties.ensures, c.weight.ensures)
    at (c.out_of_memory.ensures c.args.now c.args.kept.value))

pub place-requires-clause-alone : goal.place-requires-clause-alone
place-requires-clause-alone g c κs within = c.has_fetches.ensures c.if-has_fetches.false

pub place-requires-clause-of : goal.place-requires-clause-of
place-requires-clause-of g c κs within = c.in-Some.ensures.0

pub returns-in-Ok-clause-inserted : goal.returns-in-Ok-clause-inserted
returns-in-Ok-clause-inserted g c =
    let s = c.args.self.now in
    let f = opens_of s.inflights in
    let old = state_of s.store in
    let new = state_of c.place.new.self.store in
    let k : ℕ × g.row.K.Denot = (c.args.kept.hash, c.args.kept.key) in
    let none : f.by_key k ≡ None = c.has_fetches.ensures c.if-has_fetches.false k in
    let e : Held g.row.K.Denot g.row.V.Denot g.row.P.Denot = c.place.new.entry in
    let full = whole_is e (ap (λ (x : Held g.row.K.Denot g.row.V.Denot g.row.P.Denot). x.left) c.place.ensures.stays
    ∙ c.in-Some.ensures.1.1) in
    let m = at_moment c.args.now (meaning_of s.store) in
    subst (λ (o : Option (OpenFetch g.row.N.Denot g.row.R.Denot)). GoesOn c.args.leaves.now.items c.place.new.leaves.items
    (λ ls. Inserts m c.args.source old (newcomer old c.args.kept (1 + length (waiters_of o))) ls e new))
    (sym none)
    (subst (λ (x : Held g.row.K.Denot g.row.V.Denot g.row.P.Denot). GoesOn c.args.leaves.now.items c.place.new.leaves.items
    (λ ls. Inserts m c.args.source old (newcomer old c.args.kept 1) ls x new)) full
    (rw c.in-Some.ensures.1.0 at c.in-Ok.ensures.inserted))

pub returns-in-Ok-clause-given : goal.returns-in-Ok-clause-given
returns-in-Ok-clause-given g c =
    ap (λ (x : Held g.row.K.Denot g.row.V.Denot g.row.P.Denot). x.kept) c.place.ensures.stays ∙ c.in-Some.ensures.0

pub returns-in-Ok-clause-answers : goal.returns-in-Ok-clause-answers
returns-in-Ok-clause-answers g c =
    let f = opens_of c.args.self.now.inflights in
    let none : f.by_key (key_of c.place.new.entry.kept) ≡ None = c.has_fetches.ensures c.if-has_fetches.false
    (key_of c.place.new.entry.kept) in
    rw none (c.nobody.ensures.waiters, c.nobody.ensures.entries)

pub returns-in-Ok-clause-closed : goal.returns-in-Ok-clause-closed
returns-in-Ok-clause-closed g c =
    let s = c.args.self.now in
    let k = key_of c.place.new.entry.kept in
    c.place.ensures.opens ∙ closed_already g.K.PartialEq.eq (opens_of s.inflights) k
    (λ q h. opens_alike g.met.K.Eq.laws s.inflights k q h) (c.has_fetches.ensures c.if-has_fetches.false k)

pub returns-in-Err-clause-inserted : goal.returns-in-Err-clause-inserted
returns-in-Err-clause-inserted g c =
    let s = c.args.self.now in
    let f = opens_of s.inflights in
    let old = state_of s.store in
    let k : ℕ × g.row.K.Denot = (c.args.kept.hash, c.args.kept.key) in
    let none : f.by_key k ≡ None = c.has_fetches.ensures c.if-has_fetches.false k in
    subst (λ (o : Option (OpenFetch g.row.N.Denot g.row.R.Denot)). GoesOn c.args.leaves.now.items c.place.new.leaves.items
    (λ ls. RefusesInsert (at_moment c.args.now (meaning_of s.store)) old (newcomer old c.args.kept (1 + length (waiters_of o)))
    c.in-Err.error ls (state_of c.place.new.self.store)))
    (sym none) c.in-Err.ensures.inserted
