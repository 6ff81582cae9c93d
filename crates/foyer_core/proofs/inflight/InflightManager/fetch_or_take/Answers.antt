use Rattle.std.proofs.Common.{◌≡◌, ℕ, false, Option, None, sym, ap, ◌∙◌, subst}
use Rattle.std.specs.Prelude.{IsSomeAnd, is_some}
use Rattle.foyer_core.specs.Inflight.{Opens, OpenFetch, IsFetchOrTake, asked, closed}
use Rattle.foyer_core.specs.Inflights.{opens_of}
use Rattle.foyer_core.specs.declared.inflight.FetchOrTake.TheVariants.{Notifiers}
use Rattle.foyer_core.proofs.InflightLemmas.{none_some, nothing_taken, open_asked, written_there}
use Rattle.foyer_core.proofs.inflight.InflightManager.fetch_or_take.Goals as goal

pub unreachable-requires : goal.unreachable-requires
unreachable-requires g c =
    let f = opens_of c.args.self.now in
    let k : ℕ × g.row.K.Denot = (c.args.hash, c.args.key.now) in
    let here = open_asked c.args.id (f.by_key k) (c.is_open.ensures.is_open.0 c.if-not-is_open.false) in
    let rest : OpenFetch g.row.N.Denot g.row.R.Denot =
    record { fetch = here.0.fetch; opened = here.0.opened; tokens = here.0.tokens; later = None } in
    let there = written_there g.K.PartialEq.eq g.met.K.Eq.laws f (opens_of c.take_later.new.self) k rest
    (λ q. ap (λ (x : Opens g.row.K.Denot g.row.N.Denot g.row.R.Denot). x.by_key q)
    (c.take_later.ensures.opens here.0 here.1)) in
    none_some (asked None ((opens_of c.take_later.new.self).by_key k)) rest c.in_default-take.ensures.none
    (ap (asked None) there)

pub returns-clause-answer : goal.returns-clause-answer
returns-clause-answer g c =
    let f = opens_of c.args.self.now in
    let k : ℕ × g.row.K.Denot = (c.args.hash, c.args.key.now) in
    let here = open_asked c.args.id (f.by_key k) (c.is_open.ensures.is_open.0 c.if-not-is_open.false) in
    let rest : OpenFetch g.row.N.Denot g.row.R.Denot =
    record { fetch = here.0.fetch; opened = here.0.opened; tokens = here.0.tokens; later = None } in
    let there = written_there g.K.PartialEq.eq g.met.K.Eq.laws f (opens_of c.take_later.new.self) k rest
    (λ q. ap (λ (x : Opens g.row.K.Denot g.row.N.Denot g.row.R.Denot). x.by_key q)
    (c.take_later.ensures.opens here.0 here.1)) in
    let taken = rw (ap (asked None) there) at c.in-Some-take.ensures.taken in
    subst (λ (o : Option (OpenFetch g.row.N.Denot g.row.R.Denot)). IsSomeAnd o
    (λ o. IsFetchOrTake o (Notifiers c.in-Some-take.waiters))) (sym here.2)
    (sym (c.take_later.ensures.later here.0 here.1) ∙ c.in_default.is, taken)

pub returns-clause-opens : goal.returns-clause-opens
returns-clause-opens g c =
    let f = opens_of c.args.self.now in
    let k : ℕ × g.row.K.Denot = (c.args.hash, c.args.key.now) in
    let here = open_asked c.args.id (f.by_key k) (c.is_open.ensures.is_open.0 c.if-not-is_open.false) in
    let none : is_some here.0.later ≡ false =
    ap is_some (sym (c.take_later.ensures.later here.0 here.1) ∙ c.in_default.is) in
    c.in-Some-take.ensures.opens ∙
    ap (λ (x : Opens g.row.K.Denot g.row.N.Denot g.row.R.Denot). closed g.K.PartialEq.eq x k)
    (c.take_later.ensures.opens here.0 here.1)
    ∙ nothing_taken g.K.PartialEq.eq f k here.0 here.1 none
