use Rattle.std.proofs.Common.{ℕ, sym, ap, ◌∙◌}
use Rattle.foyer_core.specs.Inflight.{waiters_of}
use Rattle.foyer_core.specs.Inflights.{opens_of}
use Rattle.foyer_core.proofs.InflightLemmas.{closed_already, none_asked, opens_alike}
use Rattle.foyer_core.proofs.inflight.InflightManager.close.Goals as goal

pub returns-in-None-clause-closed : goal.returns-in-None-clause-closed
returns-in-None-clause-closed g c =
    let s = c.args.self.now in
    let k : ℕ × g.row.K.Denot = (c.args.hash, c.args.key.now) in
    c.in-None.ensures.same ∙ closed_already g.K.PartialEq.eq (opens_of s) k
    (λ q h. opens_alike g.met.K.Eq.laws s k q h) (none_asked ((opens_of s).by_key k) c.in-None.ensures.none)

pub returns-then-is_empty-clause-closed : goal.returns-then-is_empty-clause-closed
returns-then-is_empty-clause-closed g c =
    let s = c.args.self.now in
    let k : ℕ × g.row.K.Denot = (c.args.hash, c.args.key.now) in
    closed_already g.K.PartialEq.eq (opens_of s) k (λ q h. opens_alike g.met.K.Eq.laws s k q h)
    (c.is_empty.ensures.0 c.if-is_empty.true k)

pub returns-then-is_empty-clause-waiters : goal.returns-then-is_empty-clause-waiters
returns-then-is_empty-clause-waiters g c =
    let s = c.args.self.now in
    let k : ℕ × g.row.K.Denot = (c.args.hash, c.args.key.now) in
    c.new.ensures.items ∙ ap waiters_of (sym (c.is_empty.ensures.0 c.if-is_empty.true k))
