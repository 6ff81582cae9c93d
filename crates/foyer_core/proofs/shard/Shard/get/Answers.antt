use Rattle.std.proofs.Common.{◌≡◌, ℕ, ◌∙◌, true, sym, subst}
use Rattle.std.specs.Prelude.{IfOk, IfSome}
use Rattle.foyer_core.specs.Looks.{look_of}
use Rattle.foyer_core.specs.Steps.{Gets}
use Rattle.foyer_core.specs.Stores.{meaning_of, state_of}
use Rattle.foyer_core.specs.Values.{Held}
use Rattle.foyer_core.proofs.LookLemmas.{got_hit, whole_got}
use Rattle.foyer_core.proofs.shard.Shard.get.Goals as goal

pub returns-clause-gets : goal.returns-clause-gets
returns-clause-gets g c =
    let s = c.args.self.now in
    let k : ℕ × g.row.K.Denot = (c.args.hash, c.args.key.now) in
    subst (λ r. Gets (meaning_of s.store) c.args.now (state_of s.store) k r (state_of c.look_up.new.self.store))
    (whole_got c.look_up.result c.look_up.ensures.told ∙ sym c.into_result.ensures) c.look_up.ensures.gets

pub returns-clause-asked : goal.returns-clause-asked
returns-clause-asked g c =
    let Asked : Held g.row.K.Denot g.row.V.Denot g.row.P.Denot → Type 0 =
    λ (e : Held g.row.K.Denot g.row.V.Denot g.row.P.Denot). g.K.PartialEq.eq c.args.key.now e.kept.key ≡ true in
    subst (λ r. IfOk r (λ found. IfSome found Asked)) (sym c.into_result.ensures)
    (got_hit Asked c.look_up.result c.look_up.ensures.asked)
