use Rattle.std.proofs.Common.{◌≡◌, ◌∙◌, rules}
use Rattle.foyer_core.specs.Records.{slot_in}
use Rattle.foyer_core.specs.Stores.{meaning_of}
use Rattle.foyer_core.specs.Table.{has_key}
use Rattle.foyer_core.proofs.Holdings.{holding}
use Rattle.foyer_core.proofs.LeftLemmas.{answer_is}
use Rattle.foyer_core.proofs.store.Store.slot_under.Goals as goal

pub find-requires-clause-told : goal.find-requires-clause-told
find-requires-clause-told g c κs within q s answer led said =
    let o = c.args.self.now in
    let is : answer ≡ has_key g.K.PartialEq.eq (slot_in o.records s) (c.args.hash, c.args.key.now) = search rules in
    is ∙ answer_is (meaning_of o) g.met.K.Eq.laws g.met.E.Eviction.lawful (holding o) (c.args.hash, c.args.key.now) q s
    led
