use Rattle.std.proofs.Common.{◌≡◌, Some, sym, ◌∙◌, ap}
use Rattle.foyer_core.specs.Records.{slot_in}
use Rattle.foyer_core.proofs.TableLemmas.{id_by-some}
use Rattle.foyer_core.proofs.records.Records.find.Goals as goal

pub returns-then-id : goal.returns-then-id
returns-then-id g c =
    let at : slot_in c.args.self.now c.args.hint ≡ Some c.in-Some.slot.now = sym (rw c.in-Some.is at c.get.ensures) in
    sym (c.args.self.now.agree.known c.args.hint c.args.id
    (id_by-some (slot_in c.args.self.now) c.args.hint c.in-Some.slot.now at
    ∙ ap (λ x. Some x) (sym c.id.ensures ∙ c.if-id.true)))
