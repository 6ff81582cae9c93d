use Rattle.std.proofs.Common.{ap, sym}
use Rattle.foyer_policy.specs.Dues.{first_item}
use Rattle.foyer_policy.proofs.DatedLists.Changes.{due-plain}
use Rattle.foyer_policy.proofs.due.first_of_lists.Goals as goal

pub returns-then-is_plain-clause-first : goal.returns-then-is_plain-clause-first
returns-then-is_plain-clause-first g c =
    sym (ap first_item (due-plain g.T.HasItem.item_of g.row.N c.args.lists.now.lists
    (c.is_plain.ensures c.if-is_plain.true) c.args.now c.args.count c.requires))
