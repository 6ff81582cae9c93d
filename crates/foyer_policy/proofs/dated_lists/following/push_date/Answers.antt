use Rattle.std.proofs.Common.{rules}
use Rattle.foyer_policy.specs.DatedLists.{dates_at}
use Rattle.foyer_policy.specs.Lists.{list_at}
use Rattle.foyer_policy.proofs.DatedLists.Changes.{CanPush-free}
use Rattle.foyer_policy.proofs.DatedLists.Entries.{dates-free}
use Rattle.foyer_policy.proofs.ListsLemmas.{free_at}
use Rattle.foyer_policy.proofs.dated_lists.following.push_date.Goals as goal

pub push-requires : goal.push-requires
push-requires g c =
    let item = g.T.HasItem.item_of in
    let ls = c.args.lists.now.lists in (
      search rules,
      CanPush-free g.row.N (dates_at item ls) c.args.place c.args.dates.now c.requires.known
          (λ k lt. dates-free item c.args.place (list_at ls k) (free_at c.args.place ls k c.requires.free)),
    )

pub returns-clause-known : goal.returns-clause-known
returns-clause-known g c =
    c.push.ensures.known g.row.N (dates_at g.T.HasItem.item_of c.args.lists.now.lists) c.requires.list c.requires.known
