use Rattle.std.proofs.Common.{◌∙◌, ap, refl}
use Rattle.luffapricot_c.specs.Statuses.{open_status}
use Rattle.luffapricot_c.proofs.HeldLemmas.{on_held, on_none}
use Rattle.luffapricot_c.proofs.bulk.luffa_shard_show_left.Goals as goal

pub returns-in_default : goal.returns-in_default
returns-in_default c = on_none _ _ _ c.in_default.ensures.none c.take.ensures.empty

pub returns : goal.returns
returns c = on_held _ c.in-Some.cache.value c.in-Some.cache.value _ _ _ c.in-Some.ensures.taken c.of.ensures (
  refl,
  c.of_open-status.ensures ∙ ap open_status (rw c.deref.ensures at c.show_left.ensures.found),
  rw c.deref.ensures at c.show_left.ensures.shown,
)
