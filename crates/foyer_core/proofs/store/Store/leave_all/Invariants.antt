use Rattle.std.proofs.Common.{◌≡◌, ◌+◌, length, take, drop, vec_len, vec_capacity}
use Rattle.foyer_core.specs.Stored.{meaning}
use Rattle.foyer_core.specs.Bulk.{GoesOn, Lined, Passes}
use Rattle.foyer_core.proofs.store.Store.leave_all.Given as goal

abbrev pub invariant-loop-item : goal.invariant-loop-item
invariant-loop-item g l = record {
  begun : (o : Lined (meaning g.K.PartialEq.eq g.E.Eviction.model g.P.Properties.hint_of g.P.Properties.phantom_of g.P.Properties.expiry_of)
      l.number (g.I.Finder.view l.fn.index) l.fn.records l.items)
      → GoesOn l.fn.leaves.items l.leaves.items (λ ls. Passes
      (meaning g.K.PartialEq.eq g.E.Eviction.model g.P.Properties.hint_of g.P.Properties.phantom_of g.P.Properties.expiry_of) o
      (take l.item-index l.items) (drop l.item-index l.items) ls (g.I.Finder.view l.index) l.records);
  len : vec_len l.leaves + length (drop l.item-index l.items) ≡ vec_len l.fn.leaves + length l.items;
  capacity : vec_capacity l.leaves ≡ vec_capacity l.fn.leaves;
}
