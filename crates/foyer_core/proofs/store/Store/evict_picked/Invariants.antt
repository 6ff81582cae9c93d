use Rattle.std.proofs.Common.{◌≡◌, ◌+◌, length, take, drop, vec_len, vec_capacity}
use Rattle.foyer_policy.specs.declared.types.Event.TheVariants.{Evict}
use Rattle.foyer_core.specs.Stores.{meaning_of, state_of}
use Rattle.foyer_core.specs.Bulk.{GoesOn}
use Rattle.foyer_core.proofs.Outs.{OutSoFar}
use Rattle.foyer_core.proofs.store.Store.evict_picked.Given as goal

abbrev pub invariant-loop-item : goal.invariant-loop-item
invariant-loop-item g l = record {
  begun : GoesOn l.fn.leaves.items l.leaves.items
      (λ ls. OutSoFar (meaning_of l.fn.self) Evict (state_of l.fn.self) (take l.item-index l.picked)
      (drop l.item-index l.picked) ls (state_of l.self));
  len : vec_len l.leaves + length (drop l.item-index l.picked) ≡ vec_len l.fn.leaves + length l.picked;
  capacity : vec_capacity l.leaves ≡ vec_capacity l.fn.leaves;
}
