use Rattle.std.proofs.Common.{◌≡◌, ℕ, ◌-◌, ◌^◌, length}
use Rattle.std.specs.Prelude.{nat_lt}
use Rattle.foyer_core.specs.Chains.{entries_of, hashes_of, nexts_of, is_in, AreChains}
use Rattle.foyer_core.proofs.indexer.chain.spread.Given as goal

abbrev pub invariant-loop-place : goal.invariant-loop-place
invariant-loop-place g l = record {
  heads : length l.heads.items ≡ 2 ^ (64 - l.shift);
  chains : AreChains l.shift l.heads.items (hashes_of l.pairs) (nexts_of l.pairs);
  done : (i : ℕ) → is_in l.shift l.heads.items (hashes_of l.pairs) (nexts_of l.pairs) i ≡ nat_lt i l.place;
  entries : entries_of l.pairs ≡ entries_of l.initial.pairs;
}
