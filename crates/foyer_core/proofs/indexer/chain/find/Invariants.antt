use Rattle.std.proofs.Common.{length}
use Rattle.foyer_core.specs.Chains.{home, entries_of, nexts_of, walk, chain_of, IsPath}
use Rattle.foyer_core.proofs.FindLemmas.{IsPassed}
use Rattle.foyer_core.proofs.indexer.chain.find.Given as goal

abbrev pub invariant-loop-place : goal.invariant-loop-place
invariant-loop-place g l =
    let nexts = nexts_of l.pairs in
    let rest = walk nexts (length nexts) l.link in
    record {
      path : IsPath nexts l.link rest;
      passed : IsPassed g.K.PartialEq.eq (l.hash, l.key) (entries_of l.pairs)
          (chain_of l.heads nexts (home l.shift l.hash)) rest;
    }

abbrev pub decreases-loop-place : goal.decreases-loop-place
decreases-loop-place g l = length (walk (nexts_of l.pairs) (length (nexts_of l.pairs)) l.link)
