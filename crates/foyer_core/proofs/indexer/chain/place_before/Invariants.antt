use Rattle.std.proofs.Common.{◌≡◌, length, None}
use Rattle.foyer_core.specs.Chains.{nexts_of, walk, IsPath, chain_of, before_in, home}
use Rattle.std.specs.Prelude.{slice_index_or, IfSome, ◌<◌}
use Rattle.foyer_core.specs.Chains.{hashes_of}
use Rattle.foyer_core.proofs.indexer.chain.place_before.Given as goal

abbrev pub invariant-loop-at : goal.invariant-loop-at
invariant-loop-at g l =
    let nexts = nexts_of l.pairs in
    let rest = walk nexts (length nexts) l.link in
    record {
      path : IsPath nexts l.link rest;
      within : IfSome l.before (λ b. b < length l.pairs);
      same : before_in l.before l.place rest ≡ before_in None l.place
          (chain_of l.heads nexts (home l.shift (slice_index_or (hashes_of l.pairs) l.place 0)));
    }

abbrev pub decreases-loop-at : goal.decreases-loop-at
decreases-loop-at g l = length (walk (nexts_of l.pairs) (length (nexts_of l.pairs)) l.link)
