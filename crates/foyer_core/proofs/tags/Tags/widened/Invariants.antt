use Rattle.std.proofs.Common.{◌≡◌, ℕ}
use Rattle.foyer_core.specs.Probing.{tag_in, part_of, count_in}
use Rattle.foyer_core.specs.Tags.{slots_of}
use Rattle.foyer_core.proofs.tags.Tags.widened.Given as goal

-- the tags of the buckets so far are in
abbrev pub invariant-loop-bucket : goal.invariant-loop-bucket
invariant-loop-bucket l = record {
  slots : (s : ℕ) → slots_of l.wider s ≡ part_of (tag_in l.self.buckets) l.bucket s;
  len : l.wider.len ≡ count_in (tag_in l.self.buckets) l.bucket;
}
