use Rattle.std.proofs.Common.{◌≡◌, ℕ, ◌<◌, Some, false}
use Rattle.foyer_core.specs.Probing.{tag_in}
use Rattle.foyer_core.specs.declared.tags.buckets.Tag.{Tag}
use Rattle.foyer_core.proofs.tags.buckets.Buckets.find.Given as goal

-- the question said no to the tags before this bucket
abbrev pub invariant-loop-bucket : goal.invariant-loop-bucket
invariant-loop-bucket g l = (i : ℕ) (t : Tag) → i < l.bucket → tag_in l.self i ≡ Some t
    → t.fingerprint ≡ l.fingerprint → goal.F-post g l.is_it t.slot false
