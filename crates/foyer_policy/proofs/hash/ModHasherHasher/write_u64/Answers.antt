use Rattle.std.proofs.Common.{sym, ◌∙◌, ap}
use Rattle.std.specs.Hash.{le_bytes}
use Rattle.foyer_policy.specs.Hash.{with_bytes}
use Rattle.foyer_policy.proofs.HashLemmas.{with_bytes-u64}
use Rattle.foyer_policy.proofs.hash.ModHasherHasher.write_u64.Goals as goal

pub returns : goal.returns
returns c =
    sym (with_bytes-u64 c.self.inside.sum c.self.inside.place c.args.i c.ranges.i.fits)
    ∙ ap (λ d. with_bytes d (le_bytes 8 c.args.i)) c.self.view_is
