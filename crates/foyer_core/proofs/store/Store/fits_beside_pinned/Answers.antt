use Rattle.std.proofs.Common.{arith}
use Rattle.std.proofs.lemmas.Bool.Decides.{nat_tests}
use Rattle.foyer_core.specs.Stores.{meaning_of, state_of}
use Rattle.foyer_core.proofs.PinLemmas.{beside_at_most}
use Rattle.foyer_core.proofs.store.Store.fits_beside_pinned.Goals as goal

pub returns-then-weight-pinned : goal.returns-then-weight-pinned
returns-then-weight-pinned g c =
    let s = c.args.self.now in
    let most = beside_at_most (meaning_of s) (state_of s) (c.args.hash, c.args.key.now) in
    (λ fits. omega (arith, c.pinned_weight-pinned.ensures, most), λ fits. grind (arith, nat_tests))
