use Rattle.std.proofs.Common.{◌≡◌, Option, Some, None, Ok, refl, sym, ap, subst, ◌∙◌}
use Rattle.std.specs.Prelude.{Result, is_some}
use Rattle.foyer_policy.specs.declared.error.Reason.{Reason}
use Rattle.foyer_core.specs.NoEntry.{is_found}
use Rattle.foyer_core.specs.Steps.{Touches}
use Rattle.foyer_core.specs.Stores.{meaning_of, state_of}
use Rattle.foyer_core.proofs.store.Store.touch.Goals as goal

found_is : {T : Type 0} (o : Option T) → is_found (Ok o) ≡ Ok (is_some o)
found_is None = refl
found_is (Some x) = refl

pub returns-in-Ok : goal.returns-in-Ok
returns-in-Ok g c =
    let s = c.args.self.now in
    rw c.is_some.ensures record {
      touches = subst
          (λ r. Touches (meaning_of s) c.args.now (state_of s) (c.args.hash, c.args.key.now) r (state_of c.read.new.self))
          (found_is c.in-Ok.found) c.in-Ok.ensures.reads.touches;
    }
