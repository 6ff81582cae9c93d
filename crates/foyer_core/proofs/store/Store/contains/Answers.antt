use Rattle.std.proofs.Common.{◌≡◌, Option, Some, None, refl, sym, ◌∙◌, ap}
use Rattle.std.specs.Prelude.{is_some, option_map}
use Rattle.foyer_core.proofs.store.Store.contains.Goals as goal

some_mapped : {A B : Type 0} (f : A → B) (o : Option A) → is_some (option_map f o) ≡ is_some o
some_mapped f None = refl
some_mapped f (Some x) = refl

pub returns : goal.returns
returns g c = c.is_some.ensures ∙ sym (ap is_some c.live_under.ensures.hits ∙ some_mapped _ c.live_under.result)
