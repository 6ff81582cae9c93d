use Rattle.std.specs.Prelude.{IfNone, Option, Some, None}
use Rattle.std.proofs.lemmas.Option.{IfSome_then}
use Rattle.foyer_core.proofs.store.Store.share_refusal.Goals as goal

none_weaker : {A P Q : Type 0} (o : Option A) → (P → Q) → IfNone o P → IfNone o Q
none_weaker None f h = f h
none_weaker (Some a) f h = tt

pub returns-clause-some : goal.returns-clause-some
returns-clause-some g c = IfSome_then c.new_refusal.result
    (rw (c.hash.ensures, c.key.ensures, c.properties.ensures, c.weight.ensures) at c.new_refusal.ensures.some)
    (λ reason h. h c.args.kept.now.value)

pub returns-clause-none : goal.returns-clause-none
returns-clause-none g c = none_weaker c.new_refusal.result (λ h. h c.args.kept.now.value)
    (rw (c.hash.ensures, c.key.ensures, c.properties.ensures, c.weight.ensures) at c.new_refusal.ensures.none)
