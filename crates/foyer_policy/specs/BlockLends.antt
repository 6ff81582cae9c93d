-- What a block of nodes ends as, once a `&mut` to a value has ended.
use Rattle.std.specs.Prelude.{ℕ, List, slice_set, Option, Some}
use Rattle.std.specs.Borrow.{Fml, RattleType, MutBor, Lends}
use Rattle.foyer_policy.specs.declared.lists.block.Nodes.{Nodes}
use Rattle.foyer_policy.specs.contracts.lists.block.Nodes.{the_row}

abbrev pub with_values : {L T : Type 0} → Nodes L T → List (Option T) → Nodes L T
with_values n cs = record { mark = n.mark; at = n.at; links = n.links; values = cs }

abbrev pub lends_slot : (L T : RattleType) → MutBor (Nodes L.Denot T.Denot) → ℕ → MutBor T.Denot → Fml
lends_slot L T n i r = Lends (the_row L T) T n r (λ w. with_values n.now (slice_set n.now.values i (Some w)))
