-- A `&` to the nodes reaches each link and value. Assumes `Logic`.
use mathlib.Core.List.{[], ◌++◌}
use base.Fml.{Incl-trans}
use contract.BorrowLft.{meet_⊑_left, meet_⊑_right}
use denote.RattleType.{RattleType}
use denote.RawPtr.{RawPtr}
use denote.Param.Laws.{Laws}
use denote.Param.Shared.{copy_shared}
use denote.Struct.Laws.{field_copy}
use denote.Struct.Lending.{of_Lends}
use Rattle.std.specs.contracts.marker.PhantomData as marker
use Rattle.foyer_policy.specs.contracts.lists.block.Nodes as C
use Rattle.foyer_policy.proofs.lists.block.Nodes.TheLaw.Statement.{statement}
use Rattle.foyer_policy.proofs.BlockSharing.{nodes_lent_laws, Lends-nodes}

pub shares : (K V : RattleType) (L : Laws K) (N : Laws V) → statement K V L N
shares K V L N = of_Lends (C.struct K V) (C.the_codes K.Denot V.Denot K.coded V.coded (marker.the_row RawPtr).coded)
    (C.the_heap K V) (C.the_lent K V)
    (λ d p. nodes_lent_laws K V L.shr_laws N.shr_laws d.at d.links d.values)
    (copy_shared (marker.the_field RawPtr) (field_copy (marker.the_type RawPtr) tt), tt)
    (λ M 𝓤 𝓛 d p.
    Lends-nodes 𝓛 (C.the_row K V).lives K V L N
    (Incl-trans (meet_⊑_left (K.lives ++ (V.lives ++ [])) _) (meet_⊑_left K.lives (V.lives ++ [])))
    (Incl-trans (meet_⊑_left (K.lives ++ (V.lives ++ [])) _)
    (Incl-trans (meet_⊑_right K.lives (V.lives ++ [])) (meet_⊑_left V.lives []))) d.at d.links d.values)
