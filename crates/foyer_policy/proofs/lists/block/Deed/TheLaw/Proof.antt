-- A `&` to a deed holds nothing. Assumes `Logic`.
use denote.RattleType.{RattleType}
use denote.RawPtr.{RawPtr}
use denote.Param.Laws.{Laws}
use denote.Param.Shared.{copy_shared}
use denote.SharingLaws.{nothing_shr_laws}
use denote.Struct.Laws.{field_copy}
use denote.Struct.Lending.{of_Lends, Lends-nothing}
use Rattle.std.specs.declared.alloc.Allocator.{Ghosts}
use Rattle.std.specs.contracts.marker.PhantomData as marker
use Rattle.foyer_policy.specs.contracts.lists.block.Deed as C
use Rattle.foyer_policy.proofs.lists.block.Deed.TheLaw.Statement.{statement}

pub shares : (K V A : RattleType) (g : Ghosts A.Denot) (L : Laws K) (N : Laws V) (P : Laws A) → statement K V A g L N P
shares K V A g L N P =
    of_Lends (C.struct K V A g)
    (C.the_codes K.Denot V.Denot A.Denot K.coded V.coded A.coded (marker.the_row RawPtr).coded)
    (C.the_heap K V A g) (C.the_lent K V A g) (λ d p. nothing_shr_laws)
    (copy_shared (marker.the_field RawPtr) (field_copy (marker.the_type RawPtr) tt), tt)
    (λ M 𝓤 𝓛 d p. Lends-nothing 𝓛 (C.the_heap K V A g d) (C.the_row K V A g).lives)
