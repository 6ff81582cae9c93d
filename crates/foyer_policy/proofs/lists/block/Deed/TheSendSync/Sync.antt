use denote.RattleType.{RattleType}
use denote.Param.Send.{IsSync}
use Rattle.std.specs.declared.alloc.Allocator.{Ghosts}
use Rattle.foyer_policy.proofs.BlockCrosses.{Deed-sync}
use Rattle.foyer_policy.specs.contracts.lists.block.Deed.{the_row}

pub sync : (L T A : RattleType) (g : Ghosts A.Denot) → IsSync (the_row L T A g)
sync = Deed-sync
