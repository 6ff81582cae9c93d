use denote.RattleType.{RattleType}
use denote.Param.Send.{IsSend, Frees}
use Rattle.std.specs.declared.alloc.Allocator.{Ghosts}
use Rattle.foyer_policy.proofs.BlockCrosses.{Deed-send}
use Rattle.foyer_policy.specs.contracts.lists.block.Deed.{the_row}

pub send : (L T A : RattleType) (g : Ghosts A.Denot) → IsSend A → Frees g g.dealloc_token → IsSend (the_row L T A g)
send L T A g s = Deed-send L T A g
