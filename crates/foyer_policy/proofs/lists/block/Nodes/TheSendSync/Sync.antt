use denote.RattleType.{RattleType}
use denote.Param.Send.{IsSync}
use Rattle.foyer_policy.proofs.BlockCrosses.{Nodes-sync}
use Rattle.foyer_policy.specs.contracts.lists.block.Nodes.{the_row}

pub sync : (L T : RattleType) → IsSync L → IsSync T → IsSync (the_row L T)
sync = Nodes-sync
