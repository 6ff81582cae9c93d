use denote.RattleType.{RattleType}
use denote.Param.Send.{IsSend}
use Rattle.foyer_policy.proofs.BlockCrosses.{Nodes-send}
use Rattle.foyer_policy.specs.contracts.lists.block.Nodes.{the_row}

pub send : (L T : RattleType) → IsSend L → IsSend T → IsSend (the_row L T)
send = Nodes-send
