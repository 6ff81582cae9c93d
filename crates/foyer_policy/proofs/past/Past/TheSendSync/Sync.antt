-- A past lends nothing but itself, so any thread may share it.
use denote.RattleType.{RattleType}
use denote.Param.Send.{IsSync, part_keyless}
use Rattle.foyer_policy.specs.contracts.past.Past.{the_row}
use Rattle.foyer_policy.proofs.past.Past.TheSendSync.Send.{send}

pub sync : (T : RattleType) → IsSync (the_row T)
sync T = record { shared = λ d b o κ q. part_keyless (the_row T) (send T) q d b o }
