-- What a list of commands may do.
use Rattle.std.specs.Prelude.{◌≡◌, Bool, List, [], ◌∷◌}
use Rattle.foyer_session.specs.declared.command.Command.{Command}
use Rattle.foyer_session.specs.declared.command.Reply.{Reply}
use Rattle.foyer_session.specs.Step.{SessionState, Step}
use Rattle.foyer_session.specs.Terms.{Terms}

module _ {K V P View C S W A Q : Type 0} (t : Terms K V P View C S W A) (picks : Q → K → V → Bool → Type 0) where
  -- each command has its reply, and is a step from the state that the commands before it left
  abbrev pub Run : SessionState K V P View S W A → List (Command K V P Q C) → List (Reply K V P) →
      SessionState K V P View S W A → Type 0
  Run old [] [] new = new ≡ old
  Run old (command ∷ commands) (reply ∷ replies) new =
      (mid : SessionState K V P View S W A) × Step t picks old command reply.answer reply.leaves mid
      × Run mid commands replies new
  Run old [] (reply ∷ replies) new = ⊥
  Run old (command ∷ commands) [] new = ⊥
