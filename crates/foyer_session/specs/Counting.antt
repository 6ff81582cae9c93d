-- How commands and their replies are counted.
use Rattle.std.specs.Prelude.{ℕ, Bool, List, [], ◌∷◌, Option, Some, None, Result, Ok, Err}
use Rattle.foyer_policy.specs.Moments.{is_expired}
use Rattle.foyer_policy.specs.Properties.{is_phantom}
use Rattle.foyer_policy.specs.declared.error.Reason.{Reason}
use Rattle.foyer_policy.specs.declared.types.Event.{Event}
use Rattle.foyer_core.specs.Stats.{counted, insert_counted, left_counted}
use Rattle.foyer_core.specs.Values.{Gone}
use Rattle.foyer_core.specs.declared.stats.Counted.TheVariants.{Hit, Miss, Fetch, Wait as Waits, Refused as IsRefused}
use Rattle.foyer_core.specs.declared.stats.Stats.{Stats}
use Rattle.foyer_session.specs.declared.command.Answer.{Answer}
use Rattle.foyer_session.specs.declared.command.Answer.TheVariants.{Entry, Found, Missing, Lead, Wait, Answered, Yes, No, Refused}
use Rattle.foyer_session.specs.declared.command.Command.{Command}
use Rattle.foyer_session.specs.declared.command.Command.TheVariants.{Get, Touch, GetOrFetch, Insert, InsertPiece, Complete}
use Rattle.foyer_session.specs.declared.command.Reply.{Reply}
use Rattle.foyer_session.specs.declared.counting.Counting.{Counting}
use Rattle.foyer_session.specs.declared.counting.Counting.TheVariants.{LookUp, Insert as IsInsert, Other}

-- what a command counts as
abbrev pub counting_of : {K V P Q C : Type 0} → Command K V P Q C → Counting
counting_of (Get _ _) = LookUp
counting_of (Touch _ _) = LookUp
counting_of (GetOrFetch _ _ _) = LookUp
counting_of (Insert _ _ _ _) = IsInsert
counting_of (InsertPiece _ _) = IsInsert
counting_of (Complete _ _ _ _) = IsInsert
counting_of _ = Other

-- the counts after the answer to a look-up
abbrev pub look_up_counted : {K V P : Type 0} → Answer K V P → Stats → Stats
look_up_counted (Found _ _) s = counted Hit s
look_up_counted Yes s = counted Hit s
look_up_counted Missing s = counted Miss s
look_up_counted No s = counted Miss s
look_up_counted (Lead _ _) s = counted Fetch s
look_up_counted (Wait _) s = counted Waits s
look_up_counted _ s = s

-- the counts after a refusal
abbrev pub refusal_counted : Counting → Stats → Stats
refusal_counted IsInsert s = counted IsRefused s
refusal_counted _ s = s

module _ {K V P : Type 0} (phantom : P → Option Bool) where
  -- the counts after the answer to an insert
  abbrev pub insert_answered : Answer K V P → Stats → Stats
  insert_answered (Entry _ shown _) s = insert_counted (is_phantom (phantom shown.kept.properties)) s
  insert_answered (Answered _ (Some shown)) s = insert_counted (is_phantom (phantom shown.kept.properties)) s
  insert_answered (Answered _ None) s = counted IsRefused s
  insert_answered (Refused _) s = counted IsRefused s
  insert_answered _ s = s

  -- the counts after an answer
  abbrev pub answer_counted : Counting → Answer K V P → Stats → Stats
  answer_counted LookUp answer s = look_up_counted answer s
  answer_counted IsInsert answer s = insert_answered answer s
  answer_counted Other answer s = s

  module _ (expires : P → Option ℕ) where
    -- the counts after these records left at a moment
    abbrev pub leaves_counted : ℕ → List (Event × Gone K V P) → Stats → Stats
    leaves_counted now [] s = s
    leaves_counted now (l ∷ ls) s = leaves_counted now ls
        (left_counted (is_phantom (phantom l.1.kept.properties)) (is_expired now (expires l.1.kept.properties)) l.0 s)

    -- the counts after a command at a moment that had this reply, or was refused before it was carried out
    abbrev pub step_counted : Counting → ℕ → Result (Reply K V P) Reason → Stats → Stats
    step_counted counting now (Ok reply) s = leaves_counted now reply.leaves (answer_counted counting reply.answer s)
    step_counted counting now (Err reason) s = refusal_counted counting s
