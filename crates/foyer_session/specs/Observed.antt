-- What replies tell of a session's index.
use Rattle.std.specs.Prelude.{◌≡◌, ℕ, Bool, List, [], ◌∷◌, Option, Some}
use Rattle.foyer_policy.specs.declared.types.Event.{Event}
use Rattle.foyer_core.specs.Observed.{after_entry, after_leaves, known}
use Rattle.foyer_core.specs.Values.{Gone}
use Rattle.foyer_session.specs.declared.command.Answer.{Answer}
use Rattle.foyer_session.specs.declared.command.Answer.TheVariants.{Answered, Entry}
use Rattle.foyer_session.specs.declared.command.Reply.{Reply}
use Rattle.foyer_session.specs.Step.{SessionState, hash_in}
use Rattle.foyer_session.specs.Terms.{Terms}

-- `same` says when keys are equal, and `phantom` whether properties say so.
module _ {K V P : Type 0} (same : K → K → Bool) (phantom : P → Option Bool) where
  -- what left, and then the record of an entry that an insert or the end of a fetch answered
  abbrev pub after_answer : (K → Option ℕ) → Answer K V P → List (Event × Gone K V P) → K → Option ℕ
  after_answer ids (Entry number came answers) leaves =
      after_entry same phantom (after_leaves same ids leaves) came.id came.kept
  after_answer ids (Answered answers (Some came)) leaves =
      after_entry same phantom (after_leaves same ids leaves) came.id came.kept
  after_answer ids _ leaves = after_leaves same ids leaves

  -- replies, in their order
  abbrev pub told : (K → Option ℕ) → List (Reply K V P) → K → Option ℕ
  told ids [] = ids
  told ids (reply ∷ replies) = told (after_answer ids reply.answer reply.leaves) replies

module _ {K V P View C S W A : Type 0} (t : Terms K V P View C S W A) where
  -- what each key hits
  abbrev pub index_of : SessionState K V P View S W A → K → Option ℕ
  index_of s = known (hash_in t s) s.core

  -- the index afterwards is what the replies tell of the index before
  abbrev pub IsTold : SessionState K V P View S W A → List (Reply K V P) → SessionState K V P View S W A → Type 0
  IsTold old replies new = (k : K) → index_of new k ≡ told t.meaning.same t.meaning.phantom (index_of old) replies k
