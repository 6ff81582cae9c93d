-- The texts that a program prints.
use Rattle.std.specs.Prelude.{ℕ, List, [], ◌∷◌, ◌++◌, Option, Some, None, Result, Ok, Err, codes, decimal, flat_map}
use Rattle.foyer_policy.specs.declared.types.Event.{Event}
use Rattle.foyer_policy.specs.declared.types.Event.TheVariants.{Evict, Replace, Remove, Clear}
use Rattle.foyer_policy.specs.declared.error.Reason.{Reason}
use Rattle.foyer_policy.specs.Errors.{number_of}
use Rattle.foyer_core.specs.Values.{Gone}
use Rattle.foyer_session.specs.declared.command.Answer.{Answer}
use Rattle.foyer_session.specs.declared.command.Answer.TheVariants.{Entry, Found, Missing, Lead, Wait, Answered, Later, Lost, Yes, No, Done, Number, PieceNo, NotHeld, Refused}
use Rattle.foyer_session.specs.declared.sim.value.SimValue.{SimValue}

-- why a record left
abbrev pub event_text : Event → List ℕ
event_text Evict = codes "evict "
event_text Replace = codes "replace "
event_text Remove = codes "remove "
event_text Clear = codes "clear "

-- a number after a word: `h3`
abbrev pub numbered : List ℕ → ℕ → List ℕ
numbered word number = word ++ decimal number

-- a refusal: `F7`
abbrev pub refusal_text : ℕ → List ℕ
refusal_text number = numbered (codes "F") number

-- a handle: `h3`
abbrev pub handle_text : ℕ → List ℕ
handle_text number = numbered (codes "h") number

-- a piece: `p3`
abbrev pub piece_text : ℕ → List ℕ
piece_text number = numbered (codes "p") number

-- a handle with the value of its record: `h3 21`
abbrev pub found_text : ℕ → ℕ → List ℕ
found_text number value = handle_text number ++ numbered (codes " ") value

-- who leads a fetch, with the token to wait with: `lead t0 f3`
abbrev pub lead_text : ℕ → ℕ → List ℕ
lead_text fetch token = numbered (codes "lead t") token ++ numbered (codes " f") fetch

-- what one gets who waited
abbrev pub got_text : Result (Option ℕ) Reason → List ℕ
got_text (Ok (Some number)) = handle_text number
got_text (Ok None) = codes "none"
got_text (Err reason) = refusal_text (number_of reason)

-- a token with what it gets: `t0=h3`
abbrev pub pair_text : ℕ × Result (Option ℕ) Reason → List ℕ
pair_text pair = numbered (codes "t") pair.0 ++ (codes "=" ++ got_text pair.1)

-- one more, after a space
abbrev pub next_pair_text : ℕ × Result (Option ℕ) Reason → List ℕ
next_pair_text pair = codes " " ++ pair_text pair

-- more of them
abbrev pub more_pairs_text : List (ℕ × Result (Option ℕ) Reason) → List ℕ
more_pairs_text pairs = flat_map next_pair_text pairs

-- all tokens with what they get, in order
abbrev pub pairs_text : List (ℕ × Result (Option ℕ) Reason) → List ℕ
pairs_text [] = []
pairs_text (pair ∷ pairs) = pair_text pair ++ more_pairs_text pairs

module _ {P : Type 0} where
  -- what left: `evict 1=10`
  abbrev pub leave_text : Event × Gone ℕ SimValue P → List ℕ
  leave_text leave = event_text leave.0 ++ (decimal leave.1.kept.key ++ (codes "=" ++ decimal leave.1.kept.value.value))

  -- one more leave, after a comma
  abbrev pub next_text : Event × Gone ℕ SimValue P → List ℕ
  next_text leave = codes ", " ++ leave_text leave

  -- more leaves
  abbrev pub more_text : List (Event × Gone ℕ SimValue P) → List ℕ
  more_text leaves = flat_map next_text leaves

  -- all that left, in order
  abbrev pub leaves_text : List (Event × Gone ℕ SimValue P) → List ℕ
  leaves_text [] = codes "-"
  leaves_text (leave ∷ leaves) = leave_text leave ++ more_text leaves

  -- the answer to a command
  abbrev pub answer_text : Answer ℕ SimValue P → List ℕ
  answer_text (Entry number _ answers) = handle_text number ++ more_pairs_text answers
  answer_text (Found number told) = found_text number told.kept.value.value
  answer_text Missing = codes "none"
  answer_text (Lead fetch token) = lead_text fetch token
  answer_text (Wait token) = numbered (codes "wait t") token
  answer_text (Answered answers _) = pairs_text answers
  answer_text (Later label) = numbered (codes "later ") label
  answer_text Lost = codes "lost"
  answer_text Yes = codes "yes"
  answer_text No = codes "no"
  answer_text Done = codes "ok"
  answer_text (Number count) = decimal count
  answer_text (PieceNo number) = piece_text number
  answer_text NotHeld = codes "not held"
  answer_text (Refused reason) = refusal_text (number_of reason)

  -- the end of a printed line, after the answer
  abbrev pub rest_text : List (Event × Gone ℕ SimValue P) → ℕ → ℕ → List ℕ
  rest_text leaves usage entries =
      codes " | " ++ (leaves_text leaves ++ (codes " | usage " ++ (decimal usage ++ (codes " entries " ++ (decimal entries ++ codes "\n")))))
