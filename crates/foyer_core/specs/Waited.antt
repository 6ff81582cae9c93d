-- What those get who wait for a key.
use Rattle.std.specs.Prelude.{◌≡◌, ℕ, Bool, false, List, [], Option, Some, None, Result, Ok, Err, length, replicate}
use Rattle.foyer_policy.specs.declared.error.Reason.{Reason}
use Rattle.foyer_policy.specs.declared.types.Event.{Event}
use Rattle.foyer_core.specs.declared.outcome.Answers.{Answers}
use Rattle.foyer_core.specs.declared.outcome.Ended.{Ended}
use Rattle.foyer_core.specs.declared.outcome.Inserted.{Inserted}
use Rattle.foyer_core.specs.declared.outcome.Outcome.{Outcome}
use Rattle.foyer_core.specs.declared.outcome.Outcome.TheVariants.{Entries, Fault, None as Nothing}
use Rattle.foyer_core.specs.declared.outcome.Refused.{Refused}
use Rattle.foyer_core.specs.declared.outcome.Waiting.{Waiting}
use Rattle.foyer_core.specs.Inflight.{Opens, waiters_of}
use Rattle.foyer_core.specs.Values.{Denied, Gone, Held, Made}

-- what contracts see of an insert's answer, beside those who wait
abbrev pub made_of : {K V P N : Type 0} → Inserted K V P N → Made K V P
made_of made = record { entry = made.entry; leaves = made.leaves.items }

abbrev pub denied_of : {K V P : Type 0} → Refused K V P → Denied K V P
denied_of refused = record { reason = refused.error; leaves = refused.leaves.items }

abbrev pub insertion_of : {K V P N : Type 0} → Result (Inserted K V P N) (Refused K V P) →
    Result (Made K V P) (Denied K V P)
insertion_of (Ok made) = Ok (made_of made)
insertion_of (Err refused) = Err (denied_of refused)

-- the entries that are handed out, where there are to be some
abbrev pub entries_in : {K V P : Type 0} → Outcome K V P → Option (List (Held K V P))
entries_in (Entries entries) = Some entries.items
entries_in _ = None

-- how many wait for a key
abbrev pub waiting_for : {K N R : Type 0} → Opens K N R → ℕ × K → ℕ
waiting_for f k = length (waiters_of (f.by_key k))

-- these waited, and get an entry like this one each
abbrev pub AnswersEach : {K V P N : Type 0} → List (Waiting N) → Held K V P → Answers K V P N → Type 0
AnswersEach waiters entry answers = (answers.waiters.items ≡ waiters)
    × (entries_in answers.outcome ≡ Some (replicate (length waiters) entry))

-- the entries that those get who waited, none where they get nothing, or the one refusal
abbrev pub handed_out : {K V P : Type 0} → Outcome K V P → Result (List (Held K V P)) Reason
handed_out (Entries entries) = Ok entries.items
handed_out Nothing = Ok []
handed_out (Fault reason) = Err reason

-- the entries that they get
abbrev pub entries_got : {K V P : Type 0} → Outcome K V P → List (Held K V P)
entries_got (Entries entries) = entries.items
entries_got _ = []

-- how a fetch ended: whether it was open, who waited in order, what they get (an entry each, none, or the one refusal),
-- and what left
pub record Ending (K V P N : Type 0) : Type 0 where
  pub found : Bool
  pub waiters : List (Waiting N)
  pub outcome : Result (Option (List (Held K V P))) Reason
  pub leaves : List (Event × Gone K V P)

-- a fetch that is not open ends so
abbrev pub lost : {K V P N : Type 0} → Ending K V P N
lost = record { found = false; waiters = []; outcome = Ok None; leaves = [] }

-- what those get who waited: an entry each, none, or the one refusal
abbrev pub got_of : {K V P : Type 0} → Outcome K V P → Result (Option (List (Held K V P))) Reason
got_of (Entries entries) = Ok (Some entries.items)
got_of Nothing = Ok None
got_of (Fault reason) = Err reason

-- what contracts see of the end of a fetch
abbrev pub ending_of : {K V P N : Type 0} → Ended K V P N → Ending K V P N
ending_of e =
    record {
      found = e.found;
      waiters = e.answers.waiters.items;
      outcome = got_of e.answers.outcome;
      leaves =
          e.leaves.items;
    }
