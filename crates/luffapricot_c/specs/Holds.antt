-- What C holds by numbers, and what it becomes once those who wait are answered.
use Rattle.std.specs.Prelude.{ℕ, List, [], ◌∷◌, if◌then◌else◌, is_some, reverse}
use Rattle.slab.specs.Slab.{Slab, get, with_value}
use Rattle.foyer_policy.specs.Errors.{number_of}
use Rattle.foyer_core.specs.declared.outcome.Answers.{Answers}
use Rattle.foyer_core.specs.declared.outcome.Outcome.{Outcome}
use Rattle.foyer_core.specs.declared.outcome.Outcome.TheVariants.{Entries, Fault, None as Nothing}
use Rattle.foyer_core.specs.declared.outcome.Waiting.{Waiting as Waiter}
use Rattle.foyer_core.specs.Values.{Answered, Held as EntryOf}
use Rattle.luffapricot_c.specs.declared.hold.Held.{Held}
use Rattle.luffapricot_c.specs.declared.hold.Held.TheVariants.{Entry, Refused}
use Rattle.luffapricot_c.specs.declared.hold.Hold.{Hold}
use Rattle.luffapricot_c.specs.declared.key.Key.{Key}
use Rattle.luffapricot_c.specs.declared.value.Value.{Value}
use Rattle.luffapricot_c.specs.Named.{named_of}

-- a number that names something names this instead
abbrev pub settled : Slab Hold → ℕ → Held → Slab Hold
settled holds number held = if is_some (get holds number) then with_value holds number (record { held = held }) else holds

-- who waits gets the name of the entry at the same place, in this order
abbrev pub given_each : List (Waiter ℕ) → List (EntryOf Key Value Answered) → Slab Hold → Slab Hold
given_each [] entries holds = holds
given_each (w ∷ ws) [] holds = holds
given_each (w ∷ ws) (e ∷ es) holds = given_each ws es (settled holds w.waiter (Entry (named_of e)))

-- who waits gets the one refusal, in this order
abbrev pub given_all : List (Waiter ℕ) → ℕ → Slab Hold → Slab Hold
given_all [] status holds = holds
given_all (w ∷ ws) status holds = given_all ws status (settled holds w.waiter (Refused status))

-- those who wait get what there is for them, or 101 if nothing is, from the last to the first
abbrev pub given_outcome : List (Waiter ℕ) → Outcome Key Value Answered → Slab Hold → Slab Hold
given_outcome waiters (Entries entries) holds = given_each (reverse waiters) (reverse entries.items) holds
given_outcome waiters (Fault reason) holds = given_all (reverse waiters) (number_of reason) holds
given_outcome waiters Nothing holds = given_all (reverse waiters) 101 holds

abbrev pub given : Answers Key Value Answered ℕ → Slab Hold → Slab Hold
given answers holds = given_outcome answers.waiters.items answers.outcome holds
