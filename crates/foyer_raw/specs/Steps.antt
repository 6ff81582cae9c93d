-- What a fetch task goes through.
use Rattle.std.specs.Prelude.{◌≡◌, ℕ, ◌≤◌, Bool, true, false, List, [], ◌∷◌, length, Option, IsSomeAnd}
use Rattle.foyer_raw.specs.declared.fetch.state.RawFetchState.{RawFetchState}
use Rattle.foyer_raw.specs.declared.fetch.state.RawFetchState.TheVariants.{Init, FetchOptional, FetchRequired, Notify, Ready}
use Rattle.foyer_raw.specs.declared.fetch.state.TaskEvent.{TaskEvent}
use Rattle.foyer_raw.specs.declared.fetch.state.TaskEvent.TheVariants.{Start, Given, Missing, Taken, Told, Closed}

-- the state after an event, where the flag says that the leader's own required builder is still there
abbrev pub next_state : RawFetchState → Bool → TaskEvent → RawFetchState
next_state s r Closed = Ready
next_state Init r (Start true) = FetchOptional
next_state Init true (Start false) = FetchRequired
next_state Init false (Start false) = Notify
next_state FetchOptional true Missing = FetchRequired
next_state FetchOptional false Missing = Notify
next_state FetchOptional r Given = Notify
next_state FetchRequired r Given = Notify
next_state Notify r Taken = FetchRequired
next_state Notify r Told = Ready
next_state s r e = s

-- the state after a list of events, each with the flag
abbrev pub run : RawFetchState → List (Bool × TaskEvent) → RawFetchState
run s [] = s
run s (e ∷ es) = run (next_state s e.0 e.1) es

-- the list begins with a start
abbrev pub BeginsWithStart : List (Bool × TaskEvent) → Type 0
BeginsWithStart [] = ⊥
BeginsWithStart (e ∷ es) = (optional : Bool) × (e.1 ≡ Start optional)

-- at most n events lead from one state to the other, and from Init the first of them is a start
abbrev pub Leads : ℕ → RawFetchState → RawFetchState → Type 0
Leads n s t = (events : List (Bool × TaskEvent)) × (length events ≤ n) × (s ≡ Init → BeginsWithStart events)
    × (t ≡ run s events)

-- a task in this state waits for a source: the fetch that it polls there needs it
abbrev pub Awaits : {F G : Type 0} → RawFetchState → (F → ℕ → Type 0) → (G → ℕ → Type 0) → Option F → Option G → ℕ →
    Type 0
Awaits FetchOptional needs needs' optional required source = IsSomeAnd optional (λ f. needs f source)
Awaits FetchRequired needs needs' optional required source = IsSomeAnd required (λ f. needs' f source)
Awaits s needs needs' optional required source = ⊥
