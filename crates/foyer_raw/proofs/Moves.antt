-- How events follow one another.
use Rattle.std.proofs.Common.{◌≡◌, ◌≢◌, ℕ, ◌+◌, ◌≤◌, Bool, List, [], ◌∷◌, ◌++◌, refl, sym, ◌∙◌, ap, arith, length-append}
use Rattle.foyer_raw.specs.declared.fetch.state.RawFetchState.{RawFetchState}
use Rattle.foyer_raw.specs.declared.fetch.state.RawFetchState.TheVariants.{Init}
use Rattle.foyer_raw.specs.declared.fetch.state.TaskEvent.{TaskEvent}
use Rattle.foyer_raw.specs.declared.fetch.state.TaskEvent.TheVariants.{Start}
use Rattle.foyer_raw.specs.Steps.{next_state, run, BeginsWithStart, Leads}

-- one event that starts
pub Leads-start : (s t : RawFetchState) (r optional : Bool) → t ≡ next_state s r (Start optional) → Leads 1 s t
Leads-start s t r optional e = ((r, Start optional) ∷ [], (omega arith), (λ init. (optional, refl)), e)

-- one event that comes later
pub Leads-later : (s t : RawFetchState) (r : Bool) (event : TaskEvent) → s ≢ Init → t ≡ next_state s r event →
    Leads 1 s t
Leads-later s t r event begun e = ((r, event) ∷ [], (omega arith), (λ init. absurd (begun init)), e)

-- no event
pub Leads-stay : (s : RawFetchState) (n : ℕ) → s ≢ Init → Leads n s s
Leads-stay s n begun = ([], (omega arith), (λ init. absurd (begun init)), refl)

run-append : (s : RawFetchState) (es fs : List (Bool × TaskEvent)) → run s (es ++ fs) ≡ run (run s es) fs
run-append s [] fs = refl
run-append s (e ∷ es) fs = run-append (next_state s e.0 e.1) es fs

begins-append : (es fs : List (Bool × TaskEvent)) → BeginsWithStart es → BeginsWithStart (es ++ fs)
begins-append [] fs b = absurd b
begins-append (e ∷ es) fs b = b

-- events after events
pub Leads-then : (m n : ℕ) (s t u : RawFetchState) → Leads m s t → Leads n t u → Leads (m + n) s u
Leads-then m n s t u p q = (
  p.0 ++ q.0,
  (let a = p.1 in let b = q.1 in omega (arith, length-append p.0 q.0)),
  (λ init. begins-append p.0 q.0 (p.2 init)),
  q.3 ∙ ap (λ x. run x q.0) p.3 ∙ sym (run-append s p.0 q.0),
)

-- fewer is at most more
pub Leads-within : (m n : ℕ) (s t : RawFetchState) → m ≤ n → Leads m s t → Leads n s t
Leads-within m n s t le p = (p.0, (let a = p.1 in omega arith), p.2, p.3)
