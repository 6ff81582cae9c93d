-- What those get who waited, place by place.
use Rattle.std.proofs.Common.{◌≡◌, ℕ, zero, suc, ◌+◌, ◌<◌, ◌≤◌, List, [], ◌∷◌, Option, Some, None, Result, Ok, Err, length, refl, sym, ap, ◌∙◌, subst, arith, ◌⊎◌, inl, inr}
use Rattle.std.specs.Prelude.{All, slice_get, option_map, option_and_then}
use Rattle.std.proofs.lemmas.List.{length-map}
use Rattle.std.proofs.lemmas.Option.{slice_get-map, slice_get_past}
use Rattle.foyer_policy.specs.declared.error.Reason.{Reason}
use Rattle.foyer_core.specs.declared.outcome.Waiting.{Waiting}
use Rattle.foyer_session.specs.declared.answers.Gets.{Gets}
use Rattle.foyer_session.specs.declared.answers.Gets.TheVariants.{Handles, Nothing, Fault}
use Rattle.foyer_session.specs.Tokens.{each_gets, got_by, handle_in, handles_from, IsNoFault, numbers_of}

-- the token at a place
abbrev token_at : List (ℕ × Result (Option ℕ) Reason) → ℕ → Option ℕ
token_at got i = option_map (λ pair. pair.0) (slice_get got i)

handles_from-length : (first : ℕ) (tokens : List ℕ) → length (handles_from first tokens) ≡ length tokens
handles_from-length first [] = refl
handles_from-length first (t ∷ ts) = ap suc (handles_from-length (suc first) ts)

got_by-length : (gets : Gets) (tokens : List ℕ) → length (got_by gets tokens) ≡ length tokens
got_by-length (Handles first) tokens = handles_from-length first tokens
got_by-length Nothing tokens = length-map tokens (λ t. (t, Ok None))
got_by-length (Fault reason) tokens = length-map tokens (λ t. (t, Err reason))

-- as many as waited
pub got-many : {N : Type 0} (gets : Gets) (waiters : List (Waiting N)) → length (got_by gets (numbers_of waiters))
    ≡ length waiters
got-many gets waiters = got_by-length gets (numbers_of waiters) ∙ length-map waiters (λ w. w.token)

handles_from-token : (first : ℕ) (tokens : List ℕ) (i : ℕ) → token_at (handles_from first tokens) i ≡ slice_get tokens i
handles_from-token first [] i = refl
handles_from-token first (t ∷ ts) zero = refl
handles_from-token first (t ∷ ts) (suc i) = handles_from-token (suc first) ts i

each_gets-token : (got : Result (Option ℕ) Reason) (tokens : List ℕ) (i : ℕ) → token_at (each_gets got tokens) i
    ≡ slice_get tokens i
each_gets-token got [] i = refl
each_gets-token got (t ∷ ts) zero = refl
each_gets-token got (t ∷ ts) (suc i) = each_gets-token got ts i

got_by-token : (gets : Gets) (tokens : List ℕ) (i : ℕ) → token_at (got_by gets tokens) i ≡ slice_get tokens i
got_by-token (Handles first) tokens i = handles_from-token first tokens i
got_by-token Nothing tokens i = each_gets-token (Ok None) tokens i
got_by-token (Fault reason) tokens i = each_gets-token (Err reason) tokens i

-- the tokens are those of who waited
pub got-tokens : {N : Type 0} (gets : Gets) (waiters : List (Waiting N)) (i : ℕ) →
    option_map (λ pair. pair.0) (slice_get (got_by gets (numbers_of waiters)) i)
    ≡ option_map (λ w. w.token) (slice_get waiters i)
got-tokens gets waiters i = got_by-token gets (numbers_of waiters) i ∙ slice_get-map (λ w. w.token) waiters i

-- each gets the next handle
pub handles_from-there : (first : ℕ) (tokens : List ℕ) (i : ℕ) → i < length tokens →
    option_and_then (λ pair. handle_in pair.1) (slice_get (handles_from first tokens) i) ≡ Some (first + i)
handles_from-there first [] i h = absurd (omega arith)
handles_from-there first (t ∷ ts) zero h = ap (λ n. Some n) (omega arith)
handles_from-there first (t ∷ ts) (suc i) h = handles_from-there (suc first) ts i (omega (arith, h))
    ∙ ap (λ n. Some n) (omega arith)

-- where all get what is no handle, none gets one
each_gets-none : (got : Result (Option ℕ) Reason) (tokens : List ℕ) (i : ℕ) → handle_in got ≡ None →
    option_and_then (λ pair. handle_in pair.1) (slice_get (each_gets got tokens) i) ≡ None
each_gets-none got [] i h = refl
each_gets-none got (t ∷ ts) zero h = h
each_gets-none got (t ∷ ts) (suc i) h = each_gets-none got ts i h

-- where there are no handles, nobody gets one
pub none_gets : (gets : Gets) (tokens : List ℕ) (i : ℕ) →
    ((gets ≡ Nothing) ⊎ ((reason : Reason) × (gets ≡ Fault reason))) →
    option_and_then (λ pair. handle_in pair.1) (slice_get (got_by gets tokens) i) ≡ None
none_gets gets tokens i (inl is) =
    ap (λ g. option_and_then (λ pair. handle_in pair.1) (slice_get (got_by g tokens) i)) is
    ∙ each_gets-none (Ok None) tokens i refl
none_gets gets tokens i (inr (reason, is)) =
    ap (λ g. option_and_then (λ pair. handle_in pair.1) (slice_get (got_by g tokens) i)) is
    ∙ each_gets-none (Err reason) tokens i refl

-- a handle is no refusal
handles_from-fine : (first : ℕ) (tokens : List ℕ) → All (λ pair. IsNoFault pair.1) (handles_from first tokens)
handles_from-fine first [] k d h = absurd (omega (arith, h))
handles_from-fine first (t ∷ ts) zero d h = tt
handles_from-fine first (t ∷ ts) (suc k) d h = handles_from-fine (suc first) ts k d (omega (arith, h))

-- what holds of what all get
pub each_gets-all : (P : Result (Option ℕ) Reason → Type 0) (got : Result (Option ℕ) Reason) (tokens : List ℕ) → P got
    → All (λ pair. P pair.1) (each_gets got tokens)
each_gets-all P got [] p k d h = absurd (omega (arith, h))
each_gets-all P got (t ∷ ts) p zero d h = p
each_gets-all P got (t ∷ ts) p (suc k) d h = each_gets-all P got ts p k d (omega (arith, h))

-- and neither is nothing
pub fine_gets : (gets : Gets) (tokens : List ℕ) → (((first : ℕ) × (gets ≡ Handles first)) ⊎ (gets ≡ Nothing)) →
    All (λ pair. IsNoFault pair.1) (got_by gets tokens)
fine_gets gets tokens (inl (first, is)) = subst (λ g. All (λ pair. IsNoFault pair.1) (got_by g tokens)) (sym is)
    (handles_from-fine first tokens)
fine_gets gets tokens (inr is) = subst (λ g. All (λ pair. IsNoFault pair.1) (got_by g tokens)) (sym is)
    (each_gets-all IsNoFault (Ok None) tokens tt)

-- nobody stands past the end
pub got-past : {X : Type 0} (f : X → Option ℕ) (xs : List X) (i : ℕ) → length xs ≤ i →
    option_and_then f (slice_get xs i) ≡ None
got-past f xs i h = ap (λ o. option_and_then f o) (slice_get_past xs i h)
