-- The tokens that a run hands out are answered.
use Rattle.std.proofs.Common.{◌≡◌, ℕ, zero, suc, ◌<◌, Bool, List, [], ◌∷◌, ◌++◌, length, map, Option, Some, None, Result, Ok, Err, refl, sym, subst, append-nil, append_assoc, arith, inl, inr}
use Rattle.std.specs.Prelude.{IfSome, IsSomeAnd}
use Rattle.std.specs.Cmp.{IsEquivalence}
use Rattle.std.specs.List.{AllByRecursion}
use Rattle.std.proofs.lemmas.List.{map-append}
use Rattle.foyer_policy.specs.declared.error.Reason.{Reason}
use Rattle.foyer_core.specs.Values.{Gone, Held}
use Rattle.foyer_session.specs.declared.command.Command.{Command}
use Rattle.foyer_session.specs.declared.command.Reply.{Reply}
use Rattle.foyer_session.specs.Ledger.{AreAnswered, AreAnsweredAfter, IsAnswered, IsHandleOf, IsSettled, IsTokenOf, MayGet, WaitsFor, WasHandleOf, came_in, issued_for, issues, key_by, of_key, outcomes}
use Rattle.foyer_session.specs.Run.{Run}
use Rattle.foyer_session.specs.Step.{SessionState, Step, hash_in, held_at, record_of}
use Rattle.foyer_session.specs.Terms.{Terms}
use Rattle.foyer_session.proofs.LedgerAnswers.{any_answered}
use Rattle.foyer_session.proofs.LedgerHandles.{HandlesStay, step_stays}
use Rattle.foyer_session.proofs.LedgerLemmas.{run_long}

module _ {K V P : Type 0} where
  -- a handle that is held was handed out
  held_within : (handles : List (Option (Held K V P))) (n : ℕ) (entry : Held K V P) → held_at handles n ≡ Some entry →
      n < length handles
  held_within [] n entry h = absurd cc
  held_within (x ∷ handles) zero entry h = omega arith
  held_within (x ∷ handles) (suc n) entry h = (let rest = held_within handles n entry h in omega (arith, rest))

  was_held : (handles : List (Option (Held K V P))) (came : Gone K V P) (n : ℕ) → IsHandleOf handles came n →
      WasHandleOf handles came n
  was_held handles came n h = go (held_at handles n) refl h where
    go : (o : Option (Held K V P)) → held_at handles n ≡ o → IsSomeAnd o (λ entry. record_of entry ≡ came) →
        WasHandleOf handles came n
    go None is h = absurd h
    go (Some entry) is h = (
      held_within handles n entry is,
      subst (λ (o : Option (Held K V P)). IfSome o (λ e. record_of e ≡ came))
          (sym is) h,
    )

  -- and so it stays
  was_stays : (old new : List (Option (Held K V P))) → HandlesStay old new → (came : Gone K V P) (n : ℕ) →
      WasHandleOf old came n → WasHandleOf new came n
  was_stays old new stay came n was =
      let still = stay n was.0 in (
        still.0,
        elim still.1 [
          | inl e ↦ subst (λ (o : Option (Held K V P)). IfSome o (λ entry. record_of entry ≡ came)) (sym e) was.1
          | inr e ↦ subst (λ (o : Option (Held K V P)). IfSome o (λ entry. record_of entry ≡ came)) (sym e) tt
        ],
      )

all_map : {X : Type 0} (F G : X → Type 0) → ((x : X) → F x → G x) → (xs : List X) → AllByRecursion F xs →
    AllByRecursion G xs
all_map F G to [] h = tt
all_map F G to (x ∷ xs) h = (to x h.0, all_map F G to xs h.1)

some_map : {X : Type 0} (F G : X → Type 0) → ((x : X) → F x → G x) → (o : Option X) → IsSomeAnd o F → IsSomeAnd o G
some_map F G to None h = absurd h
some_map F G to (Some x) h = to x h

module _ {K V P Q C : Type 0} (same : K → K → Bool) (now then : Gone K V P → ℕ → Type 0)
    (to : (came : Gone K V P) (n : ℕ) → now came n → then came n) where
  -- what is known of the handles is known then
  may_then : (command : Command K V P Q C) (came : Option (Gone K V P)) (k : K) (got : Result (Option ℕ) Reason) →
      MayGet same now command came k got
      → MayGet same then command came k got
  may_then command None k (Ok (Some number)) h = absurd h
  may_then command (Some gone) k (Ok (Some number)) h = (h.0, to gone number h.1)
  may_then command came k (Ok None) h = h
  may_then command came k (Err reason) h = h

module _ {K V P View C S W A : Type 0} (Q : Type 0) (t : Terms K V P View C S W A) where
  -- the tokens that one more reply issues, with its hashed key
  abbrev more_issued : SessionState K V P View S W A → Command K V P Q C → Reply K V P → List ((ℕ × K) × ℕ)
  more_issued old c r = of_key (key_by (hash_in t old) c r.answer) (issues r.answer)

  -- no command is answered
  pub answered_none : (old new : SessionState K V P View S W A) → AreAnswered {Q = Q} t old [] [] new
  answered_none old new = tt

  -- what was answered is, once there are more handles
  answered_then : (before : List ((ℕ × K) × ℕ)) (old mid new : SessionState K V P View S W A)
      (cs : List (Command K V P Q C)) (rs : List (Reply K V P))
      → HandlesStay mid.handles new.handles
      → AreAnsweredAfter t before old cs rs mid → AreAnsweredAfter t before old cs rs new
  answered_then before old mid new [] rs stay h = tt
  answered_then before old mid new (c ∷ cs) [] stay h = tt
  answered_then before old mid new (c ∷ cs) (r ∷ rs) stay h = (
    all_map _ _
        (λ got one. some_map _ _
        (λ key both. (
          both.0,
          may_then t.meaning.same (WasHandleOf mid.handles) (WasHandleOf new.handles)
              (was_stays mid.handles new.handles stay) c (came_in r.answer) key.1 got.1 both.1,
        ))
        (key_by (hash_in t old) c r.answer) one)
        (outcomes r.answer) h.0,
    answered_then (before ++ more_issued old c r) old mid new cs rs stay h.1,
  )

  -- a step's, after what issued these tokens
  step_answered : (before : List ((ℕ × K) × ℕ)) (old mid new : SessionState K V P View S W A) (c : Command K V P Q C)
      (r : Reply K V P)
      → mid.core.hash_builder ≡ old.core.hash_builder
      → ((key : ℕ × K) (token : ℕ) → WaitsFor mid.fetches key token →
      IsTokenOf t.meaning.same old.fetches before key token) → IsAnswered t mid c r.answer new →
      AreAnsweredAfter t before old (c ∷ []) (r ∷ []) new
  step_answered before old mid new c r same keyed h = (
    all_map _ _
        (λ got one. some_map _ _
        (λ key both. (
          keyed key got.0 both.0,
          may_then t.meaning.same (IsHandleOf new.handles) (WasHandleOf new.handles)
              (was_held new.handles) c (came_in r.answer) key.1 got.1 both.1,
        ))
        (key_by (hash_in t old) c r.answer) one)
        (outcomes r.answer)
        (subst (λ (b : S). AllByRecursion
        (λ got. IsSomeAnd (key_by (t.hash b) c r.answer)
        (λ key. WaitsFor mid.fetches key got.0
        × MayGet t.meaning.same (IsHandleOf new.handles) c (came_in r.answer) key.1 got.1))
        (outcomes r.answer)) same h),
    tt,
  )

  answered_append : (before : List ((ℕ × K) × ℕ)) (old new : SessionState K V P View S W A)
      (cs ds : List (Command K V P Q C)) (rs ss : List (Reply K V P))
      → length cs ≡ length rs
      → AreAnsweredAfter t before old cs rs new →
      AreAnsweredAfter t (before ++ issued_for (hash_in t old) cs rs) old ds ss new →
      AreAnsweredAfter t before old (cs ++ ds) (rs ++ ss) new
  answered_append before old new [] ds [] ss long first second =
      subst (λ (l : List ((ℕ × K) × ℕ)). AreAnsweredAfter t l old ds ss new) (append-nil before) second
  answered_append before old new [] ds (r ∷ rs) ss long first second = absurd (omega (arith, long))
  answered_append before old new (c ∷ cs) ds [] ss long first second = absurd (omega (arith, long))
  answered_append before old new (c ∷ cs) ds (r ∷ rs) ss long first second = (
    first.0,
    answered_append (before ++ more_issued old c r) old new cs ds rs ss (omega (arith, long)) first.1
        (subst (λ (l : List ((ℕ × K) × ℕ)). AreAnsweredAfter t l old ds ss new)
        (sym (append_assoc before (more_issued old c r) (issued_for (hash_in t old) cs rs))) second),
  )

  module _ (picks : Q → K → V → Bool → Type 0) (laws : IsEquivalence t.meaning.same) where
    -- a run that is settled and answered goes on by one step, over what holds the commands
    pub answered_more : {X : Type 0} (f : X → Command K V P Q C) (old mid new : SessionState K V P View S W A)
        (xs : List X) (rs : List (Reply K V P)) (x : X) (r : Reply K V P) → Run t picks old (map f xs) rs mid
        → IsSettled t old (map f xs) rs mid → AreAnswered t old (map f xs) rs mid →
        Step t picks mid (f x) r.answer r.leaves new → AreAnswered t old (map f (xs ++ x ∷ [])) (rs ++ r ∷ []) new
    answered_more f old mid new xs rs x r run settled first step =
        let stay = step_stays t mid new picks (f x) r.answer r.leaves step in
        let own = any_answered Q t laws mid new picks (f x) r.answer r.leaves step in
        let before = issued_for (hash_in t old) (map f xs) rs in
        subst (λ (cs : List (Command K V P Q C)). AreAnswered t old cs (rs ++ r ∷ []) new)
        (sym (map-append f xs (x ∷ [])))
        (answered_append [] old new (map f xs) (f x ∷ []) rs (r ∷ []) (run_long t picks old (map f xs) rs mid run)
        (answered_then [] old mid new (map f xs) rs stay first)
        (step_answered before old mid new (f x) r settled.builder settled.keyed own))
