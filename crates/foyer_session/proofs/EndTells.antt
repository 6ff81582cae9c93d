-- How the end of a fetch is told.
use Rattle.std.proofs.Common.{◌≡◌, ℕ, ◌%◌, ◌+◌, ◌≤◌, ◌==◌, Bool, true, false, cond, List, [], ◌++◌, length, map, Option, Some, None, refl, ap, ◌∙◌, subst, arith, append-nil}
use Rattle.std.specs.Prelude.{IsSomeAnd, is_some, slice_get}
use Rattle.foyer_policy.specs.declared.types.Event.{Event}
use Rattle.foyer_core.specs.CoreFetches.{at_hash, open_in}
use Rattle.foyer_core.specs.Indexer.{same_key}
use Rattle.foyer_core.specs.Inflight.{AreOpen, Opens, OpenFetch, after_nothing, asked, waiters_of}
use Rattle.foyer_core.specs.Values.{Gone, Held, Carried}
use Rattle.foyer_core.specs.Waited.{Ending, lost}
use Rattle.foyer_session.specs.declared.command.Answer.{Answer}
use Rattle.foyer_session.specs.declared.command.Answer.TheVariants.{Answered, Lost, Refused}
use Rattle.foyer_session.specs.Step.{SessionState, TellsEnd, entries_by, first_told, given, CompletesPiece, CompletesWith}
use Rattle.foyer_session.specs.Tokens.{got_of, numbers_of}
use Rattle.foyer_session.specs.Waits.{SoManyWait}
use Rattle.foyer_session.specs.Answering.{ClosedBy}
use Rattle.foyer_session.proofs.LedgerFetches.{nothing_at, taken_at}
use Rattle.foyer_session.proofs.WaitsLemmas.{closed_waiting, of_shard_long, settled_waiting, still_waiting, waiting_counted}
use Rattle.foyer_session.specs.Terms.{Terms}
use Rattle.foyer_policy.specs.declared.types.Source.TheVariants.{Memory}
use Rattle.foyer_policy.specs.declared.error.Reason.TheVariants.{NoMemory}
use Rattle.foyer_core.specs.declared.outcome.FetchTarget.TheVariants.{Piece as PieceTarget}

pub tells_end : {K V P View S W A : Type 0} (old new : SessionState K V P View S W A)
    (ended : Ending K V P (Unit {0})) (answer : Answer K V P) (leaves : List (Event × Gone K V P))
    → (ended.found ≡ true → answer ≡ Answered (got_of (length old.handles) ended.outcome (numbers_of ended.waiters))
    (first_told (entries_by ended.outcome)))
    → (ended.found ≡ false → answer ≡ Lost) → (ended.found ≡ false → ended ≡ lost) → leaves ≡ ended.leaves →
    new.handles ≡ old.handles ++ map given (entries_by ended.outcome) → new.pieces ≡ old.pieces
    → TellsEnd old ended answer leaves new
tells_end {K} {V} {P} old new ended answer leaves answered gone lost_is left handles pieces = go ended.found refl where
  go : (b : Bool) → ended.found ≡ b → TellsEnd old ended answer leaves new
  go true is = rw (answered is) (is, left, refl, refl, handles, pieces)
  go false is =
      let none = lost_is is in
      rw (gone is) (
        none,
        left ∙ ap (λ (x : Ending K V P (Unit {0})). x.leaves) none,
        (
          handles ∙ ap (λ (x : Ending K V P (Unit {0})). old.handles ++ map given (entries_by x.outcome)) none
              ∙ append-nil old.handles,
          pieces,
        ),
      )

module _ {N R : Type 0} where
  pub asked_some : (fetch : ℕ) (o : Option (OpenFetch N R)) (p : OpenFetch N R) → asked (Some fetch) o ≡ Some p → o ≡ Some p
  asked_some fetch None p h = absurd cc
  asked_some fetch (Some o) p h = go (o.fetch == fetch) h where
    go : (b : Bool) → cond b (Some o) None ≡ Some p → Some o ≡ Some p
    go true h = h
    go false h = absurd cc

module _ {K N R : Type 0} (eq : K → K → Bool) (f : List (Opens K N R))
    (sound : (i : ℕ) (x : Opens K N R) → slice_get f i ≡ Some x → AreOpen eq x)
    (alike : (i : ℕ) (x : Opens K N R) → slice_get f i ≡ Some x → (p q : ℕ × K) → same_key eq p q ≡ true →
    x.by_key p ≡ x.by_key q)
    (k : ℕ × K) (fetch count : ℕ) where
  -- no more wait for an open fetch than wait
  pub asked_counted : (p : Option (OpenFetch N R)) → asked (Some fetch) (open_in f k) ≡ p → ∥ SoManyWait f count ∥₁ →
      length (waiters_of p) ≤ count
  asked_counted None is waits = omega arith
  asked_counted (Some o) is waits =
      subst (λ (x : Option (OpenFetch N R)). length (waiters_of x) ≤ count) (asked_some fetch (open_in f k) o is)
      (waiting_counted eq f sound alike k k.0 refl count waits)

  -- and so many less once it has ended
  pub ended_waiting : (p : Option (OpenFetch N R)) → asked (Some fetch) (open_in f k) ≡ p →
      (g : List (Opens K N R)) (left : ℕ) → ClosedBy p eq k f g → left + length (waiters_of p) ≡ count →
      ∥ SoManyWait f count ∥₁ → ∥ SoManyWait g left ∥₁
  ended_waiting None is g left closes less waits =
      let same : count ≡ left = omega (arith, less) in
      subst (λ (n : ℕ). ∥ SoManyWait g n ∥₁) same (still_waiting f g count closes waits)
  ended_waiting (Some o) is g left closes less waits =
      closed_waiting eq f sound alike k k.0 refl count g left closes
      (ap (λ (x : Option (OpenFetch N R)). left + length (waiters_of x)) (asked_some fetch (open_in f k) o is)
      ∙ less) waits

  -- a fetch goes on with a builder that was kept: who waited still does
  pub taken_waiting : (o : OpenFetch N R) (r : R) → asked (Some fetch) (open_in f k) ≡ Some o → o.later ≡ Some r →
      (g : List (Opens K N R)) → g ≡ at_hash (λ q. after_nothing eq q k) f k.0 → ∥ SoManyWait f count ∥₁ →
      ∥ SoManyWait g count ∥₁
  taken_waiting o r is later g goes waits =
      let kept : is_some o.later ≡ true = ap is_some later in
      settled_waiting f g [] []
      (taken_at eq f sound alike k k.0 refl o (asked_some fetch (open_in f k) o is) g kept goes) count count refl waits

  -- a fetch that found nothing ends where no builder is kept
  pub nothing_waiting : (o : OpenFetch N R) → asked (Some fetch) (open_in f k) ≡ Some o → o.later ≡ None →
      (g : List (Opens K N R)) (left : ℕ) → g ≡ at_hash (λ q. after_nothing eq q k) f k.0 → left + length o.tokens
      ≡ count
      → ∥ SoManyWait f count ∥₁ → ∥ SoManyWait g left ∥₁
  nothing_waiting o is later g left goes less waits =
      settled_waiting f g [] _
      (nothing_at eq f sound alike k k.0 refl o (asked_some fetch (open_in f k) o is) g later goes) count left
      (omega (arith, less, of_shard_long (k.0 % length f) o.tokens)) waits

-- what there is, where there is something so
pub some_so : {A : Type 0} {P : A → Type 0} (o : Option A) → IsSomeAnd o P → (x : A) × (o ≡ Some x) × P x
some_so None h = absurd h
some_so (Some x) h = (x, refl, h)

-- a fetch that ends with a piece ends with the record that is carried
pub piece_completes : {K V P View C S W A : Type 0} (t : Terms K V P View C S W A) (old : SessionState K V P View S W A)
    (k : K) (fetch : ℕ) (piece : Carried K V P) (answer : Answer K V P) (leaves : List (Event × Gone K V P))
    (new : SessionState K V P View S W A) → CompletesWith t old k fetch Memory (PieceTarget piece) answer leaves new →
    CompletesPiece t old k fetch (Some piece) answer leaves new
piece_completes t old k fetch piece (Refused NoMemory) leaves new h = absurd h.2
piece_completes t old k fetch piece answer leaves new h = h
