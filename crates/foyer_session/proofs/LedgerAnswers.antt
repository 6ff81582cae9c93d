-- The tokens that a step hands out are answered.
use Rattle.std.proofs.Common.{◌≡◌, ℕ, Bool, true, List, [], length, Option, Some, None, Result, refl, sym, ap, ◌∙◌, subst}
use Rattle.std.specs.Prelude.{IsSomeAnd, slice_get}
use Rattle.std.specs.Cmp.{IsEquivalence}
use Rattle.std.specs.List.{AllByRecursion}
use Rattle.foyer_policy.specs.declared.error.Reason.{Reason}
use Rattle.foyer_policy.specs.declared.error.Reason.TheVariants.{Fetch, NoMemory, TaskCancelled}
use Rattle.foyer_policy.specs.declared.types.Event.{Event}
use Rattle.foyer_policy.specs.declared.types.Source.{Source}
use Rattle.foyer_policy.specs.declared.types.Source.TheVariants.{Memory}
use Rattle.foyer_core.specs.declared.outcome.FetchTarget.{FetchTarget}
use Rattle.foyer_core.specs.declared.outcome.FetchTarget.TheVariants.{Entry as ValueTarget, Piece as PieceTarget}
use Rattle.foyer_core.specs.CoreFetches.{Completed, EndsIn, open_in}
use Rattle.foyer_core.specs.Inflight.{OpenFetch, waiters_of}
use Rattle.foyer_core.specs.Values.{Carried, Gone, Held}
use Rattle.foyer_core.specs.Waited.{Ending}
use Rattle.foyer_session.specs.declared.command.Answer.{Answer}
use Rattle.foyer_session.specs.declared.command.Answer.TheVariants.{Entry, Answered, Later, Lost, NotHeld, Refused}
use Rattle.foyer_session.specs.declared.command.Command.{Command}
use Rattle.foyer_session.specs.declared.command.Command.TheVariants.{Insert, Get, Contains, Touch, Remove, Clone, Drop, TakePiece, InsertPiece, Refs, Outdated, GetOrFetch, Complete, Fail, Cancel, FetchOrTake, IsOpen, Clear, EvictAll, FlushIf, Resize, Reconfigure, Capacity, Usage, Entries}
use Rattle.foyer_session.specs.declared.command.End.{End}
use Rattle.foyer_session.specs.declared.command.End.TheVariants.{Value, PieceNo as PieceEnd}
use Rattle.foyer_session.specs.Ledger.{IsAnswered, IsHandleOf, MayGet, MayRefuse, came_in, outcomes}
use Rattle.foyer_session.specs.Step.{SessionState, Step, GetStep, ContainsStep, TouchStep, RemoveStep, CloneStep, DropStep, TakePieceStep, RefsStep, OutdatedStep, GetOrFetchStep, CompletesWith, CompletesPiece, CompleteStep, EndStep, FetchOrTakeStep, IsOpenStep, TellsEnd, ClearStep, EvictAllStep, FlushIfStep, ResizeStep, ReconfigureStep, NumberStep, hash_in, hashed, nothing_by, open_at, rules_in}
use Rattle.foyer_session.specs.Terms.{Terms, terms_at}
use Rattle.foyer_session.specs.Tokens.{each_gets, numbers_of}
use Rattle.foyer_session.proofs.EndTells.{asked_some}
use Rattle.foyer_session.proofs.LedgerArrivals.{AllAre, piece_all, value_all}
use Rattle.foyer_session.proofs.LedgerEnds.{completed_place, ends_place}
use Rattle.foyer_session.proofs.LedgerOutcomes.{OneIs, all_told, insert_answered, insert_piece_answered, open_all}
use Rattle.foyer_core.specs.State.{at_moment}

module _ {K V P View C S W A : Type 0} (Q : Type 0) (t : Terms K V P View C S W A)
    (laws : IsEquivalence t.meaning.same) (old new : SessionState K V P View S W A) where
  -- those who waited for a key are answered
  abbrev AllIs : Command K V P Q C → K → Answer K V P → Type 0
  AllIs command k answer = AllByRecursion (OneIs Q t laws old new command (came_in answer) (hashed t old k))
      (outcomes answer)

  abbrev Right : Command K V P Q C → K → ℕ → Result (Option (List (Held K V P))) Reason → Type 0
  Right command k n outcome = AllAre (λ x. t.meaning.same k x ≡ true) (MayRefuse command) n outcome

  told_end : (command : Command K V P Q C) (k : K) (fetch : ℕ) (ended : Ending K V P (Unit {0}))
      (answer : Answer K V P) (leaves : List (Event × Gone K V P))
      → ended.waiters ≡ waiters_of (open_at t old k fetch)
      → ((o : OpenFetch (Unit {0}) ℕ) → open_at t old k fetch ≡ Some o → Right command k (length o.tokens) ended.outcome)
      → TellsEnd old ended answer leaves new → AllIs command k answer
  told_end command k fetch ended (Answered answers told) leaves waited right h =
      open_all Q t laws old new command k fetch ended answers told (open_at t old k fetch) refl waited right h.2 h.3 h.4
  told_end command k fetch ended Lost leaves waited right h = tt
  told_end command k fetch ended _ leaves waited right h = absurd h

  complete_with : (now : ℕ) (end : End V P) (k : K) (fetch : ℕ) (source : Source) (target : FetchTarget K V P)
      (answer : Answer K V P) (leaves : List (Event × Gone K V P))
      → ((ended : Ending K V P (Unit {0})) (o : OpenFetch (Unit {0}) ℕ)
      → Completed (at_moment now t.meaning) (rules_in t old) source target (hashed t old k) (Some o) ended old.core old.fetches
      new.core new.fetches
      → Right (Complete now k fetch end) k (length o.tokens) ended.outcome)
      → CompletesWith (terms_at now t) old k fetch source target answer leaves new → AllIs (Complete now k fetch end) k answer
  complete_with now end k fetch source target answer leaves right h =
      let ends = completed_place (at_moment now t.meaning) old.core new.core old.fetches new.fetches (hashed t old k) h.0
      (rules_in t old) source target
      (open_at t old k fetch) h.1 in
      told_end (Complete now k fetch end) k fetch h.0 answer leaves ends.0.waiters
      (λ o is. right h.0 o
      (subst (λ (p : Option (OpenFetch (Unit {0}) ℕ)). Completed (at_moment now t.meaning) (rules_in t old) source target
      (hashed t old k) p h.0 old.core old.fetches new.core new.fetches) is h.1))
      h.2

  complete_value : (now : ℕ) (k : K) (fetch : ℕ) (v : V) (p : P) (source : Source) (answer : Answer K V P)
      (leaves : List (Event × Gone K V P))
      → CompletesWith (terms_at now t) old k fetch source (ValueTarget v p) answer leaves new
      → AllIs (Complete now k fetch (Value v p source)) k answer
  complete_value now k fetch v p source answer leaves h =
      complete_with now (Value v p source) k fetch source (ValueTarget v p) answer leaves
      (λ ended o done. value_all (at_moment now t.meaning) old.core new.core old.fetches new.fetches (hashed t old k) ended
      (rules_in t old) source o v p done) h

  complete_piece : (now : ℕ) (k : K) (fetch n : ℕ) (piece : Option (Carried K V P)) (answer : Answer K V P)
      (leaves : List (Event × Gone K V P))
      → CompletesPiece (terms_at now t) old k fetch piece answer leaves new
      → AllIs (Complete now k fetch (PieceEnd n)) k answer
  complete_piece now k fetch n None NotHeld leaves h = tt
  complete_piece now k fetch n None _ leaves h = absurd h
  complete_piece now k fetch n (Some piece) (Refused NoMemory) leaves h = tt
  complete_piece now k fetch n (Some piece) answer leaves h =
      complete_with now (PieceEnd n) k fetch Memory (PieceTarget piece) answer leaves
      (λ ended o done. piece_all (at_moment now t.meaning) old.core new.core old.fetches new.fetches (hashed t old k) ended
      (rules_in t old) Memory o piece
      done) h

  complete_answered : (now : ℕ) (k : K) (fetch : ℕ) (end : End V P) (answer : Answer K V P) (leaves : List (Event × Gone K V P))
      → CompleteStep (terms_at now t) old k fetch end answer leaves new → AllIs (Complete now k fetch end) k answer
  complete_answered now k fetch (Value v p source) answer leaves h = complete_value now k fetch v p source answer leaves h
  complete_answered now k fetch (PieceEnd n) answer leaves h =
      complete_piece now k fetch n (slice_get old.pieces n) answer leaves h

  ended_right : (command : Command K V P Q C) (k : K) (reason : Reason) → MayRefuse command reason
      → (ended : Ending K V P (Unit {0})) (o : OpenFetch (Unit {0}) ℕ) →
      EndsIn (Some o) t.meaning.same (hashed t old k) reason old.fetches ended new.fetches
      → Right command k (length o.tokens) ended.outcome
  ended_right command k reason may ended o h =
      subst (Right command k (length o.tokens)) (sym (ap (λ (x : Ending K V P (Unit {0})). x.outcome) h.0)) may

  end_answered : (command : Command K V P Q C) (k : K) (fetch : ℕ) (reason : Reason) → MayRefuse command reason
      → (answer : Answer K V P) (leaves : List (Event × Gone K V P)) → EndStep t old k fetch reason answer leaves new
      → AllIs command k answer
  end_answered command k fetch reason may answer leaves h =
      told_end command k fetch h.0 answer leaves
      (ends_place t.meaning.same (hashed t old k) old.fetches new.fetches h.0 (open_at t old k fetch) reason
      h.1).waiters
      (λ o is. ended_right command k reason may h.0 o
      (subst (λ (p : Option (OpenFetch (Unit {0}) ℕ)). EndsIn p t.meaning.same (hashed t old k) reason old.fetches h.0
      new.fetches) is h.1)) h.3

  -- nothing was found
  nothing_told : (command : Command K V P Q C) (k : K) (fetch : ℕ) (outcome : Option Reason)
      (answers : List (ℕ × Result (Option ℕ) Reason)) (told : Option (Gone K V P)) (p : Option (OpenFetch (Unit {0}) ℕ)) →
      open_at t old k fetch ≡ p
      → MayGet t.meaning.same (IsHandleOf new.handles) command told k (nothing_by outcome) →
      IsSomeAnd p (λ o. (o.later ≡ None) × (answers ≡ each_gets (nothing_by outcome) (numbers_of o.tokens)))
      → AllByRecursion (OneIs Q t laws old new command told (hashed t old k)) answers
  nothing_told command k fetch outcome answers told None is may h = absurd h
  nothing_told command k fetch outcome answers told (Some o) is may h =
      all_told Q t laws old new command told (hashed t old k) (nothing_by outcome) answers may
      (h.1 ∙ ap (λ (x : Option (OpenFetch (Unit {0}) ℕ)). each_gets (nothing_by outcome) (numbers_of (waiters_of x)))
      (sym (asked_some fetch (open_in old.fetches (hashed t old k)) o is)))

  fetch_or_take_answered : (command : Command K V P Q C) (k : K) (fetch : ℕ) (outcome : Option Reason)
      → ((told : Option (Gone K V P)) → MayGet t.meaning.same (IsHandleOf new.handles) command told k
      (nothing_by outcome))
      → (answer : Answer K V P) (leaves : List (Event × Gone K V P)) →
      FetchOrTakeStep t old k fetch outcome answer leaves new → AllIs command k answer
  fetch_or_take_answered command k fetch outcome may (Later label) leaves h = tt
  fetch_or_take_answered command k fetch outcome may (Answered answers told) leaves h =
      nothing_told command k fetch outcome answers told (open_at t old k fetch) refl (may told) h.0
  fetch_or_take_answered command k fetch outcome may Lost leaves h = tt
  fetch_or_take_answered command k fetch outcome may _ leaves h = absurd h

  get_silent : (now : ℕ) (k : K) (answer : Answer K V P) (leaves : List (Event × Gone K V P)) →
      GetStep t now old k answer leaves new → outcomes answer ≡ []
  get_silent now k (Entry number came answers) leaves h = absurd h
  get_silent now k (Answered answers came) leaves h = absurd h
  get_silent now k _ leaves h = refl

  contains_silent : (now : ℕ) (k : K) (answer : Answer K V P) (leaves : List (Event × Gone K V P)) →
      ContainsStep t now old k answer leaves new → outcomes answer ≡ []
  contains_silent now k (Entry number came answers) leaves h = absurd h
  contains_silent now k (Answered answers came) leaves h = absurd h
  contains_silent now k _ leaves h = refl

  touch_silent : (now : ℕ) (k : K) (answer : Answer K V P) (leaves : List (Event × Gone K V P)) →
      TouchStep t now old k answer leaves new → outcomes answer ≡ []
  touch_silent now k (Entry number came answers) leaves h = absurd h
  touch_silent now k (Answered answers came) leaves h = absurd h
  touch_silent now k _ leaves h = refl

  remove_silent : (k : K) (answer : Answer K V P) (leaves : List (Event × Gone K V P)) →
      RemoveStep t old k answer leaves new → outcomes answer ≡ []
  remove_silent k (Entry number came answers) leaves h = absurd h
  remove_silent k (Answered answers came) leaves h = absurd h
  remove_silent k _ leaves h = refl

  clone_silent : (n : ℕ) (answer : Answer K V P) (leaves : List (Event × Gone K V P)) →
      CloneStep t old n answer leaves new → outcomes answer ≡ []
  clone_silent n (Entry number came answers) leaves h = absurd h
  clone_silent n (Answered answers came) leaves h = absurd h
  clone_silent n _ leaves h = refl

  drop_silent : (n : ℕ) (answer : Answer K V P) (leaves : List (Event × Gone K V P)) →
      DropStep t old n answer leaves new → outcomes answer ≡ []
  drop_silent n (Entry number came answers) leaves h = absurd h
  drop_silent n (Answered answers came) leaves h = absurd h
  drop_silent n _ leaves h = refl

  take_piece_silent : (n : ℕ) (answer : Answer K V P) (leaves : List (Event × Gone K V P)) →
      TakePieceStep t old n answer leaves new → outcomes answer ≡ []
  take_piece_silent n (Entry number came answers) leaves h = absurd h
  take_piece_silent n (Answered answers came) leaves h = absurd h
  take_piece_silent n _ leaves h = refl

  refs_silent : (n : ℕ) (answer : Answer K V P) (leaves : List (Event × Gone K V P)) →
      RefsStep t old n answer leaves new → outcomes answer ≡ []
  refs_silent n (Entry number came answers) leaves h = absurd h
  refs_silent n (Answered answers came) leaves h = absurd h
  refs_silent n _ leaves h = refl

  outdated_silent : (n : ℕ) (answer : Answer K V P) (leaves : List (Event × Gone K V P)) →
      OutdatedStep t old n answer leaves new → outcomes answer ≡ []
  outdated_silent n (Entry number came answers) leaves h = absurd h
  outdated_silent n (Answered answers came) leaves h = absurd h
  outdated_silent n _ leaves h = refl

  get_or_fetch_silent : (now : ℕ) (k : K) (later : Option ℕ) (answer : Answer K V P) (leaves : List (Event × Gone K V P))
      → GetOrFetchStep t now old k later answer leaves new → outcomes answer ≡ []
  get_or_fetch_silent now k later (Entry number came answers) leaves h = absurd h
  get_or_fetch_silent now k later (Answered answers came) leaves h = absurd h
  get_or_fetch_silent now k later _ leaves h = refl

  is_open_silent : (k : K) (fetch : ℕ) (answer : Answer K V P) (leaves : List (Event × Gone K V P)) →
      IsOpenStep t old k fetch answer leaves new
      → outcomes answer ≡ []
  is_open_silent k fetch (Entry number came answers) leaves h = absurd h
  is_open_silent k fetch (Answered answers came) leaves h = absurd h
  is_open_silent k fetch _ leaves h = refl

  clear_silent : (answer : Answer K V P) (leaves : List (Event × Gone K V P)) → ClearStep t old answer leaves new →
      outcomes answer ≡ []
  clear_silent (Entry number came answers) leaves h = absurd h
  clear_silent (Answered answers came) leaves h = absurd h
  clear_silent _ leaves h = refl

  evict_all_silent : (now : ℕ) (answer : Answer K V P) (leaves : List (Event × Gone K V P)) →
      EvictAllStep (terms_at now t) old answer leaves new → outcomes answer ≡ []
  evict_all_silent now (Entry number came answers) leaves h = absurd h
  evict_all_silent now (Answered answers came) leaves h = absurd h
  evict_all_silent now _ leaves h = refl

  resize_silent : (now : ℕ) (capacity : ℕ) (answer : Answer K V P) (leaves : List (Event × Gone K V P)) →
      ResizeStep t now old capacity answer leaves new
      → outcomes answer ≡ []
  resize_silent now capacity (Entry number came answers) leaves h = absurd h
  resize_silent now capacity (Answered answers came) leaves h = absurd h
  resize_silent now capacity _ leaves h = refl

  reconfigure_silent : (config : C) (answer : Answer K V P) (leaves : List (Event × Gone K V P)) →
      ReconfigureStep t old config answer leaves new
      → outcomes answer ≡ []
  reconfigure_silent config (Entry number came answers) leaves h = absurd h
  reconfigure_silent config (Answered answers came) leaves h = absurd h
  reconfigure_silent config _ leaves h = refl

  flush_if_silent : (says : K → V → Bool → Type 0) (answer : Answer K V P) (leaves : List (Event × Gone K V P)) →
      FlushIfStep t old says answer leaves new
      → outcomes answer ≡ []
  flush_if_silent says (Entry number came answers) leaves h = absurd h
  flush_if_silent says (Answered answers came) leaves h = absurd h
  flush_if_silent says _ leaves h = refl

  number_silent : (count : ℕ) (answer : Answer K V P) (leaves : List (Event × Gone K V P)) →
      NumberStep count old answer leaves new → outcomes answer ≡ []
  number_silent count (Entry number came answers) leaves h = absurd h
  number_silent count (Answered answers came) leaves h = absurd h
  number_silent count _ leaves h = refl

  -- nobody is answered
  nobody : (command : Command K V P Q C) (answer : Answer K V P) → outcomes answer ≡ [] →
      IsAnswered t old command answer new
  nobody command answer none = subst (AllByRecursion _) (sym none) tt

  module _ (picks : Q → K → V → Bool → Type 0) where
    -- the tokens that a step hands out are answered
    pub any_answered : (command : Command K V P Q C) (answer : Answer K V P) (leaves : List (Event × Gone K V P))
        → Step t picks old command answer leaves new → IsAnswered t old command answer new
    any_answered (Insert now k v p) answer leaves h = insert_answered Q t laws old new now k v p answer leaves h
    any_answered (InsertPiece now n) answer leaves h = insert_piece_answered Q t laws old new now n answer leaves h
    any_answered (Complete now k fetch end) answer leaves h = complete_answered now k fetch end answer leaves h
    any_answered (Fail k fetch fault) answer leaves h =
        end_answered (Fail k fetch fault) k fetch (Fetch fault) refl answer leaves h
    any_answered (Cancel k fetch) answer leaves h =
        end_answered (Cancel k fetch) k fetch TaskCancelled refl answer leaves h
    any_answered (FetchOrTake k fetch None) answer leaves h =
        fetch_or_take_answered (FetchOrTake k fetch None) k fetch None (λ told. tt) answer leaves h
    any_answered (FetchOrTake k fetch (Some fault)) answer leaves h =
        fetch_or_take_answered (FetchOrTake k fetch (Some fault)) k fetch (Some (Fetch fault)) (λ told. refl) answer
        leaves h
    any_answered (Get now k) answer leaves h = nobody (Get now k) answer (get_silent now k answer leaves h)
    any_answered (Contains now k) answer leaves h = nobody (Contains now k) answer (contains_silent now k answer leaves h)
    any_answered (Touch now k) answer leaves h = nobody (Touch now k) answer (touch_silent now k answer leaves h)
    any_answered (Remove k) answer leaves h = nobody (Remove k) answer (remove_silent k answer leaves h)
    any_answered (Clone n) answer leaves h = nobody (Clone n) answer (clone_silent n answer leaves h)
    any_answered (Drop n) answer leaves h = nobody (Drop n) answer (drop_silent n answer leaves h)
    any_answered (TakePiece n) answer leaves h = nobody (TakePiece n) answer (take_piece_silent n answer leaves h)
    any_answered (Refs n) answer leaves h = nobody (Refs n) answer (refs_silent n answer leaves h)
    any_answered (Outdated n) answer leaves h = nobody (Outdated n) answer (outdated_silent n answer leaves h)
    any_answered (GetOrFetch now k later) answer leaves h =
        nobody (GetOrFetch now k later) answer (get_or_fetch_silent now k later answer leaves h)
    any_answered (IsOpen k fetch) answer leaves h =
        nobody (IsOpen k fetch) answer (is_open_silent k fetch answer leaves h)
    any_answered Clear answer leaves h = nobody Clear answer (clear_silent answer leaves h)
    any_answered (EvictAll now) answer leaves h = nobody (EvictAll now) answer (evict_all_silent now answer leaves h)
    any_answered (Resize now capacity) answer leaves h =
        nobody (Resize now capacity) answer (resize_silent now capacity answer leaves h)
    any_answered (Reconfigure config) answer leaves h =
        nobody (Reconfigure config) answer (reconfigure_silent config answer leaves h)
    any_answered (FlushIf q) answer leaves h = nobody (FlushIf q) answer (flush_if_silent (picks q) answer leaves h)
    any_answered Capacity answer leaves h = nobody Capacity answer (number_silent _ answer leaves h)
    any_answered Usage answer leaves h = nobody Usage answer (number_silent _ answer leaves h)
    any_answered Entries answer leaves h = nobody Entries answer (number_silent _ answer leaves h)
