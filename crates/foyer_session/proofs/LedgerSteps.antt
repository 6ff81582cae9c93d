-- What a step settles whose command may issue tokens or hand them out.
use Rattle.std.proofs.Common.{◌≡◌, ℕ, ◌%◌, true, false, List, [], length, map, Option, Some, None, Result, Ok, refl, sym, ap, ◌∙◌, subst}
use Rattle.std.specs.Prelude.{IsSomeAnd, is_some, slice_get, slice_set}
use Rattle.std.specs.Cmp.{IsEquivalence}
use Rattle.foyer_policy.specs.declared.error.Reason.{Reason}
use Rattle.foyer_policy.specs.declared.error.Reason.TheVariants.{NoMemory}
use Rattle.foyer_policy.specs.declared.types.Event.{Event}
use Rattle.foyer_policy.specs.declared.types.Source.{Source}
use Rattle.foyer_policy.specs.declared.types.Source.TheVariants.{Memory}
use Rattle.foyer_core.specs.declared.inflight.Enqueue.TheVariants.{Lead as LeadsFetch, Wait as WaitsFetch}
use Rattle.foyer_core.specs.declared.outcome.FetchTarget.{FetchTarget}
use Rattle.foyer_core.specs.declared.outcome.FetchTarget.TheVariants.{Entry as ValueTarget, Piece as PieceTarget}
use Rattle.foyer_core.specs.Core.{shard_of}
use Rattle.foyer_core.specs.CoreFetches.{at_hash, open_in}
use Rattle.foyer_core.specs.Indexer.{same_key}
use Rattle.foyer_core.specs.Inflight.{AreOpen, Opens, OpenFetch, after_nothing, enqueued, waiters_of}
use Rattle.foyer_core.specs.State.{key_of}
use Rattle.foyer_core.specs.Values.{Carried, Gone, Made}
use Rattle.foyer_core.specs.Waited.{Ending, lost}
use Rattle.foyer_session.specs.declared.command.Answer.{Answer}
use Rattle.foyer_session.specs.declared.command.Answer.TheVariants.{Entry, Found, Lead, Wait, Answered, Later, Lost, NotHeld, Refused}
use Rattle.foyer_session.specs.declared.command.End.{End}
use Rattle.foyer_session.specs.declared.command.End.TheVariants.{Value, PieceNo as PieceEnd}
use Rattle.foyer_session.specs.Answering.{ClosedBy}
use Rattle.foyer_session.specs.Ledger.{Settles, issues, of_shard, outcomes, who_got}
use Rattle.foyer_session.specs.Step.{SessionState, InsertStep, InsertPieceStep, InsertsPieceIn, GetOrFetchStep, CompletesWith, CompletesPiece, CompleteStep, EndStep, FetchOrTakeStep, TellsEnd, hash_in, hashed, nothing_by, open_at, waiting_at, rules_in}
use Rattle.foyer_session.specs.Terms.{Terms, terms_at}
use Rattle.foyer_session.specs.Tokens.{each_gets, numbers_of}
use Rattle.foyer_session.proofs.EndTells.{asked_some}
use Rattle.foyer_session.proofs.LedgerCores.{StaysBuilt, rest_built, same_built, shard_built}
use Rattle.foyer_session.proofs.LedgerEnds.{EndsPlace, completed_place, ends_place, who_got_all, who_got_each, who_got_handles}
use Rattle.foyer_session.proofs.LedgerFetches.{closed_at, enqueued_at, nothing_at, same_settled, taken_at}

-- who leads or waits has the next token
pub lead_token : {N R : Type 0} (p : Option (OpenFetch N R)) (fetch token next_fetch next : ℕ) (required later : Option R)
    → LeadsFetch fetch token required ≡ enqueued p next_fetch next later → token ≡ next
lead_token None fetch token next_fetch next required later h = cc
lead_token (Some o) fetch token next_fetch next required later h = absurd cc

pub wait_token : {N R : Type 0} (p : Option (OpenFetch N R)) (token next_fetch next : ℕ) (later : Option R) →
    WaitsFetch token ≡ enqueued p next_fetch next later
    → token ≡ next
wait_token None token next_fetch next later h = absurd cc
wait_token (Some o) token next_fetch next later h = cc

module _ {K V P View C S W A : Type 0} (t : Terms K V P View C S W A) (old new : SessionState K V P View S W A) where
  -- what comes in by a piece is of the shard of the piece's key
  abbrev pub ComesHome : Type 0
  ComesHome = (now : ℕ) (piece : Carried K V P) (made : Made K V P) → InsertsPieceIn (terms_at now t) old piece (Ok made) new
      → hash_in t old piece.kept.key % length old.fetches ≡ made.entry.kept.hash % length old.fetches

module _ {K V P View C S W A : Type 0} (t : Terms K V P View C S W A) (laws : IsEquivalence t.meaning.same)
    (old new : SessionState K V P View S W A)
    (sound : (i : ℕ) (f : Opens K (Unit {0}) ℕ) → slice_get old.fetches i ≡ Some f → AreOpen t.meaning.same f)
    (alike : (i : ℕ) (f : Opens K (Unit {0}) ℕ) → slice_get old.fetches i ≡ Some f → (p q : ℕ × K) →
    same_key t.meaning.same p q ≡ true → f.by_key p ≡ f.by_key q)
    (long : length old.fetches ≡ length old.core.shards) where
  abbrev hash : K → ℕ
  hash = hash_in t old

  -- the number of the shard of a hash
  abbrev pub shard_by : ℕ → ℕ
  shard_by h = h % length old.core.shards

  -- What the tokens of a shard settle that an answer issues and hands out. The core keeps its hash builder and its
  -- shards.
  abbrev pub AnswerSettles : ℕ → Answer K V P → Type 0
  AnswerSettles shard answer = Settles old.fetches new.fetches (of_shard shard (issues answer))
      (of_shard shard (who_got (outcomes answer))) × StaysBuilt old.core new.core

  -- nothing is issued or handed out
  abbrev pub NothingSettles : Type 0
  NothingSettles = Settles old.fetches new.fetches [] [] × StaysBuilt old.core new.core

  pub quiet : new.fetches ≡ old.fetches → StaysBuilt old.core new.core → NothingSettles
  quiet same built = (same_settled t.meaning.same old.fetches sound alike new.fetches same, built)

  pub unchanged : new ≡ old → NothingSettles
  unchanged same = quiet (ap (λ (s : SessionState K V P View S W A). s.fetches) same)
      (same_built old.core new.core (ap (λ (s : SessionState K V P View S W A). s.core) same))

  -- a fetch is closed, and who waited there is answered
  hands : (h : ℕ) (tokens got : List ℕ) → got ≡ tokens →
      Settles old.fetches new.fetches [] (of_shard (h % length old.fetches) tokens)
      → Settles old.fetches new.fetches [] (of_shard (shard_by h) got)
  hands h tokens got is s =
      subst (λ (ts : List ℕ). Settles old.fetches new.fetches [] (of_shard (shard_by h) ts)) (sym is)
      (subst (λ (n : ℕ). Settles old.fetches new.fetches [] (of_shard (h % n) tokens)) long s)

  pub insert_settled : (k : K) (v : V) (p : P) (answer : Answer K V P) (leaves : List (Event × Gone K V P)) →
      InsertStep t old k v p answer leaves new
      → AnswerSettles (shard_by (hash k)) answer
  insert_settled k v p (Entry number told answers) leaves h =
      let q = hashed t old k in (
        hands (hash k) (numbers_of (waiting_at t old q)) _
            (ap (map (λ got. got.0)) h.6.answered ∙ who_got_handles (length old.handles)
            (numbers_of (waiting_at t old q)))
            (closed_at t.meaning.same old.fetches sound alike q (hash k) refl new.fetches h.7),
        shard_built old.core new.core _ (hash k) h.5,
      )
  insert_settled k v p (Refused reason) leaves h = quiet h.5.1 (shard_built old.core new.core _ (hash k) h.4)
  insert_settled k v p _ leaves h = absurd h

  pub get_or_fetch_settled : (now : ℕ) (k : K) (later : Option ℕ) (answer : Answer K V P) (leaves : List (Event × Gone K V P))
      → GetOrFetchStep t now old k later answer leaves new → AnswerSettles (shard_by (hash k)) answer
  get_or_fetch_settled now k later (Found number told) leaves h =
      quiet h.2.fetches (rest_built old.core new.core (shard_of old.core (hash k)) h.1.after h.1.rest)
  get_or_fetch_settled now k later (Lead fetch token) leaves h =
      let at = h.1 in (
        enqueued_at t.meaning.same old.fetches sound alike laws (hashed t old k) (shard_by (hash k)) at.open_before
            at.open_there (ap (λ (n : ℕ). hash k % n) long) now tt later new.fetches token
            (at.open_rest ∙ ap (slice_set old.fetches (shard_by (hash k))) at.stepped.4)
            (lead_token (at.open_before.by_key (hashed t old k)) fetch token at.open_before.next_fetch
            at.open_before.next_token h.0 later at.stepped.2),
        rest_built old.core new.core (shard_of old.core (hash k)) at.after at.rest,
      )
  get_or_fetch_settled now k later (Wait token) leaves h =
      let at = h.0 in (
        enqueued_at t.meaning.same old.fetches sound alike laws (hashed t old k) (shard_by (hash k)) at.open_before
            at.open_there (ap (λ (n : ℕ). hash k % n) long) now tt later new.fetches token
            (at.open_rest ∙ ap (slice_set old.fetches (shard_by (hash k))) at.stepped.4)
            (wait_token (at.open_before.by_key (hashed t old k)) token at.open_before.next_fetch
            at.open_before.next_token later at.stepped.2),
        rest_built old.core new.core (shard_of old.core (hash k)) at.after at.rest,
      )
  get_or_fetch_settled now k later (Refused reason) leaves h = unchanged h.2
  get_or_fetch_settled now k later _ leaves h = absurd h

  -- a fetch ends
  ends_by : (k : K) (fetch : ℕ) (p : Option (OpenFetch (Unit {0}) ℕ)) → open_at t old k fetch ≡ p
      → ClosedBy p t.meaning.same (hashed t old k) old.fetches new.fetches
      → Settles old.fetches new.fetches [] (of_shard (hash k % length old.fetches) (numbers_of (waiters_of p)))
  ends_by k fetch None is closes = same_settled t.meaning.same old.fetches sound alike new.fetches closes
  ends_by k fetch (Some o) is closes =
      subst (λ (x : Option (OpenFetch (Unit {0}) ℕ)). Settles old.fetches new.fetches []
      (of_shard (hash k % length old.fetches) (numbers_of (waiters_of x))))
      (asked_some fetch (open_in old.fetches (hashed t old k)) o is)
      (closed_at t.meaning.same old.fetches sound alike (hashed t old k) (hash k) refl new.fetches closes)

  lost_same : (k : K) (fetch : ℕ) (ended : Ending K V P (Unit {0})) (p : Option (OpenFetch (Unit {0}) ℕ)) → ended ≡ lost
      → EndsPlace t.meaning.same (hashed t old k) p old.fetches new.fetches ended → new.fetches ≡ old.fetches
  lost_same k fetch ended None is ends = ends.closes
  lost_same k fetch ended (Some o) is ends =
      absurd (let e : true ≡ false = sym (ends.found o refl) ∙ ap (λ (x : Ending K V P (Unit {0})). x.found) is in cc)

  told_end : (k : K) (fetch : ℕ) (ended : Ending K V P (Unit {0})) (answer : Answer K V P)
      (leaves : List (Event × Gone K V P))
      → EndsPlace t.meaning.same (hashed t old k) (open_at t old k fetch) old.fetches new.fetches ended
      → StaysBuilt old.core new.core → TellsEnd old ended answer leaves new → AnswerSettles (shard_by (hash k)) answer
  told_end k fetch ended (Answered answers told) leaves ends built h = (
    hands (hash k) (numbers_of (waiters_of (open_at t old k fetch))) _
        (ap (map (λ got. got.0)) h.2 ∙ who_got_all (length old.handles) ended.outcome (numbers_of ended.waiters)
        ∙ ap numbers_of ends.waiters)
        (ends_by k fetch (open_at t old k fetch) refl ends.closes),
    built,
  )
  told_end k fetch ended Lost leaves ends built h =
      quiet (lost_same k fetch ended (open_at t old k fetch) h.0 ends) built
  told_end k fetch ended _ leaves ends built h = absurd h

  complete_with_settled : (k : K) (fetch : ℕ) (source : Source) (target : FetchTarget K V P) (answer : Answer K V P)
      (leaves : List (Event × Gone K V P))
      → CompletesWith t old k fetch source target answer leaves new
      → AnswerSettles (shard_by (hash k)) answer
  complete_with_settled k fetch source target answer leaves h =
      let ends = completed_place t.meaning old.core new.core old.fetches new.fetches (hashed t old k) h.0 (rules_in t old) source target
      (open_at t old k fetch) h.1 in
      told_end k fetch h.0 answer leaves ends.0 ends.1 h.2

  complete_piece_settled : (k : K) (fetch : ℕ) (piece : Option (Carried K V P)) (answer : Answer K V P)
      (leaves : List (Event × Gone K V P))
      → CompletesPiece t old k fetch piece answer leaves new
      → AnswerSettles (shard_by (hash k)) answer
  complete_piece_settled k fetch None NotHeld leaves h = unchanged h.1
  complete_piece_settled k fetch None _ leaves h = absurd h
  complete_piece_settled k fetch (Some piece) (Refused NoMemory) leaves h = unchanged h.1
  complete_piece_settled k fetch (Some piece) answer leaves h =
      complete_with_settled k fetch Memory (PieceTarget piece) answer leaves h

  pub complete_settled : (k : K) (fetch : ℕ) (end : End V P) (answer : Answer K V P)
      (leaves : List (Event × Gone K V P))
      → CompleteStep t old k fetch end answer leaves new → AnswerSettles (shard_by (hash k)) answer
  complete_settled k fetch (Value v p source) answer leaves h =
      complete_with_settled k fetch source (ValueTarget v p) answer leaves h
  complete_settled k fetch (PieceEnd n) answer leaves h =
      complete_piece_settled k fetch (slice_get old.pieces n) answer leaves h

  pub end_settled : (k : K) (fetch : ℕ) (reason : Reason) (answer : Answer K V P) (leaves : List (Event × Gone K V P))
      → EndStep t old k fetch reason answer leaves new → AnswerSettles (shard_by (hash k)) answer
  end_settled k fetch reason answer leaves h =
      told_end k fetch h.0 answer leaves
      (ends_place t.meaning.same (hashed t old k) old.fetches new.fetches h.0 (open_at t old k fetch) reason h.1)
      (same_built old.core new.core h.2) h.3

  -- a builder is kept, or the fetch ends with nothing
  later_place : (k : K) (fetch label : ℕ) (p : Option (OpenFetch (Unit {0}) ℕ)) → open_at t old k fetch ≡ p →
      IsSomeAnd p (λ o. o.later ≡ Some label)
      → new.fetches ≡ at_hash (λ f. after_nothing t.meaning.same f (hashed t old k)) old.fetches (hash k) →
      Settles old.fetches new.fetches [] []
  later_place k fetch label None is h rest = absurd h
  later_place k fetch label (Some o) is h rest =
      taken_at t.meaning.same old.fetches sound alike (hashed t old k) (hash k) refl o
      (asked_some fetch (open_in old.fetches (hashed t old k)) o is) new.fetches
      (ap (λ (x : Option ℕ). is_some x) h) rest

  none_place : (k : K) (fetch : ℕ) (outcome : Option Reason) (answers : List (ℕ × Result (Option ℕ) Reason))
      (p : Option (OpenFetch (Unit {0}) ℕ))
      → open_at t old k fetch ≡ p
      → IsSomeAnd p (λ o. (o.later ≡ None) × (answers ≡ each_gets (nothing_by outcome) (numbers_of o.tokens)))
      → new.fetches ≡ at_hash (λ f. after_nothing t.meaning.same f (hashed t old k)) old.fetches (hash k) →
      Settles old.fetches new.fetches [] (of_shard (shard_by (hash k)) (map (λ got. got.0) answers))
  none_place k fetch outcome answers None is h rest = absurd h
  none_place k fetch outcome answers (Some o) is h rest =
      hands (hash k) (numbers_of o.tokens) _
      (ap (map (λ got. got.0)) h.1 ∙ who_got_each (nothing_by outcome) (numbers_of o.tokens))
      (nothing_at t.meaning.same old.fetches sound alike (hashed t old k) (hash k) refl o
      (asked_some fetch (open_in old.fetches (hashed t old k)) o is) new.fetches h.0 rest)

  pub fetch_or_take_settled : (k : K) (fetch : ℕ) (outcome : Option Reason) (answer : Answer K V P)
      (leaves : List (Event × Gone K V P))
      → FetchOrTakeStep t old k fetch outcome answer leaves new → AnswerSettles (shard_by (hash k)) answer
  fetch_or_take_settled k fetch outcome (Later label) leaves h = (
    later_place k fetch label (open_at t old k fetch) refl h.0
        (ap (λ (s : SessionState K V P View S W A). s.fetches) h.2),
    same_built old.core new.core (ap (λ (s : SessionState K V P View S W A). s.core) h.2),
  )
  fetch_or_take_settled k fetch outcome (Answered answers told) leaves h = (
    none_place k fetch outcome answers (open_at t old k fetch) refl h.0
        (ap (λ (s : SessionState K V P View S W A). s.fetches) h.3),
    same_built old.core new.core (ap (λ (s : SessionState K V P View S W A). s.core) h.3),
  )
  fetch_or_take_settled k fetch outcome Lost leaves h = unchanged h.2
  fetch_or_take_settled k fetch outcome _ leaves h = absurd h

  pub insert_piece_settled : ComesHome t old new
      → (now n : ℕ) (number : ℕ) (told : Gone K V P) (answers : List (ℕ × Result (Option ℕ) Reason))
      (leaves : List (Event × Gone K V P))
      → InsertPieceStep (terms_at now t) old n (Entry number told answers) leaves new →
      AnswerSettles (shard_by told.kept.hash) (Entry number told answers)
  insert_piece_settled home now n number told answers leaves h =
      let entry = h.1 in
      let q = key_of entry.kept in
      let comes = home now h.0 (record { entry = entry; leaves = leaves }) h.3 in
      let from : told.kept.hash % length old.fetches ≡ hash h.0.kept.key % length old.fetches =
      ap (λ (g : Gone K V P). g.kept.hash % length old.fetches) h.4.tells ∙ sym comes in (
        hands told.kept.hash (numbers_of (waiting_at t old q)) _
            (ap (map (λ got. got.0)) h.4.answered ∙ who_got_handles (length old.handles)
            (numbers_of (waiting_at t old q)))
            (subst (λ (n : ℕ). Settles old.fetches new.fetches [] (of_shard n (numbers_of (waiting_at t old q))))
            (sym from)
            (closed_at t.meaning.same old.fetches sound alike q (hash h.0.kept.key) comes new.fetches h.5)),
        shard_built old.core new.core _ (hash h.0.kept.key) h.3,
      )
