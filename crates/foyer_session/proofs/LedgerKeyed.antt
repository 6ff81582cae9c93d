-- Who waits for a key after a step.
use Rattle.std.proofs.Common.{◌≡◌, ℕ, Bool, true, List, [], ◌∷◌, Option, Some, None, refl, sym, ap, ◌∙◌, subst, inl, inr}
use Rattle.std.specs.Prelude.{option_map, slice_get, slice_set}
use Rattle.foyer_policy.specs.declared.error.Reason.{Reason}
use Rattle.foyer_policy.specs.declared.error.Reason.TheVariants.{Fetch, NoMemory, TaskCancelled}
use Rattle.foyer_policy.specs.declared.types.Event.{Event}
use Rattle.foyer_policy.specs.declared.types.Source.{Source}
use Rattle.foyer_policy.specs.declared.types.Source.TheVariants.{Memory}
use Rattle.foyer_core.specs.declared.outcome.FetchTarget.{FetchTarget}
use Rattle.foyer_core.specs.declared.outcome.FetchTarget.TheVariants.{Entry as ValueTarget, Piece as PieceTarget}
use Rattle.foyer_core.specs.Core.{shard_of}
use Rattle.foyer_core.specs.Indexer.{same_key}
use Rattle.foyer_core.specs.Inflight.{Opens, OpenFetch, after_enqueue}
use Rattle.foyer_core.specs.State.{key_of, at_moment}
use Rattle.foyer_core.specs.Values.{Carried, Gone}
use Rattle.foyer_core.specs.Waited.{Ending}
use Rattle.foyer_session.specs.declared.command.Answer.{Answer}
use Rattle.foyer_session.specs.declared.command.Answer.TheVariants.{Entry, Found, Missing, Lead, Wait, Answered, Later, Lost, Yes, No, Done, Number, PieceNo, NotHeld, Refused}
use Rattle.foyer_session.specs.declared.command.Command.{Command}
use Rattle.foyer_session.specs.declared.command.Command.TheVariants.{Insert, Get, Contains, Touch, Remove, Clone, Drop, TakePiece, InsertPiece, Refs, Outdated, GetOrFetch, Complete, Fail, Cancel, FetchOrTake, IsOpen, Clear, EvictAll, FlushIf, Resize, Reconfigure, Capacity, Usage, Entries}
use Rattle.foyer_session.specs.declared.command.End.{End}
use Rattle.foyer_session.specs.declared.command.End.TheVariants.{Value, PieceNo as PieceEnd}
use Rattle.foyer_session.specs.Answering.{ClosedBy}
use Rattle.foyer_session.specs.Ledger.{issues, key_by, of_key}
use Rattle.foyer_session.specs.Step.{SessionState, Step, InsertStep, GetStep, ContainsStep, TouchStep, RemoveStep, CloneStep, DropStep, TakePieceStep, InsertPieceStep, RefsStep, OutdatedStep, GetOrFetchStep, CompletesWith, CompletesPiece, CompleteStep, EndStep, FetchOrTakeStep, IsOpenStep, TellsEnd, ClearStep, EvictAllStep, FlushIfStep, ResizeStep, ReconfigureStep, NumberStep, hash_in, hashed, open_at, rules_in}
use Rattle.foyer_session.specs.Terms.{Terms, terms_at}
use Rattle.foyer_session.proofs.LedgerEnds.{completed_place, ends_place}
use Rattle.foyer_session.proofs.LedgerKeys.{Keyed, closed_keyed_at, enqueued_keyed, nothing_keyed_at, same_keyed}
use Rattle.foyer_session.proofs.LedgerSteps.{lead_token, wait_token}

module _ {K V P View C S W A : Type 0} (t : Terms K V P View C S W A) (old new : SessionState K V P View S W A)
    (alike : (i : ℕ) (f : Opens K (Unit {0}) ℕ) → slice_get old.fetches i ≡ Some f → (p q : ℕ × K) →
    same_key t.meaning.same p q ≡ true → f.by_key p ≡ f.by_key q) where
  abbrev pub KeyedBy : Option (ℕ × K) → Answer K V P → Type 0
  KeyedBy key answer = Keyed t.meaning.same old.fetches new.fetches (of_key key (issues answer))

  same : new.fetches ≡ old.fetches → Keyed t.meaning.same old.fetches new.fetches []
  same is = same_keyed t.meaning.same old.fetches new.fetches is

  unchanged : new ≡ old → Keyed t.meaning.same old.fetches new.fetches []
  unchanged is = same (ap (λ (s : SessionState K V P View S W A). s.fetches) is)

  insert_keyed : (now : ℕ) (k : K) (v : V) (p : P) (answer : Answer K V P) (leaves : List (Event × Gone K V P)) →
      InsertStep (terms_at now t) old k v p answer leaves new
      → KeyedBy (Some (hashed t old k)) answer
  insert_keyed now k v p (Entry number told answers) leaves h =
      closed_keyed_at t.meaning.same old.fetches alike (hashed t old k) (hash_in t old k) new.fetches h.7
  insert_keyed now k v p (Refused reason) leaves h = same h.5.1
  insert_keyed now k v p _ leaves h = absurd h

  -- one more waits for the key
  one_keyed : (now : ℕ) (k : K) (i : ℕ) (f : Opens K (Unit {0}) ℕ) → slice_get old.fetches i ≡ Some f → (later : Option ℕ)
      → new.fetches ≡ slice_set old.fetches i (after_enqueue t.meaning.same now f (hashed t old k) tt later) → (token : ℕ)
      → token ≡ f.next_token
      → Keyed t.meaning.same old.fetches new.fetches ((hashed t old k, token) ∷ [])
  one_keyed now k i f there later is token own =
      subst (λ (n : ℕ). Keyed t.meaning.same old.fetches new.fetches ((hashed t old k, n) ∷ [])) (sym own)
      (subst (λ (g : List (Opens K (Unit {0}) ℕ)). Keyed t.meaning.same old.fetches g
      ((hashed t old k, f.next_token) ∷ [])) (sym is)
      (enqueued_keyed t.meaning.same old.fetches i f there (alike i f there) (hashed t old k) now tt later))

  get_or_fetch_keyed : (now : ℕ) (k : K) (later : Option ℕ) (answer : Answer K V P) (leaves : List (Event × Gone K V P))
      → GetOrFetchStep t now old k later answer leaves new → KeyedBy (Some (hashed t old k)) answer
  get_or_fetch_keyed now k later (Found number told) leaves h = same h.2.fetches
  get_or_fetch_keyed now k later (Lead fetch token) leaves h =
      let at = h.1 in
      let i = shard_of old.core (hash_in t old k) in
      one_keyed now k i at.open_before at.open_there later (at.open_rest ∙ ap (slice_set old.fetches i) at.stepped.4) token
      (lead_token (at.open_before.by_key (hashed t old k)) fetch token at.open_before.next_fetch
      at.open_before.next_token h.0 later at.stepped.2)
  get_or_fetch_keyed now k later (Wait token) leaves h =
      let at = h.0 in
      let i = shard_of old.core (hash_in t old k) in
      one_keyed now k i at.open_before at.open_there later (at.open_rest ∙ ap (slice_set old.fetches i) at.stepped.4) token
      (wait_token (at.open_before.by_key (hashed t old k)) token at.open_before.next_fetch at.open_before.next_token
      later at.stepped.2)
  get_or_fetch_keyed now k later (Refused reason) leaves h = unchanged h.2
  get_or_fetch_keyed now k later _ leaves h = absurd h

  insert_piece_keyed : (now : ℕ) (n : ℕ) (answer : Answer K V P) (leaves : List (Event × Gone K V P)) →
      InsertPieceStep (terms_at now t) old n answer leaves new
      → Keyed t.meaning.same old.fetches new.fetches []
  insert_piece_keyed now n (Entry number told answers) leaves h =
      closed_keyed_at t.meaning.same old.fetches alike (key_of h.1.kept) (hash_in t old h.0.kept.key) new.fetches h.5
  insert_piece_keyed now n (Refused reason) leaves h = elim h.2 [
    | inl x ↦ unchanged x.2
    | inr y ↦ same y.1.1
  ]
  insert_piece_keyed now n NotHeld leaves h = unchanged h.2
  insert_piece_keyed now n _ leaves h = absurd h

  -- a fetch ends
  closes_keyed : (k : K) (p : Option (OpenFetch (Unit {0}) ℕ)) →
      ClosedBy p t.meaning.same (hashed t old k) old.fetches new.fetches
      → Keyed t.meaning.same old.fetches new.fetches []
  closes_keyed k None closes = same closes
  closes_keyed k (Some o) closes = closed_keyed_at t.meaning.same old.fetches alike (hashed t old k) (hash_in t old k)
      new.fetches closes

  -- what an end answers issues no token
  no_more : (k : K) (x : Keyed t.meaning.same old.fetches new.fetches []) (answer : Answer K V P) → issues answer ≡ []
      → KeyedBy (Some (hashed t old k)) answer
  no_more k x answer none = subst
      (λ (ts : List ℕ). Keyed t.meaning.same old.fetches new.fetches (of_key (Some (hashed t old k)) ts)) (sym none) x

  with_keyed : (now : ℕ) (k : K) (fetch : ℕ) (source : Source) (target : FetchTarget K V P) (answer : Answer K V P)
      (leaves : List (Event × Gone K V P))
      → CompletesWith (terms_at now t) old k fetch source target answer leaves new → Keyed t.meaning.same old.fetches new.fetches []
  with_keyed now k fetch source target answer leaves h =
      closes_keyed k (open_at t old k fetch)
      (completed_place (at_moment now t.meaning) old.core new.core old.fetches new.fetches (hashed t old k) h.0 (rules_in t old) source target
      (open_at t old k fetch) h.1).0.closes

  told_none : (ended : Ending K V P (Unit {0})) (answer : Answer K V P) (leaves : List (Event × Gone K V P)) →
      TellsEnd old ended answer leaves new
      → issues answer ≡ []
  told_none ended (Lead fetch token) leaves h = absurd h
  told_none ended (Wait token) leaves h = absurd h
  told_none ended _ leaves h = refl

  piece_keyed : (now : ℕ) (k : K) (fetch : ℕ) (piece : Option (Carried K V P)) (answer : Answer K V P)
      (leaves : List (Event × Gone K V P))
      → CompletesPiece (terms_at now t) old k fetch piece answer leaves new → KeyedBy (Some (hashed t old k)) answer
  piece_keyed now k fetch None NotHeld leaves h = unchanged h.1
  piece_keyed now k fetch None _ leaves h = absurd h
  piece_keyed now k fetch (Some piece) (Refused NoMemory) leaves h = unchanged h.1
  piece_keyed now k fetch (Some piece) answer leaves h =
      no_more k (with_keyed now k fetch Memory (PieceTarget piece) answer leaves h) answer (told_none h.0 answer leaves h.2)

  complete_keyed : (now : ℕ) (k : K) (fetch : ℕ) (end : End V P) (answer : Answer K V P) (leaves : List (Event × Gone K V P))
      → CompleteStep (terms_at now t) old k fetch end answer leaves new → KeyedBy (Some (hashed t old k)) answer
  complete_keyed now k fetch (Value v p source) answer leaves h =
      no_more k (with_keyed now k fetch source (ValueTarget v p) answer leaves h) answer (told_none h.0 answer leaves h.2)
  complete_keyed now k fetch (PieceEnd n) answer leaves h = piece_keyed now k fetch (slice_get old.pieces n) answer leaves h

  end_keyed : (k : K) (fetch : ℕ) (reason : Reason) (answer : Answer K V P) (leaves : List (Event × Gone K V P))
      → EndStep t old k fetch reason answer leaves new → KeyedBy (Some (hashed t old k)) answer
  end_keyed k fetch reason answer leaves h =
      no_more k
      (closes_keyed k (open_at t old k fetch)
      (ends_place t.meaning.same (hashed t old k) old.fetches new.fetches h.0 (open_at t old k fetch) reason
      h.1).closes) answer (told_none h.0 answer leaves h.3)

  fetch_or_take_keyed : (k : K) (fetch : ℕ) (outcome : Option Reason) (answer : Answer K V P)
      (leaves : List (Event × Gone K V P))
      → FetchOrTakeStep t old k fetch outcome answer leaves new → KeyedBy (Some (hashed t old k)) answer
  fetch_or_take_keyed k fetch outcome (Later label) leaves h =
      nothing_keyed_at t.meaning.same old.fetches alike (hashed t old k) (hash_in t old k) new.fetches
      (ap (λ (s : SessionState K V P View S W A). s.fetches) h.2)
  fetch_or_take_keyed k fetch outcome (Answered answers told) leaves h =
      nothing_keyed_at t.meaning.same old.fetches alike (hashed t old k) (hash_in t old k) new.fetches
      (ap (λ (s : SessionState K V P View S W A). s.fetches) h.3)
  fetch_or_take_keyed k fetch outcome Lost leaves h = unchanged h.2
  fetch_or_take_keyed k fetch outcome _ leaves h = absurd h

  get_keyed : (now : ℕ) (k : K) (answer : Answer K V P) (leaves : List (Event × Gone K V P)) → GetStep t now old k answer leaves new
      → KeyedBy (Some (hashed t old k)) answer
  get_keyed now k (Found number told) leaves h = same h.2.fetches
  get_keyed now k Missing leaves h = unchanged h.2
  get_keyed now k (Refused reason) leaves h = unchanged h.2
  get_keyed now k _ leaves h = absurd h

  contains_keyed : (now : ℕ) (k : K) (answer : Answer K V P) (leaves : List (Event × Gone K V P)) →
      ContainsStep t now old k answer leaves new
      → KeyedBy (Some (hashed t old k)) answer
  contains_keyed now k Yes leaves h = unchanged h.2
  contains_keyed now k No leaves h = unchanged h.2
  contains_keyed now k _ leaves h = absurd h

  touch_keyed : (now : ℕ) (k : K) (answer : Answer K V P) (leaves : List (Event × Gone K V P)) →
      TouchStep t now old k answer leaves new
      → KeyedBy (Some (hashed t old k)) answer
  touch_keyed now k Yes leaves h = same h.2.1
  touch_keyed now k No leaves h = unchanged h.2
  touch_keyed now k (Refused reason) leaves h = unchanged h.2
  touch_keyed now k _ leaves h = absurd h

  remove_keyed : (k : K) (answer : Answer K V P) (leaves : List (Event × Gone K V P)) →
      RemoveStep t old k answer leaves new
      → KeyedBy (Some (hashed t old k)) answer
  remove_keyed k (Found number told) leaves h = same h.3.fetches
  remove_keyed k Missing leaves h = unchanged h.2
  remove_keyed k (Refused reason) leaves h = unchanged h.2
  remove_keyed k _ leaves h = absurd h

  clone_keyed : (n : ℕ) (answer : Answer K V P) (leaves : List (Event × Gone K V P)) →
      CloneStep t old n answer leaves new → KeyedBy None answer
  clone_keyed n (Found number told) leaves h = same h.4.fetches
  clone_keyed n (Refused reason) leaves h = unchanged h.4
  clone_keyed n NotHeld leaves h = unchanged h.2
  clone_keyed n _ leaves h = absurd h

  drop_keyed : (n : ℕ) (answer : Answer K V P) (leaves : List (Event × Gone K V P)) →
      DropStep t old n answer leaves new → KeyedBy None answer
  drop_keyed n Done leaves h = same h.6
  drop_keyed n NotHeld leaves h = unchanged h.2
  drop_keyed n _ leaves h = absurd h

  take_piece_keyed : (n : ℕ) (answer : Answer K V P) (leaves : List (Event × Gone K V P)) →
      TakePieceStep t old n answer leaves new → KeyedBy None answer
  take_piece_keyed n (PieceNo number) leaves h =
      same (ap (λ (s : SessionState K V P View S W A). s.fetches) h.4)
  take_piece_keyed n (Refused NoMemory) leaves h = unchanged h.3
  take_piece_keyed n NotHeld leaves h = unchanged h.2
  take_piece_keyed n _ leaves h = absurd h

  refs_keyed : (n : ℕ) (answer : Answer K V P) (leaves : List (Event × Gone K V P)) →
      RefsStep t old n answer leaves new → KeyedBy None answer
  refs_keyed n (Number count) leaves h = unchanged h.4
  refs_keyed n NotHeld leaves h = unchanged h.2
  refs_keyed n _ leaves h = absurd h

  outdated_keyed : (n : ℕ) (answer : Answer K V P) (leaves : List (Event × Gone K V P)) →
      OutdatedStep t old n answer leaves new → KeyedBy None answer
  outdated_keyed n Yes leaves h = unchanged h.4
  outdated_keyed n No leaves h = unchanged h.4
  outdated_keyed n NotHeld leaves h = unchanged h.2
  outdated_keyed n _ leaves h = absurd h

  is_open_keyed : (k : K) (fetch : ℕ) (answer : Answer K V P) (leaves : List (Event × Gone K V P)) →
      IsOpenStep t old k fetch answer leaves new
      → KeyedBy (Some (hashed t old k)) answer
  is_open_keyed k fetch Yes leaves h = unchanged h.2
  is_open_keyed k fetch No leaves h = unchanged h.2
  is_open_keyed k fetch _ leaves h = absurd h

  clear_keyed : (answer : Answer K V P) (leaves : List (Event × Gone K V P)) → ClearStep t old answer leaves new →
      KeyedBy None answer
  clear_keyed Done leaves h = same h.1.1
  clear_keyed (Refused NoMemory) leaves h = unchanged h.1
  clear_keyed _ leaves h = absurd h

  evict_all_keyed : (now : ℕ) (answer : Answer K V P) (leaves : List (Event × Gone K V P)) →
      EvictAllStep (terms_at now t) old answer leaves new → KeyedBy None answer
  evict_all_keyed now Done leaves h = same h.1.1
  evict_all_keyed now (Refused NoMemory) leaves h = same h.1.1
  evict_all_keyed now _ leaves h = absurd h

  flush_if_keyed : (says : K → V → Bool → Type 0) (answer : Answer K V P) (leaves : List (Event × Gone K V P)) →
      FlushIfStep t old says answer leaves new
      → KeyedBy None answer
  flush_if_keyed says Done leaves h = same h.1.1
  flush_if_keyed says (Refused NoMemory) leaves h = unchanged h.1
  flush_if_keyed says _ leaves h = absurd h

  resize_keyed : (now : ℕ) (capacity : ℕ) (answer : Answer K V P) (leaves : List (Event × Gone K V P)) →
      ResizeStep t now old capacity answer leaves new → KeyedBy None answer
  resize_keyed now capacity Done leaves h = same h.1.1
  resize_keyed now capacity (Refused NoMemory) leaves h = same h.1.1
  resize_keyed now capacity _ leaves h = absurd h

  reconfigure_keyed : (config : C) (answer : Answer K V P) (leaves : List (Event × Gone K V P)) →
      ReconfigureStep t old config answer leaves new
      → KeyedBy None answer
  reconfigure_keyed config Done leaves h = same h.3.1
  reconfigure_keyed config (Refused reason) leaves h = unchanged h.2
  reconfigure_keyed config _ leaves h = absurd h

  number_keyed : (count : ℕ) (answer : Answer K V P) (leaves : List (Event × Gone K V P)) →
      NumberStep count old answer leaves new → KeyedBy None answer
  number_keyed count (Number n) leaves h = unchanged h.2
  number_keyed count _ leaves h = absurd h

  module _ {Q : Type 0} (picks : Q → K → V → Bool → Type 0) where
    piece_none : (now n : ℕ) (answer : Answer K V P) → Keyed t.meaning.same old.fetches new.fetches [] → issues answer ≡ []
        → KeyedBy (key_by {Q = Q} {C = C} (hash_in t old) (InsertPiece now n) answer) answer
    piece_none now n (Entry number told answers) x none = x
    piece_none now n _ x none = x

    piece_issues : (now : ℕ) (n : ℕ) (answer : Answer K V P) (leaves : List (Event × Gone K V P)) →
        InsertPieceStep (terms_at now t) old n answer leaves new → issues answer ≡ []
    piece_issues now n (Lead fetch token) leaves h = absurd h
    piece_issues now n (Wait token) leaves h = absurd h
    piece_issues now n _ leaves h = refl

    -- who waits after a step waited before, or was issued a token for the key
    pub any_keyed : (command : Command K V P Q C) (answer : Answer K V P) (leaves : List (Event × Gone K V P)) →
        Step t picks old command answer leaves new
        → KeyedBy (key_by (hash_in t old) command answer) answer
    any_keyed (Insert now k v p) answer leaves h = insert_keyed now k v p answer leaves h
    any_keyed (Get now k) answer leaves h = get_keyed now k answer leaves h
    any_keyed (Contains now k) answer leaves h = contains_keyed now k answer leaves h
    any_keyed (Touch now k) answer leaves h = touch_keyed now k answer leaves h
    any_keyed (Remove k) answer leaves h = remove_keyed k answer leaves h
    any_keyed (Clone n) answer leaves h = clone_keyed n answer leaves h
    any_keyed (Drop n) answer leaves h = drop_keyed n answer leaves h
    any_keyed (TakePiece n) answer leaves h = take_piece_keyed n answer leaves h
    any_keyed (InsertPiece now n) answer leaves h =
        piece_none now n answer (insert_piece_keyed now n answer leaves h) (piece_issues now n answer leaves h)
    any_keyed (Refs n) answer leaves h = refs_keyed n answer leaves h
    any_keyed (Outdated n) answer leaves h = outdated_keyed n answer leaves h
    any_keyed (GetOrFetch now k later) answer leaves h = get_or_fetch_keyed now k later answer leaves h
    any_keyed (Complete now k fetch end) answer leaves h = complete_keyed now k fetch end answer leaves h
    any_keyed (Fail k fetch fault) answer leaves h = end_keyed k fetch (Fetch fault) answer leaves h
    any_keyed (Cancel k fetch) answer leaves h = end_keyed k fetch TaskCancelled answer leaves h
    any_keyed (FetchOrTake k fetch outcome) answer leaves h =
        fetch_or_take_keyed k fetch (option_map Fetch outcome) answer leaves h
    any_keyed (IsOpen k fetch) answer leaves h = is_open_keyed k fetch answer leaves h
    any_keyed Clear answer leaves h = clear_keyed answer leaves h
    any_keyed (EvictAll now) answer leaves h = evict_all_keyed now answer leaves h
    any_keyed (FlushIf q) answer leaves h = flush_if_keyed (picks q) answer leaves h
    any_keyed (Resize now capacity) answer leaves h = resize_keyed now capacity answer leaves h
    any_keyed (Reconfigure config) answer leaves h = reconfigure_keyed config answer leaves h
    any_keyed Capacity answer leaves h = number_keyed _ answer leaves h
    any_keyed Usage answer leaves h = number_keyed _ answer leaves h
    any_keyed Entries answer leaves h = number_keyed _ answer leaves h
