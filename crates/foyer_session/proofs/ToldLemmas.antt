-- What a step's reply tells of the index.
use Rattle.std.proofs.Common.{◌≡◌, ℕ, length, List, [], ◌∷◌, ◌++◌, Option, Some, None, Ok, Err, inl, inr, true, false, refl, sym, ◌∙◌, ap, subst}
use Rattle.std.specs.Prelude.{Bool, Result, ◌+◌, ◌<◌, if◌then◌else◌, option_map, slice_get}
use Rattle.std.specs.Option.{option_to_list}
use Rattle.std.specs.Cmp.{IsEquivalence}
use Rattle.foyer_policy.specs.Policy.{IsPolicy}
use Rattle.foyer_policy.specs.Properties.{is_phantom}
use Rattle.foyer_policy.specs.declared.error.Reason.{Reason}
use Rattle.foyer_policy.specs.declared.error.Reason.TheVariants.{Fetch, NoMemory, TaskCancelled}
use Rattle.foyer_policy.specs.declared.types.Event.{Event}
use Rattle.foyer_policy.specs.declared.types.Source.{Source}
use Rattle.foyer_policy.specs.declared.types.Source.TheVariants.{Memory, Outer}
use Rattle.foyer_core.specs.Core.{Core, AtShard}
use Rattle.foyer_core.specs.CoreBulk.{OfShards, InTurn, InTurnUntil, EvictsToCapacity, EvictingToCapacity}
use Rattle.foyer_core.specs.Observed.{IsTold as CoreTold, after_entry, after_leaves, known}
use Rattle.foyer_core.specs.State.{State, at_moment}
use Rattle.foyer_core.specs.CoreFetches.{open_in}
use Rattle.foyer_core.specs.FetchLaws.{IsToldByEnd}
use Rattle.foyer_core.specs.Inflight.{OpenFetch}
use Rattle.foyer_core.specs.Pieces.{coming_under}
use Rattle.foyer_core.specs.Values.{Carried, Gone, Held}
use Rattle.foyer_core.specs.Waited.{Ending}
use Rattle.foyer_core.specs.declared.outcome.FetchTarget.{FetchTarget}
use Rattle.foyer_core.specs.declared.outcome.FetchTarget.TheVariants.{Entry as ValueTarget, Piece as PieceTarget}
use Rattle.foyer_core.proofs.CallsTold.{cleared_core, clone_told, get_told, give_back_told, insert_told, nothing_told, picked_core, refused_told, remove_told, resized_core, resized_until_core, touch_told, unpinned_core, unpinned_until_core}
use Rattle.foyer_core.proofs.CoreTold.{AreSound, configured_told}
use Rattle.foyer_core.proofs.Observing.{leaves_congr}
use Rattle.foyer_core.proofs.PieceCalls.{piece_laws}
use Rattle.foyer_session.specs.declared.command.Answer.{Answer}
use Rattle.foyer_session.specs.declared.command.Answer.TheVariants.{Entry, Found, Missing, Lead, Wait, Answered, Later, Lost, Yes, No, Done, Number, PieceNo, NotHeld, Refused}
use Rattle.foyer_session.specs.declared.command.Command.{Command}
use Rattle.foyer_session.specs.declared.command.Command.TheVariants.{Insert, Get, Contains, Touch, Remove, Clone, Drop, TakePiece, InsertPiece, Refs, Outdated, GetOrFetch, Complete, Fail, Cancel, FetchOrTake, IsOpen, Clear, EvictAll, FlushIf, Resize, Reconfigure, Capacity, Usage, Entries}
use Rattle.foyer_session.specs.declared.command.Reply.{Reply}
use Rattle.foyer_session.specs.Observed.{IsTold, after_answer, index_of, told}
use Rattle.foyer_session.specs.Step.{SessionState, Step, InsertStep, GetStep, ContainsStep, TouchStep, RemoveStep, CloneStep, DropStep, TakePieceStep, InsertPieceStep, RefsStep, OutdatedStep, GetOrFetchStep, CompletesWith, CompletesPiece, CompleteStep, EndStep, FetchOrTakeStep, IsOpenStep, TellsEnd, ClearStep, EvictAllStep, FlushIfStep, ResizeStep, ReconfigureStep, NumberStep, data_of, entries_by, first_told, hash_in, hashed, leaves_of, open_at, record_of, waiting_at}
use Rattle.foyer_session.specs.declared.command.End.{End}
use Rattle.foyer_session.specs.declared.command.End.TheVariants.{Value, PieceNo as PieceEnd}
use Rattle.foyer_session.specs.Terms.{Terms, terms_at}
use Rattle.foyer_session.proofs.EndTells.{asked_some}
use Rattle.foyer_session.proofs.EndTold.{completed_told, ends_told}
use Rattle.foyer_session.proofs.LookLemmas.{led_core, looked_hit, waited_core}
use Rattle.foyer_policy.specs.Moments.{timed}
use Rattle.foyer_core.proofs.Moments.{timed_lawful}
use Rattle.foyer_core.proofs.MomentLaws.{resized_at}
use Rattle.foyer_session.proofs.AtMoments.{moment_sound}

-- maps that agree do so after replies
module _ {K V P : Type 0} (same : K → K → Bool) (phantom : P → Option Bool) where
  entry_congr : (f g : K → Option ℕ) → ((k : K) → f k ≡ g k) → (gone : Gone K V P) (k : K) →
      after_entry same phantom f gone.id gone.kept k ≡ after_entry same phantom g gone.id gone.kept k
  entry_congr f g h gone k = go (is_phantom (phantom gone.kept.properties)) refl where
    go : (b : Bool) → is_phantom (phantom gone.kept.properties) ≡ b → after_entry same phantom f gone.id gone.kept k
        ≡ after_entry same phantom g gone.id gone.kept k
    go true is = rw is (h k)
    go false is = rw is (ap (λ (o : Option ℕ). if same gone.kept.key k then Some gone.id else o) (h k))

  answer_congr : (f g : K → Option ℕ) → ((k : K) → f k ≡ g k) →
      (answer : Answer K V P) (leaves : List (Event × Gone K V P)) (k : K) →
      after_answer same phantom f answer leaves k ≡ after_answer same phantom g answer leaves k
  answer_congr f g h (Entry number came answers) leaves k =
      entry_congr (after_leaves same f leaves) (after_leaves same g leaves) (leaves_congr same f g h leaves) came k
  answer_congr f g h (Answered answers (Some came)) leaves k =
      entry_congr (after_leaves same f leaves) (after_leaves same g leaves) (leaves_congr same f g h leaves) came k
  answer_congr f g h _ leaves k = leaves_congr same f g h leaves k

  told_congr : (f g : K → Option ℕ) → ((k : K) → f k ≡ g k) → (replies : List (Reply K V P)) (k : K) →
      told same phantom f replies k ≡ told same phantom g replies k
  told_congr f g h [] k = h k
  told_congr f g h (r ∷ rs) k = told_congr (after_answer same phantom f r.answer r.leaves)
      (after_answer same phantom g r.answer r.leaves) (answer_congr f g h r.answer r.leaves) rs k

  told_append : (f : K → Option ℕ) (rs more : List (Reply K V P)) (k : K) → told same phantom f (rs ++ more) k
      ≡ told same phantom (told same phantom f rs) more k
  told_append f [] more k = refl
  told_append f (r ∷ rs) more k = told_append (after_answer same phantom f r.answer r.leaves) rs more k

module _ {K V P View C S W A : Type 0} (t : Terms K V P View C S W A) where
  -- no reply tells nothing
  pub told_none : (old new : SessionState K V P View S W A) → new ≡ old → IsTold t old [] new
  told_none old new same k = ap (λ (s : SessionState K V P View S W A). index_of t s k) same

  -- replies that were told go on by one
  pub told_more : (old mid new : SessionState K V P View S W A) (rs : List (Reply K V P)) (r : Reply K V P) →
      IsTold t old rs mid → IsTold t mid (r ∷ []) new → IsTold t old (rs ++ r ∷ []) new
  told_more old mid new rs r first second k =
      second k
      ∙ told_congr t.meaning.same t.meaning.phantom (index_of t mid)
      (told t.meaning.same t.meaning.phantom (index_of t old) rs) first (r ∷ []) k
      ∙ sym (told_append t.meaning.same t.meaning.phantom (index_of t old) rs (r ∷ []) k)

  module _ (laws : IsEquivalence t.meaning.same) (good : IsPolicy t.meaning.policy)
      (old new : SessionState K V P View S W A)
      (equal : (a b : K) → t.meaning.same a b ≡ true → hash_in t old a ≡ hash_in t old b)
      (sound : AreSound t.meaning laws good (hash_in t old) equal (length old.core.shards) old.core.shards)
      (waited : (q : ℕ × K) (o : OpenFetch (Unit {0}) ℕ) → open_in old.fetches q ≡ Some o → 0 < length o.tokens) where
    abbrev same : K → K → Bool
    same = t.meaning.same

    abbrev hash : K → ℕ
    hash = hash_in t old

    -- the hash builder stays, and the index is told
    abbrev pub StepTold : Answer K V P → List (Event × Gone K V P) → Type 0
    StepTold answer leaves = (new.core.hash_builder ≡ old.core.hash_builder)
        × ((k : K) → known hash new.core k ≡ after_answer same t.meaning.phantom (known hash old.core) answer leaves k)

    -- what only leaves
    abbrev Leaves : List (Event × Gone K V P) → Type 0
    Leaves leaves = (new.core.hash_builder ≡ old.core.hash_builder) × CoreTold same hash old.core leaves new.core

    at_builder : (step : State K V P View → State K V P View → Type 0) (h : ℕ) → AtShard step h old.core new.core →
        new.core.hash_builder ≡ old.core.hash_builder
    at_builder step h at = ap (λ (c : Core K V P View S W A). c.hash_builder) at.rest

    all_builder : (steps : List (State K V P View) → List (Event × Gone K V P) → List (State K V P View) → Type 0)
        (leaves : List (Event × Gone K V P)) → OfShards steps old.core leaves new.core
        → new.core.hash_builder ≡ old.core.hash_builder
    all_builder steps leaves h = ap (λ (c : Core K V P View S W A). c.hash_builder) h.rest

    -- nothing leaves, and the core stays
    same_core : (leaves : List (Event × Gone K V P)) → leaves ≡ [] → new.core ≡ old.core → Leaves leaves
    same_core leaves none is =
        subst Leaves (sym none) (
          ap (λ (c : Core K V P View S W A). c.hash_builder) is,
          nothing_told t.meaning laws good hash equal old.core new.core sound is,
        )

    unchanged : (leaves : List (Event × Gone K V P)) → leaves ≡ [] → new ≡ old → Leaves leaves
    unchanged leaves none is = same_core leaves none (ap (λ (s : SessionState K V P View S W A). s.core) is)

    -- one shard, and nothing leaves
    silent : (leaves : List (Event × Gone K V P)) → leaves ≡ [] → new.core.hash_builder ≡ old.core.hash_builder →
        CoreTold same hash old.core [] new.core → Leaves leaves
    silent leaves none builder h = subst Leaves (sym none) (builder, h)

    -- at each moment
    abbrev at_lawful : (now : ℕ) → IsPolicy (timed now t.meaning.policy)
    at_lawful now = timed_lawful now t.meaning.policy good

    sound_at : (now : ℕ) → AreSound (at_moment now t.meaning) laws (at_lawful now) (hash_in t old) equal
        (length old.core.shards) old.core.shards
    sound_at now = moment_sound t.meaning laws good (hash_in t old) equal now (length old.core.shards) old.core.shards
        sound

    insert_step : (now : ℕ) (k : K) (v : V) (p : P) (answer : Answer K V P) (leaves : List (Event × Gone K V P)) →
        InsertStep (terms_at now t) old k v p answer leaves new → StepTold answer leaves
    insert_step now k v p (Entry number told answers) leaves h =
        let d = data_of t old k v p h.0 h.1 in
        let entry = h.2 in (
          at_builder _ (hash k) h.5,
          λ q. insert_told (at_moment now t.meaning) laws (at_lawful now) hash equal old.core new.core (sound_at now) d refl leaves
              (1 + length (waiting_at t old (hashed t old k))) Outer entry h.5 q
              ∙ ap (λ (g : Gone K V P). after_entry same t.meaning.phantom
              (after_leaves same (known hash old.core) leaves) g.id g.kept q) (sym h.6.tells),
        )
    insert_step now k v p (Refused reason) leaves h = (
      at_builder _ (hash k) h.4,
      refused_told (at_moment now t.meaning) laws (at_lawful now) hash equal old.core new.core (sound_at now)
          (data_of t old k v p h.0 h.1) refl leaves (1 + length (waiting_at t old (hashed t old k))) reason h.4,
    )
    insert_step now k v p _ leaves h = absurd h

    get_step : (now : ℕ) (k : K) (answer : Answer K V P) (leaves : List (Event × Gone K V P)) →
        GetStep t now old k answer leaves new → StepTold answer leaves
    get_step now k (Found number told) leaves h =
        silent leaves h.3 (at_builder _ (hash k) h.1)
        (get_told t.meaning laws good hash equal old.core new.core sound (hash k, k) (hash k) now (Ok (Some h.0)) h.1)
    get_step now k Missing leaves h = unchanged leaves h.1 h.2
    get_step now k (Refused reason) leaves h = unchanged leaves h.1 h.2
    get_step now k _ leaves h = absurd h

    contains_step : (now : ℕ) (k : K) (answer : Answer K V P) (leaves : List (Event × Gone K V P)) →
        ContainsStep t now old k answer leaves new → StepTold answer leaves
    contains_step now k Yes leaves h = unchanged leaves h.1 h.2
    contains_step now k No leaves h = unchanged leaves h.1 h.2
    contains_step now k _ leaves h = absurd h

    touch_step : (now : ℕ) (k : K) (answer : Answer K V P) (leaves : List (Event × Gone K V P)) →
        TouchStep t now old k answer leaves new → StepTold answer leaves
    touch_step now k Yes leaves h = silent leaves h.1 (at_builder _ (hash k) h.0)
        (touch_told t.meaning laws good hash equal old.core new.core sound (hash k, k) (hash k) now (Ok true) h.0)
    touch_step now k No leaves h = unchanged leaves h.1 h.2
    touch_step now k (Refused reason) leaves h = unchanged leaves h.1 h.2
    touch_step now k _ leaves h = absurd h

    remove_step : (k : K) (answer : Answer K V P) (leaves : List (Event × Gone K V P)) →
        RemoveStep t old k answer leaves new → StepTold answer leaves
    remove_step k (Found number told) leaves h =
        subst Leaves (sym h.4) (
          at_builder _ (hash k) h.2,
          remove_told t.meaning laws good hash equal old.core new.core sound (hash k, k)
              (hash k) (Ok (Some (h.0, h.1))) h.2,
        )
    remove_step k Missing leaves h = unchanged leaves h.1 h.2
    remove_step k (Refused reason) leaves h = unchanged leaves h.1 h.2
    remove_step k _ leaves h = absurd h

    clone_step : (n : ℕ) (answer : Answer K V P) (leaves : List (Event × Gone K V P)) →
        CloneStep t old n answer leaves new → StepTold answer leaves
    clone_step n (Found number told) leaves h =
        silent leaves h.5 (at_builder _ h.0.kept.hash h.3)
        (clone_told t.meaning laws good hash equal old.core new.core sound h.0 h.0.kept.hash (Ok h.1) h.3)
    clone_step n (Refused reason) leaves h = unchanged leaves h.3 h.4
    clone_step n NotHeld leaves h = unchanged leaves h.1 h.2
    clone_step n _ leaves h = absurd h

    leaves_listed : (leave : Option (Event × Gone K V P)) → leaves_of leave ≡ option_to_list leave
    leaves_listed None = refl
    leaves_listed (Some l) = refl

    drop_step : (n : ℕ) (answer : Answer K V P) (leaves : List (Event × Gone K V P)) →
        DropStep t old n answer leaves new → StepTold answer leaves
    drop_step n Done leaves h =
        subst Leaves (sym (h.7 ∙ leaves_listed h.1)) (
          at_builder _ h.0.kept.hash h.3,
          give_back_told t.meaning laws good hash equal old.core new.core sound
              h.0.id h.0.kept.hash h.1 h.3,
        )
    drop_step n NotHeld leaves h = unchanged leaves h.1 h.2
    drop_step n _ leaves h = absurd h

    take_piece_step : (n : ℕ) (answer : Answer K V P) (leaves : List (Event × Gone K V P)) →
        TakePieceStep t old n answer leaves new → StepTold answer leaves
    take_piece_step n (PieceNo number) leaves h =
        same_core leaves h.3 (ap (λ (s : SessionState K V P View S W A). s.core) h.4)
    take_piece_step n (Refused NoMemory) leaves h = unchanged leaves h.2 h.3
    take_piece_step n NotHeld leaves h = unchanged leaves h.1 h.2
    take_piece_step n _ leaves h = absurd h

    -- a piece's record comes in, or is refused
    insert_piece_step : (now : ℕ) (n : ℕ) (answer : Answer K V P) (leaves : List (Event × Gone K V P)) →
        InsertPieceStep (terms_at now t) old n answer leaves new → StepTold answer leaves
    insert_piece_step now n (Entry number told answers) leaves h =
        let piece = h.0 in
        let weighs = t.weighs old.core.weighter piece.kept.key piece.kept.value in (
          at_builder _ (hash piece.kept.key) h.3,
          λ q. (piece_laws (at_moment now t.meaning) laws (at_lawful now) t.hash old.core new.core equal (sound_at now) weighs piece
              (λ s. 1 + length (waiting_at t old (coming_under s (hash piece.kept.key) piece)))
              (Ok record { entry = h.1; leaves = leaves }) h.3).told q
              ∙ ap (λ (g : Gone K V P). after_entry same t.meaning.phantom
              (after_leaves same (known hash old.core) leaves) g.id g.kept q) (sym h.4.tells),
        )
    insert_piece_step now n (Refused reason) leaves h = elim h.2 [
      | inl same ↦ unchanged leaves same.1 same.2
      | inr y ↦ (let weighs = t.weighs old.core.weighter h.0.kept.key h.0.kept.value in (
        at_builder _ (hash h.0.kept.key) y.0,
        (piece_laws (at_moment now t.meaning) laws (at_lawful now) t.hash old.core new.core equal (sound_at now)
            weighs h.0 (λ s. 1 + length (waiting_at t old (coming_under s (hash h.0.kept.key) h.0)))
            (Err record { reason = reason; leaves = leaves }) y.0).told,
      ))
    ]
    insert_piece_step now n NotHeld leaves h = unchanged leaves h.1 h.2
    insert_piece_step now n _ leaves h = absurd h

    -- a look-up that may lead to a fetch
    get_or_fetch_step : (now : ℕ) (k : K) (later : Option ℕ) (answer : Answer K V P) (leaves : List (Event × Gone K V P)) →
        GetOrFetchStep t now old k later answer leaves new → StepTold answer leaves
    get_or_fetch_step now k later (Found number told) leaves h =
        let at = (looked_hit t.meaning now old.core old.fetches new.core new.fetches (hashed t old k) later h.0 h.1).0 in
        silent leaves h.3 (at_builder _ (hash k) at)
        (get_told t.meaning laws good hash equal old.core new.core sound (hash k, k) (hash k) now (Ok (Some h.0)) at)
    get_or_fetch_step now k later (Lead fetch token) leaves h =
        same_core leaves h.3
        (led_core t.meaning now old.core old.fetches new.core new.fetches (hashed t old k) later fetch token h.0 h.1)
    get_or_fetch_step now k later (Wait token) leaves h =
        same_core leaves h.2
        (waited_core t.meaning now old.core old.fetches new.core new.fetches (hashed t old k) later token h.0)
    get_or_fetch_step now k later (Refused reason) leaves h = unchanged leaves h.1 h.2
    get_or_fetch_step now k later _ leaves h = absurd h

    -- the end of a fetch tells its leaves, and the record of the entries that it gave
    told_end : (ended : Ending K V P (Unit {0})) (answer : Answer K V P) (leaves : List (Event × Gone K V P)) →
        new.core.hash_builder ≡ old.core.hash_builder
        → IsToldByEnd same hash t.meaning.phantom old.core ended.leaves ended.outcome new.core →
        TellsEnd old ended answer leaves new → StepTold answer leaves
    told_end ended (Answered answers told) leaves builder by h = (builder, λ q. go ended.outcome refl q)
      where
        is_told : (o : Option (Gone K V P)) → told ≡ o → (q : K) → known hash new.core q
            ≡ after_answer same t.meaning.phantom (known hash old.core) (Answered answers o) ended.leaves q
            → known hash new.core q ≡ after_answer same t.meaning.phantom (known hash old.core)
            (Answered answers told) leaves q
        is_told o is q e = rw (is, h.1) e

        go : (outcome : Result (Option (List (Held K V P))) Reason) → ended.outcome ≡ outcome → (q : K) →
            known hash new.core q ≡ after_answer same t.meaning.phantom (known hash old.core) (Answered answers told)
            leaves q
        go (Ok (Some (entry ∷ more))) is q =
            is_told (Some (record_of entry))
            (h.3 ∙ ap (λ (o : Result (Option (List (Held K V P))) Reason). first_told (entries_by o)) is) q
            ((subst (λ (o : Result (Option (List (Held K V P))) Reason). IsToldByEnd same hash t.meaning.phantom
            old.core ended.leaves o new.core) is by) q)
        go (Ok (Some [])) is q =
            is_told None (h.3 ∙ ap (λ (o : Result (Option (List (Held K V P))) Reason). first_told (entries_by o)) is) q
            ((subst (λ (o : Result (Option (List (Held K V P))) Reason). IsToldByEnd same hash t.meaning.phantom
            old.core ended.leaves o new.core) is by) q)
        go (Ok None) is q =
            is_told None (h.3 ∙ ap (λ (o : Result (Option (List (Held K V P))) Reason). first_told (entries_by o)) is) q
            ((subst (λ (o : Result (Option (List (Held K V P))) Reason). IsToldByEnd same hash t.meaning.phantom
            old.core ended.leaves o new.core) is by) q)
        go (Err reason) is q =
            is_told None (h.3 ∙ ap (λ (o : Result (Option (List (Held K V P))) Reason). first_told (entries_by o)) is) q
            ((subst (λ (o : Result (Option (List (Held K V P))) Reason). IsToldByEnd same hash t.meaning.phantom
            old.core ended.leaves o new.core) is by) q)
    told_end ended Lost leaves builder by h = (
      builder,
      subst (λ (ls : List (Event × Gone K V P)). (q : K) → known hash new.core q
          ≡ after_answer same t.meaning.phantom (known hash old.core) Lost ls q) (sym h.1)
          (subst (λ (x : Ending K V P (Unit {0})). IsToldByEnd same hash t.meaning.phantom old.core x.leaves x.outcome
          new.core) h.0 by),
    )
    told_end ended _ leaves builder by h = absurd h

    -- with a target
    complete_with_step : (now : ℕ) (k : K) (fetch : ℕ) (source : Source) (target : FetchTarget K V P) (answer : Answer K V P)
        (leaves : List (Event × Gone K V P)) → CompletesWith (terms_at now t) old k fetch source target answer leaves new →
        StepTold answer leaves
    complete_with_step now k fetch source target answer leaves h =
        let told = completed_told (at_moment now t.meaning) laws (at_lawful now) t.hash old.core new.core equal (sound_at now) old.fetches new.fetches
        source k h.0
        (t.weighs old.core.weighter) (t.admits old.core.filter) (λ p admitted. t.incoming admitted p) target
        (open_at t old k fetch)
        (λ o is. waited (hashed t old k) o (asked_some fetch (open_in old.fetches (hashed t old k)) o is)) h.1 in
        told_end h.0 answer leaves told.0 told.1 h.2

    complete_piece_step : (now : ℕ) (k : K) (fetch : ℕ) (piece : Option (Carried K V P)) (answer : Answer K V P)
        (leaves : List (Event × Gone K V P)) → CompletesPiece (terms_at now t) old k fetch piece answer leaves new →
        StepTold answer leaves
    complete_piece_step now k fetch None NotHeld leaves h = unchanged leaves h.0 h.1
    complete_piece_step now k fetch None _ leaves h = absurd h
    complete_piece_step now k fetch (Some piece) (Refused NoMemory) leaves h = unchanged leaves h.0 h.1
    complete_piece_step now k fetch (Some piece) answer leaves h =
        complete_with_step now k fetch Memory (PieceTarget piece) answer leaves h

    complete_step : (now : ℕ) (k : K) (fetch : ℕ) (end : End V P) (answer : Answer K V P) (leaves : List (Event × Gone K V P)) →
        CompleteStep (terms_at now t) old k fetch end answer leaves new → StepTold answer leaves
    complete_step now k fetch (Value v p source) answer leaves h =
        complete_with_step now k fetch source (ValueTarget v p) answer leaves h
    complete_step now k fetch (PieceEnd n) answer leaves h =
        complete_piece_step now k fetch (slice_get old.pieces n) answer leaves h

    -- with a refusal
    end_step : (k : K) (fetch : ℕ) (reason : Reason) (answer : Answer K V P) (leaves : List (Event × Gone K V P)) →
        EndStep t old k fetch reason answer leaves new → StepTold answer leaves
    end_step k fetch reason answer leaves h =
        told_end h.0 answer leaves (ap (λ (c : Core K V P View S W A). c.hash_builder) h.2)
        (ends_told t.meaning laws good hash equal old.core new.core sound (hashed t old k) (open_at t old k fetch)
        reason old.fetches new.fetches h.0 h.1 h.2) h.3

    fetch_or_take_step : (k : K) (fetch : ℕ) (outcome : Option Reason) (answer : Answer K V P)
        (leaves : List (Event × Gone K V P)) → FetchOrTakeStep t old k fetch outcome answer leaves new →
        StepTold answer leaves
    fetch_or_take_step k fetch outcome (Later label) leaves h =
        same_core leaves h.1 (ap (λ (s : SessionState K V P View S W A). s.core) h.2)
    fetch_or_take_step k fetch outcome (Answered answers told) leaves h =
        let so = same_core leaves h.2 (ap (λ (s : SessionState K V P View S W A). s.core) h.3) in (
          so.0,
          subst
              (λ (o : Option (Gone K V P)). (q : K) → known hash new.core q
              ≡ after_answer same t.meaning.phantom (known hash old.core) (Answered answers o) leaves q) (sym h.1)
              so.1,
        )
    fetch_or_take_step k fetch outcome Lost leaves h = unchanged leaves h.1 h.2
    fetch_or_take_step k fetch outcome _ leaves h = absurd h

    is_open_step : (k : K) (fetch : ℕ) (answer : Answer K V P) (leaves : List (Event × Gone K V P)) →
        IsOpenStep t old k fetch answer leaves new → StepTold answer leaves
    is_open_step k fetch Yes leaves h = unchanged leaves h.1 h.2
    is_open_step k fetch No leaves h = unchanged leaves h.1 h.2
    is_open_step k fetch _ leaves h = absurd h

    refs_step : (n : ℕ) (answer : Answer K V P) (leaves : List (Event × Gone K V P)) →
        RefsStep t old n answer leaves new → StepTold answer leaves
    refs_step n (Number count) leaves h = unchanged leaves h.3 h.4
    refs_step n NotHeld leaves h = unchanged leaves h.1 h.2
    refs_step n _ leaves h = absurd h

    outdated_step : (n : ℕ) (answer : Answer K V P) (leaves : List (Event × Gone K V P)) →
        OutdatedStep t old n answer leaves new → StepTold answer leaves
    outdated_step n Yes leaves h = unchanged leaves h.3 h.4
    outdated_step n No leaves h = unchanged leaves h.3 h.4
    outdated_step n NotHeld leaves h = unchanged leaves h.1 h.2
    outdated_step n _ leaves h = absurd h

    clear_step : (answer : Answer K V P) (leaves : List (Event × Gone K V P)) → ClearStep t old answer leaves new →
        StepTold answer leaves
    clear_step Done leaves h = (
      all_builder _ leaves h.0,
      cleared_core t.meaning laws good hash equal old.core new.core sound leaves
          h.0.stepped,
    )
    clear_step (Refused NoMemory) leaves h = unchanged leaves h.0 h.1
    clear_step _ leaves h = absurd h

    evict_all_step : (now : ℕ) (answer : Answer K V P) (leaves : List (Event × Gone K V P)) →
        EvictAllStep (terms_at now t) old answer leaves new → StepTold answer leaves
    evict_all_step now Done leaves h = (
      all_builder _ leaves h.0,
      unpinned_core (at_moment now t.meaning) laws (at_lawful now) hash equal old.core new.core (sound_at now) leaves
          h.0.stepped,
    )
    evict_all_step now (Refused NoMemory) leaves h = (
      all_builder _ leaves h.0,
      unpinned_until_core (at_moment now t.meaning) laws (at_lawful now) hash equal old.core new.core (sound_at now) leaves
          h.0.stepped,
    )
    evict_all_step now _ leaves h = absurd h

    flush_if_step : (says : K → V → Bool → Type 0) (answer : Answer K V P) (leaves : List (Event × Gone K V P)) →
        FlushIfStep t old says answer leaves new → StepTold answer leaves
    flush_if_step says Done leaves h = (
      all_builder _ leaves h.0,
      picked_core t.meaning laws good hash equal old.core new.core sound leaves says
          h.0.stepped,
    )
    flush_if_step says (Refused NoMemory) leaves h = unchanged leaves h.0 h.1
    flush_if_step says _ leaves h = absurd h

    resize_step : (now : ℕ) (capacity : ℕ) (answer : Answer K V P) (leaves : List (Event × Gone K V P)) →
        ResizeStep t now old capacity answer leaves new → StepTold answer leaves
    resize_step now capacity Done leaves h = (
      ap (λ (c : Core K V P View S W A). c.hash_builder) h.0.evicted.rest,
      resized_core (at_moment now t.meaning) laws (at_lawful now) hash equal old.core new.core (sound_at now) capacity leaves
          (resized_at t.meaning now capacity (InTurn (EvictsToCapacity (at_moment now t.meaning))) old.core leaves
          new.core h.0.shared h.0.shares h.0.evicted),
    )
    resize_step now capacity (Refused NoMemory) leaves h = (
      ap (λ (c : Core K V P View S W A). c.hash_builder) h.0.evicted.rest,
      resized_until_core (at_moment now t.meaning) laws (at_lawful now) hash equal old.core new.core (sound_at now) capacity
          leaves (resized_at t.meaning now capacity (InTurnUntil (EvictsToCapacity (at_moment now t.meaning))
          (EvictingToCapacity (at_moment now t.meaning))) old.core leaves new.core h.0.shared h.0.shares h.0.evicted),
    )
    resize_step now capacity _ leaves h = absurd h

    reconfigure_step : (config : C) (answer : Answer K V P) (leaves : List (Event × Gone K V P)) →
        ReconfigureStep t old config answer leaves new → StepTold answer leaves
    reconfigure_step config Done leaves h =
        silent leaves h.2 (ap (λ (c : Core K V P View S W A). c.hash_builder) h.1.rest)
        (configured_told t.meaning laws good hash equal config old.core new.core h.1)
    reconfigure_step config (Refused reason) leaves h = unchanged leaves h.1 h.2
    reconfigure_step config _ leaves h = absurd h

    number_step : (count : ℕ) (answer : Answer K V P) (leaves : List (Event × Gone K V P)) →
        NumberStep count old answer leaves new → StepTold answer leaves
    number_step count (Number n) leaves h = unchanged leaves h.1 h.2
    number_step count _ leaves h = absurd h

    any_step : {Q : Type 0} (picks : Q → K → V → Bool → Type 0) (command : Command K V P Q C) (answer : Answer K V P)
        (leaves : List (Event × Gone K V P)) → Step t picks old command answer leaves new → StepTold answer leaves
    any_step picks (Insert now k v p) answer leaves h = insert_step now k v p answer leaves h
    any_step picks (Get now k) answer leaves h = get_step now k answer leaves h
    any_step picks (Contains now k) answer leaves h = contains_step now k answer leaves h
    any_step picks (Touch now k) answer leaves h = touch_step now k answer leaves h
    any_step picks (Remove k) answer leaves h = remove_step k answer leaves h
    any_step picks (Clone n) answer leaves h = clone_step n answer leaves h
    any_step picks (Drop n) answer leaves h = drop_step n answer leaves h
    any_step picks (TakePiece n) answer leaves h = take_piece_step n answer leaves h
    any_step picks (InsertPiece now n) answer leaves h = insert_piece_step now n answer leaves h
    any_step picks (Refs n) answer leaves h = refs_step n answer leaves h
    any_step picks (Outdated n) answer leaves h = outdated_step n answer leaves h
    any_step picks (GetOrFetch now k later) answer leaves h = get_or_fetch_step now k later answer leaves h
    any_step picks (Complete now k fetch end) answer leaves h = complete_step now k fetch end answer leaves h
    any_step picks (Fail k fetch fault) answer leaves h = end_step k fetch (Fetch fault) answer leaves h
    any_step picks (Cancel k fetch) answer leaves h = end_step k fetch TaskCancelled answer leaves h
    any_step picks (FetchOrTake k fetch outcome) answer leaves h =
        fetch_or_take_step k fetch (option_map Fetch outcome) answer leaves h
    any_step picks (IsOpen k fetch) answer leaves h = is_open_step k fetch answer leaves h
    any_step picks Clear answer leaves h = clear_step answer leaves h
    any_step picks (EvictAll now) answer leaves h = evict_all_step now answer leaves h
    any_step picks (FlushIf q) answer leaves h = flush_if_step (picks q) answer leaves h
    any_step picks (Resize now capacity) answer leaves h = resize_step now capacity answer leaves h
    any_step picks (Reconfigure config) answer leaves h = reconfigure_step config answer leaves h
    any_step picks Capacity answer leaves h = number_step _ answer leaves h
    any_step picks Usage answer leaves h = number_step _ answer leaves h
    any_step picks Entries answer leaves h = number_step _ answer leaves h

    -- a step's reply tells the index
    pub step_told : {Q : Type 0} (picks : Q → K → V → Bool → Type 0) (command : Command K V P Q C)
        (reply : Reply K V P) → Step t picks old command reply.answer reply.leaves new → IsTold t old (reply ∷ []) new
    step_told picks command reply h k =
        let s = any_step picks command reply.answer reply.leaves h in
        ap (λ (b : S). known (t.hash b) new.core k) s.0 ∙ s.1 k
