-- Handles that were handed out stay, or are given back.
use Rattle.std.proofs.Common.{◌≡◌, ℕ, zero, suc, ◌+◌, ◌<◌, ◌⊎◌, Bool, List, [], ◌∷◌, ◌++◌, length, Option, Some, None, refl, sym, ap, ◌∙◌, subst, arith, inl, inr}
use Rattle.std.specs.Prelude.{option_map, slice_get, slice_set}
use Rattle.std.specs.Option.{option_flatten}
use Rattle.std.proofs.lemmas.Bool.Decides.{eqb_tells}
use Rattle.std.proofs.lemmas.List.{length-append, length-set}
use Rattle.foyer_policy.specs.declared.error.Reason.{Reason}
use Rattle.foyer_policy.specs.declared.error.Reason.TheVariants.{Fetch, NoMemory}
use Rattle.foyer_policy.specs.declared.types.Event.{Event}
use Rattle.foyer_core.specs.Values.{Carried, Gone, Held}
use Rattle.foyer_core.specs.Waited.{Ending}
use Rattle.foyer_core.proofs.CoreLemmas.{set_apart}
use Rattle.foyer_session.specs.declared.command.Answer.{Answer}
use Rattle.foyer_session.specs.declared.command.Answer.TheVariants.{Entry, Found, Missing, Lead, Wait, Answered, Later, Lost, Yes, No, Done, Number, PieceNo, NotHeld, Refused}
use Rattle.foyer_session.specs.declared.command.Command.{Command}
use Rattle.foyer_session.specs.declared.command.Command.TheVariants.{Insert, Get, Contains, Touch, Remove, Clone, Drop, TakePiece, InsertPiece, Refs, Outdated, GetOrFetch, Complete, Fail, Cancel, FetchOrTake, IsOpen, Clear, EvictAll, FlushIf, Resize, Reconfigure, Capacity, Usage, Entries}
use Rattle.foyer_session.specs.declared.command.End.{End}
use Rattle.foyer_session.specs.declared.command.End.TheVariants.{Value, PieceNo as PieceEnd}
use Rattle.foyer_session.specs.Step.{SessionState, Step, InsertStep, GetStep, ContainsStep, TouchStep, RemoveStep, CloneStep, DropStep, TakePieceStep, InsertPieceStep, RefsStep, OutdatedStep, GetOrFetchStep, CompletesPiece, CompleteStep, FetchOrTakeStep, IsOpenStep, TellsEnd, ClearStep, EvictAllStep, FlushIfStep, ResizeStep, ReconfigureStep, NumberStep, held_at}
use Rattle.foyer_session.specs.Terms.{Terms, terms_at}

module _ {K V P : Type 0} where
  -- each handle that there was is what it was, or was given back
  abbrev pub HandlesStay : List (Option (Held K V P)) → List (Option (Held K V P)) → Type 0
  HandlesStay old new = (n : ℕ) → n < length old → (n < length new)
      × ((held_at new n ≡ held_at old n) ⊎ (held_at new n ≡ None))

  pub stay_same : (old new : List (Option (Held K V P))) → new ≡ old → HandlesStay old new
  stay_same old new same n within = (
    subst (λ (l : List (Option (Held K V P))). n < length l) (sym same) within,
    inl (ap (λ (l : List (Option (Held K V P))). held_at l n) same),
  )

  at_front : (old more : List (Option (Held K V P))) (n : ℕ) → n < length old → slice_get (old ++ more) n
      ≡ slice_get old n
  at_front [] more n within = absurd (omega (arith, within))
  at_front (x ∷ old) more zero within = refl
  at_front (x ∷ old) more (suc n) within = at_front old more n (omega (arith, within))

  pub stay_more : (old new more : List (Option (Held K V P))) → new ≡ old ++ more → HandlesStay old new
  stay_more old new more is n within =
      let long : length new ≡ length old + length more = ap length is ∙ length-append old more in (
        omega (arith, within, long),
        inl (ap (λ (l : List (Option (Held K V P))). held_at l n) is ∙ ap option_flatten (at_front old more n within)),
      )

  set_none : (old : List (Option (Held K V P))) (n : ℕ) → held_at (slice_set old n None) n ≡ None
  set_none [] n = refl
  set_none (x ∷ old) zero = refl
  set_none (x ∷ old) (suc n) = set_none old n

  pub stay_given_back : (old new : List (Option (Held K V P))) (i : ℕ) → new ≡ slice_set old i None →
      HandlesStay old new
  stay_given_back old new i is n within =
      let long : length new ≡ length old = ap length is ∙ length-set old i None in
      let at : held_at new n ≡ held_at (slice_set old i None) n =
      ap (λ (l : List (Option (Held K V P))). held_at l n) is in (
        omega (arith, within, long),
        elim (eqb_tells n i) [
          | inl e ↦ inr (at ∙ ap (held_at (slice_set old i None)) e.1 ∙ set_none old i)
          | inr e ↦ inl (at ∙ ap option_flatten (set_apart old i n None e.1))
        ],
      )

module _ {K V P View C S W A : Type 0} (t : Terms K V P View C S W A) (old new : SessionState K V P View S W A) where
  abbrev Stay : Type 0
  Stay = HandlesStay old.handles new.handles

  unchanged : new ≡ old → Stay
  unchanged same = stay_same old.handles new.handles (ap (λ (s : SessionState K V P View S W A). s.handles) same)

  more : (handles : List (Option (Held K V P))) → new.handles ≡ old.handles ++ handles → Stay
  more handles is = stay_more old.handles new.handles handles is

  same : new.handles ≡ old.handles → Stay
  same is = stay_same old.handles new.handles is

  insert_stays : (now : ℕ) (k : K) (v : V) (p : P) (answer : Answer K V P) (leaves : List (Event × Gone K V P)) →
      InsertStep (terms_at now t) old k v p answer leaves new → Stay
  insert_stays now k v p (Entry number told answers) leaves h = more _ h.6.handles
  insert_stays now k v p (Refused reason) leaves h = same h.5.0.0
  insert_stays now k v p _ leaves h = absurd h

  get_stays : (now : ℕ) (k : K) (answer : Answer K V P) (leaves : List (Event × Gone K V P)) → GetStep t now old k answer leaves new
      → Stay
  get_stays now k (Found number told) leaves h = more _ h.2.handles
  get_stays now k Missing leaves h = unchanged h.2
  get_stays now k (Refused reason) leaves h = unchanged h.2
  get_stays now k _ leaves h = absurd h

  contains_stays : (now : ℕ) (k : K) (answer : Answer K V P) (leaves : List (Event × Gone K V P)) →
      ContainsStep t now old k answer leaves new → Stay
  contains_stays now k Yes leaves h = unchanged h.2
  contains_stays now k No leaves h = unchanged h.2
  contains_stays now k _ leaves h = absurd h

  touch_stays : (now : ℕ) (k : K) (answer : Answer K V P) (leaves : List (Event × Gone K V P)) →
      TouchStep t now old k answer leaves new → Stay
  touch_stays now k Yes leaves h = same h.2.0.0
  touch_stays now k No leaves h = unchanged h.2
  touch_stays now k (Refused reason) leaves h = unchanged h.2
  touch_stays now k _ leaves h = absurd h

  remove_stays : (k : K) (answer : Answer K V P) (leaves : List (Event × Gone K V P)) →
      RemoveStep t old k answer leaves new → Stay
  remove_stays k (Found number told) leaves h = more _ h.3.handles
  remove_stays k Missing leaves h = unchanged h.2
  remove_stays k (Refused reason) leaves h = unchanged h.2
  remove_stays k _ leaves h = absurd h

  clone_stays : (n : ℕ) (answer : Answer K V P) (leaves : List (Event × Gone K V P)) →
      CloneStep t old n answer leaves new → Stay
  clone_stays n (Found number told) leaves h = more _ h.4.handles
  clone_stays n (Refused reason) leaves h = unchanged h.4
  clone_stays n NotHeld leaves h = unchanged h.2
  clone_stays n _ leaves h = absurd h

  drop_stays : (n : ℕ) (answer : Answer K V P) (leaves : List (Event × Gone K V P)) →
      DropStep t old n answer leaves new → Stay
  drop_stays n Done leaves h = stay_given_back old.handles new.handles n h.4
  drop_stays n NotHeld leaves h = unchanged h.2
  drop_stays n _ leaves h = absurd h

  take_piece_stays : (n : ℕ) (answer : Answer K V P) (leaves : List (Event × Gone K V P)) →
      TakePieceStep t old n answer leaves new → Stay
  take_piece_stays n (PieceNo number) leaves h = same (ap (λ (s : SessionState K V P View S W A). s.handles) h.4)
  take_piece_stays n (Refused NoMemory) leaves h = unchanged h.3
  take_piece_stays n NotHeld leaves h = unchanged h.2
  take_piece_stays n _ leaves h = absurd h

  insert_piece_stays : (now : ℕ) (n : ℕ) (answer : Answer K V P) (leaves : List (Event × Gone K V P)) →
      InsertPieceStep (terms_at now t) old n answer leaves new → Stay
  insert_piece_stays now n (Entry number told answers) leaves h = more _ h.4.handles
  insert_piece_stays now n (Refused reason) leaves h = elim h.2 [
    | inl x ↦ unchanged x.2
    | inr y ↦ same y.1.0.0
  ]
  insert_piece_stays now n NotHeld leaves h = unchanged h.2
  insert_piece_stays now n _ leaves h = absurd h

  refs_stays : (n : ℕ) (answer : Answer K V P) (leaves : List (Event × Gone K V P)) →
      RefsStep t old n answer leaves new → Stay
  refs_stays n (Number count) leaves h = unchanged h.4
  refs_stays n NotHeld leaves h = unchanged h.2
  refs_stays n _ leaves h = absurd h

  outdated_stays : (n : ℕ) (answer : Answer K V P) (leaves : List (Event × Gone K V P)) →
      OutdatedStep t old n answer leaves new → Stay
  outdated_stays n Yes leaves h = unchanged h.4
  outdated_stays n No leaves h = unchanged h.4
  outdated_stays n NotHeld leaves h = unchanged h.2
  outdated_stays n _ leaves h = absurd h

  get_or_fetch_stays : (now : ℕ) (k : K) (later : Option ℕ) (answer : Answer K V P) (leaves : List (Event × Gone K V P))
      → GetOrFetchStep t now old k later answer leaves new → Stay
  get_or_fetch_stays now k later (Found number told) leaves h = more _ h.2.handles
  get_or_fetch_stays now k later (Lead fetch token) leaves h = same h.2.0
  get_or_fetch_stays now k later (Wait token) leaves h = same h.1.0
  get_or_fetch_stays now k later (Refused reason) leaves h = unchanged h.2
  get_or_fetch_stays now k later _ leaves h = absurd h

  end_stays : (ended : Ending K V P (Unit {0})) (answer : Answer K V P) (leaves : List (Event × Gone K V P)) →
      TellsEnd old ended answer leaves new → Stay
  end_stays ended (Answered answers told) leaves h = more _ h.4
  end_stays ended Lost leaves h = same h.2.0
  end_stays ended _ leaves h = absurd h

  complete_piece_stays : (now : ℕ) (k : K) (fetch : ℕ) (piece : Option (Carried K V P)) (answer : Answer K V P)
      (leaves : List (Event × Gone K V P))
      → CompletesPiece (terms_at now t) old k fetch piece answer leaves new → Stay
  complete_piece_stays now k fetch None NotHeld leaves h = unchanged h.1
  complete_piece_stays now k fetch None _ leaves h = absurd h
  complete_piece_stays now k fetch (Some piece) (Refused NoMemory) leaves h = unchanged h.1
  complete_piece_stays now k fetch (Some piece) answer leaves h = end_stays h.0 answer leaves h.2

  complete_stays : (now : ℕ) (k : K) (fetch : ℕ) (end : End V P) (answer : Answer K V P) (leaves : List (Event × Gone K V P))
      → CompleteStep (terms_at now t) old k fetch end answer leaves new → Stay
  complete_stays now k fetch (Value v p source) answer leaves h = end_stays h.0 answer leaves h.2
  complete_stays now k fetch (PieceEnd n) answer leaves h =
      complete_piece_stays now k fetch (slice_get old.pieces n) answer leaves h

  fetch_or_take_stays : (k : K) (fetch : ℕ) (outcome : Option Reason) (answer : Answer K V P)
      (leaves : List (Event × Gone K V P))
      → FetchOrTakeStep t old k fetch outcome answer leaves new → Stay
  fetch_or_take_stays k fetch outcome (Later label) leaves h =
      same (ap (λ (s : SessionState K V P View S W A). s.handles) h.2)
  fetch_or_take_stays k fetch outcome (Answered answers told) leaves h =
      same (ap (λ (s : SessionState K V P View S W A). s.handles) h.3)
  fetch_or_take_stays k fetch outcome Lost leaves h = unchanged h.2
  fetch_or_take_stays k fetch outcome _ leaves h = absurd h

  is_open_stays : (k : K) (fetch : ℕ) (answer : Answer K V P) (leaves : List (Event × Gone K V P)) →
      IsOpenStep t old k fetch answer leaves new → Stay
  is_open_stays k fetch Yes leaves h = unchanged h.2
  is_open_stays k fetch No leaves h = unchanged h.2
  is_open_stays k fetch _ leaves h = absurd h

  clear_stays : (answer : Answer K V P) (leaves : List (Event × Gone K V P)) → ClearStep t old answer leaves new → Stay
  clear_stays Done leaves h = same h.1.0.0
  clear_stays (Refused NoMemory) leaves h = unchanged h.1
  clear_stays _ leaves h = absurd h

  evict_all_stays : (now : ℕ) (answer : Answer K V P) (leaves : List (Event × Gone K V P)) →
      EvictAllStep (terms_at now t) old answer leaves new → Stay
  evict_all_stays now Done leaves h = same h.1.0.0
  evict_all_stays now (Refused NoMemory) leaves h = same h.1.0.0
  evict_all_stays now _ leaves h = absurd h

  flush_if_stays : (says : K → V → Bool → Type 0) (answer : Answer K V P) (leaves : List (Event × Gone K V P)) →
      FlushIfStep t old says answer leaves new → Stay
  flush_if_stays says Done leaves h = same h.1.0.0
  flush_if_stays says (Refused NoMemory) leaves h = unchanged h.1
  flush_if_stays says _ leaves h = absurd h

  resize_stays : (now : ℕ) (capacity : ℕ) (answer : Answer K V P) (leaves : List (Event × Gone K V P)) →
      ResizeStep t now old capacity answer leaves new → Stay
  resize_stays now capacity Done leaves h = same h.1.0.0
  resize_stays now capacity (Refused NoMemory) leaves h = same h.1.0.0
  resize_stays now capacity _ leaves h = absurd h

  reconfigure_stays : (config : C) (answer : Answer K V P) (leaves : List (Event × Gone K V P)) →
      ReconfigureStep t old config answer leaves new → Stay
  reconfigure_stays config Done leaves h = same h.3.0.0
  reconfigure_stays config (Refused reason) leaves h = unchanged h.2
  reconfigure_stays config _ leaves h = absurd h

  number_stays : (count : ℕ) (answer : Answer K V P) (leaves : List (Event × Gone K V P)) →
      NumberStep count old answer leaves new → Stay
  number_stays count (Number n) leaves h = unchanged h.2
  number_stays count _ leaves h = absurd h

  pub step_stays : {Q : Type 0} (picks : Q → K → V → Bool → Type 0) (command : Command K V P Q C)
      (answer : Answer K V P) (leaves : List (Event × Gone K V P)) → Step t picks old command answer leaves new → Stay
  step_stays picks (Insert now k v p) answer leaves h = insert_stays now k v p answer leaves h
  step_stays picks (Get now k) answer leaves h = get_stays now k answer leaves h
  step_stays picks (Contains now k) answer leaves h = contains_stays now k answer leaves h
  step_stays picks (Touch now k) answer leaves h = touch_stays now k answer leaves h
  step_stays picks (Remove k) answer leaves h = remove_stays k answer leaves h
  step_stays picks (Clone n) answer leaves h = clone_stays n answer leaves h
  step_stays picks (Drop n) answer leaves h = drop_stays n answer leaves h
  step_stays picks (TakePiece n) answer leaves h = take_piece_stays n answer leaves h
  step_stays picks (InsertPiece now n) answer leaves h = insert_piece_stays now n answer leaves h
  step_stays picks (Refs n) answer leaves h = refs_stays n answer leaves h
  step_stays picks (Outdated n) answer leaves h = outdated_stays n answer leaves h
  step_stays picks (GetOrFetch now k later) answer leaves h = get_or_fetch_stays now k later answer leaves h
  step_stays picks (Complete now k fetch end) answer leaves h = complete_stays now k fetch end answer leaves h
  step_stays picks (Fail k fetch fault) answer leaves h = end_stays h.0 answer leaves h.3
  step_stays picks (Cancel k fetch) answer leaves h = end_stays h.0 answer leaves h.3
  step_stays picks (FetchOrTake k fetch outcome) answer leaves h =
      fetch_or_take_stays k fetch (option_map Fetch outcome) answer leaves h
  step_stays picks (IsOpen k fetch) answer leaves h = is_open_stays k fetch answer leaves h
  step_stays picks Clear answer leaves h = clear_stays answer leaves h
  step_stays picks (EvictAll now) answer leaves h = evict_all_stays now answer leaves h
  step_stays picks (FlushIf q) answer leaves h = flush_if_stays (picks q) answer leaves h
  step_stays picks (Resize now capacity) answer leaves h = resize_stays now capacity answer leaves h
  step_stays picks (Reconfigure config) answer leaves h = reconfigure_stays config answer leaves h
  step_stays picks Capacity answer leaves h = number_stays _ answer leaves h
  step_stays picks Usage answer leaves h = number_stays _ answer leaves h
  step_stays picks Entries answer leaves h = number_stays _ answer leaves h
