-- What a step answers the tokens that it hands out.
use Rattle.std.proofs.Common.{◌≡◌, ℕ, zero, suc, ◌+◌, ◌<◌, ◌≤◌, ◌||◌, Bool, true, false, nat_eq, List, [], ◌∷◌, ◌++◌, length, map, replicate, Option, Some, None, Result, Ok, Err, refl, sym, ap, ◌∙◌, subst, arith}
use Rattle.std.specs.Prelude.{IsSomeAnd, slice_get}
use Rattle.std.specs.Option.{option_flatten}
use Rattle.std.specs.Cmp.{IsEquivalence}
use Rattle.std.specs.List.{AllByRecursion}
use Rattle.std.proofs.lemmas.Bool.Decides.{nat_tests}
use Rattle.std.proofs.lemmas.List.{length-map}
use Rattle.foyer_policy.specs.declared.error.Reason.{Reason}
use Rattle.foyer_policy.specs.declared.types.Event.{Event}
use Rattle.foyer_policy.specs.declared.types.Source.TheVariants.{Outer}
use Rattle.foyer_core.specs.declared.outcome.Waiting.{Waiting}
use Rattle.foyer_core.specs.Chains.{has}
use Rattle.foyer_core.specs.CoreFetches.{open_in}
use Rattle.foyer_core.specs.Inflight.{OpenFetch, tokens_of, waiters_of}
use Rattle.foyer_core.specs.State.{is_phantom_record, key_of, at_moment}
use Rattle.foyer_core.specs.Steps.{newcomer}
use Rattle.foyer_core.specs.Values.{Gone, Held}
use Rattle.foyer_core.specs.Waited.{Ending}
use Rattle.foyer_session.specs.declared.command.Answer.{Answer}
use Rattle.foyer_session.specs.declared.command.Answer.TheVariants.{Entry, NotHeld, Refused}
use Rattle.foyer_session.specs.declared.command.Command.{Command}
use Rattle.foyer_session.specs.declared.command.Command.TheVariants.{Insert, InsertPiece}
use Rattle.foyer_session.specs.Ledger.{IsAnswered, IsHandleOf, MayGet, MayRefuse, WaitsFor}
use Rattle.foyer_session.specs.Step.{SessionState, InsertStep, InsertPieceStep, data_of, entries_by, first_told, given, hashed, open_at, record_of, waiting_at}
use Rattle.foyer_session.specs.Terms.{Terms, terms_at}
use Rattle.foyer_session.specs.Tokens.{each_gets, got_of, handles_from, numbers_of}
use Rattle.foyer_session.proofs.CountLemmas.{inserts_entry}
use Rattle.foyer_session.proofs.EndTells.{asked_some}
use Rattle.foyer_session.proofs.HandLemmas.{given_all}
use Rattle.foyer_session.proofs.LedgerArrivals.{AllAre}

has_first : (t : ℕ) (ts : List ℕ) → has t (t ∷ ts) ≡ true
has_first t ts = (let e : nat_eq t t ≡ true = grind (arith, nat_tests) in ap (λ (b : Bool). b || has t ts) e)

has_more : (t s : ℕ) (ts : List ℕ) → has s ts ≡ true → has s (t ∷ ts) ≡ true
has_more t s ts h = go (nat_eq s t) where
  go : (b : Bool) → (b || has s ts) ≡ true
  go true = refl
  go false = h

-- what holds of handles in their order
handles_all : (G : ℕ × Result (Option ℕ) Reason → Type 0) (first : ℕ) (tokens : List ℕ)
    → ((token number : ℕ) → has token tokens ≡ true → first ≤ number → number < first + length tokens →
    G (token, Ok (Some number))) → AllByRecursion G (handles_from first tokens)
handles_all G first [] h = tt
handles_all G first (token ∷ tokens) h = (
  h token first (has_first token tokens) (omega arith) (omega arith),
  handles_all G (suc first) tokens
      (λ t n there from to. h t n (has_more token t tokens there) (omega (arith, from)) (omega (arith, to))),
)

-- and of those who all get the same
same_all : (G : ℕ × Result (Option ℕ) Reason → Type 0) (got : Result (Option ℕ) Reason) (tokens : List ℕ)
    → ((token : ℕ) → has token tokens ≡ true → G (token, got)) → AllByRecursion G (each_gets got tokens)
same_all G got [] h = tt
same_all G got (token ∷ tokens) h =
    (h token (has_first token tokens), same_all G got tokens (λ t there. h t (has_more token t tokens there)))

module _ {K V P : Type 0} where
  copy_at : (n : ℕ) (x : Option (Held K V P)) (i : ℕ) → i < n → slice_get (replicate n x) i ≡ Some x
  copy_at zero x i h = absurd (omega (arith, h))
  copy_at (suc n) x zero h = refl
  copy_at (suc n) x (suc i) h = copy_at n x i (omega (arith, h))

  -- a handle that was handed out
  handed_at : (handles : List (Option (Held K V P))) (n : ℕ) (x : Option (Held K V P)) (i : ℕ) → length handles ≤ i →
      i < length handles + n
      → slice_get (handles ++ replicate n x) i ≡ Some x
  handed_at [] n x i from to = copy_at n x i (omega (arith, to))
  handed_at (y ∷ handles) n x zero from to = absurd (omega (arith, from))
  handed_at (y ∷ handles) n x (suc i) from to = handed_at handles n x i (omega (arith, from)) (omega (arith, to))

  -- it is one of its record
  is_handle : (handles : List (Option (Held K V P))) (entry : Held K V P) (told : Gone K V P) (i : ℕ) →
      slice_get handles i ≡ Some (given entry)
      → told ≡ record_of entry → IsHandleOf handles told i
  is_handle handles entry told i there is =
      subst (λ (o : Option (Option (Held K V P))). IsSomeAnd (option_flatten o) (λ e. record_of e ≡ told)) (sym there)
      (sym is)

got_none : {K V P : Type 0} (next : ℕ) (outcome : Result (Option (List (Held K V P))) Reason) → got_of next outcome []
    ≡ []
got_none next (Ok (Some entries)) = refl
got_none next (Ok None) = refl
got_none next (Err reason) = refl

none_waits : (ws : List (Waiting (Unit {0}))) → length ws ≡ zero → numbers_of ws ≡ []
none_waits [] h = refl
none_waits (w ∷ ws) h = absurd (omega (arith, h))

-- who waited for a fetch waited for its key
waits_in : {N R : Type 0} (p : Option (OpenFetch N R)) (token : ℕ) → has token (numbers_of (waiters_of p)) ≡ true
    → IsSomeAnd p (λ opened. has token (tokens_of opened) ≡ true)
waits_in None token h = absurd cc
waits_in (Some o) token h = h

module _ {K V P View C S W A : Type 0} (Q : Type 0) (t : Terms K V P View C S W A)
    (laws : IsEquivalence t.meaning.same) (old new : SessionState K V P View S W A) where
  -- one who waited for a key is answered
  abbrev pub OneIs : Command K V P Q C → Option (Gone K V P) → ℕ × K → ℕ × Result (Option ℕ) Reason → Type 0
  OneIs command came key got = WaitsFor old.fetches key got.0
      × MayGet t.meaning.same (IsHandleOf new.handles) command came key.1 got.1

  -- all who waited get handles of the record that came in
  pub all_handed : (command : Command K V P Q C) (key : ℕ × K) (entry : Held K V P) (told : Gone K V P) (n : ℕ)
      (answers : List (ℕ × Result (Option ℕ) Reason)) → told ≡ record_of entry → t.meaning.same key.1 entry.kept.key
      ≡ true
      → new.handles ≡ old.handles ++ replicate n (given entry) → length (waiters_of (open_in old.fetches key)) ≤ n
      → answers ≡ handles_from (length old.handles) (numbers_of (waiters_of (open_in old.fetches key))) →
      AllByRecursion (OneIs command (Some told) key) answers
  all_handed command key entry told n answers is same handed few answered =
      subst (AllByRecursion (OneIs command (Some told) key)) (sym answered)
      (handles_all (OneIs command (Some told) key) (length old.handles) tokens one) where
        tokens : List ℕ
        tokens = numbers_of (waiters_of (open_in old.fetches key))

        long : length tokens ≡ length (waiters_of (open_in old.fetches key))
        long = length-map (waiters_of (open_in old.fetches key)) (λ (w : Waiting (Unit {0})). w.token)

        one : (token number : ℕ) → has token tokens ≡ true → length old.handles ≤ number →
            number < length old.handles + length tokens
            → OneIs command (Some told) key (token, Ok (Some number))
        one token number there from to = (
          waits_in (open_in old.fetches key) token there,
          (
            ap (λ (g : Gone K V P). t.meaning.same key.1 g.kept.key) is ∙ same,
            is_handle new.handles entry told number
                (ap (λ (l : List (Option (Held K V P))). slice_get l number) handed
                ∙ handed_at old.handles n (given entry) number from (omega (arith, to, few, long))) is,
          ),
        )

  -- all who waited get the same
  pub all_told : (command : Command K V P Q C) (came : Option (Gone K V P)) (key : ℕ × K)
      (got : Result (Option ℕ) Reason) (answers : List (ℕ × Result (Option ℕ) Reason))
      → MayGet t.meaning.same (IsHandleOf new.handles) command came key.1 got → answers
      ≡ each_gets got (numbers_of (waiters_of (open_in old.fetches key))) →
      AllByRecursion (OneIs command came key) answers
  all_told command came key got answers may answered =
      subst (AllByRecursion (OneIs command came key)) (sym answered)
      (same_all (OneIs command came key) got (numbers_of (waiters_of (open_in old.fetches key)))
      (λ token there. (waits_in (open_in old.fetches key) token there, may)))

  pub insert_answered : (now : ℕ) (k : K) (v : V) (p : P) (answer : Answer K V P) (leaves : List (Event × Gone K V P)) →
      InsertStep (terms_at now t) old k v p answer leaves new
      → IsAnswered {Q = Q} t old (Insert now k v p) answer new
  insert_answered now k v p (Entry number told answers) leaves h =
      let n = length (waiting_at t old (hashed t old k)) in
      let d = data_of t old k v p h.0 h.1 in
      let at = h.5 in
      let key : h.2.kept.key ≡ k = ap (λ (x : Held K V P). x.kept.key)
      (inserts_entry (at_moment now t.meaning) Outer at.before (newcomer at.before d (1 + n)) leaves h.2 at.after
      (is_phantom_record t.meaning d) at.stepped) in
      all_handed (Insert now k v p) (hashed t old k) h.2 told (1 + n) answers h.6.tells
      (ap (t.meaning.same k) key ∙ laws.refl k) h.6.handles (omega arith) h.6.answered
  insert_answered now k v p (Refused reason) leaves h = tt
  insert_answered now k v p _ leaves h = absurd h

  pub insert_piece_answered : (now : ℕ) (n : ℕ) (answer : Answer K V P) (leaves : List (Event × Gone K V P)) →
      InsertPieceStep (terms_at now t) old n answer leaves new
      → IsAnswered {Q = Q} t old (InsertPiece now n) answer new
  insert_piece_answered now n (Entry number told answers) leaves h =
      let entry = h.1 in
      let many = length (waiting_at t old (key_of entry.kept)) in
      let all = all_handed (InsertPiece now n) (key_of entry.kept) entry told (1 + many) answers h.4.tells
      (laws.refl entry.kept.key) h.4.handles (omega arith) h.4.answered in
      subst (λ (g : Gone K V P). AllByRecursion (OneIs (InsertPiece now n) (Some told) (key_of g.kept)) answers)
      (sym h.4.tells) all
  insert_piece_answered now n (Refused reason) leaves h = tt
  insert_piece_answered now n NotHeld leaves h = tt
  insert_piece_answered now n _ leaves h = absurd h

  -- the end of a fetch that is told so
  told_all : (command : Command K V P Q C) (k : K) (answers : List (ℕ × Result (Option ℕ) Reason))
      (told : Option (Gone K V P)) (outcome : Result (Option (List (Held K V P))) Reason)
      → AllAre (λ x. t.meaning.same k x ≡ true) (MayRefuse command) (length (waiting_at t old (hashed t old k))) outcome
      → answers ≡ got_of (length old.handles) outcome (numbers_of (waiting_at t old (hashed t old k))) → told
      ≡ first_told (entries_by outcome) → new.handles ≡ old.handles ++ map given (entries_by outcome)
      → AllByRecursion (OneIs command told (hashed t old k)) answers
  told_all command k answers told (Ok (Some entries)) all answered first handles =
      by_count (length (waiting_at t old (hashed t old k))) refl
    where
      alike : (n : ℕ) → entries ≡ replicate n all.0 → map given entries ≡ replicate n (given all.0)
      alike n is = ap (map given) is ∙ given_all n all.0

      by_count : (n : ℕ) → length (waiting_at t old (hashed t old k)) ≡ n →
          AllByRecursion (OneIs command told (hashed t old k)) answers
      by_count zero none =
          let nobody : numbers_of (waiting_at t old (hashed t old k)) ≡ [] =
          none_waits (waiting_at t old (hashed t old k)) none in
          subst (AllByRecursion (OneIs command told (hashed t old k)))
          (sym (answered ∙ ap (handles_from (length old.handles)) nobody)) tt
      by_count (suc n) is =
          let copies : entries ≡ replicate (suc n) all.0 = all.1 ∙ ap (λ (m : ℕ). replicate m all.0) is in
          let one : told ≡ Some (record_of all.0) = first ∙ ap first_told copies in
          subst (λ (o : Option (Gone K V P)). AllByRecursion (OneIs command o (hashed t old k)) answers) (sym one)
          (all_handed command (hashed t old k) all.0 (record_of all.0) (suc n) answers refl all.2
          (handles ∙ ap (λ (l : List (Option (Held K V P))). old.handles ++ l) (alike (suc n) copies))
          (omega (arith, is)) answered)
  told_all command k answers told (Ok None) all answered first handles = absurd all
  told_all command k answers told (Err reason) all answered first handles =
      all_told command told (hashed t old k) (Err reason) answers all answered

  -- nobody waits where nothing is open
  pub open_all : (command : Command K V P Q C) (k : K) (fetch : ℕ) (ended : Ending K V P (Unit {0}))
      (answers : List (ℕ × Result (Option ℕ) Reason)) (told : Option (Gone K V P)) (p : Option (OpenFetch (Unit {0}) ℕ))
      → open_at t old k fetch ≡ p → ended.waiters ≡ waiters_of p
      → ((o : OpenFetch (Unit {0}) ℕ) → p ≡ Some o →
      AllAre (λ x. t.meaning.same k x ≡ true) (MayRefuse command) (length o.tokens) ended.outcome)
      → answers ≡ got_of (length old.handles) ended.outcome (numbers_of ended.waiters) → told
      ≡ first_told (entries_by ended.outcome) → new.handles ≡ old.handles ++ map given (entries_by ended.outcome)
      → AllByRecursion (OneIs command told (hashed t old k)) answers
  open_all command k fetch ended answers told None is waited all answered first handles =
      subst (AllByRecursion (OneIs command told (hashed t old k)))
      (sym (answered ∙
      ap (λ (ws : List (Waiting (Unit {0}))). got_of (length old.handles) ended.outcome (numbers_of ws))
      waited ∙ got_none (length old.handles) ended.outcome)) tt
  open_all command k fetch ended answers told (Some o) is waited all answered first handles =
      let is_open : open_in old.fetches (hashed t old k) ≡ Some o =
      asked_some fetch (open_in old.fetches (hashed t old k)) o is in
      let these : waiting_at t old (hashed t old k) ≡ o.tokens = ap waiters_of is_open in
      told_all command k answers told ended.outcome
      (subst (λ (ws : List (Waiting (Unit {0}))). AllAre (λ x. t.meaning.same k x ≡ true) (MayRefuse command)
      (length ws) ended.outcome) (sym these) (all o refl))
      (answered ∙ ap (λ (ws : List (Waiting (Unit {0}))). got_of (length old.handles) ended.outcome (numbers_of ws))
      (waited ∙ sym these)) first handles
