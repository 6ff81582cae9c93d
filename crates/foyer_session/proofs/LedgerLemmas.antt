-- The tokens of commands and their replies are settled.
use Rattle.std.proofs.Common.{◌≡◌, ℕ, suc, Bool, true, List, [], ◌∷◌, ◌++◌, length, map, Some, refl, sym, ap, ◌∙◌, subst, append-nil, append_assoc, arith, inl, inr}
use Rattle.std.specs.Prelude.{option_map, slice_get}
use Rattle.std.specs.Cmp.{IsEquivalence}
use Rattle.std.proofs.lemmas.List.{map-append}
use Rattle.foyer_policy.specs.declared.error.Reason.TheVariants.{Fetch, TaskCancelled}
use Rattle.foyer_policy.specs.declared.types.Event.{Event}
use Rattle.foyer_core.specs.Indexer.{same_key}
use Rattle.foyer_core.specs.Inflight.{AreOpen, Opens}
use Rattle.foyer_core.specs.Values.{Gone}
use Rattle.foyer_session.specs.declared.command.Answer.{Answer}
use Rattle.foyer_session.specs.declared.command.Answer.TheVariants.{Entry, NotHeld, Refused}
use Rattle.foyer_session.specs.declared.command.Command.{Command}
use Rattle.foyer_session.specs.declared.command.Command.TheVariants.{Insert, Get, Contains, Touch, Remove, Clone, Drop, TakePiece, InsertPiece, Refs, Outdated, GetOrFetch, Complete, Fail, Cancel, FetchOrTake, IsOpen, Clear, EvictAll, FlushIf, Resize, Reconfigure, Capacity, Usage, Entries}
use Rattle.foyer_session.specs.declared.command.Reply.{Reply}
use Rattle.foyer_session.specs.Ledger.{IsSettled, Settles, handed, handed_by, issued, issued_by, issued_for, issues, key_by, of_key, shard_of_key}
use Rattle.foyer_session.specs.Run.{Run}
use Rattle.foyer_session.specs.Step.{SessionState, InsertPieceStep, Step, hash_in}
use Rattle.foyer_session.specs.Terms.{Terms, terms_at}
use Rattle.foyer_session.proofs.LedgerCores.{shard_built}
use Rattle.foyer_session.proofs.LedgerKeyed.{any_keyed}
use Rattle.foyer_session.proofs.LedgerKeys.{Keyed, keyed_more, same_keyed}
use Rattle.foyer_session.proofs.LedgerFetches.{settles_more}
use Rattle.foyer_session.proofs.LedgerQuiet.{clear_settled, clone_settled, contains_settled, drop_settled, evict_all_settled, flush_if_settled, get_settled, is_open_settled, number_settled, outdated_settled, reconfigure_settled, refs_settled, remove_settled, resize_settled, take_piece_settled, touch_settled}
use Rattle.foyer_session.proofs.LedgerSteps.{AnswerSettles, ComesHome, complete_settled, end_settled, fetch_or_take_settled, get_or_fetch_settled, insert_piece_settled, insert_settled, quiet, unchanged}

module _ {K V P View C S W A : Type 0} (t : Terms K V P View C S W A) (laws : IsEquivalence t.meaning.same)
    (old new : SessionState K V P View S W A)
    (sound : (i : ℕ) (f : Opens K (Unit {0}) ℕ) → slice_get old.fetches i ≡ Some f → AreOpen t.meaning.same f)
    (alike : (i : ℕ) (f : Opens K (Unit {0}) ℕ) → slice_get old.fetches i ≡ Some f → (p q : ℕ × K) →
    same_key t.meaning.same p q ≡ true → f.by_key p ≡ f.by_key q)
    (long : length old.fetches ≡ length old.core.shards) where
  abbrev Settled : ℕ → Answer K V P → Type 0
  Settled shard answer = AnswerSettles t laws old new sound alike long shard answer

  -- no command settles what there is
  pub settled_none : {Q : Type 0} → new ≡ old → IsSettled {Q = Q} t old [] [] new
  settled_none same =
      let so = unchanged t laws old new sound alike long same in
      record {
        settles = so.0;
        keyed = same_keyed t.meaning.same old.fetches new.fetches
            (ap (λ (s : SessionState K V P View S W A). s.fetches) same);
        builder = so.1.0;
        shards = so.1.1;
      }

  module _ {Q : Type 0} (picks : Q → K → V → Bool → Type 0) (home : ComesHome t old new) where
    abbrev by : Command K V P Q C → Answer K V P → ℕ
    by command answer = shard_of_key (length old.core.shards) (key_by (hash_in t old) command answer)

    piece_step : (now : ℕ) (n : ℕ) (answer : Answer K V P) (leaves : List (Event × Gone K V P)) →
        InsertPieceStep (terms_at now t) old n answer leaves new
        → Settled (by (InsertPiece now n) answer) answer
    piece_step now n (Entry number told answers) leaves h =
        insert_piece_settled t laws old new sound alike long home now n number told answers leaves h
    piece_step now n (Refused reason) leaves h = elim h.2 [
      | inl same ↦ unchanged t laws old new sound alike long same.2
      | inr y ↦ quiet t laws old new sound alike long y.1.1
          (shard_built old.core new.core _ (hash_in t old h.0.kept.key) y.0)
    ]
    piece_step now n NotHeld leaves h = unchanged t laws old new sound alike long h.2
    piece_step now n _ leaves h = absurd h

    any_step : (command : Command K V P Q C) (answer : Answer K V P) (leaves : List (Event × Gone K V P)) →
        Step t picks old command answer leaves new
        → Settled (by command answer) answer
    any_step (Insert now k v p) answer leaves h =
        insert_settled (terms_at now t) laws old new sound alike long k v p answer leaves h
    any_step (Get now k) answer leaves h = get_settled t laws old new sound alike long now _ k answer leaves h
    any_step (Contains now k) answer leaves h =
        contains_settled t laws old new sound alike long now _ k answer leaves h
    any_step (Touch now k) answer leaves h = touch_settled t laws old new sound alike long now _ k answer leaves h
    any_step (Remove k) answer leaves h = remove_settled t laws old new sound alike long _ k answer leaves h
    any_step (Clone n) answer leaves h = clone_settled t laws old new sound alike long _ n answer leaves h
    any_step (Drop n) answer leaves h = drop_settled t laws old new sound alike long _ n answer leaves h
    any_step (TakePiece n) answer leaves h = take_piece_settled t laws old new sound alike long _ n answer leaves h
    any_step (InsertPiece now n) answer leaves h = piece_step now n answer leaves h
    any_step (Refs n) answer leaves h = refs_settled t laws old new sound alike long _ n answer leaves h
    any_step (Outdated n) answer leaves h = outdated_settled t laws old new sound alike long _ n answer leaves h
    any_step (GetOrFetch now k later) answer leaves h =
        get_or_fetch_settled t laws old new sound alike long now k later answer leaves h
    any_step (Complete now k fetch end) answer leaves h =
        complete_settled (terms_at now t) laws old new sound alike long k fetch end answer leaves h
    any_step (Fail k fetch fault) answer leaves h =
        end_settled t laws old new sound alike long k fetch (Fetch fault) answer leaves h
    any_step (Cancel k fetch) answer leaves h =
        end_settled t laws old new sound alike long k fetch TaskCancelled answer leaves h
    any_step (FetchOrTake k fetch outcome) answer leaves h =
        fetch_or_take_settled t laws old new sound alike long k fetch (option_map Fetch outcome) answer leaves h
    any_step (IsOpen k fetch) answer leaves h =
        is_open_settled t laws old new sound alike long _ k fetch answer leaves h
    any_step Clear answer leaves h = clear_settled t laws old new sound alike long _ answer leaves h
    any_step (EvictAll now) answer leaves h =
        evict_all_settled (terms_at now t) laws old new sound alike long _ answer leaves h
    any_step (FlushIf q) answer leaves h = flush_if_settled t laws old new sound alike long _ (picks q) answer leaves h
    any_step (Resize now capacity) answer leaves h =
        resize_settled t laws old new sound alike long now _ capacity answer leaves h
    any_step (Reconfigure config) answer leaves h =
        reconfigure_settled t laws old new sound alike long _ config answer leaves h
    any_step Capacity answer leaves h = number_settled t laws old new sound alike long _ _ answer leaves h
    any_step Usage answer leaves h = number_settled t laws old new sound alike long _ _ answer leaves h
    any_step Entries answer leaves h = number_settled t laws old new sound alike long _ _ answer leaves h

    -- a step's tokens are settled
    pub step_settled : (command : Command K V P Q C) (reply : Reply K V P) →
        Step t picks old command reply.answer reply.leaves new
        → IsSettled t old (command ∷ []) (reply ∷ []) new
    step_settled command reply h =
        let so = any_step command reply.answer reply.leaves h in
        let shards = length old.core.shards in
        let hash = hash_in t old in
        record {
          settles = subst
              (λ (l : List (ℕ × ℕ)). Settles old.fetches new.fetches l
              (handed hash shards (command ∷ []) (reply ∷ [])))
              (sym (append-nil (issued_by hash shards command reply.answer)))
              (subst (λ (l : List (ℕ × ℕ)). Settles old.fetches new.fetches
              (issued_by hash shards command reply.answer) l)
              (sym (append-nil (handed_by hash shards command reply.answer))) so.0);
          keyed = subst (λ (l : List ((ℕ × K) × ℕ)). Keyed t.meaning.same old.fetches new.fetches l)
              (sym (append-nil (of_key (key_by hash command reply.answer) (issues reply.answer))))
              (any_keyed t old new alike picks command reply.answer reply.leaves h);
          builder = so.1.0;
          shards = so.1.1;
        }

module _ {K V P Q C : Type 0} (hash : K → ℕ) (shards : ℕ) where
  -- the tokens of commands after others
  issued_more : (cs ds : List (Command K V P Q C)) (rs ss : List (Reply K V P)) → length cs ≡ length rs
      → issued hash shards (cs ++ ds) (rs ++ ss) ≡ issued hash shards cs rs ++ issued hash shards ds ss
  issued_more [] ds [] ss long = refl
  issued_more [] ds (r ∷ rs) ss long = absurd (omega (arith, long))
  issued_more (c ∷ cs) ds [] ss long = absurd (omega (arith, long))
  issued_more (c ∷ cs) ds (r ∷ rs) ss long =
      ap (λ (l : List (ℕ × ℕ)). issued_by hash shards c r.answer ++ l) (issued_more cs ds rs ss (omega (arith, long)))
      ∙ sym (append_assoc (issued_by hash shards c r.answer) (issued hash shards cs rs) (issued hash shards ds ss))

  handed_more : (cs ds : List (Command K V P Q C)) (rs ss : List (Reply K V P)) → length cs ≡ length rs
      → handed hash shards (cs ++ ds) (rs ++ ss) ≡ handed hash shards cs rs ++ handed hash shards ds ss
  handed_more [] ds [] ss long = refl
  handed_more [] ds (r ∷ rs) ss long = absurd (omega (arith, long))
  handed_more (c ∷ cs) ds [] ss long = absurd (omega (arith, long))
  handed_more (c ∷ cs) ds (r ∷ rs) ss long =
      ap (λ (l : List (ℕ × ℕ)). handed_by hash shards c r.answer ++ l) (handed_more cs ds rs ss (omega (arith, long)))
      ∙ sym (append_assoc (handed_by hash shards c r.answer) (handed hash shards cs rs) (handed hash shards ds ss))

module _ {K V P Q C : Type 0} (hash : K → ℕ) where
  pub issued_for_more : (cs ds : List (Command K V P Q C)) (rs ss : List (Reply K V P)) → length cs ≡ length rs
      → issued_for hash (cs ++ ds) (rs ++ ss) ≡ issued_for hash cs rs ++ issued_for hash ds ss
  issued_for_more [] ds [] ss long = refl
  issued_for_more [] ds (r ∷ rs) ss long = absurd (omega (arith, long))
  issued_for_more (c ∷ cs) ds [] ss long = absurd (omega (arith, long))
  issued_for_more (c ∷ cs) ds (r ∷ rs) ss long =
      ap (λ (l : List ((ℕ × K) × ℕ)). of_key (key_by hash c r.answer) (issues r.answer) ++ l)
      (issued_for_more cs ds rs ss (omega (arith, long)))
      ∙ sym (append_assoc (of_key (key_by hash c r.answer) (issues r.answer)) (issued_for hash cs rs)
      (issued_for hash ds ss))

module _ {K V P View C S W A Q : Type 0} (t : Terms K V P View C S W A) where
  -- what is settled goes on
  pub settled_append : (old mid new : SessionState K V P View S W A) (cs ds : List (Command K V P Q C))
      (rs ss : List (Reply K V P)) → length cs ≡ length rs
      → IsSettled t old cs rs mid → IsSettled t mid ds ss new → IsSettled t old (cs ++ ds) (rs ++ ss) new
  settled_append old mid new cs ds rs ss long first second =
      record {
        settles = all;
        keyed = keyed;
        builder = second.builder ∙ first.builder;
        shards = second.shards
            ∙ first.shards;
      } where
        keyed : Keyed t.meaning.same old.fetches new.fetches (issued_for (hash_in t old) (cs ++ ds) (rs ++ ss))
        keyed =
            subst (λ (l : List ((ℕ × K) × ℕ)). Keyed t.meaning.same old.fetches new.fetches l)
            (sym (issued_for_more (hash_in t old) cs ds rs ss long))
            (keyed_more t.meaning.same old.fetches mid.fetches new.fetches (issued_for (hash_in t old) cs rs)
            (issued_for (hash_in t old) ds ss) first.keyed
            (subst (λ (b : S). Keyed t.meaning.same mid.fetches new.fetches (issued_for (t.hash b) ds ss)) first.builder
            second.keyed))

        then : Settles mid.fetches new.fetches (issued (hash_in t old) (length old.core.shards) ds ss)
            (handed (hash_in t old) (length old.core.shards) ds ss)
        then =
            subst (λ (m : ℕ). Settles mid.fetches new.fetches (issued (hash_in t old) m ds ss)
            (handed (hash_in t old) m ds ss)) first.shards
            (subst (λ (b : S). Settles mid.fetches new.fetches (issued (t.hash b) (length mid.core.shards) ds ss)
            (handed (t.hash b) (length mid.core.shards) ds ss)) first.builder second.settles)

        both : Settles old.fetches new.fetches
            (issued (hash_in t old) (length old.core.shards) cs rs
            ++ issued (hash_in t old) (length old.core.shards) ds ss)
            (handed (hash_in t old) (length old.core.shards) cs rs
            ++ handed (hash_in t old) (length old.core.shards) ds ss)
        both =
            settles_more old.fetches mid.fetches new.fetches (issued (hash_in t old) (length old.core.shards) cs rs)
            (handed (hash_in t old) (length old.core.shards) cs rs)
            (issued (hash_in t old) (length old.core.shards) ds ss)
            (handed (hash_in t old) (length old.core.shards) ds ss) first.settles then

        all : Settles old.fetches new.fetches (issued (hash_in t old) (length old.core.shards) (cs ++ ds) (rs ++ ss))
            (handed (hash_in t old) (length old.core.shards) (cs ++ ds) (rs ++ ss))
        all =
            subst (λ (l : List (ℕ × ℕ)). Settles old.fetches new.fetches l
            (handed (hash_in t old) (length old.core.shards) (cs ++ ds) (rs ++ ss)))
            (sym (issued_more (hash_in t old) (length old.core.shards) cs ds rs ss long))
            (subst (λ (l : List (ℕ × ℕ)). Settles old.fetches new.fetches
            (issued (hash_in t old) (length old.core.shards) cs rs
            ++ issued (hash_in t old) (length old.core.shards) ds ss) l)
            (sym (handed_more (hash_in t old) (length old.core.shards) cs ds rs ss long)) both)

  module _ (picks : Q → K → V → Bool → Type 0) where
    -- a run has a reply for each command
    pub run_long : (old : SessionState K V P View S W A) (cs : List (Command K V P Q C)) (rs : List (Reply K V P))
        (new : SessionState K V P View S W A)
        → Run t picks old cs rs new → length cs ≡ length rs
    run_long old [] [] new h = refl
    run_long old (c ∷ cs) (r ∷ rs) new h = ap suc (run_long h.0 cs rs new h.2)
    run_long old [] (r ∷ rs) new h = absurd h
    run_long old (c ∷ cs) [] new h = absurd h

    -- a run that is settled goes on by one step, over what holds the commands
    pub settled_more : {X : Type 0} (f : X → Command K V P Q C) (old mid new : SessionState K V P View S W A)
        (xs : List X) (rs : List (Reply K V P)) (x : X) (r : Reply K V P) → Run t picks old (map f xs) rs mid
        → IsSettled t old (map f xs) rs mid → IsSettled t mid (f x ∷ []) (r ∷ []) new →
        IsSettled t old (map f (xs ++ x ∷ [])) (rs ++ r ∷ []) new
    settled_more f old mid new xs rs x r run first second =
        subst (λ (cs : List (Command K V P Q C)). IsSettled t old cs (rs ++ r ∷ []) new)
        (sym (map-append f xs (x ∷ [])))
        (settled_append old mid new (map f xs) (f x ∷ []) rs (r ∷ []) (run_long old (map f xs) rs mid run) first second)
