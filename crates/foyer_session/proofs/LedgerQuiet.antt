-- What a step settles whose command issues no token and hands none out.
use Rattle.std.proofs.Common.{◌≡◌, ℕ, Bool, true, List, length, Some, ap}
use Rattle.std.specs.Prelude.{slice_get}
use Rattle.std.specs.Cmp.{IsEquivalence}
use Rattle.foyer_policy.specs.declared.error.Reason.TheVariants.{NoMemory}
use Rattle.foyer_policy.specs.declared.types.Event.{Event}
use Rattle.foyer_core.specs.Indexer.{same_key}
use Rattle.foyer_core.specs.Inflight.{AreOpen, Opens}
use Rattle.foyer_core.specs.Values.{Gone}
use Rattle.foyer_session.specs.declared.command.Answer.{Answer}
use Rattle.foyer_session.specs.declared.command.Answer.TheVariants.{Found, Missing, Yes, No, Done, Number, PieceNo, NotHeld, Refused}
use Rattle.foyer_session.specs.Step.{SessionState, GetStep, ContainsStep, TouchStep, RemoveStep, CloneStep, DropStep, TakePieceStep, RefsStep, OutdatedStep, IsOpenStep, ClearStep, EvictAllStep, FlushIfStep, ResizeStep, ReconfigureStep, NumberStep, hash_in}
use Rattle.foyer_session.specs.Terms.{Terms}
use Rattle.foyer_session.proofs.LedgerCores.{StaysBuilt, configured_built, each_built, resized_built, resizing_built, same_built, shard_built, until_built}
use Rattle.foyer_session.proofs.LedgerSteps.{AnswerSettles, NothingSettles, quiet, unchanged}

module _ {K V P View C S W A : Type 0} (t : Terms K V P View C S W A) (laws : IsEquivalence t.meaning.same)
    (old new : SessionState K V P View S W A)
    (sound : (i : ℕ) (f : Opens K (Unit {0}) ℕ) → slice_get old.fetches i ≡ Some f → AreOpen t.meaning.same f)
    (alike : (i : ℕ) (f : Opens K (Unit {0}) ℕ) → slice_get old.fetches i ≡ Some f → (p q : ℕ × K) →
    same_key t.meaning.same p q ≡ true → f.by_key p ≡ f.by_key q)
    (long : length old.fetches ≡ length old.core.shards) where
  abbrev Settled : ℕ → Answer K V P → Type 0
  Settled shard answer = AnswerSettles t laws old new sound alike long shard answer

  same : new ≡ old → NothingSettles t laws old new sound alike long
  same = unchanged t laws old new sound alike long

  calm : new.fetches ≡ old.fetches → StaysBuilt old.core new.core → NothingSettles t laws old new sound alike long
  calm = quiet t laws old new sound alike long

  pub get_settled : (now : ℕ) (shard : ℕ) (k : K) (answer : Answer K V P) (leaves : List (Event × Gone K V P)) →
      GetStep t now old k answer leaves new → Settled shard answer
  get_settled now shard k (Found number told) leaves h =
      calm h.2.fetches (shard_built old.core new.core _ (hash_in t old k) h.1)
  get_settled now shard k Missing leaves h = same h.2
  get_settled now shard k (Refused reason) leaves h = same h.2
  get_settled now shard k _ leaves h = absurd h

  pub contains_settled : (now : ℕ) (shard : ℕ) (k : K) (answer : Answer K V P) (leaves : List (Event × Gone K V P)) →
      ContainsStep t now old k answer leaves new
      → Settled shard answer
  contains_settled now shard k Yes leaves h = same h.2
  contains_settled now shard k No leaves h = same h.2
  contains_settled now shard k _ leaves h = absurd h

  pub touch_settled : (now : ℕ) (shard : ℕ) (k : K) (answer : Answer K V P) (leaves : List (Event × Gone K V P)) →
      TouchStep t now old k answer leaves new
      → Settled shard answer
  touch_settled now shard k Yes leaves h = calm h.2.1 (shard_built old.core new.core _ (hash_in t old k) h.0)
  touch_settled now shard k No leaves h = same h.2
  touch_settled now shard k (Refused reason) leaves h = same h.2
  touch_settled now shard k _ leaves h = absurd h

  pub remove_settled : (shard : ℕ) (k : K) (answer : Answer K V P) (leaves : List (Event × Gone K V P)) →
      RemoveStep t old k answer leaves new
      → Settled shard answer
  remove_settled shard k (Found number told) leaves h =
      calm h.3.fetches (shard_built old.core new.core _ (hash_in t old k) h.2)
  remove_settled shard k Missing leaves h = same h.2
  remove_settled shard k (Refused reason) leaves h = same h.2
  remove_settled shard k _ leaves h = absurd h

  pub clone_settled : (shard : ℕ) (n : ℕ) (answer : Answer K V P) (leaves : List (Event × Gone K V P)) →
      CloneStep t old n answer leaves new
      → Settled shard answer
  clone_settled shard n (Found number told) leaves h =
      calm h.4.fetches (shard_built old.core new.core _ h.0.kept.hash h.3)
  clone_settled shard n (Refused reason) leaves h = same h.4
  clone_settled shard n NotHeld leaves h = same h.2
  clone_settled shard n _ leaves h = absurd h

  pub drop_settled : (shard : ℕ) (n : ℕ) (answer : Answer K V P) (leaves : List (Event × Gone K V P)) →
      DropStep t old n answer leaves new
      → Settled shard answer
  drop_settled shard n Done leaves h = calm h.6 (shard_built old.core new.core _ h.0.kept.hash h.3)
  drop_settled shard n NotHeld leaves h = same h.2
  drop_settled shard n _ leaves h = absurd h

  pub take_piece_settled : (shard : ℕ) (n : ℕ) (answer : Answer K V P) (leaves : List (Event × Gone K V P)) →
      TakePieceStep t old n answer leaves new
      → Settled shard answer
  take_piece_settled shard n (PieceNo number) leaves h =
      calm (ap (λ (s : SessionState K V P View S W A). s.fetches) h.4)
      (same_built old.core new.core (ap (λ (s : SessionState K V P View S W A). s.core) h.4))
  take_piece_settled shard n (Refused NoMemory) leaves h = same h.3
  take_piece_settled shard n NotHeld leaves h = same h.2
  take_piece_settled shard n _ leaves h = absurd h

  pub refs_settled : (shard : ℕ) (n : ℕ) (answer : Answer K V P) (leaves : List (Event × Gone K V P)) →
      RefsStep t old n answer leaves new
      → Settled shard answer
  refs_settled shard n (Number count) leaves h = same h.4
  refs_settled shard n NotHeld leaves h = same h.2
  refs_settled shard n _ leaves h = absurd h

  pub outdated_settled : (shard : ℕ) (n : ℕ) (answer : Answer K V P) (leaves : List (Event × Gone K V P)) →
      OutdatedStep t old n answer leaves new
      → Settled shard answer
  outdated_settled shard n Yes leaves h = same h.4
  outdated_settled shard n No leaves h = same h.4
  outdated_settled shard n NotHeld leaves h = same h.2
  outdated_settled shard n _ leaves h = absurd h

  pub is_open_settled : (shard : ℕ) (k : K) (fetch : ℕ) (answer : Answer K V P) (leaves : List (Event × Gone K V P))
      → IsOpenStep t old k fetch answer leaves new → Settled shard answer
  is_open_settled shard k fetch Yes leaves h = same h.2
  is_open_settled shard k fetch No leaves h = same h.2
  is_open_settled shard k fetch _ leaves h = absurd h

  pub clear_settled : (shard : ℕ) (answer : Answer K V P) (leaves : List (Event × Gone K V P)) →
      ClearStep t old answer leaves new → Settled shard answer
  clear_settled shard Done leaves h = calm h.1.1 (each_built old.core new.core _ leaves h.0)
  clear_settled shard (Refused NoMemory) leaves h = same h.1
  clear_settled shard _ leaves h = absurd h

  pub evict_all_settled : (shard : ℕ) (answer : Answer K V P) (leaves : List (Event × Gone K V P)) →
      EvictAllStep t old answer leaves new → Settled shard answer
  evict_all_settled shard Done leaves h = calm h.1.1 (each_built old.core new.core _ leaves h.0)
  evict_all_settled shard (Refused NoMemory) leaves h = calm h.1.1 (until_built old.core new.core _ _ leaves h.0)
  evict_all_settled shard _ leaves h = absurd h

  pub flush_if_settled : (shard : ℕ) (says : K → V → Bool → Type 0) (answer : Answer K V P)
      (leaves : List (Event × Gone K V P))
      → FlushIfStep t old says answer leaves new → Settled shard answer
  flush_if_settled shard says Done leaves h = calm h.1.1 (each_built old.core new.core _ leaves h.0)
  flush_if_settled shard says (Refused NoMemory) leaves h = same h.1
  flush_if_settled shard says _ leaves h = absurd h

  pub resize_settled : (now : ℕ) (shard : ℕ) (capacity : ℕ) (answer : Answer K V P) (leaves : List (Event × Gone K V P)) →
      ResizeStep t now old capacity answer leaves new
      → Settled shard answer
  resize_settled now shard capacity Done leaves h =
      calm h.1.1 (resized_built old.core new.core t.meaning _ capacity leaves h.0)
  resize_settled now shard capacity (Refused NoMemory) leaves h =
      calm h.1.1 (resizing_built old.core new.core t.meaning _ _ capacity leaves h.0)
  resize_settled now shard capacity _ leaves h = absurd h

  pub reconfigure_settled : (shard : ℕ) (config : C) (answer : Answer K V P) (leaves : List (Event × Gone K V P))
      → ReconfigureStep t old config answer leaves new → Settled shard answer
  reconfigure_settled shard config Done leaves h = calm h.3.1 (configured_built old.core new.core t.meaning config h.1)
  reconfigure_settled shard config (Refused reason) leaves h = same h.2
  reconfigure_settled shard config _ leaves h = absurd h

  pub number_settled : (shard : ℕ) (count : ℕ) (answer : Answer K V P) (leaves : List (Event × Gone K V P)) →
      NumberStep count old answer leaves new
      → Settled shard answer
  number_settled shard count (Number n) leaves h = same h.2
  number_settled shard count _ leaves h = absurd h
