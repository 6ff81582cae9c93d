-- Whom the end of a fetch answers, and which fetch it closes.
use Rattle.std.proofs.Common.{◌≡◌, ℕ, Bool, true, false, List, [], ◌∷◌, Option, Some, None, Result, Ok, Err, refl, ap}
use Rattle.foyer_policy.specs.declared.error.Reason.{Reason}
use Rattle.foyer_policy.specs.declared.types.Source.{Source}
use Rattle.foyer_core.specs.declared.outcome.FetchTarget.{FetchTarget}
use Rattle.foyer_core.specs.declared.outcome.FetchTarget.TheVariants.{Entry, Piece as PieceOf}
use Rattle.foyer_core.specs.Core.{Core, shard_at}
use Rattle.foyer_core.specs.CoreFetches.{Completed, EndsIn, PieceCompletes, is_of}
use Rattle.foyer_core.specs.Inflight.{Opens, OpenFetch, waiters_of}
use Rattle.foyer_core.specs.Rules.{Rules}
use Rattle.foyer_core.specs.State.{Meaning}
use Rattle.foyer_core.specs.Values.{Carried, Held}
use Rattle.foyer_core.specs.Waited.{Ending}
use Rattle.foyer_session.specs.Answering.{ClosedBy}
use Rattle.foyer_session.specs.Ledger.{who_got}
use Rattle.foyer_session.specs.Tokens.{each_gets, got_of, handles_from}
use Rattle.foyer_session.proofs.LedgerCores.{StaysBuilt, same_built, shard_built}

-- who waited gets what was told
pub who_got_handles : (first : ℕ) (tokens : List ℕ) → who_got (handles_from first tokens) ≡ tokens
who_got_handles first [] = refl
who_got_handles first (token ∷ tokens) = ap (λ (l : List ℕ). token ∷ l) (who_got_handles _ tokens)

pub who_got_each : (got : Result (Option ℕ) Reason) (tokens : List ℕ) → who_got (each_gets got tokens) ≡ tokens
who_got_each got [] = refl
who_got_each got (token ∷ tokens) = ap (λ (l : List ℕ). token ∷ l) (who_got_each got tokens)

pub who_got_all : {K V P : Type 0} (next : ℕ) (outcome : Result (Option (List (Held K V P))) Reason) (tokens : List ℕ)
    → who_got (got_of next outcome tokens) ≡ tokens
who_got_all next (Ok (Some entries)) tokens = who_got_handles next tokens
who_got_all next (Ok None) tokens = who_got_each (Ok None) tokens
who_got_all next (Err reason) tokens = who_got_each (Err reason) tokens

-- Those who waited for this fetch are answered, and it is closed. The end of what is not open is not found.
pub record EndsPlace {K V P N R : Type 0} (eq : K → K → Bool) (k : ℕ × K) (p : Option (OpenFetch N R))
    (f g : List (Opens K N R)) (ended : Ending K V P N) : Type 0 where
  pub waiters : ended.waiters ≡ waiters_of p
  pub closes : ClosedBy p eq k f g
  pub found : (o : OpenFetch N R) → p ≡ Some o → ended.found ≡ true

module _ {K V P N R : Type 0} (eq : K → K → Bool) (k : ℕ × K) (f g : List (Opens K N R)) (ended : Ending K V P N) where
  none_some : (o : OpenFetch N R) → ◌≡◌ {A = Option (OpenFetch N R)} None (Some o) → ended.found ≡ true
  none_some o h = absurd cc

  pub ends_place : (p : Option (OpenFetch N R)) (reason : Reason) → EndsIn p eq k reason f ended g →
      EndsPlace eq k p f g ended
  ends_place None reason h =
      record { waiters = ap (λ (x : Ending K V P N). x.waiters) h.0; closes = h.1; found = none_some }
  ends_place (Some o) reason h =
      record {
        waiters = ap (λ (x : Ending K V P N). x.waiters) h.0;
        closes = h.1;
        found =
            λ p is. ap (λ (x : Ending K V P N). x.found) h.0;
      }

module _ {K V P View C S W A N R : Type 0} (m : Meaning K P View C) (old new : Core K V P View S W A)
    (f g : List (Opens K N R)) (k : ℕ × K) (ended : Ending K V P N)
    (rules : Rules K V P)
    (source : Source) where
  none_found : (o : OpenFetch N R) → ◌≡◌ {A = Option (OpenFetch N R)} None (Some o) → ended.found ≡ true
  none_found o h = absurd cc

  piece_place : (b : Bool) (piece : Carried K V P) (o : OpenFetch N R)
      → PieceCompletes m b (rules.weighs piece.kept.key piece.kept.value) (rules.hash piece.kept.key) piece k o ended old f new g
      → EndsPlace m.same k (Some o) f g ended × StaysBuilt old new
  piece_place true piece o h =
      (record { waiters = h.waiters; closes = h.closes; found = λ p is. h.found }, shard_built old new _ k.0 h.arrived)
  piece_place false piece o h = (ends_place m.same k f g ended (Some o) _ h.0, same_built old new h.1)

  pub completed_place : (target : FetchTarget K V P) (p : Option (OpenFetch N R)) →
      Completed m rules source target k p ended old f new g
      → EndsPlace m.same k p f g ended × StaysBuilt old new
  completed_place target None h = (
    record { waiters = ap (λ (x : Ending K V P N). x.waiters) h.0; closes = h.2; found = none_found },
    same_built old new h.1,
  )
  completed_place (Entry value own) (Some o) h = (
    record { waiters = h.completes.waiters; closes = h.completes.closes; found = λ p is. h.completes.found },
    shard_built old new _ k.0 h.completes.arrived,
  )
  completed_place (PieceOf piece) (Some o) h =
      piece_place (is_of m old (rules.hash piece.kept.key) piece k (shard_at old k.0)) piece o h
