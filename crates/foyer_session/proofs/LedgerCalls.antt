-- What the lemmas of the ledger ask of a session holds of each.
use Rattle.std.proofs.Common.{◌≡◌, ◌+◌, Bool, List, [], ◌∷◌, ◌++◌, length, map}
use Rattle.std.specs.Cmp.{IsEquivalence}
use Rattle.std.specs.declared.cmp.PartialEq.{Ghosts as EqGhosts}
use Rattle.std.specs.declared.hash.Hash.{Ghosts as HashGhosts}
use Rattle.std.specs.declared.clone.Clone.{Ghosts as CloneGhosts}
use Rattle.std.specs.declared.default.Default.{Ghosts as DefaultGhosts}
use Rattle.foyer_policy.specs.declared.eviction.Eviction.{Ghosts as EvictionGhosts}
use Rattle.foyer_policy.specs.declared.properties.Properties.{Ghosts as PropertiesGhosts}
use Rattle.foyer_policy.specs.declared.hash.HashBuilder.{Ghosts as HashBuilderGhosts}
use Rattle.foyer_core.specs.declared.finder.Finder.{Ghosts as FinderGhosts}
use Rattle.foyer_core.specs.declared.weighter.Weighter.{Ghosts as WeighterGhosts}
use Rattle.foyer_core.specs.declared.filter.Filter.{Ghosts as FilterGhosts}
use Rattle.foyer_core.specs.Pieces.{coming_under}
use Rattle.foyer_session.specs.declared.session.Session.{Session}
use Rattle.foyer_session.specs.Sessions.{session_of, terms_of}
use Rattle.foyer_session.specs.declared.command.Command.{Command}
use Rattle.foyer_session.specs.declared.command.Reply.{Reply}
use Rattle.foyer_session.specs.Ledger.{AreAnswered, IsAnswered, IsSettled}
use Rattle.foyer_session.specs.Run.{Run}
use Rattle.foyer_session.specs.Step.{SessionState, Step, hash_in, waiting_at}
use Rattle.foyer_session.proofs.CoreLemmas.{alike_at, fetches_long, open_at}
use Rattle.foyer_session.proofs.LedgerAnswers.{any_answered}
use Rattle.foyer_session.proofs.LedgerLemmas.{settled_more, settled_none, step_settled}
use Rattle.foyer_session.proofs.LedgerRuns.{answered_more}
use Rattle.foyer_session.proofs.LedgerSteps.{ComesHome}
use Rattle.foyer_session.proofs.PieceHome.{came_home}

module _ {E K V P S W A I C : Type 0} {e : EvictionGhosts E C}
    {q : EqGhosts K} {h : HashGhosts K} {c : CloneGhosts K} {p : PropertiesGhosts P} {d : DefaultGhosts P}
    {b : HashBuilderGhosts S} {w : WeighterGhosts W K V} {f : FilterGhosts A K V} {i : FinderGhosts I K} where
  -- a piece's record comes in in the shard of the piece's key
  pub comes_home : (s : Session E K V P S W A I C e q h c p d b w f i)
      (new : SessionState K V P e.View S W A)
      → ComesHome (terms_of s) (session_of s) new
  comes_home s new now piece made at =
      let old = session_of s in
      let hash = hash_in (terms_of s) old piece.kept.key in
      came_home s.core now (w.weighs s.core.rules.weighter piece.kept.key piece.kept.value) piece made
      (λ x. 1 + length (waiting_at (terms_of s) old (coming_under x hash piece))) new.core at

  -- so a step of a session settles its tokens
  pub call_settled : IsEquivalence q.eq
      → (s : Session E K V P S W A I C e q h c p d b w f i) {Q : Type 0}
      (picks : Q → K → V → Bool → Type 0) (new : SessionState K V P e.View S W A) (command : Command K V P Q C)
      (reply : Reply K V P)
      → Step (terms_of s) picks (session_of s) command reply.answer reply.leaves new →
      IsSettled (terms_of s) (session_of s) (command ∷ []) (reply ∷ []) new
  call_settled laws s picks new command reply step =
      step_settled (terms_of s) laws (session_of s) new (open_at s.core) (alike_at laws s.core) (fetches_long s.core)
      picks (comes_home s new) command reply step

  -- and none is settled without one
  pub call_settled_none : IsEquivalence q.eq
      → (s : Session E K V P S W A I C e q h c p d b w f i) (Q : Type 0)
      (new : SessionState K V P e.View S W A) → new ≡ session_of s
      → IsSettled {Q = Q} (terms_of s) (session_of s) [] [] new
  call_settled_none laws s Q new same = settled_none (terms_of s) laws (session_of s) new (open_at s.core)
      (alike_at laws s.core) (fetches_long s.core) {Q = Q} same

  -- and it answers those that it hands out
  pub call_answered : IsEquivalence q.eq
      → (s : Session E K V P S W A I C e q h c p d b w f i) {Q : Type 0}
      (picks : Q → K → V → Bool → Type 0) (new : SessionState K V P e.View S W A) (command : Command K V P Q C)
      (reply : Reply K V P)
      → Step (terms_of s) picks (session_of s) command reply.answer reply.leaves new →
      IsAnswered (terms_of s) (session_of s) command reply.answer new
  call_answered laws s {Q} picks new command reply step =
      any_answered Q (terms_of s) laws (session_of s) new picks command reply.answer reply.leaves step

  module _ (laws : IsEquivalence q.eq) (first now : Session E K V P S W A I C e q h c p d b w f i)
      {Q : Type 0} (picks : Q → K → V → Bool → Type 0) {Y : Type 0} (from : Y → Command K V P Q C) (ys : List Y)
      (replies : List (Reply K V P))
      (y : Y) (reply : Reply K V P) (new : SessionState K V P e.View S W A)
      (run : Run (terms_of first) picks (session_of first) (map from ys) replies (session_of now))
      (settled : IsSettled (terms_of first) (session_of first) (map from ys) replies (session_of now))
      (step : Step (terms_of now) picks (session_of now) (from y) reply.answer reply.leaves new) where
    -- a run's tokens are settled by one step more
    pub call_settled_more : IsSettled (terms_of first) (session_of first) (map from (ys ++ y ∷ []))
        (replies ++ reply ∷ []) new
    call_settled_more =
        settled_more (terms_of first) picks from (session_of first) (session_of now) new ys replies y reply run
        settled (call_settled laws now picks new (from y) reply step)

    -- and answered
    pub call_answered_more : AreAnswered (terms_of first) (session_of first) (map from ys) replies (session_of now)
        → AreAnswered (terms_of first) (session_of first) (map from (ys ++ y ∷ [])) (replies ++ reply ∷ []) new
    call_answered_more answered = answered_more Q (terms_of first) picks laws from (session_of first) (session_of now)
        new ys replies y reply run settled answered step
