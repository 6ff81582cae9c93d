-- What a session owns after the end of a fetch with a record of its key.
use Rattle.std.proofs.Common.{◌≡◌, ℕ, ◌%◌, ◌==◌, ◌&&◌, Bool, true, false, List, [], ◌∷◌, ◌++◌, length, map, Option, Some, None, refl, sym, ap, ◌∙◌, subst, arith, append-nil}
use Rattle.std.proofs.lemmas.Bool.Decides.{nat_tests}
use Rattle.foyer_policy.specs.declared.types.Source.{Source}
use Rattle.foyer_core.specs.declared.outcome.FetchTarget.{FetchTarget}
use Rattle.foyer_core.specs.declared.outcome.FetchTarget.TheVariants.{Entry, Piece as PieceOf}
use Rattle.foyer_core.specs.declared.record.Data.{Data}
use Rattle.foyer_core.specs.Core.{Core, AtShard, shard_at, shard_of}
use Rattle.foyer_core.specs.CoreFetches.{Completed, PieceArrives, PieceCompletes, is_of}
use Rattle.foyer_core.specs.Fetching.{Arrives}
use Rattle.foyer_core.specs.Inflight.{Opens, OpenFetch}
use Rattle.foyer_core.specs.Pieces.{coming_under, is_known}
use Rattle.foyer_core.specs.Rules.{Rules}
use Rattle.foyer_core.specs.State.{AllData, Meaning, State, handles_in}
use Rattle.foyer_core.specs.Steps.{newcomer}
use Rattle.foyer_core.specs.Values.{Carried, Held}
use Rattle.foyer_core.specs.Waited.{Ending, lost}
use Rattle.foyer_session.specs.Owns.{OwnsHandles}
use Rattle.foyer_session.specs.Step.{entries_by, given}
use Rattle.foyer_session.proofs.EndLemmas.{arrives_owns, piece_owns}
use Rattle.foyer_session.proofs.FoundLemmas.{first_holds}

-- those who waited get no entry, and the core stays
pub same_owns : {K V P View S W A : Type 0} (old new : Core K V P View S W A) (handles : List (Option (Held K V P)))
    (entries : List (Held K V P)) → entries ≡ [] → new ≡ old → OwnsHandles old handles
    → OwnsHandles new (handles ++ map given entries)
same_owns {K} {V} {P} {View} {S} {W} {A} old new handles entries none same owns =
    subst (λ (l : List (Option (Held K V P))). OwnsHandles new l)
    (sym (ap (λ (es : List (Held K V P)). handles ++ map given es) none ∙ append-nil handles))
    (subst (λ (c : Core K V P View S W A). OwnsHandles c handles) (sym same) owns)

module _ {K V P View C S W A N R : Type 0} (m : Meaning K P View C) (old : Core K V P View S W A)
    (f : List (Opens K N R)) (new : Core K V P View S W A) (g : List (Opens K N R)) (k : ℕ × K) (ended : Ending K V P N)
    (handles : List (Option (Held K V P))) (owns : OwnsHandles old handles)
    (belongs : (s : State K V P View) → shard_at old k.0 ≡ Some s →
    AllData (λ d. d.hash % length old.shards ≡ shard_of old k.0) s)
    (unused : (s : State K V P View) → shard_at old k.0 ≡ Some s → handles_in s s.next ≡ 0) where
  -- the piece's key is of the shard of the key
  home_of : (hash : ℕ) (piece : Carried K V P) (s : State K V P View) → shard_at old k.0 ≡ Some s →
      is_of m old hash piece k (shard_at old k.0) ≡ true → hash % length old.shards ≡ shard_of old k.0
  home_of hash piece s there is =
      let both : ((shard_of old hash == shard_of old k.0) && m.same k.1 (coming_under s hash piece).1) ≡ true =
      sym (ap (is_of m old hash piece k) there) ∙ is in
      let one = first_holds (shard_of old hash == shard_of old k.0) (m.same k.1 (coming_under s hash piece).1) both in
      grind (arith, nat_tests)

  module _ (rules : Rules K V P)
      (source : Source) where
    piece_end : (b : Bool) (piece : Carried K V P) (o : OpenFetch N R) →
        is_of m old (rules.hash piece.kept.key) piece k (shard_at old k.0) ≡ b
        → PieceCompletes m b (rules.weighs piece.kept.key piece.kept.value) (rules.hash piece.kept.key) piece k o ended old f new
        g → OwnsHandles new (handles ++ map given (entries_by ended.outcome))
    piece_end true piece o is h =
        let at = h.arrived in
        piece_owns m old new handles owns
        (λ s. PieceArrives m (is_known s (rules.hash piece.kept.key) piece) (rules.weighs piece.kept.key piece.kept.value)
        (rules.hash piece.kept.key) piece (length o.tokens) s ended.outcome ended.leaves)
        k.0 at (belongs at.before at.there) (unused at.before at.there) ended.leaves
        (rules.weighs piece.kept.key piece.kept.value) (rules.hash piece.kept.key) piece (length o.tokens) ended.outcome
        (home_of (rules.hash piece.kept.key) piece at.before at.there is) at.stepped
    piece_end false piece o is h = same_owns old new handles (entries_by ended.outcome)
        (ap (λ (x : Ending K V P N). entries_by x.outcome) h.0.0) h.1 owns

    pub completed_owns : (target : FetchTarget K V P) (p : Option (OpenFetch N R)) →
        Completed m rules source target k p ended old f new g →
        OwnsHandles new (handles ++ map given (entries_by ended.outcome))
    completed_owns target None h = same_owns old new handles (entries_by ended.outcome)
        (ap (λ (x : Ending K V P N). entries_by x.outcome) h.0) h.1 owns
    completed_owns (Entry value own) (Some o) h =
        let d : Data K V P =
        record {
          key = h.own;
          value = value;
          properties = rules.properties own h.admitted;
          hash = k.0;
          weight =
              h.weight;
        } in
        let at = h.completes.arrived in
        arrives_owns m old new handles owns
        (λ s. Arrives m source s (newcomer s d (length o.tokens)) ended.outcome ended.leaves) k.0 at
        (belongs at.before at.there) (unused at.before at.there) ended.leaves
        source d (length o.tokens) ended.outcome refl at.stepped
    completed_owns (PieceOf piece) (Some o) h =
        piece_end (is_of m old (rules.hash piece.kept.key) piece k (shard_at old k.0)) piece o refl h
