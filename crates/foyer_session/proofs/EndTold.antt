-- What the end of a fetch tells of the index.
use Rattle.std.proofs.Common.{◌≡◌, ℕ, ◌<◌, Bool, true, false, cond, List, [], length, Option, Some, None, refl, sym, ap, ◌∙◌, subst}
use Rattle.std.specs.Cmp.{IsEquivalence}
use Rattle.foyer_policy.specs.Policy.{IsPolicy}
use Rattle.foyer_policy.specs.declared.error.Reason.{Reason}
use Rattle.foyer_policy.specs.declared.types.Location.{Location}
use Rattle.foyer_policy.specs.declared.types.Source.{Source}
use Rattle.foyer_core.specs.declared.outcome.FetchTarget.{FetchTarget}
use Rattle.foyer_core.specs.declared.outcome.FetchTarget.TheVariants.{Entry, Piece as PieceOf}
use Rattle.foyer_core.specs.declared.record.Data.{Data}
use Rattle.foyer_core.specs.Core.{Core, shard_at}
use Rattle.foyer_core.specs.CoreFetches.{Completed, CompletesAt, EndsIn, PieceCompletes, is_of}
use Rattle.foyer_core.specs.FetchLaws.{IsToldByEnd}
use Rattle.foyer_core.specs.Fetching.{Arrives}
use Rattle.foyer_core.specs.Inflight.{Opens, OpenFetch}
use Rattle.foyer_core.specs.State.{Meaning, coming_in}
use Rattle.foyer_core.specs.Steps.{newcomer}
use Rattle.foyer_core.specs.Waited.{Ending}
use Rattle.foyer_core.proofs.CallsTold.{nothing_told}
use Rattle.foyer_core.proofs.CoreTold.{AreSound}
use Rattle.foyer_core.proofs.EndLaws.{end_told}

module _ {K V P View C S W A N R : Type 0} (m : Meaning K P View C) (laws : IsEquivalence m.same)
    (good : IsPolicy m.policy) (hashes : S → K → ℕ) (old new : Core K V P View S W A)
    (equal : (a b : K) → m.same a b ≡ true → hashes old.hash_builder a ≡ hashes old.hash_builder b)
    (sound : AreSound m laws good (hashes old.hash_builder) equal (length old.shards) old.shards)
    (f g : List (Opens K N R)) (source : Source) (key : K) (ended : Ending K V P N) where
  abbrev own : K → ℕ
  own = hashes old.hash_builder

  module _ (weighs : K → V → ℕ → Type 0) (admits : K → V → Bool → Type 0) (properties : P → Bool → P) where
    abbrev Completes : FetchTarget K V P → Option (OpenFetch N R) → Type 0
    Completes target p = Completed m
        record {
          hash = own;
          weighs = weighs;
          admits = admits;
          properties = properties;
        } source target (own key, key) p ended old f new g

    builder_stays : (target : FetchTarget K V P) (p : Option (OpenFetch N R)) → Completes target p →
        new.hash_builder ≡ old.hash_builder
    builder_stays target None h = ap (λ (c : Core K V P View S W A). c.hash_builder) h.1
    builder_stays (Entry value q) (Some o) h =
        ap (λ (c : Core K V P View S W A). c.hash_builder) h.completes.arrived.rest
    builder_stays (PieceOf piece) (Some o) h =
        of_piece (is_of m old (own piece.kept.key) piece (own key, key) (shard_at old (own key))) h
      where
        of_piece : (b : Bool) → PieceCompletes m b (weighs piece.kept.key piece.kept.value) (own piece.kept.key) piece
            (own key, key) o ended old f new g → new.hash_builder ≡ old.hash_builder
        of_piece true h = ap (λ (c : Core K V P View S W A). c.hash_builder) h.arrived.rest
        of_piece false h = ap (λ (c : Core K V P View S W A). c.hash_builder) h.1

    -- The index is told by the leaves and the entries of the end of a fetch, and the hash builder stays.
    pub completed_told : (target : FetchTarget K V P) (p : Option (OpenFetch N R)) →
        ((o : OpenFetch N R) → p ≡ Some o → 0 < length o.tokens) → Completes target p →
        (new.hash_builder ≡ old.hash_builder) × IsToldByEnd m.same own m.phantom old ended.leaves ended.outcome new
    completed_told target p waited h = (
      builder_stays target p h,
      end_told m laws good hashes old new equal sound f g source key ended weighs admits properties target p waited h,
    )

module _ {K V P View C S W A N R : Type 0} (m : Meaning K P View C) (laws : IsEquivalence m.same)
    (good : IsPolicy m.policy) (hash : K → ℕ) (equal : (a b : K) → m.same a b ≡ true → hash a ≡ hash b)
    (old new : Core K V P View S W A) (sound : AreSound m laws good hash equal (length old.shards) old.shards)
    (k : ℕ × K) where
  -- nothing is told by an end with a refusal
  pub ends_told : (p : Option (OpenFetch N R)) (reason : Reason) (f g : List (Opens K N R)) (ended : Ending K V P N) →
      EndsIn p m.same k reason f ended g → new ≡ old →
      IsToldByEnd m.same hash m.phantom old ended.leaves ended.outcome new
  ends_told None reason f g ended h same = subst
      (λ (e : Ending K V P N). IsToldByEnd m.same hash m.phantom old e.leaves e.outcome new) (sym h.0)
      (nothing_told m laws good hash equal old new sound same)
  ends_told (Some o) reason f g ended h same =
      subst (λ (e : Ending K V P N). IsToldByEnd m.same hash m.phantom old e.leaves e.outcome new) (sym h.0)
      (nothing_told m laws good hash equal old new sound same)
