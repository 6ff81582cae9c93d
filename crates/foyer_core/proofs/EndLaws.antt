-- What follows for a core from the end of a fetch with a record of its key: what follows from its insert.
use Rattle.std.proofs.Common.{◌≡◌, ℕ, zero, suc, ◌<◌, List, [], ◌∷◌, length, replicate, Option, Some, None, Ok, Err, Bool, true, false, refl, sym, ◌∙◌, ap, subst, arith}
use Rattle.std.specs.Prelude.{IfOk, MatchResult, Result, ◌==◌, slice_get, slice_set}
use Rattle.std.specs.Cmp.{IsEquivalence}
use Rattle.std.proofs.lemmas.Bool.{eqb-true}
use Rattle.foyer_policy.specs.Policy.{IsPolicy}
use Rattle.foyer_policy.specs.declared.error.Reason.{Reason}
use Rattle.foyer_policy.specs.declared.error.Reason.TheVariants.{NoMemory}
use Rattle.foyer_policy.specs.declared.types.Event.{Event}
use Rattle.foyer_policy.specs.declared.types.Location.{Location}
use Rattle.foyer_policy.specs.declared.types.Source.{Source}
use Rattle.foyer_policy.specs.declared.types.Source.TheVariants.{Memory}
use Rattle.foyer_core.specs.declared.outcome.FetchTarget.{FetchTarget}
use Rattle.foyer_core.specs.declared.outcome.FetchTarget.TheVariants.{Entry, Piece as PieceOf}
use Rattle.foyer_core.specs.declared.record.Data.{Data}
use Rattle.foyer_core.specs.CallLaws.{InsertLaws, IsNewEntry}
use Rattle.foyer_core.specs.Core.{Core, AtShard, InsertsAnswering, shard_at, shard_of}
use Rattle.foyer_core.specs.CoreFetches.{Completed, PieceArrives, PieceCompletes, ValueCompletes, is_of}
use Rattle.foyer_core.specs.FetchLaws.{BoundsTarget, FindsTarget, IfEntries, IsToldByEnd}
use Rattle.foyer_core.specs.Fetching.{Arrives, ArrivesBack}
use Rattle.foyer_core.specs.Inflight.{Opens, OpenFetch}
use Rattle.foyer_core.specs.Laws.{Finds, HandlesStay, IsBoundedAt, IsOutside}
use Rattle.foyer_core.specs.Observed.{IsTold, IsToldWith}
use Rattle.foyer_core.specs.Pieces.{InsertsPiece, PieceBy, Returns, ReturnsAnswering, coming_under, is_known}
use Rattle.foyer_core.specs.State.{Meaning, State, IsAdmitted, MakesPlain, coming_in, is_phantom_record}
use Rattle.foyer_core.specs.Steps.{Inserts, newcomer}
use Rattle.foyer_core.specs.Values.{Carried, Denied, Gone, Held, Incoming, Made}
use Rattle.foyer_core.specs.Waited.{Ending}
use Rattle.foyer_core.proofs.Answered.{comes_laws, comes_new, comes_plain}
use Rattle.foyer_core.proofs.ArrivingPieces.{and_left}
use Rattle.foyer_core.proofs.CallsTold.{nothing_told}
use Rattle.foyer_core.proofs.CoreTold.{AreSound}
use Rattle.foyer_core.proofs.PieceCalls.{piece_laws}

-- the first of so many alike
head_is : {A : Type 0} (n : ℕ) (x y : A) (ys : List A) → y ∷ ys ≡ replicate n x → y ≡ x
head_is zero x y ys h = absurd cc
head_is (suc n) x y ys h = cc

no_head : {A : Type 0} (n : ℕ) (x : A) → 0 < n → [] ≡ replicate n x → ⊥
no_head zero x some h = omega arith
no_head (suc n) x some h = cc

module _ {K V P : Type 0} where
  -- what an insert would answer of whose record those who waited get this
  abbrev answer_of : Result (Option (List (Held K V P))) Reason → List (Event × Gone K V P) →
      Result (Made K V P) (Denied K V P)
  answer_of (Ok (Some (entry ∷ more))) ls = Ok record { entry = entry; leaves = ls }
  answer_of (Ok (Some [])) ls = Err record { reason = NoMemory; leaves = ls }
  answer_of (Ok None) ls = Err record { reason = NoMemory; leaves = ls }
  answer_of (Err reason) ls = Err record { reason = reason; leaves = ls }

  -- what holds of an entry that it answers holds of theirs
  entries_so : (outcome : Result (Option (List (Held K V P))) Reason) (ls : List (Event × Gone K V P))
      (A B : Held K V P → Type 0) → ((e : Held K V P) → A e → B e) →
      IfOk (answer_of outcome ls) (λ made. A made.entry) → IfEntries outcome B
  entries_so (Ok (Some (entry ∷ more))) ls A B so h = so entry h
  entries_so (Ok (Some [])) ls A B so h = tt
  entries_so (Ok None) ls A B so h = tt
  entries_so (Err reason) ls A B so h = tt

both : {T E : Type 0} (r : Result T E) (A B : T → Type 0) → IfOk r A → IfOk r B → IfOk r (λ t. A t × B t)
both (Ok t) A B a b = (a, b)
both (Err e) A B a b = tt

module _ {K V P View C : Type 0} (m : Meaning K P View C) (s t : State K V P View) (ls : List (Event × Gone K V P))
    (n : ℕ) (some : 0 < n) where
  -- those who wait get handles of an insert's record
  arrives_as : (source : Source) (inc : Incoming K V P) → inc.handles ≡ n →
      (outcome : Result (Option (List (Held K V P))) Reason) → Arrives m source s inc outcome ls t
      → InsertsAnswering m source s inc (answer_of outcome ls) t
  arrives_as source inc many (Ok (Some (e ∷ es))) h =
      subst (λ (x : Held K V P). Inserts m source s inc ls x t) (sym (head_is inc.handles h.0 e es h.2)) h.1
  arrives_as source inc many (Ok (Some [])) h =
      absurd (no_head inc.handles h.0 (subst (λ (i : ℕ). 0 < i) (sym many) some) h.2)
  arrives_as source inc many (Ok None) h = absurd h
  arrives_as source inc many (Err reason) h = h

  back_as : (piece : Carried K V P) (outcome : Result (Option (List (Held K V P))) Reason) →
      ArrivesBack m s piece n outcome ls t → ReturnsAnswering m s piece n (answer_of outcome ls) t
  back_as piece (Ok (Some (e ∷ es))) h =
      subst (λ (x : Held K V P). Returns m s piece n ls x t) (sym (head_is n h.0 e es h.2)) h.1
  back_as piece (Ok (Some [])) h = absurd (no_head n h.0 some h.2)
  back_as piece (Ok None) h = absurd h
  back_as piece (Err reason) h = h

  piece_as : (weighs : ℕ → Type 0) (hash : ℕ) (piece : Carried K V P)
      (outcome : Result (Option (List (Held K V P))) Reason) (b : Bool) →
      PieceArrives m b weighs hash piece n s outcome ls t
      → PieceBy m b weighs hash piece n (answer_of outcome ls) s t
  piece_as weighs hash piece outcome true h = back_as piece outcome h
  piece_as weighs hash piece outcome false h = (
    h.0,
    h.1,
    arrives_as Memory (newcomer s (record piece.kept { hash = hash; weight = h.0 }) n) refl outcome h.2,
  )

module _ {K V P View S W A : Type 0} (old new : Core K V P View S W A) where
  -- where nothing changes, the records stay
  pub same_stays : new ≡ old → HandlesStay (λ e. 0) old new
  same_stays same = subst (HandlesStay (λ e. 0) old) (sym same) (λ e r there less. (r, there, refl, omega arith))

  -- what a shard's step is at a hash of the same shard
  at_same : (step other : State K V P View → State K V P View → Type 0) (h g : ℕ) → shard_of old g ≡ shard_of old h →
      ((s t : State K V P View) → step s t → other s t) → AtShard step h old new → AtShard other g old new
  at_same step other h g same so at = record {
    before = at.before;
    after = at.after;
    there = ap (slice_get old.shards) same ∙ at.there;
    stepped = so at.before at.after at.stepped;
    rest = at.rest ∙ ap (λ (i : ℕ). let c : Core K V P View S W A =
        record old { shards = slice_set old.shards i at.after } in c) (sym same);
  }

  -- the leaves and the entries tell of the index
  told_by_end : (same : K → K → Bool) (hash : K → ℕ) (phantom : P → Option Bool)
      (outcome : Result (Option (List (Held K V P))) Reason) (ls : List (Event × Gone K V P))
      → MatchResult (answer_of outcome ls)
      (λ made. IsToldWith same hash phantom old made.leaves made.entry.id made.entry.kept new)
      (λ denied. IsTold same hash old denied.leaves new) → IsToldByEnd same hash phantom old ls outcome new
  told_by_end same hash phantom (Ok (Some (e ∷ es))) ls h = h
  told_by_end same hash phantom (Ok (Some [])) ls h = h
  told_by_end same hash phantom (Ok None) ls h = h
  told_by_end same hash phantom (Err reason) ls h = h

-- the end of a fetch with a target, for which someone waits where it is open
module _ {K V P View C S W A N R : Type 0} (m : Meaning K P View C) (laws : IsEquivalence m.same)
    (good : IsPolicy m.policy) (hashes : S → K → ℕ)
    (old new : Core K V P View S W A)
    (equal : (a b : K) → m.same a b ≡ true → hashes old.hash_builder a ≡ hashes old.hash_builder b)
    (sound : AreSound m laws good (hashes old.hash_builder) equal (length old.shards) old.shards)
    (fs gs : List (Opens K N R)) (source : Source) (key : K) (ended : Ending K V P N) where
  abbrev own : K → ℕ
  own = hashes old.hash_builder

  abbrev answer : Result (Made K V P) (Denied K V P)
  answer = answer_of ended.outcome ended.leaves

  -- with a value
  module _ (weighs : ℕ → Type 0) (admits : Bool → Type 0) (value : V) (properties : Bool → P) (o : OpenFetch N R)
      (h : ValueCompletes m source weighs admits (own key, key) value properties o ended old fs new gs)
      (some : 0 < length o.tokens) where
    abbrev came : Data K V P
    came = record { key = h.own; value = value; properties = properties h.admitted; hash = own key; weight = h.weight }

    abbrev n : ℕ
    n = length o.tokens

    came_at : AtShard (λ s t. InsertsAnswering m source s (newcomer s came n) answer t) (own key) old new
    came_at = at_same old new (λ s t. Arrives m source s (newcomer s came n) ended.outcome ended.leaves t)
        (λ s t. InsertsAnswering m source s (newcomer s came n) answer t) (own key) (own key) refl
        (λ s t. arrives_as m s t ended.leaves n some source (newcomer s came n) refl ended.outcome)
        h.completes.arrived

    entry_laws : InsertLaws m own own (own key) old answer new
    entry_laws = comes_laws m laws good own equal old new sound source came (equal key h.own h.equal) n answer came_at

    module _ (location : P → Option Location) (with_phantom : P → Bool → P) (p : P)
        (same : properties h.admitted ≡ coming_in location with_phantom h.admitted p)
        (plain : MakesPlain m.phantom location p) (sure : IsAdmitted admits) where
      is_plain : IfOk answer (λ made. is_phantom_record m made.entry.kept ≡ false)
      is_plain = comes_plain m laws good own equal old new sound source came (equal key h.own h.equal) n location
          with_phantom h.admitted p plain (sure h.admitted h.answered) same answer came_at

      is_new : IfOk answer (λ made. IsNewEntry old (own key) h.own value made.entry)
      is_new = comes_new m laws good own equal old new sound source came (equal key h.own h.equal) n answer came_at

      entry_found : IfEntries ended.outcome (λ e. Finds m (hashes new.hash_builder) new key value e.kept.properties)
      entry_found =
          let builder : new.hash_builder ≡ old.hash_builder =
          ap (λ (c : Core K V P View S W A). c.hash_builder) came_at.rest in
          entries_so ended.outcome ended.leaves
          (λ e. (is_phantom_record m e.kept ≡ false → Finds m own new e.kept.key e.kept.value e.kept.properties)
          × ((is_phantom_record m e.kept ≡ false) × IsNewEntry old (own key) h.own value e))
          (λ e. Finds m (hashes new.hash_builder) new key value e.kept.properties)
          (λ e so. subst (λ (b : S). Finds m (hashes b) new key value e.kept.properties) (sym builder)
          (λ now live k alike result next got.
          subst (λ (v : V). Finds m own new h.own v e.kept.properties) so.1.1.value_is
          (subst (λ (q : K). Finds m own new q e.kept.value e.kept.properties) so.1.1.key_is (so.0 so.1.0))
          now live k (sym (laws.congr key h.own k h.equal) ∙ alike) result next got))
          (both answer _ _ entry_laws.found (both answer _ _ is_plain is_new))

      entry_bounded : IfEntries ended.outcome (λ e. IsBoundedAt m (own key) e.kept.weight old new)
      entry_bounded = entries_so ended.outcome ended.leaves
          (λ e. (is_phantom_record m e.kept ≡ false → IsOutside old (own key) e.id →
          IsBoundedAt m (own key) e.kept.weight old new)
          × ((is_phantom_record m e.kept ≡ false) × IsNewEntry old (own key) h.own value e))
          (λ e. IsBoundedAt m (own key) e.kept.weight old new) (λ e so. so.0 so.1.0 so.1.1.outside)
          (both answer _ _ entry_laws.bounded (both answer _ _ is_plain is_new))

  -- with a piece
  module _ (weighs : ℕ → Type 0) (piece : Carried K V P) (o : OpenFetch N R) (some : 0 < length o.tokens) where
    abbrev Ends : Bool → Type 0
    Ends b = PieceCompletes m b weighs (own piece.kept.key) piece (own key, key) o ended old fs new gs

    abbrev is : Bool
    is = is_of m old (own piece.kept.key) piece (own key, key) (shard_at old (own key))

    back_laws : is ≡ true → Ends true →
        InsertLaws m own (hashes new.hash_builder) (own piece.kept.key) old answer new
    back_laws stands h =
        let n = length o.tokens in
        let here : shard_of old (own piece.kept.key) ≡ shard_of old (own key) =
        eqb-true (shard_of old (own piece.kept.key)) (shard_of old (own key))
        (and_left (shard_of old (own piece.kept.key) == shard_of old (own key))
        (m.same key (coming_under h.arrived.before (own piece.kept.key) piece).1)
        (sym (ap (is_of m old (own piece.kept.key) piece (own key, key)) h.arrived.there) ∙ stands)) in
        piece_laws m laws good hashes old new equal sound weighs piece (λ s. n) answer
        (at_same old new
        (λ s t. PieceArrives m (is_known s (own piece.kept.key) piece) weighs (own piece.kept.key) piece n s
        ended.outcome ended.leaves t)
        (λ s t. InsertsPiece m weighs (own piece.kept.key) piece n answer s t) (own key) (own piece.kept.key) here
        (λ s t. piece_as m s t ended.leaves n some weighs (own piece.kept.key) piece ended.outcome
        (is_known s (own piece.kept.key) piece)) h.arrived)

    of_stays : (b : Bool) → is ≡ b → Ends b → HandlesStay (λ e. 0) old new
    of_stays true stands h = (back_laws stands h).stay
    of_stays false other h = same_stays old new h.1

    of_told : (b : Bool) → is ≡ b → Ends b → IsToldByEnd m.same own m.phantom old ended.leaves ended.outcome new
    of_told true stands h =
        told_by_end old new m.same own m.phantom ended.outcome ended.leaves (back_laws stands h).told
    of_told false other h = subst (λ (e : Ending K V P N). IsToldByEnd m.same own m.phantom old e.leaves e.outcome new)
        (sym h.0.0) (nothing_told m laws good own equal old new sound h.1)

    abbrev Found : Held K V P → Type 0
    Found e = is_phantom_record m e.kept ≡ false →
        Finds m (hashes new.hash_builder) new e.kept.key e.kept.value e.kept.properties

    of_found : (b : Bool) → is ≡ b → Ends b → IfEntries ended.outcome Found
    of_found true stands h = entries_so ended.outcome ended.leaves Found Found (λ e so. so) (back_laws stands h).found
    of_found false other h = subst (λ (e : Ending K V P N). IfEntries e.outcome Found) (sym h.0.0) tt

  -- with either
  module _ (weighs : K → V → ℕ → Type 0) (admits : K → V → Bool → Type 0) (properties : P → Bool → P) where
    abbrev EndsWith : FetchTarget K V P → Option (OpenFetch N R) → Type 0
    EndsWith target p = Completed m
        record {
          hash = own;
          weighs = weighs;
          admits = admits;
          properties = properties;
        } source target (own key, key) p ended old fs new gs

    module _ (target : FetchTarget K V P) (p : Option (OpenFetch N R))
        (some : (o : OpenFetch N R) → p ≡ Some o → 0 < length o.tokens) (ends : EndsWith target p) where
      pub end_stays : HandlesStay (λ e. 0) old new
      end_stays = go target p some ends where
        go : (target : FetchTarget K V P) (p : Option (OpenFetch N R)) →
            ((o : OpenFetch N R) → p ≡ Some o → 0 < length o.tokens) → EndsWith target p → HandlesStay (λ e. 0) old new
        go target None some h = same_stays old new h.1
        go (Entry value q) (Some o) some h = (entry_laws (weighs key value) (admits key value) value
            (properties q) o h (some o refl)).stay
        go (PieceOf piece) (Some o) some h =
            of_stays (weighs piece.kept.key piece.kept.value) piece o (some o refl) _ refl h

      pub end_told : IsToldByEnd m.same own m.phantom old ended.leaves ended.outcome new
      end_told = go target p some ends where
        go : (target : FetchTarget K V P) (p : Option (OpenFetch N R)) →
            ((o : OpenFetch N R) → p ≡ Some o → 0 < length o.tokens) → EndsWith target p →
            IsToldByEnd m.same own m.phantom old ended.leaves ended.outcome new
        go target None some h = subst
            (λ (e : Ending K V P N). IsToldByEnd m.same own m.phantom old e.leaves e.outcome new) (sym h.0)
            (nothing_told m laws good own equal old new sound h.1)
        go (Entry value q) (Some o) some h = told_by_end old new m.same own m.phantom ended.outcome ended.leaves
            (entry_laws (weighs key value) (admits key value) value
            (properties q) o h (some o refl)).told
        go (PieceOf piece) (Some o) some h =
            of_told (weighs piece.kept.key piece.kept.value) piece o (some o refl) _ refl h

  -- and with properties that come in as a cache's do
  module _ (weighs : K → V → ℕ → Type 0) (admits : K → V → Bool → Type 0) (location : P → Option Location)
      (with_phantom : P → Bool → P) where
    abbrev EndsAs : FetchTarget K V P → Option (OpenFetch N R) → Type 0
    EndsAs = EndsWith weighs admits (λ q admitted. coming_in location with_phantom admitted q)

    module _ (target : FetchTarget K V P) (p : Option (OpenFetch N R))
        (some : (o : OpenFetch N R) → p ≡ Some o → 0 < length o.tokens) (ends : EndsAs target p) where
      pub end_found : FindsTarget m (hashes new.hash_builder) location admits target key ended.outcome new
      end_found = go target p some ends where
        go : (target : FetchTarget K V P) (p : Option (OpenFetch N R)) →
            ((o : OpenFetch N R) → p ≡ Some o → 0 < length o.tokens) → EndsAs target p →
            FindsTarget m (hashes new.hash_builder) location admits target key ended.outcome new
        go (Entry value q) None some h = λ plain sure. subst
            (λ (e : Ending K V P N). IfEntries e.outcome (λ x. Finds m (hashes new.hash_builder) new key value x.kept.properties))
            (sym h.0) tt
        go (PieceOf piece) None some h = subst
            (λ (e : Ending K V P N). IfEntries e.outcome
            (λ e. is_phantom_record m e.kept ≡ false →
            Finds m (hashes new.hash_builder) new e.kept.key e.kept.value e.kept.properties)) (sym h.0) tt
        go (Entry value q) (Some o) some h = λ plain sure. entry_found (weighs key value) (admits key value) value
            (λ admitted. coming_in location with_phantom admitted q) o h (some o refl) location with_phantom q refl
            plain sure
        go (PieceOf piece) (Some o) some h =
            of_found (weighs piece.kept.key piece.kept.value) piece o (some o refl) _ refl h

      pub end_bounded : BoundsTarget m location admits target (own key) key ended.outcome old new
      end_bounded = go target p some ends where
        go : (target : FetchTarget K V P) (p : Option (OpenFetch N R)) →
            ((o : OpenFetch N R) → p ≡ Some o → 0 < length o.tokens) → EndsAs target p →
            BoundsTarget m location admits target (own key) key ended.outcome old new
        go (Entry value q) None some h = λ plain sure. subst
            (λ (e : Ending K V P N). IfEntries e.outcome (λ x. IsBoundedAt m (own key) x.kept.weight old new))
            (sym h.0) tt
        go (PieceOf piece) p some h = tt
        go (Entry value q) (Some o) some h = λ plain sure. entry_bounded (weighs key value) (admits key value) value
            (λ admitted. coming_in location with_phantom admitted q) o h (some o refl) location with_phantom q refl
            plain sure
