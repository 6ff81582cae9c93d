-- What those get who wait for a record that comes in: entries alike, of its key, or why it is refused.
use Rattle.std.proofs.Common.{◌≡◌, ℕ, Bool, true, false, ◌==◌, ◌&&◌, ◌⊎◌, List, length, replicate, Option, Some, None, Result, Ok, Err, refl, sym, ap, ◌∙◌, subst, inl, inr}
use Rattle.foyer_policy.specs.declared.error.Reason.{Reason}
use Rattle.foyer_policy.specs.declared.error.Reason.TheVariants.{Handles, Ids, NoMemory, Weight, WrongKey}
use Rattle.foyer_policy.specs.declared.types.Event.{Event}
use Rattle.foyer_policy.specs.declared.types.Source.{Source}
use Rattle.foyer_core.specs.declared.outcome.FetchTarget.TheVariants.{Entry, Piece as PieceOf}
use Rattle.foyer_core.specs.declared.record.Data.{Data}
use Rattle.foyer_core.specs.Core.{Core, shard_at, shard_of}
use Rattle.foyer_core.specs.CoreFetches.{Completed, PieceArrives, PieceCompletes, is_of}
use Rattle.foyer_core.specs.Fetching.{Arrives}
use Rattle.foyer_core.specs.Inflight.{Opens, OpenFetch}
use Rattle.foyer_core.specs.Pieces.{PieceBy, RefusesReturnBy, coming_under, is_in, is_known, returning}
use Rattle.foyer_core.specs.Rules.{Rules}
use Rattle.foyer_core.specs.State.{Meaning, State, is_phantom_record}
use Rattle.foyer_core.specs.Steps.{RefusesBy, RefusesHandles, newcomer}
use Rattle.foyer_core.specs.Values.{Carried, Gone, Held, Incoming}
use Rattle.foyer_core.specs.Waited.{Ending}
use Rattle.foyer_session.specs.Ledger.{IsRefusal}
use Rattle.foyer_session.proofs.CountLemmas.{inserts_entry}
use Rattle.foyer_session.proofs.PieceLemmas.{piece_key}

-- so many entries alike, which are of this key, or why there are none
abbrev pub AllAre : {K V P : Type 0} → (K → Type 0) → (Reason → Type 0) → ℕ →
    Result (Option (List (Held K V P))) Reason → Type 0
AllAre {K} {V} {P} of_key refuses n (Ok (Some entries)) = (entry : Held K V P) × (entries ≡ replicate n entry)
    × of_key entry.kept.key
AllAre of_key refuses n (Ok None) = ⊥
AllAre of_key refuses n (Err reason) = refuses reason

and_second : (a b : Bool) → (a && b) ≡ true → b ≡ true
and_second true b h = h
and_second false b h = absurd cc

module _ {K V P View C : Type 0} (m : Meaning K P View C) (old new : State K V P View)
    (ls : List (Event × Gone K V P)) where
  refused_by : (b : Bool) (i : Incoming K V P) (reason : Reason) → RefusesBy m b old i reason ls new → IsRefusal reason
  refused_by true i Ids h = tt
  refused_by true i Handles h = tt
  refused_by true i NoMemory h = tt
  refused_by true i _ h = absurd h
  refused_by false i Ids h = tt
  refused_by false i Handles h = tt
  refused_by false i Weight h = tt
  refused_by false i NoMemory h = tt
  refused_by false i _ h = absurd h

  refused_handles : (id more : ℕ) (reason : Reason) → RefusesHandles old id more reason new → IsRefusal reason
  refused_handles id more Handles h = tt
  refused_handles id more NoMemory h = tt
  refused_handles id more _ h = absurd h

  pub arrived : (source : Source) (d : Data K V P) (n : ℕ) (outcome : Result (Option (List (Held K V P))) Reason)
      → Arrives m source old (newcomer old d n) outcome ls new → AllAre (λ k. k ≡ d.key) IsRefusal n outcome
  arrived source d n (Ok (Some entries)) h = (
    h.0,
    h.2,
    ap (λ (x : Held K V P). x.kept.key)
        (inserts_entry m source old (newcomer old d n) ls h.0 new (is_phantom_record m d) h.1),
  )
  arrived source d n (Ok None) h = absurd h
  arrived source d n (Err reason) h = refused_by (is_phantom_record m d) (newcomer old d n) reason h

  returned_refused : (b : Bool) (piece : Carried K V P) (n : ℕ) (reason : Reason) →
      RefusesReturnBy m b old piece n reason ls new → IsRefusal reason
  returned_refused true piece n reason h = refused_handles piece.id n reason h.1
  returned_refused false piece n reason h = refused_by (is_phantom_record m (returning old piece n).kept)
      (returning old piece n) reason h

  -- the entries of a piece are as those of an insert of it
  piece_made : (weighs : ℕ → Type 0) (hash : ℕ) (piece : Carried K V P) (n : ℕ) (b : Bool) (entries : List (Held K V P))
      → PieceArrives m b weighs hash piece n old (Ok (Some entries)) ls new
      → (entry : Held K V P) × (entries ≡ replicate n entry)
      × PieceBy m b weighs hash piece n (Ok record { entry = entry; leaves = ls }) old new
  piece_made weighs hash piece n true entries h = (h.0, h.2, h.1)
  piece_made weighs hash piece n false entries h = (h.2.0, h.2.2, (h.0, h.1, h.2.1))

  piece_refused : (weighs : ℕ → Type 0) (hash : ℕ) (piece : Carried K V P) (n : ℕ) (b : Bool) (reason : Reason)
      → PieceArrives m b weighs hash piece n old (Err reason) ls new → IsRefusal reason
  piece_refused weighs hash piece n true reason h = returned_refused (is_in (old.records piece.id)) piece n reason h
  piece_refused weighs hash piece n false reason h =
      let i = newcomer old (record piece.kept { hash = hash; weight = h.0 }) n in
      refused_by (is_phantom_record m i.kept) i reason h.2

  piece_nothing : (weighs : ℕ → Type 0) (hash : ℕ) (piece : Carried K V P) (n : ℕ) (b : Bool) →
      PieceArrives m b weighs hash piece n old (Ok None) ls new → ⊥
  piece_nothing weighs hash piece n true h = h
  piece_nothing weighs hash piece n false h = h.2

  pub piece_arrived : (weighs : ℕ → Type 0) (hash : ℕ) (piece : Carried K V P) (n : ℕ)
      (outcome : Result (Option (List (Held K V P))) Reason)
      → PieceArrives m (is_known old hash piece) weighs hash piece n old outcome ls new →
      AllAre (λ k. k ≡ (coming_under old hash piece).1) IsRefusal n outcome
  piece_arrived weighs hash piece n (Ok (Some entries)) h =
      let made = piece_made weighs hash piece n (is_known old hash piece) entries h in (
        made.0,
        made.1,
        ap (λ (q : ℕ × K). q.1)
            (piece_key m old new weighs hash piece (record { entry = made.0; leaves = ls }) n made.2),
      )
  piece_arrived weighs hash piece n (Ok None) h = absurd (piece_nothing weighs hash piece n (is_known old hash piece) h)
  piece_arrived weighs hash piece n (Err reason) h =
      piece_refused weighs hash piece n (is_known old hash piece) reason h

-- under an equal key
equal_all : {K V P : Type 0} (same : K → K → Bool) (k own : K) (n : ℕ)
    (outcome : Result (Option (List (Held K V P))) Reason) → same k own ≡ true
    → AllAre (λ x. x ≡ own) IsRefusal n outcome
    → AllAre (λ x. same k x ≡ true) IsRefusal n outcome
equal_all same k own n (Ok (Some entries)) one h = (h.0, h.1, ap (same k) h.2 ∙ one)
equal_all same k own n (Ok None) one h = h
equal_all same k own n (Err reason) one h = h

wrong_too : {K V P : Type 0} (of_key : K → Type 0) (n : ℕ) (outcome : Result (Option (List (Held K V P))) Reason) →
    AllAre of_key IsRefusal n outcome
    → AllAre of_key (λ reason. IsRefusal reason ⊎ (reason ≡ WrongKey)) n outcome
wrong_too of_key n (Ok (Some entries)) h = h
wrong_too of_key n (Ok None) h = h
wrong_too of_key n (Err reason) h = inl h

module _ {K V P View C S W A N R : Type 0} (m : Meaning K P View C) (old new : Core K V P View S W A)
    (f g : List (Opens K N R)) (k : ℕ × K) (ended : Ending K V P N)
    (rules : Rules K V P)
    (source : Source) (o : OpenFetch N R) where
  pub value_all : (v : V) (p : P) → Completed m rules source (Entry v p) k (Some o) ended old
      f new g
      → AllAre (λ x. m.same k.1 x ≡ true) IsRefusal (length o.tokens) ended.outcome
  value_all v p h =
      let at = h.completes.arrived in
      let d : Data K V P =
      record { key = h.own; value = v; properties = rules.properties p h.admitted; hash = k.0; weight = h.weight } in
      equal_all m.same k.1 h.own (length o.tokens) ended.outcome h.equal
      (arrived m at.before at.after ended.leaves source d (length o.tokens) ended.outcome at.stepped)

  piece_by : (b : Bool) (piece : Carried K V P) → is_of m old (rules.hash piece.kept.key) piece k (shard_at old k.0) ≡ b
      → PieceCompletes m b (rules.weighs piece.kept.key piece.kept.value) (rules.hash piece.kept.key) piece k o ended old f new g
      → AllAre (λ x. m.same k.1 x ≡ true) (λ reason. IsRefusal reason ⊎ (reason ≡ WrongKey)) (length o.tokens)
      ended.outcome
  piece_by true piece is h =
      let at = h.arrived in
      let h0 = rules.hash piece.kept.key in
      let both : ((shard_of old h0 == shard_of old k.0) && m.same k.1 (coming_under at.before h0 piece).1) ≡ true =
      sym (ap (is_of m old h0 piece k) at.there) ∙ is in
      let one = and_second (shard_of old h0 == shard_of old k.0) (m.same k.1 (coming_under at.before h0 piece).1)
      both in
      wrong_too (λ x. m.same k.1 x ≡ true) (length o.tokens) ended.outcome
      (equal_all m.same k.1 (coming_under at.before h0 piece).1 (length o.tokens) ended.outcome one
      (piece_arrived m at.before at.after ended.leaves (rules.weighs piece.kept.key piece.kept.value) h0 piece
      (length o.tokens) ended.outcome at.stepped))
  piece_by false piece is h =
      subst (AllAre (λ x. m.same k.1 x ≡ true) (λ reason. IsRefusal reason ⊎ (reason ≡ WrongKey)) (length o.tokens))
      (sym (ap (λ (x : Ending K V P N). x.outcome) h.0.0)) (inr refl)

  pub piece_all : (piece : Carried K V P) → Completed m rules source (PieceOf piece) k
      (Some o) ended old f new g
      → AllAre (λ x. m.same k.1 x ≡ true) (λ reason. IsRefusal reason ⊎ (reason ≡ WrongKey)) (length o.tokens)
      ended.outcome
  piece_all piece h = piece_by (is_of m old (rules.hash piece.kept.key) piece k (shard_at old k.0)) piece refl h
