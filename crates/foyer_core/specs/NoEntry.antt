-- The steps of calls that return no entry: each is a step that returns one, and that entry's way back.
use Rattle.std.specs.Prelude.{◌≡◌, ℕ, List, Option, Some, None, Result, Ok, Err, Bool, true, false, IfOk, IfSome}
use Rattle.foyer_policy.specs.Moments.{is_expired}
use Rattle.foyer_policy.specs.declared.types.Event.{Event}
use Rattle.foyer_policy.specs.declared.types.Source.TheVariants.{Outer}
use Rattle.foyer_policy.specs.declared.error.Reason.{Reason}
use Rattle.foyer_policy.specs.declared.error.Reason.TheVariants.{Handles}
use Rattle.foyer_core.specs.declared.outcome.PutOnto.{PutOnto}
use Rattle.foyer_core.specs.declared.record.Data.{Data}
use Rattle.foyer_core.specs.Core.{AtShard, Core}
use Rattle.foyer_core.specs.Values.{Gone, Held, Incoming, Rec}
use Rattle.foyer_core.specs.State.{Meaning, State, at_moment, hit}
use Rattle.foyer_core.specs.Steps.{GivesBack, Inserts, RefusesInsert, Removes, Touches, newcomer}

-- what left with the entry of a put
abbrev pub last_of : {K V P N : Type 0} → Result (PutOnto K V P N) Reason → Result (Option (Event × Gone K V P)) Reason
last_of (Ok put) = Ok put.last
last_of (Err reason) = Err reason

-- whether anything was found
abbrev pub is_found : {T : Type 0} → Result (Option T) Reason → Result Bool Reason
is_found (Ok None) = Ok false
is_found (Ok (Some _)) = Ok true
is_found (Err reason) = Err reason

-- What a look at the value of a key's record may give, one that is not expired at a moment: `sees` says what it may make
-- of a value, and `expires` when properties say that a record expires.
pub record SeesLive {K V P T : Type 0} (same : K → K → Bool) (expires : P → Option ℕ) (now : ℕ) (key : K)
    (sees : V → T → Type 0) (seen : T) : Type 0 where
  pub kept : Data K V P
  pub asked : same key kept.key ≡ true
  pub live : is_expired now (expires kept.properties) ≡ false
  pub made : sees kept.value seen

module _ {K V P View C : Type 0} (m : Meaning K P View C) where
  -- What a look at the value that a key hits at a moment may give: `sees` says what it may make of a value.
  pub record Sees {T : Type 0} (now : ℕ) (s : State K V P View) (k : ℕ × K) (sees : V → T → Type 0) (seen : T) : Type 0
    where
      pub id : ℕ
      pub rec : Rec K V P
      pub hits : hit m now s k ≡ Some id
      pub there : s.records id ≡ Some rec
      pub made : sees rec.kept.value seen

  -- What a read answers at a moment: a touch, and a look at the value.
  pub record Reads {T : Type 0} (now : ℕ) (old : State K V P View) (k : ℕ × K) (sees : V → T → Type 0)
      (result : Result (Option T) Reason) (new : State K V P View) : Type 0 where
    pub touches : Touches m now old k (is_found result) new
    pub seen : IfOk result (λ found. IfSome found (Sees now old k sees))

  -- What a peek answers at a moment: a look at the value, where the key hits one.
  abbrev pub Peeks : {T : Type 0} → ℕ → State K V P View → ℕ × K → (V → T → Type 0) → Option T → Type 0
  Peeks now s k sees None = hit m now s k ≡ None
  Peeks now s k sees (Some seen) = Sees now s k sees seen

  -- What a put makes that is not refused: an insert, whose entry is given back. `last` leaves with that entry.
  pub record Puts (now : ℕ) (old : State K V P View) (i : Incoming K V P) (ls : List (Event × Gone K V P))
      (last : Option (Event × Gone K V P)) (new : State K V P View) : Type 0 where
    pub entry : Held K V P
    pub mid : State K V P View
    pub inserts : Inserts (at_moment now m) Outer old i ls entry mid
    pub gives_back : GivesBack m mid entry.id last new

  -- what a put answers: it is made, and what left with its entry, or it is refused as an insert is
  abbrev pub PutsAnswering : ℕ → State K V P View → Incoming K V P → Result (Option (Event × Gone K V P)) Reason →
      List (Event × Gone K V P) → State K V P View → Type 0
  PutsAnswering now old i (Ok last) ls new = Puts now old i ls last new
  PutsAnswering now old i (Err reason) ls new = RefusesInsert (at_moment now m) old i reason ls new

  -- A put of a record in the shard of its hash, with a weight that the weighter may give it, and an answer that the
  -- filter may give, as `InsertsWeighed` has it. `result` says what left with its entry.
  pub record PutsWeighed {S W A : Type 0} (now : ℕ) (weighs : ℕ → Type 0) (admits : Bool → Type 0) (hash : ℕ) (key : K)
      (value : V) (properties : Bool → P) (handles : ℕ) (result : Result (Option (Event × Gone K V P)) Reason)
      (ls : List (Event × Gone K V P)) (old new : Core K V P View S W A) : Type 0 where
    pub weight : ℕ
    pub weighed : weighs weight
    pub admitted : Bool
    pub answered : admits admitted
    pub puts : AtShard
        (λ s t. PutsAnswering now s
        (newcomer s
        record { key = key; value = value; properties = properties admitted; hash = hash; weight = weight }
        handles) result ls t)
        hash old new

  -- What a delete answers: a remove, whose entry is given back. It is refused at the limit of handles alone (F9).
  abbrev pub Deletes : State K V P View → ℕ × K → Result (Option (Gone K V P)) Reason → State K V P View → Type 0
  Deletes old k (Ok None) new = Removes m old k (Ok None) new
  Deletes old k (Ok (Some gone)) new = (entry : Held K V P) × (mid : State K V P View)
      × Removes m old k (Ok (Some (entry, gone))) mid × GivesBack m mid entry.id None new
  Deletes old k (Err Handles) new = Removes m old k (Err Handles) new
  Deletes old k (Err _) new = ⊥
