-- An insert of any record: what stays, and what it comes in as.
use Rattle.std.proofs.Common.{◌≡◌, ℕ, List, Option, Bool, true, false, sym, ◌∙◌, ap, subst, arith}
use Rattle.std.specs.Prelude.{if◌then◌else◌}
use Rattle.std.proofs.Math.Logic.{∥∥₁_elim}
use Rattle.std.proofs.Props.{props}
use Rattle.foyer_policy.specs.Properties.{is_phantom}
use Rattle.foyer_policy.specs.declared.types.Event.{Event}
use Rattle.foyer_policy.specs.declared.types.Location.{Location}
use Rattle.foyer_policy.specs.declared.error.Reason.{Reason}
use Rattle.foyer_policy.specs.declared.error.Reason.TheVariants.{Ids, Handles, NoMemory}
use Rattle.foyer_policy.specs.declared.types.Source.{Source}
use Rattle.foyer_core.specs.declared.record.Data.{Data}
use Rattle.foyer_policy.specs.declared.types.Source.TheVariants.{Memory}
use Rattle.foyer_core.specs.Pieces.{is_in, held_or, returning, Returns, ReturnsBy, RefusesReturn, RefusesReturnBy}
use Rattle.foyer_core.specs.Values.{Carried, Gone, Held, Incoming}
use Rattle.foyer_core.specs.State.{Meaning, State, IsKept, handles_in, handles_of, coming_in, MakesPlain, is_phantom_record}
use Rattle.foyer_core.specs.Steps.{newcomer, Inserts, InsertsBy, RefusesBy}
use Rattle.foyer_core.proofs.Staying.{RecordsStay, GoesOnAs, nothing, stay_same, new_goes_on, handles_stay, refused_handles_stay, holds_stay, inserts_stay, refused_insert_stays}

-- properties that make a plain record come in as they are
pub comes_same : {P : Type 0} (phantom : P → Option Bool) (location : P → Option Location)
    (with_phantom : P → Bool → P) (p : P)
    → MakesPlain phantom location p → coming_in location with_phantom true p ≡ p
comes_same {P} phantom location with_phantom p h = ap (λ (b : Bool). if b then with_phantom p true else p) h.1

module _ {K V P View C : Type 0} (m : Meaning K P View C) where
  pub inserted_stays : (b : Bool) (source : Source) (old : State K V P View) (inc : Incoming K V P)
      (ls : List (Event × Gone K V P)) (entry : Held K V P) (new : State K V P View) →
      InsertsBy m b source old inc ls entry new
      → GoesOnAs old inc → RecordsStay nothing old new
  inserted_stays true source old inc ls entry new h same =
      holds_stay m old inc new h.replaced h.last h.gives_way h.after same
  inserted_stays false source old inc ls entry new h same = inserts_stay m source old inc ls entry new h same

  pub refused_stay : (b : Bool) (old : State K V P View) (inc : Incoming K V P) (reason : Reason)
      (ls : List (Event × Gone K V P)) (new : State K V P View) → RefusesBy m b old inc reason ls new
      → RecordsStay nothing old new
  refused_stay true old inc Ids ls new h = stay_same old new h.2
  refused_stay true old inc Handles ls new h = stay_same old new h.3
  refused_stay true old inc NoMemory ls new h = stay_same old new h.2
  refused_stay true old inc _ ls new h = absurd h
  refused_stay false old inc reason ls new h = refused_insert_stays m old inc reason ls new h

  -- the records of a shard stay where a new one comes in
  pub came_stays : (source : Source) (old new : State K V P View) (d : Data K V P) (handles : ℕ)
      (ls : List (Event × Gone K V P)) (entry : Held K V P) → ∥ IsKept m old ∥₁ →
      Inserts m source old (newcomer old d handles) ls entry new → RecordsStay nothing old new
  came_stays source old new d handles ls entry kept h =
      inserted_stays (is_phantom_record m d) source old (newcomer old d handles) ls entry new h
      (new_goes_on old d handles (λ id r there. ∥∥₁_elim kept (hlevel props) (λ k. k.fresh id r there)))

  -- a record is plain, whose properties are what the filter made of these
  pub made_plain : (location : P → Option Location) (with_phantom : P → Bool → P) (admitted : Bool) (p : P) →
      MakesPlain m.phantom location p → admitted ≡ true
      → (d : Data K V P) → d.properties ≡ coming_in location with_phantom admitted p → is_phantom_record m d ≡ false
  made_plain location with_phantom admitted p plain sure d is =
      ap (λ (q : P). is_phantom (m.phantom q))
      (is ∙ ap (λ (b : Bool). coming_in location with_phantom b p) sure
      ∙ comes_same m.phantom location with_phantom p plain) ∙ plain.0

  -- and where a piece's record comes in
  pub returns_stay : (old new : State K V P View) (piece : Carried K V P) (more : ℕ) (ls : List (Event × Gone K V P))
      (entry : Held K V P) → Returns m old piece more ls entry new → RecordsStay nothing old new
  returns_stay old new piece more ls entry h = go (is_in (old.records piece.id)) h where
    same : GoesOnAs old (returning old piece more)
    same r there = (
      ap (held_or piece.kept) there,
      (let n : handles_in old piece.id ≡ r.handles = ap handles_of there in omega arith),
    )

    go : (b : Bool) → ReturnsBy m b old piece more ls entry new → RecordsStay nothing old new
    go true h = subst (RecordsStay nothing old) (sym h.after) (handles_stay old piece.id more h.rec h.there)
    go false h = inserted_stays (is_phantom_record m (returning old piece more).kept) Memory old
        (returning old piece more) ls entry new h same

  pub refused_return_stays : (old new : State K V P View) (piece : Carried K V P) (more : ℕ) (reason : Reason)
      (ls : List (Event × Gone K V P)) → RefusesReturn m old piece more reason ls new → RecordsStay nothing old new
  refused_return_stays old new piece more reason ls h = go (is_in (old.records piece.id)) h where
    go : (b : Bool) → RefusesReturnBy m b old piece more reason ls new → RecordsStay nothing old new
    go true h = refused_handles_stay old piece.id more reason new h.1
    go false h = refused_stay (is_phantom_record m (returning old piece more).kept) old (returning old piece more)
        reason ls new h
