-- Who waits for a fetch that ends with a value gets an entry of that value.
use Rattle.std.proofs.Common.{◌≡◌, ℕ, Bool, true, false, List, Option, Some, None, Result, Ok, sym, ◌∙◌, ap, subst, arith}
use Rattle.std.specs.Prelude.{All, IfOk}
use Rattle.std.proofs.lemmas.List.Elements.{All-replicate}
use Rattle.foyer_policy.specs.declared.error.Reason.{Reason}
use Rattle.foyer_policy.specs.declared.types.Event.{Event}
use Rattle.foyer_policy.specs.declared.types.Source.{Source}
use Rattle.foyer_core.specs.declared.outcome.FetchTarget.TheVariants.{Entry}
use Rattle.foyer_core.specs.declared.outcome.Outcome.{Outcome}
use Rattle.foyer_core.specs.declared.outcome.Outcome.TheVariants.{Entries, Fault, None as Nothing}
use Rattle.foyer_core.specs.Core.{Core}
use Rattle.foyer_core.specs.CoreFetches.{Completed}
use Rattle.foyer_core.specs.Fetching.{Arrives}
use Rattle.foyer_core.specs.Inflight.{Opens, OpenFetch}
use Rattle.foyer_core.specs.Rules.{Rules}
use Rattle.foyer_policy.specs.Moments.{is_expired}
use Rattle.foyer_core.specs.State.{Meaning, State, coming_in, is_phantom_record}
use Rattle.foyer_core.specs.Steps.{Inserts, InsertsBy}
use Rattle.foyer_core.specs.declared.record.Data.{Data}
use Rattle.foyer_core.specs.Values.{Answered, Gone, Held, Incoming}
use Rattle.foyer_core.specs.Waited.{Ending, got_of, handed_out}

module _ {K V P View C : Type 0} (m : Meaning K P View C) where
  -- an insert's entry has the data that came in
  entry_by : (phantom : Bool) (source : Source) (old : State K V P View) (i : Incoming K V P)
      (ls : List (Event × Gone K V P)) (entry : Held K V P) (new : State K V P View)
      → InsertsBy m phantom source old i ls entry new → entry.kept ≡ i.kept
  entry_by true source old i ls entry new did = ap (λ (e : Held K V P). e.kept) did.entry_is
  entry_by false source old i ls entry new did = ap (λ (e : Held K V P). e.kept) did.entry_is

  pub entry_has : (source : Source) (old : State K V P View) (i : Incoming K V P) (ls : List (Event × Gone K V P))
      (entry : Held K V P) (new : State K V P View) → Inserts m source old i ls entry new → entry.kept ≡ i.kept
  entry_has source old i ls entry new did = entry_by (is_phantom_record m i.kept) source old i ls entry new did

  -- so has each entry of those who wait for it
  arrives : (source : Source) (old : State K V P View) (i : Incoming K V P) (outcome : Outcome K V P)
      (got : Result (Option (List (Held K V P))) Reason) (ls : List (Event × Gone K V P)) (new : State K V P View)
      → got ≡ got_of outcome → Arrives m source old i got ls new →
      IfOk (handed_out outcome) (All (λ e. e.kept.value ≡ i.kept.value))
  arrives source old i (Fault reason) got ls new is came = tt
  arrives source old i Nothing got ls new is came =
      absurd (subst (λ (x : Result (Option (List (Held K V P))) Reason). Arrives m source old i x ls new) is came)
  arrives source old i (Entries entries) got ls new is came =
      let here : Arrives m source old i (Ok (Some entries.items)) ls new =
      subst (λ (x : Result (Option (List (Held K V P))) Reason). Arrives m source old i x ls new) is came in
      let has : here.0.kept.value ≡ i.kept.value =
      ap (λ (d : Data K V P). d.value) (entry_has source old i ls here.0 new here.1) in
      subst (λ (x : List (Held K V P)). All (λ e. e.kept.value ≡ i.kept.value) x) (sym here.2)
      (All-replicate (λ (e : Held K V P). e.kept.value ≡ i.kept.value) i.handles here.0 has)

module _ {K V P View C S W A N R : Type 0} (m : Meaning K P View C) (rules : Rules K V P) (source : Source) (value : V) (p : P) (k : ℕ × K)
    (ended : Ending K V P N) (old : Core K V P View S W A) (f : List (Opens K N R)) (new : Core K V P View S W A)
    (g : List (Opens K N R)) where
  -- those who wait for a fetch get entries of the value that it ends with, where they get some
  pub served : (place : Option (OpenFetch N R)) (outcome : Outcome K V P) → ended.outcome ≡ got_of outcome
      → Completed m rules source (Entry value p) k place ended old f new g →
      IfOk (handed_out outcome) (All (λ e. e.kept.value ≡ value))
  served None (Fault reason) got did = tt
  served None Nothing got did = λ n d h. absurd (omega arith)
  served None (Entries entries) got did =
      (let none : ended.outcome ≡ Ok None = ap (λ (e : Ending K V P N). e.outcome) did.0 in absurd cc)
  served (Some o) outcome got did =
      let came = did.completes.arrived in
      arrives m source came.before _ outcome ended.outcome ended.leaves came.after got came.stepped

-- what comes in with default properties of a cache never expires
pub lives : (now : ℕ) (admitted : Bool) (p q : Answered) → p.expires ≡ None
    → q ≡ coming_in (λ _. None) (λ p b. record p { phantom = Some b }) admitted p → is_expired now q.expires ≡ false
lives now true p q none is = ap (λ (x : Answered). is_expired now x.expires) is
    ∙ ap (λ (e : Option ℕ). is_expired now e) none
lives now false p q none is = ap (λ (x : Answered). is_expired now x.expires) is
    ∙ ap (λ (e : Option ℕ). is_expired now e) none
