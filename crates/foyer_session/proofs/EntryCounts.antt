-- A touch keeps each record's handles; a remove and a clone give one more of the record of the entry.
use Rattle.std.proofs.Common.{◌≡◌, ℕ, ◌+◌, [], ◌∷◌, Some, None, Result, Ok, Err, refl, ap, ◌∙◌, Bool, true, false}
use Rattle.foyer_policy.specs.declared.types.Event.TheVariants.{Remove}
use Rattle.foyer_policy.specs.declared.error.Reason.{Reason}
use Rattle.foyer_policy.specs.declared.error.Reason.TheVariants.{Handles, NoMemory}
use Rattle.foyer_core.specs.Values.{Rec, Gone, Held}
use Rattle.foyer_core.specs.State.{Meaning, State}
use Rattle.foyer_core.specs.Steps.{after_handle, after_handles, Touches, Removes, RefusesHandle, RefusesHandles, ClonesHandle}
use Rattle.foyer_session.specs.Owns.{Counts}
use Rattle.foyer_session.proofs.CountLemmas.{gained, one_more, leave_alike, alike_counts, more_counts, gets_counts, gives_back_counts, gives_back_number}

-- a refused handle changes no shard
pub refusal_same : {K V P View : Type 0} (old new : State K V P View) (id : ℕ) (reason : Reason) →
    RefusesHandle old id reason new → new ≡ old
refusal_same old new id Handles h = h.3
refusal_same old new id NoMemory h = h.3
refusal_same old new id _ h = absurd h

-- nor do several that are refused together
pub refusals_same : {K V P View : Type 0} (old new : State K V P View) (id more : ℕ) (reason : Reason) →
    RefusesHandles old id more reason new → new ≡ old
refusals_same old new id more Handles h = h.3
refusals_same old new id more NoMemory h = h.3
refusals_same old new id more _ h = absurd h

module _ {K V P View C : Type 0} (m : Meaning K P View C) where
  -- a touch, whatever it answers
  pub touches_counts : (now : ℕ) (old : State K V P View) (k : ℕ × K) (result : Result Bool Reason) (new : State K V P View) →
      Touches m now old k result new → (held : ℕ → ℕ) → Counts old held → Counts new held
  touches_counts now old k (Ok true) new h held counts =
      gives_back_counts m h.1 h.0.id None new h.3 held (gets_counts m now old k h.0 h.1 h.2 held counts)
  touches_counts now old k (Ok false) new h held counts = rw h.1 counts
  touches_counts now old k (Err Handles) new h held counts = rw h.5 counts
  touches_counts now old k (Err _) new h held counts = absurd h

  pub touches_number : (now : ℕ) (old : State K V P View) (k : ℕ × K) (result : Result Bool Reason) (new : State K V P View) →
      Touches m now old k result new → new.number ≡ old.number
  touches_number now old k (Ok true) new h = gives_back_number m h.1 h.0.id None new h.3
      ∙ ap (λ (x : State K V P View). x.number) h.2.5
  touches_number now old k (Ok false) new h = ap (λ (x : State K V P View). x.number) h.1
  touches_number now old k (Err Handles) new h = ap (λ (x : State K V P View). x.number) h.5
  touches_number now old k (Err _) new h = absurd h

  pub handles_counts : (old : State K V P View) (id more : ℕ) (r : Rec K V P) → old.records id ≡ Some r →
      (held : ℕ → ℕ) → Counts old held → Counts (after_handles old id more r) (gained held id more)
  handles_counts old id more r there held counts =
      more_counts m old (after_handles old id more r) id r (Some (record r { handles = r.handles + more })) held more
      there refl refl counts

  pub handle_counts : (old : State K V P View) (id : ℕ) (r : Rec K V P) → old.records id ≡ Some r → (held : ℕ → ℕ) →
      Counts old held → Counts (after_handle old id r) (one_more held id)
  handle_counts old id r there held counts =
      more_counts m old (after_handle old id r) id r (Some (record r { handles = r.handles + 1 })) held 1
      there refl refl counts

  pub removes_counts : (old : State K V P View) (k : ℕ × K) (entry : Held K V P) (gone : Gone K V P)
      (new : State K V P View)
      → Removes m old k (Ok (Some (entry, gone))) new → (held : ℕ → ℕ) → Counts old held →
      Counts new (one_more held entry.id)
  removes_counts old k entry gone new h held counts =
      alike_counts m (after_handle old entry.id h.0) new (one_more held entry.id)
      (leave_alike m Remove (entry.id ∷ []) (after_handle old entry.id h.0) ((Remove, gone) ∷ [])
      (m.policy.remove old.view entry.id) new h.5)
      (handle_counts old entry.id h.0 h.2 held counts)

  pub removes_number : (old : State K V P View) (k : ℕ × K) (entry : Held K V P) (gone : Gone K V P)
      (new : State K V P View)
      → Removes m old k (Ok (Some (entry, gone))) new → new.number ≡ old.number
  removes_number old k entry gone new h =
      (leave_alike m Remove (entry.id ∷ []) (after_handle old entry.id h.0) ((Remove, gone) ∷ [])
      (m.policy.remove old.view entry.id) new h.5).number

  pub clones_counts : (old : State K V P View) (entry clone : Held K V P) (new : State K V P View)
      → ClonesHandle old entry (Ok clone) new → (held : ℕ → ℕ) → Counts old held → Counts new (one_more held clone.id)
  clones_counts old entry clone new h held counts = rw (h.3, h.4) (handle_counts old entry.id h.0 h.1 held counts)
