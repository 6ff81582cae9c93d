-- The data of an entry are those that were asked for.
use Rattle.std.proofs.Common.{◌≡◌, ℕ, Bool, true, false, Option, Some, None, Ok, Err, refl, ap, subst, sym, ◌∙◌}
use Rattle.std.proofs.Math.Logic.{∥∥₁_elim}
use Rattle.std.proofs.Props.{props}
use Rattle.std.specs.Prelude.{IfOk, IfSome, Result, ◌&&◌}
use Rattle.foyer_policy.specs.declared.error.Reason.{Reason}
use Rattle.foyer_core.specs.declared.record.Data.{Data}
use Rattle.foyer_core.specs.NoEntry.{Peeks, Reads, Sees, SeesLive}
use Rattle.foyer_core.specs.State.{Meaning, State, IsKept, is_expired_in}
use Rattle.foyer_core.specs.Steps.{ClonesHandle, Gets, Removes}
use Rattle.foyer_core.specs.Values.{Gone, Held, Rec}
use Rattle.foyer_core.proofs.Hits.{hit_fresh, hit_index}

second : (a b : Bool) → (a && b) ≡ true → b ≡ true
second true b h = h
second false true h = refl
second false false h = h

module _ {K V P View C : Type 0} (m : Meaning K P View C) (old : State K V P View) (kept : ∥ IsKept m old ∥₁)
    (k : ℕ × K) (new : State K V P View) where
  -- an id that the index has under a key is that of a record whose key equals it
  led_key : (id : ℕ) (r : Rec K V P) → old.index k ≡ Some id → old.records id ≡ Some r → m.same k.1 r.kept.key ≡ true
  led_key id r led there = ∥∥₁_elim kept (hlevel props) (λ h. second _ _ ((h.indexed k id led).1 r there))

  pub got_key : (now : ℕ) (r : Result (Option (Held K V P)) Reason) → Gets m now old k r new →
      IfOk r (λ found. IfSome found (λ entry. m.same k.1 entry.kept.key ≡ true))
  got_key now (Ok None) h = tt
  got_key now (Ok (Some entry)) h = subst (λ (d : Data K V P). m.same k.1 d.key ≡ true)
      (sym (ap (λ (e : Held K V P). e.kept) h.4)) (led_key entry.id h.0 (hit_index m now old k entry.id h.1) h.2)
  got_key now (Err reason) h = tt

  pub removed_key : (r : Result (Option (Held K V P × Gone K V P)) Reason) → Removes m old k r new →
      IfOk r (λ taken. IfSome taken (λ out. m.same k.1 out.0.kept.key ≡ true))
  removed_key (Ok None) h = tt
  removed_key (Ok (Some out)) h = subst (λ (d : Data K V P). m.same k.1 d.key ≡ true)
      (sym (ap (λ (e : Held K V P). e.kept) h.4)) (led_key out.0.id h.0 h.1 h.2)
  removed_key (Err reason) h = tt

-- and so is the value that a look sees
module _ {K V P View C T : Type 0} (m : Meaning K P View C) (s : State K V P View) (kept : ∥ IsKept m s ∥₁) (now : ℕ)
    (k : ℕ × K) (sees : V → T → Type 0) where
  pub sees_live : (seen : T) → Sees m now s k sees seen → SeesLive {P = P} m.same m.expires now k.1 sees seen
  sees_live seen h = record {
    kept = h.rec.kept;
    asked = led_key m s kept k s h.id h.rec (hit_index m now s k h.id h.hits) h.there;
    live = ap (is_expired_in m.expires now) (sym h.there) ∙ hit_fresh m now s k h.id h.hits;
    made = h.made;
  }

  pub peeks_live : (seen : Option T) → Peeks m now s k sees seen →
      IfSome seen (SeesLive {P = P} m.same m.expires now k.1 sees)
  peeks_live None h = tt
  peeks_live (Some seen) h = sees_live seen h

  pub reads_live : (result : Result (Option T) Reason) (new : State K V P View) → Reads m now s k sees result new →
      IfOk result (λ found. IfSome found (SeesLive {P = P} m.same m.expires now k.1 sees))
  reads_live (Ok None) new h = tt
  reads_live (Ok (Some seen)) new h = sees_live seen h.seen
  reads_live (Err reason) new h = tt

pub cloned_data : {K V P View : Type 0} (old : State K V P View) (entry : Held K V P) (r : Result (Held K V P) Reason)
    (new : State K V P View) → ClonesHandle old entry r new → IfOk r (λ clone. clone.kept ≡ entry.kept)
cloned_data old entry (Ok clone) new h = ap (λ (e : Held _ _ _). e.kept) h.3
cloned_data old entry (Err reason) new h = tt
