-- Handles by name: a hold is a get, and a name gives a handle back as an entry does.
use Rattle.std.proofs.Common.{◌≡◌, ℕ, ◌<◌, Option, Some, None, Ok, Err, Bool, true, false, inl, inr, refl, sym, ◌∙◌, ap, subst, [], ◌∷◌, length, List}
use Rattle.std.proofs.Math.Logic.{∥∥₁_elim}
use Rattle.std.proofs.Props.{props}
use Rattle.std.specs.Prelude.{Result, IfOk, IfSome, IfNone, is_some, option_map, ⊤}
use Rattle.std.specs.Option.{option_to_list}
use Rattle.std.specs.Cmp.{IsEquivalence}
use Rattle.foyer_policy.specs.Policy.{IsPolicy}
use Rattle.foyer_policy.specs.declared.error.Reason.{Reason}
use Rattle.foyer_policy.specs.declared.error.Reason.TheVariants.{Handles}
use Rattle.foyer_policy.specs.declared.types.Event.{Event}
use Rattle.foyer_policy.specs.declared.types.Event.TheVariants.{Remove}
use Rattle.foyer_core.specs.declared.hold.Hold.{Hold}
use Rattle.foyer_core.specs.declared.record.Data.{Data}
use Rattle.foyer_core.specs.Bulk.{TakesRecordOut}
use Rattle.foyer_core.specs.Core.{Core, AtShard, shard_of}
use Rattle.foyer_core.specs.Holds.{Holds, one_named}
use Rattle.foyer_core.specs.Laws.{HandlesStay}
use Rattle.foyer_core.specs.Observed.{IsTold, after_leaves, known}
use Rattle.foyer_core.specs.Pieces.{is_in}
use Rattle.foyer_core.specs.State.{Meaning, State}
use Rattle.foyer_core.specs.Steps.{Gets, GivesBack, Leave}
use Rattle.foyer_core.specs.Values.{Gone, Held}
use Rattle.foyer_core.proofs.CallsTold.{stays_so}
use Rattle.foyer_core.proofs.CoreLaws.{gives_at}
use Rattle.foyer_core.proofs.CoreTold.{AreSound, at_told}
use Rattle.foyer_core.proofs.LeaveLemmas.{leave-rests}
use Rattle.foyer_core.proofs.Origins.{RecordsFrom, from_same}
use Rattle.foyer_core.proofs.ShardTold.{one_told, same_index, same_told, stands}
use Rattle.foyer_core.proofs.Staying.{RecordsStay, leave_stays, nothing, one, stay_same}

pub some_weaker : {A : Type 0} (P Q : A → Type 0) (o : Option A) → ((a : A) → P a → Q a) → IfSome o P → IfSome o Q
some_weaker P Q None f h = tt
some_weaker P Q (Some a) f h = f a h

pub none_weaker : {A : Type 0} (P Q : Type 0) (o : Option A) → (P → Q) → IfNone o P → IfNone o Q
none_weaker P Q None f h = f h
none_weaker P Q (Some a) f h = tt

-- what is given back, beside nothing else
pub given_alone : {A B : Type 0} (P : A → Type 0) (r : Result A B) → IfOk r P → IfOk r (λ a. ⊤ × P a)
given_alone P (Ok a) h = (tt, h)
given_alone P (Err e) h = tt

module _ {K V P View C : Type 0} (m : Meaning K P View C) where
  -- a hold is a get
  pub record Got (now : ℕ) (old : State K V P View) (k : ℕ × K) (new : State K V P View) : Type 0 where
    pub answer : Result (Option (Held K V P)) Reason
    pub gets : Gets m now old k answer new

  pub holds_got : (now : ℕ) (old : State K V P View) (k : ℕ × K) (answer : Result (Option Hold) Reason)
      (new : State K V P View) → Holds m now old k answer new → Got now old k new
  holds_got now old k (Ok None) new h = record { answer = Ok None; gets = h }
  holds_got now old k (Ok (Some hold)) new h = record { answer = Ok (Some h.0); gets = h.3 }
  holds_got now old k (Err Handles) new h = record { answer = Err Handles; gets = h }
  holds_got now old k (Err _) new h = absurd h

  -- a record that is taken out, as a leave
  pub taken_leave : (old : State K V P View) (id : ℕ) (gone : Gone K V P) (new : State K V P View) →
      TakesRecordOut m old id gone new →
      Leave m Remove (id ∷ []) old ((Remove, gone) ∷ []) (m.policy.remove old.view id) new
  taken_leave old id gone new h = (h.rec, h.there, ap (λ (g : Gone K V P). (Remove, g)) h.gone_is, h.after)

  -- a record is taken out where it is in the index, and else nothing changes
  pub record Taken (old : State K V P View) (id : ℕ) (left : Option (Gone K V P)) (new : State K V P View) : Type 0
    where
      pub resident : is_some left ≡ is_in (old.records id)
      pub removed : IfSome left (λ gone. TakesRecordOut m old id gone new)
      pub none : IfNone left (new ≡ old)

  module _ (old : State K V P View) (id : ℕ) (left : Option (Gone K V P)) (new : State K V P View)
      (taken : IfSome left (λ gone. TakesRecordOut m old id gone new)) (none : IfNone left (new ≡ old)) where
    -- no record comes in
    pub out_from : (New : Data K V P → Type 0) → RecordsFrom New old new
    out_from New = go left taken none where
      go : (o : Option (Gone K V P)) → IfSome o (λ gone. TakesRecordOut m old id gone new) → IfNone o (new ≡ old) →
          RecordsFrom New old new
      go None t n = from_same New old new n
      go (Some gone) t n = λ j r there. inl ((leave-rests m Remove (id ∷ []) old ((Remove, gone) ∷ [])
          (m.policy.remove old.view id) new (taken_leave old id gone new t)).records j r there)

    -- and those with a handle stay
    pub out_stay : RecordsStay nothing old new
    out_stay = go left taken none where
      go : (o : Option (Gone K V P)) → IfSome o (λ gone. TakesRecordOut m old id gone new) → IfNone o (new ≡ old) →
          RecordsStay nothing old new
      go None t n = stay_same old new n
      go (Some gone) t n = leave_stays m Remove (id ∷ []) old ((Remove, gone) ∷ []) (m.policy.remove old.view id) new
          (taken_leave old id gone new t)

module _ {K V P View S W A : Type 0} (old new : Core K V P View S W A) where
  -- a handle is given back by its name
  pub named_stay : (hold : Hold) → AtShard (RecordsStay (one hold.id)) hold.hash old new →
      HandlesStay (one_named old hold) old new
  named_stay hold at e r there less =
      gives_at old new (record e { id = hold.id; kept = record e.kept { hash = hold.hash } }) at e r there less

module _ {K V P View C S W A : Type 0} (m : Meaning K P View C) (laws : IsEquivalence m.same)
    (good : IsPolicy m.policy) (hash : K → ℕ) (equal : (a b : K) → m.same a b ≡ true → hash a ≡ hash b)
    (old new : Core K V P View S W A) (sound : AreSound m laws good hash equal (length old.shards) old.shards) where
  -- what is told of a record that is taken out of a shard's index, or of none
  abbrev left_of : Option (Gone K V P) → List (Event × Gone K V P)
  left_of left = option_to_list (option_map (λ (g : Gone K V P). (Remove, g)) left)

  pub taken_told : (id h : ℕ) (left : Option (Gone K V P)) → AtShard (λ s t. Taken m s id left t) h old new →
      IsTold m.same hash old (left_of left) new
  taken_told id h None at = stays_so m laws good hash equal old new sound (λ s t. Taken m s id None t) h at
      (same_index at.before at.after at.stepped.none)
  taken_told id h (Some gone) at =
      let s = sound (shard_of old h) at.before at.there in
      let ls : List (Event × Gone K V P) = (Remove, gone) ∷ [] in
      let st = stands m laws good at.before s.kept in
      at_told m laws good hash equal old new (λ s t. Taken m s id (Some gone) t) h at
      (after_leaves m.same (known hash old) ls)
      (one_told m laws good hash equal (length old.shards) (shard_of old h) Remove id at.before ls
      (m.policy.remove at.before.view id) at.after
      (λ r there. (
        st.under id (∥∥₁_elim s.kept (hlevel props) (λ k. k.resident id r there
            (sym (ap is_in there) ∙ sym at.stepped.resident))) r there,
        s.at id r there,
      ))
      (taken_leave m at.before id gone at.after at.stepped.removed) (known hash old))
