-- What a look-up that may lead to a fetch makes of a core and its open fetches.
use Rattle.std.proofs.Common.{◌≡◌, ℕ, ◌+◌, ◌%◌, true, List, [], length, Option, Some, None, Ok, Err, refl, sym, ap, ◌∙◌, arith}
use Rattle.std.specs.Prelude.{slice_get, slice_set}
use Rattle.std.specs.Cmp.{IsEquivalence}
use Rattle.foyer_policy.specs.declared.error.Reason.{Reason}
use Rattle.foyer_core.specs.declared.inflight.Enqueue.{Enqueue}
use Rattle.foyer_core.specs.declared.outcome.Lookup.TheVariants.{Hit, Lead, Wait}
use Rattle.foyer_core.specs.declared.inflight.Enqueue.TheVariants.{Lead as LeadsFetch, Wait as WaitsFetch}
use Rattle.foyer_core.specs.Core.{Core, AtShard, shard_of}
use Rattle.foyer_core.specs.CoreFetches.{AtOpen}
use Rattle.foyer_core.specs.Fetching.{Enqueues, LooksUp, RefusesLookUp}
use Rattle.foyer_core.specs.Indexer.{same_key}
use Rattle.foyer_core.specs.Inflight.{AreOpen, Opens}
use Rattle.foyer_core.specs.State.{Meaning, State, hit}
use Rattle.foyer_core.specs.Steps.{Gets}
use Rattle.foyer_core.specs.Values.{Held}
use Rattle.foyer_session.specs.Waits.{SoManyWait}
use Rattle.foyer_session.proofs.LedgerFetches.{enqueued_at}
use Rattle.foyer_session.proofs.OwnLemmas.{set_same}
use Rattle.foyer_session.proofs.StepLemmas.{gets_refused}
use Rattle.foyer_session.proofs.WaitsLemmas.{settled_waiting}

module _ {K V P View C S W A : Type 0} (m : Meaning K P View C) (now : ℕ) (core : Core K V P View S W A)
    (f : List (Opens K (Unit {0}) ℕ)) (new : Core K V P View S W A) (g : List (Opens K (Unit {0}) ℕ)) (k : ℕ × K)
    (later : Option ℕ) where
  -- where the shard and its open fetches stay, all does
  core_stays : (step : State K V P View → Opens K (Unit {0}) ℕ → State K V P View → Opens K (Unit {0}) ℕ → Type 0)
      (at : AtOpen step k.0 core f new g) → at.after ≡ at.before → new ≡ core
  core_stays step at same =
      at.rest ∙ ap (λ (l : List (State K V P View)). record core { shards = l })
      (ap (λ (x : State K V P View). slice_set core.shards (shard_of core k.0) x) same
      ∙ set_same core.shards (shard_of core k.0) at.before at.there)

  fetches_stay : (step : State K V P View → Opens K (Unit {0}) ℕ → State K V P View → Opens K (Unit {0}) ℕ → Type 0)
      (at : AtOpen step k.0 core f new g) → at.open_after ≡ at.open_before → g ≡ f
  fetches_stay step at same = at.open_rest ∙ ap (λ (x : Opens K (Unit {0}) ℕ). slice_set f (shard_of core k.0) x) same
      ∙ set_same f (shard_of core k.0) at.open_before at.open_there

  -- a hit is a get, and the fetches stay
  pub looked_hit : (entry : Held K V P) → AtOpen (λ s x t y. LooksUp m now s x k tt later (Ok (Hit entry)) t y) k.0 core f
      new g → AtShard (λ s t. Gets m now s k (Ok (Some entry)) t) k.0 core new × (g ≡ f)
  looked_hit entry at = (
    record { before = at.before; after = at.after; there = at.there; stepped = at.stepped.0; rest = at.rest },
    fetches_stay (λ s x t y. LooksUp m now s x k tt later (Ok (Hit entry)) t y) at at.stepped.1,
  )

  -- a miss leaves the core
  enqueued_core : (answer : Enqueue ℕ)
      (at : AtOpen (λ s x t y. Enqueues m now s x k tt later answer t y) k.0 core f new g) → new ≡ core
  enqueued_core answer at = core_stays (λ s x t y. Enqueues m now s x k tt later answer t y) at at.stepped.3

  pub led_core : (fetch token : ℕ) (required : Option ℕ) →
      AtOpen (λ s x t y. LooksUp m now s x k tt later (Ok (Lead fetch token required)) t y) k.0 core f new g → new ≡ core
  led_core fetch token required at = enqueued_core (LeadsFetch fetch token required) at

  pub waited_core : (token : ℕ) → AtOpen (λ s x t y. LooksUp m now s x k tt later (Ok (Wait token)) t y) k.0 core f new g
      → new ≡ core
  waited_core token at = enqueued_core (WaitsFetch token) at

  -- and one more waits
  module _ (laws : IsEquivalence m.same)
      (sound : (i : ℕ) (x : Opens K (Unit {0}) ℕ) → slice_get f i ≡ Some x → AreOpen m.same x)
      (alike : (i : ℕ) (x : Opens K (Unit {0}) ℕ) → slice_get f i ≡ Some x → (p q : ℕ × K) →
      same_key m.same p q ≡ true → x.by_key p ≡ x.by_key q)
      (long : length f ≡ length core.shards) (count : ℕ) (waits : ∥ SoManyWait f count ∥₁) where
    enqueued_waits : (answer : Enqueue ℕ) →
        AtOpen (λ s x t y. Enqueues m now s x k tt later answer t y) k.0 core f new g → ∥ SoManyWait g (count + 1) ∥₁
    enqueued_waits answer at =
        let home : k.0 % length f ≡ shard_of core k.0 = ap (λ (n : ℕ). k.0 % n) long in
        let is : g ≡ slice_set f (shard_of core k.0) _ = at.open_rest
        ∙ ap (λ (x : Opens K (Unit {0}) ℕ). slice_set f (shard_of core k.0) x) at.stepped.4 in
        settled_waiting f g _ []
        (enqueued_at m.same f sound alike laws k (shard_of core k.0) at.open_before at.open_there home now tt later g
        at.open_before.next_token is refl) count (count + 1) (omega arith) waits

    pub led_waits : (fetch token : ℕ) (required : Option ℕ) →
        AtOpen (λ s x t y. LooksUp m now s x k tt later (Ok (Lead fetch token required)) t y) k.0 core f new g →
        ∥ SoManyWait g (count + 1) ∥₁
    led_waits fetch token required at = enqueued_waits (LeadsFetch fetch token required) at

    pub waited_waits : (token : ℕ) → AtOpen (λ s x t y. LooksUp m now s x k tt later (Ok (Wait token)) t y) k.0 core f new
        g → ∥ SoManyWait g (count + 1) ∥₁
    waited_waits token at = enqueued_waits (WaitsFetch token) at

  refused_stays : (o : Option ℕ) (s : State K V P View) (x : Opens K (Unit {0}) ℕ) (reason : Reason)
      (t : State K V P View) → RefusesLookUp m now o s x k reason t → t ≡ s
  refused_stays None s x reason t h = h.1
  refused_stays (Some id) s x reason t h = gets_refused m now core new k s t reason h

  -- a refusal changes nothing
  pub looked_refused : (reason : Reason) → AtOpen (λ s x t y. LooksUp m now s x k tt later (Err reason) t y) k.0 core f
      new g → (new ≡ core) × (g ≡ f)
  looked_refused reason at =
      let step = λ (s : State K V P View) (x : Opens K (Unit {0}) ℕ) (t : State K V P View)
      (y : Opens K (Unit {0}) ℕ). LooksUp m now s x k tt later (Err reason) t y in (
        core_stays step at (refused_stays (hit m now at.before k) at.before at.open_before reason at.after at.stepped.0),
        fetches_stay step at at.stepped.1,
      )
