-- What follows for a core from a step of one of its shards.
use Rattle.std.proofs.Common.{◌≡◌, ◌≢◌, ℕ, ◌+◌, ◌%◌, ◌<◌, ◌≤◌, ◌==◌, ◌&&◌, inl, inr, length, List, Option, Some, None, Ok, Err, Bool, true, false, cond, refl, sym, ◌∙◌, ap, subst, arith}
use Rattle.std.proofs.Math.Logic.{∥∥₁_elim}
use Rattle.std.proofs.Math.ListN.{length-set}
use Rattle.std.proofs.Props.{props}
use Rattle.std.specs.Prelude.{Result, IfOk, IsSomeAnd, option_and_then, if◌then◌else◌, slice_get, slice_set}
use Rattle.std.specs.Cmp.{IsEquivalence}
use Rattle.std.proofs.lemmas.Bool.Decides.{eqb_tells, nat_tests}
use Rattle.std.proofs.lemmas.Map.{update_here}
use Rattle.foyer_policy.specs.Moments.{is_expired}
use Rattle.foyer_policy.specs.Policy.{IsPolicy}
use Rattle.foyer_policy.specs.declared.types.Event.{Event}
use Rattle.foyer_policy.specs.declared.types.Source.{Source}
use Rattle.foyer_policy.specs.declared.error.Reason.{Reason}
use Rattle.foyer_core.specs.declared.record.Data.{Data}
use Rattle.foyer_core.specs.Indexer.{same_key}
use Rattle.foyer_core.specs.Laws.{Finds, HandlesStay, IsBounded, IsBoundedAt, one_of}
use Rattle.foyer_core.specs.Values.{Rec, Gone, Held, Incoming}
use Rattle.foyer_core.specs.State.{Meaning, State, IsKept, is_expired_in, key_of}
use Rattle.foyer_core.specs.Steps.{Gets, InsertsPlain}
use Rattle.foyer_core.specs.Core.{Core, AtShard, shard_at, shard_of}
use Rattle.foyer_core.proofs.CoreLemmas.{set_here, set_apart}
use Rattle.foyer_core.proofs.GaveLemmas.{alike_key}
use Rattle.foyer_core.proofs.Hits.{hit_index, hit_live}
use Rattle.foyer_core.proofs.InsertLemmas.{usage_after}
use Rattle.foyer_core.proofs.Staying.{RecordsStay, nothing, one}

and_true : (b : Bool) → (b && true) ≡ b
and_true true = refl
and_true false = refl

same_place : (i j : ℕ) → i ≡ j → (i == j) ≡ true
same_place i j e = grind (arith, nat_tests)

module _ {K V P View S W A : Type 0} (old new : Core K V P View S W A)
    (step : State K V P View → State K V P View → Type 0) (hash : ℕ) (at : AtShard step hash old new) where
  -- what a shard is after the step
  now_at : (h : ℕ) → shard_at new h ≡ slice_get (slice_set old.shards (shard_of old hash) at.after) (shard_of old h)
  now_at h =
      let shards : new.shards ≡ slice_set old.shards (shard_of old hash) at.after =
      ap (λ (c : Core K V P View S W A). c.shards) at.rest in
      let many : length new.shards ≡ length old.shards = ap length shards
      ∙ length-set old.shards (shard_of old hash) at.after in
      ap (λ (n : ℕ). slice_get new.shards (h % n)) many
      ∙ ap (λ (l : List (State K V P View)). slice_get l (shard_of old h)) shards

  pub now_here : (h : ℕ) → shard_of old h ≡ shard_of old hash → shard_at new h ≡ Some at.after
  now_here h is = now_at h ∙ ap (slice_get (slice_set old.shards (shard_of old hash) at.after)) is
      ∙ set_here old.shards (shard_of old hash) at.before at.after at.there

  now_apart : (h : ℕ) → shard_of old h ≢ shard_of old hash → shard_at new h ≡ shard_at old h
  now_apart h apart = now_at h ∙ set_apart old.shards (shard_of old hash) (shard_of old h) at.after apart

  -- where its shard's records stay but for handles that are given back, those of all shards do
  stays_by : (given : ℕ → ℕ) (to : Held K V P → ℕ) →
      ((e : Held K V P) → shard_of old e.kept.hash ≡ shard_of old hash → to e ≡ given e.id)
      → RecordsStay given at.before at.after → HandlesStay to old new
  stays_by given to same h e r there less = elim (eqb_tells (shard_of old e.kept.hash) (shard_of old hash)) [
    | inl is ↦ (let old_is : shard_at old e.kept.hash ≡ Some at.before = ap (slice_get old.shards) is.1 ∙ at.there in
        let was : at.before.records e.id ≡ Some r =
        sym (ap (option_and_then (λ (x : State K V P View). x.records e.id)) old_is) ∙ there in
        let q = h e.id r was (subst (λ (n : ℕ). n < r.handles) (same e is.1) less) in (
          q.0,
          ap (option_and_then (λ (x : State K V P View). x.records e.id)) (now_here e.kept.hash is.1) ∙ q.1,
          q.2,
          subst (λ (n : ℕ). r.handles ≤ q.0.handles + n) (sym (same e is.1)) q.3,
        ))
    | inr ne ↦ (
      r,
      ap (option_and_then (λ (x : State K V P View). x.records e.id)) (now_apart e.kept.hash ne.1) ∙ there,
      refl,
      omega arith,
    )
  ]

module _ {K V P View S W A : Type 0} (old new : Core K V P View S W A) where
  pub stays_at : (hash : ℕ) → AtShard (RecordsStay nothing) hash old new → HandlesStay (λ e. 0) old new
  stays_at hash at = stays_by old new (RecordsStay nothing) hash at nothing (λ e. 0) (λ e is. refl) at.stepped

  pub gives_at : (entry : Held K V P) → AtShard (RecordsStay (one entry.id)) entry.kept.hash old new →
      HandlesStay (one_of old entry) old new
  gives_at entry at = stays_by old new (RecordsStay (one entry.id)) entry.kept.hash at (one entry.id)
      (one_of old entry) (λ e is.
      (let same : (shard_of old e.kept.hash == shard_of old entry.kept.hash) ≡ true =
      same_place (shard_of old e.kept.hash) (shard_of old entry.kept.hash) is in
      rw same (ap (λ (x : Bool). if x then 1 else 0) (and_true (e.id == entry.id))))) at.stepped

module _ {K V P View C : Type 0} (m : Meaning K P View C) (laws : IsEquivalence m.same) (good : IsPolicy m.policy) where
  -- equal keys hit a record of these data
  pub record Stands (d : Data K V P) (t : State K V P View) : Type 0 where
    pub id : ℕ
    pub rec : Rec K V P
    pub under : (k : ℕ × K) → same_key m.same (key_of d) k ≡ true → t.index k ≡ Some id
    pub there : t.records id ≡ Some rec
    pub data_are : rec.kept ≡ d

  -- a get of an equal key finds it, where it is not expired
  finds_stood : (d : Data K V P) (t : State K V P View) → Stands d t → (now : ℕ) →
      is_expired now (m.expires d.properties) ≡ false → (k : ℕ × K) → same_key m.same (key_of d) k ≡ true →
      (answer : Result (Option (Held K V P)) Reason) (after : State K V P View) → Gets m now t k answer after
      → IfOk answer (λ found. IsSomeAnd found (λ e. e.kept.value ≡ d.value))
  finds_stood d t h now live k same (Ok None) after g =
      let fresh : is_expired_in m.expires now (t.records h.id) ≡ false = ap (is_expired_in m.expires now) h.there
      ∙ ap (λ (x : Data K V P). is_expired now (m.expires x.properties)) h.data_are ∙ live in
      absurd (let e : ◌≡◌ {A = Option ℕ} None (Some h.id) = sym g.0 ∙ hit_live m now t k h.id (h.under k same) fresh in cc)
  finds_stood d t h now live k same (Ok (Some e)) after g =
      let id : e.id ≡ h.id = some_nat (sym (hit_index m now t k e.id g.1) ∙ h.under k same) in
      let r : g.0 ≡ h.rec = some_rec (sym g.2 ∙ ap t.records id ∙ h.there) in
      ap (λ (x : Held K V P). x.kept.value) g.4 ∙ ap (λ (x : Rec K V P). x.kept.value) r
      ∙ ap (λ (x : Data K V P). x.value) h.data_are
    where
      some_nat : {x y : ℕ} → Some x ≡ Some y → x ≡ y
      some_nat h = cc

      some_rec : {x y : Rec K V P} → Some x ≡ Some y → x ≡ y
      some_rec h = cc
  finds_stood d t h now live k same (Err reason) after g = tt

  -- so it is of a plain record that came in
  pub came_stands : (source : Source) (old : State K V P View) (inc : Incoming K V P) (ls : List (Event × Gone K V P))
      (entry : Held K V P) (new : State K V P View) → InsertsPlain m source old inc ls entry new → Stands inc.kept new
  came_stands source old inc ls entry new h =
      let came : Rec K V P = record { kept = inc.kept; handles = inc.handles; resident = true } in
      record {
        id = inc.id;
        rec = came;
        under = λ k same. ap (λ (s : State K V P View). s.index k) h.after
            ∙ ap (λ (x : Bool). cond x (Some inc.id) (h.last.index k)) same;
        there = ap (λ (s : State K V P View). s.records inc.id) h.after ∙ update_here h.last.records inc.id (Some came);
        data_are = refl;
      }

  -- a shard that keeps what it must takes a plain record of these data in
  pub record Came (source : Source) (d : Data K V P) (ls : List (Event × Gone K V P)) (entry : Held K V P)
      (old new : State K V P View) : Type 0 where
    pub kept : ∥ IsKept m old ∥₁
    pub inc : Incoming K V P
    pub inserts : InsertsPlain m source old inc ls entry new
    pub data_are : inc.kept ≡ d

  module _ {S W A : Type 0} (old new : Core K V P View S W A) where
    same_state_of : (x y : State K V P View) → Some x ≡ Some y → x ≡ y
    same_state_of x y h = cc

    pub finds_at : (d : Data K V P) (hash : ℕ) → shard_of old d.hash ≡ shard_of old hash →
        AtShard (λ s t. Stands d t) hash old new
        → (hashes : K → ℕ) → ((k : K) → m.same d.key k ≡ true → hashes k ≡ d.hash) → Finds m hashes new d.key d.value d.properties
    finds_at d hash belongs at hashes equal now live k same answer after next =
        let place : shard_of old (hashes k) ≡ shard_of old hash = ap (shard_of old) (equal k same) ∙ belongs in
        let here : next.before ≡ at.after = same_state_of next.before at.after
        (sym next.there ∙ now_here old new (λ s t. Stands d t) hash at (hashes k) place) in
        finds_stood d at.after at.stepped now live (d.hash, k) (alike_key m.same d.hash d.key k same) answer next.after
        (subst (λ (n : ℕ). Gets m now at.after (n, k) answer next.after) (equal k same)
        (subst (λ (x : State K V P View). Gets m now x (hashes k, k) answer next.after) here next.stepped))

    module _ (source : Source) (d : Data K V P) (ls : List (Event × Gone K V P)) (entry : Held K V P) (hash : ℕ)
        (at : AtShard (Came source d ls entry) hash old new) where
      pub bounded_at : (weight : ℕ) → weight ≡ d.weight → IsBoundedAt m hash weight old new
      bounded_at weight weighs x y there gone =
          let was : at.before ≡ x = same_state_of at.before x (sym at.there ∙ there) in
          let now : at.after ≡ y = same_state_of at.after y
          (sym (now_here old new (Came source d ls entry) hash at hash refl) ∙ gone) in
          let same : at.stepped.inc.kept.weight ≡ weight = ap (λ (x : Data K V P). x.weight) at.stepped.data_are
          ∙ sym weighs in
          subst (λ (n : ℕ). IsBounded m n x y) same
          (subst (λ (z : State K V P View). IsBounded m at.stepped.inc.kept.weight z y) was
          (subst (λ (z : State K V P View). IsBounded m at.stepped.inc.kept.weight at.before z) now
          (∥∥₁_elim at.stepped.kept (hlevel props)
          (λ k. usage_after m laws good source at.before k at.stepped.inc ls entry at.after at.stepped.inserts))))
