-- What steps of a core's shards tell of its index.
use Rattle.std.proofs.Common.{◌≡◌, ◌≢◌, ℕ, zero, suc, ◌+◌, ◌%◌, ◌<◌, length, List, [], ◌∷◌, ◌++◌, map, Option, Some, None, inl, inr, true, refl, sym, ◌∙◌, ap, subst, subst₂, arith, append_assoc, append-nil, length-append}
use Rattle.std.proofs.Math.Logic.{∥∥₁_map}
use Rattle.std.proofs.Math.ListN.{length-set}
use Rattle.std.specs.Prelude.{option_and_then, slice_get, slice_set}
use Rattle.std.specs.Cmp.{IsEquivalence}
use Rattle.std.specs.List.{AllZip}
use Rattle.std.proofs.lemmas.Bool.Decides.{eqb_tells}
use Rattle.std.proofs.lemmas.Slice.Zip.{AllZip-long}
use Rattle.foyer_policy.specs.Items.{count_of}
use Rattle.foyer_policy.specs.Policy.{IsPolicy}
use Rattle.foyer_policy.specs.declared.types.Event.{Event}
use Rattle.foyer_core.specs.Bulk.{after_update}
use Rattle.foyer_core.specs.Core.{Core, AreHashed, AtShard, Belong, share_of, shard_of}
use Rattle.foyer_core.specs.CoreBulk.{Configures, InTurn, InTurnUntil, SharesOut, Resizes}
use Rattle.foyer_core.specs.Observed.{IsTold, after_leaves, known}
use Rattle.foyer_core.specs.State.{Meaning, State, IsKept, AllData}
use Rattle.foyer_core.specs.Values.{Gone}
use Rattle.foyer_core.proofs.CoreLemmas.{set_here, set_apart}
use Rattle.foyer_core.proofs.Observing.{BelongsAt, Knows, Tells, leaves_append, leaves_congr}
use Rattle.foyer_core.proofs.Origins.{zip-back}
use Rattle.foyer_core.proofs.ShardTold.{ToldBy}
use Rattle.foyer_core.proofs.TurnLaws.{turn-keeps, updates-keep, zip-at}
use Rattle.foyer_core.proofs.Views.{rearranged_keeps}

module _ {S : Type 0} where
  -- what stands after the first ones
  at_length : (pre : List S) (s : S) (ss : List S) → slice_get (pre ++ s ∷ ss) (length pre) ≡ Some s
  at_length [] s ss = refl
  at_length (a ∷ pre) s ss = at_length pre s ss

  apart_length : (pre : List S) (s t : S) (ss : List S) (j : ℕ) → j ≢ length pre → slice_get (pre ++ t ∷ ss) j
      ≡ slice_get (pre ++ s ∷ ss) j
  apart_length [] s t ss zero apart = absurd (apart refl)
  apart_length [] s t ss (suc j) apart = refl
  apart_length (a ∷ pre) s t ss zero apart = refl
  apart_length (a ∷ pre) s t ss (suc j) apart = apart_length pre s t ss j (λ e. apart (ap suc e))

  module _ {L : Type 0} (step : S → List L → S → Type 0) where
    turn-long : (ss : List S) (ls : List L) (ts : List S) → InTurn step ss ls ts → length ts ≡ length ss
    turn-long ss ls ts h = AllZip-long (λ s t. Unit {0}) ss ts
        (turn-keeps (λ (s t : S). Unit {0}) step (λ s t own did. tt) ss ls ts h)

    turn-map : (other : S → List L → S → Type 0) → ((s t : S) (ls : List L) → other s ls t → step s ls t) →
        (ss : List S) (ls : List L) (ts : List S) → InTurn other ss ls ts → InTurn step ss ls ts
    turn-map other so [] ls [] h = h
    turn-map other so [] ls (t ∷ ts) h = absurd h
    turn-map other so (s ∷ ss) ls [] h = absurd h
    turn-map other so (s ∷ ss) ls (t ∷ ts) h = (h.0, h.1, h.2, so s t h.0 h.3, turn-map other so ss h.1 ts h.4)

    turn-same : ((s : S) → step s [] s) → (ss : List S) → InTurn step ss [] ss
    turn-same same [] = refl
    turn-same same (s ∷ ss) = ([], [], refl, same s, turn-same same ss)

    turn-join : (ss : List S) (ls : List L) (ts more : List S) (rest : List L) (others : List S) →
        InTurn step ss ls ts → InTurn step more rest others → InTurn step (ss ++ more) (ls ++ rest) (ts ++ others)
    turn-join [] ls [] more rest others h k =
        subst (λ (l : List L). InTurn step more l others) (ap (λ (l : List L). l ++ rest) (sym h)) k
    turn-join [] ls (t ∷ ts) more rest others h k = absurd h
    turn-join (s ∷ ss) ls [] more rest others h k = absurd h
    turn-join (s ∷ ss) ls (t ∷ ts) more rest others h k = (
      h.0,
      h.1 ++ rest,
      ap (λ (l : List L). l ++ rest) h.2 ∙ append_assoc h.0 h.1 rest,
      h.3,
      turn-join ss h.1 ts more rest others h.4 k,
    )

    -- what want of memory leaves is a step of each as well
    until-turn : (whole part : S → List L → S → Type 0) → ((s t : S) (ls : List L) → whole s ls t → step s ls t) →
        ((s t : S) (ls : List L) → part s ls t → step s ls t) → ((s : S) → step s [] s)
        → (ss : List S) (ls : List L) (ts : List S) → InTurnUntil whole part ss ls ts → InTurn step ss ls ts
    until-turn whole part so so' same ss ls ts h =
        let others : InTurn step (h.next ∷ h.others) h.next_leaves (h.begun ∷ h.others) = (
          h.next_leaves,
          [],
          sym (append-nil h.next_leaves),
          so' h.next h.begun h.next_leaves h.partly,
          turn-same same h.others,
        ) in
        subst (λ (l : List L). InTurn step ss l ts) (sym h.told)
        (subst₂ (λ (a b : List S). InTurn step a (h.first_leaves ++ h.next_leaves) b) (sym h.olds) (sym h.news)
        (turn-join h.first h.first_leaves h.done (h.next ∷ h.others) h.next_leaves (h.begun ∷ h.others)
        (turn-map whole so h.first h.first_leaves h.done h.wholly) others))

-- what so many shards know
abbrev pub known_in : {K V P View : Type 0} → (K → ℕ) → ℕ → List (State K V P View) → K → Option ℕ
known_in hash many ss k = option_and_then (λ s. s.index (hash k, k)) (slice_get ss (hash k % many))

module _ {K V P View C : Type 0} (m : Meaning K P View C) (laws : IsEquivalence m.same) (good : IsPolicy m.policy)
    (hash : K → ℕ) (equal : (a b : K) → m.same a b ≡ true → hash a ≡ hash b) where
  -- what a shard at this place keeps, of so many
  pub record IsSound (many place : ℕ) (s : State K V P View) : Type 0 where
    pub kept : ∥ IsKept m s ∥₁
    pub at : AllData (BelongsAt m laws hash equal many place) s

  abbrev pub AreSound : ℕ → List (State K V P View) → Type 0
  AreSound many ss = (i : ℕ) (s : State K V P View) → slice_get ss i ≡ Some s → IsSound many i s

  pub are_sound : (ss : List (State K V P View)) →
      ((i : ℕ) (s : State K V P View) → slice_get ss i ≡ Some s → ∥ IsKept m s ∥₁) → Belong ss → AreHashed hash ss →
      AreSound (length ss) ss
  are_sound ss kept belong hashed i s there =
      record { kept = kept i s there; at = λ id r is. (belong i s there id r is, hashed i s there id r is) }

  -- so it is over what each of a list shows that keeps it
  pub sound_over : {A : Type 0} (f : A → State K V P View) (xs : List A) → ((x : A) → ∥ IsKept m (f x) ∥₁) →
      Belong (map f xs) → AreHashed hash (map f xs) → AreSound (length (map f xs)) (map f xs)
  sound_over {A} f xs kept belong hashed = are_sound (map f xs) (each xs) belong hashed where
    each : (ys : List A) (i : ℕ) (s : State K V P View) → slice_get (map f ys) i ≡ Some s → ∥ IsKept m s ∥₁
    each [] i s there = absurd cc
    each (y ∷ ys) zero s there =
        (let is : f y ≡ s = cc in subst (λ (t : State K V P View). ∥ IsKept m t ∥₁) is (kept y))
    each (y ∷ ys) (suc i) s there = each ys i s there

  -- a step of a shard tells these leaves
  abbrev pub StepTold : ℕ → State K V P View → List (Event × Gone K V P) → State K V P View → Type 0
  StepTold many s ls t = (place : ℕ) → IsSound many place s → ToldBy m laws good hash equal many place s ls t

  module _ (many place : ℕ) (ss ts : List (State K V P View)) (s t : State K V P View)
      (here : slice_get ss place ≡ Some s) (now : slice_get ts place ≡ Some t)
      (others : (j : ℕ) → j ≢ place → slice_get ts j ≡ slice_get ss j) where
    knows_here : Knows m laws hash equal many place s (known_in hash many ss)
    knows_here k at = ap (λ (j : ℕ). option_and_then (λ (x : State K V P View). x.index (hash k, k)) (slice_get ss j))
        at ∙ ap (option_and_then (λ (x : State K V P View). x.index (hash k, k))) here

    -- where the shard of a place makes a step, and no other does, all know what is told
    pub place_told : (g : K → Option ℕ) → Tells m laws hash equal many place t (known_in hash many ss) g → (k : K) →
        known_in hash many ts k ≡ g k
    place_told g tells k = elim (eqb_tells (hash k % many) place) [
      | inl e ↦ ap (λ (j : ℕ). option_and_then (λ (x : State K V P View). x.index (hash k, k)) (slice_get ts j)) e.1
          ∙ ap (option_and_then (λ (x : State K V P View). x.index (hash k, k))) now ∙ sym (tells.knows k e.1)
      | inr e ↦ ap (option_and_then (λ (x : State K V P View). x.index (hash k, k))) (others (hash k % many) e.1)
          ∙ sym (tells.apart k e.1)
    ]

  -- of one shard
  module _ {S W A : Type 0} (old new : Core K V P View S W A) (step : State K V P View → State K V P View → Type 0)
      (h : ℕ) (at : AtShard step h old new) where
    known_set : (k : K) → known hash new k ≡ known_in hash (length old.shards)
        (slice_set old.shards (shard_of old h) at.after) k
    known_set k =
        let shards : new.shards ≡ slice_set old.shards (shard_of old h) at.after =
        ap (λ (c : Core K V P View S W A). c.shards) at.rest in
        ap (λ (l : List (State K V P View)). known_in hash (length l) l k) shards
        ∙ ap (λ (n : ℕ). known_in hash n (slice_set old.shards (shard_of old h) at.after) k)
        (length-set old.shards (shard_of old h) at.after)

    -- so the core knows what that tells
    pub at_told : (g : K → Option ℕ)
        → (Knows m laws hash equal (length old.shards) (shard_of old h) at.before (known hash old) →
        Tells m laws hash equal (length old.shards) (shard_of old h) at.after (known hash old) g)
        → (k : K) → known hash new k ≡ g k
    at_told g so k =
        let i = shard_of old h in
        let ts = slice_set old.shards i at.after in
        let now : slice_get ts i ≡ Some at.after = set_here old.shards i at.before at.after at.there in
        let others : (j : ℕ) → j ≢ i → slice_get ts j ≡ slice_get old.shards j =
        λ j apart. set_apart old.shards i j at.after apart in
        known_set k ∙ place_told (length old.shards) i old.shards ts at.before at.after at.there now others g
        (so (knows_here (length old.shards) i old.shards ts at.before at.after at.there now others)) k

  -- of all shards, one after the other
  turn_told : (many : ℕ) (step : State K V P View → List (Event × Gone K V P) → State K V P View → Type 0) →
      ((s t : State K V P View) (ls : List (Event × Gone K V P)) → step s ls t → StepTold many s ls t)
      → (pre ss : List (State K V P View)) (ls : List (Event × Gone K V P)) (ts : List (State K V P View)) →
      InTurn step ss ls ts
      → ((i : ℕ) (s : State K V P View) → slice_get ss i ≡ Some s → IsSound many (length pre + i) s)
      → (k : K) → known_in hash many (pre ++ ts) k ≡ after_leaves m.same (known_in hash many (pre ++ ss)) ls k
  turn_told many step so pre [] ls [] h sound k =
      ap (λ (l : List (Event × Gone K V P)). after_leaves m.same (known_in hash many (pre ++ [])) l k) (sym h)
  turn_told many step so pre [] ls (t ∷ ts) h sound k = absurd h
  turn_told many step so pre (s ∷ ss) ls [] h sound k = absurd h
  turn_told many step so pre (s ∷ ss) ls (t ∷ ts) h sound k =
      let zero_is : length pre + 0 ≡ length pre = omega arith in
      let here : slice_get (pre ++ s ∷ ss) (length pre) ≡ Some s = at_length pre s ss in
      let now : slice_get (pre ++ t ∷ ss) (length pre) ≡ Some t = at_length pre t ss in
      let others : (j : ℕ) → j ≢ length pre → slice_get (pre ++ t ∷ ss) j ≡ slice_get (pre ++ s ∷ ss) j =
      apart_length pre s t ss in
      let f = known_in hash many (pre ++ s ∷ ss) in
      let own : IsSound many (length pre) s = subst (λ (n : ℕ). IsSound many n s) zero_is (sound 0 s refl) in
      let first = place_told many (length pre) (pre ++ s ∷ ss) (pre ++ t ∷ ss) s t here now others
      (after_leaves m.same f h.0)
      (so s t h.0 h.3 (length pre) own f
      (knows_here many (length pre) (pre ++ s ∷ ss) (pre ++ t ∷ ss) s t here now others)) in
      let long : (i : ℕ) → length (pre ++ t ∷ []) + i ≡ length pre + suc i =
      λ i. omega (arith, length-append pre (t ∷ [])) in
      let second = turn_told many step so (pre ++ t ∷ []) ss h.1 ts h.4
      (λ i a there. subst (λ (n : ℕ). IsSound many n a) (sym (long i)) (sound (suc i) a there)) k in
      ap (λ (l : List (State K V P View)). known_in hash many l k) (sym (append_assoc pre (t ∷ []) ts)) ∙ second
      ∙ ap (λ (l : List (State K V P View)). after_leaves m.same (known_in hash many l) h.1 k)
      (append_assoc pre (t ∷ []) ss)
      ∙ leaves_congr m.same (known_in hash many (pre ++ t ∷ ss)) (after_leaves m.same f h.0) first h.1 k
      ∙ sym (leaves_append m.same f h.0 h.1 k)
      ∙ ap (λ (l : List (Event × Gone K V P)). after_leaves m.same f l k) (sym h.2)

  module _ {S W A : Type 0} (old : Core K V P View S W A) (ls : List (Event × Gone K V P))
      (new : Core K V P View S W A) (sound : AreSound (length old.shards) old.shards) where
    pub all_told : (step : State K V P View → List (Event × Gone K V P) → State K V P View → Type 0) →
        ((s t : State K V P View) (own : List (Event × Gone K V P)) → step s own t →
        StepTold (length old.shards) s own t)
        → InTurn step old.shards ls new.shards → IsTold m.same hash old ls new
    all_told step so h k =
        ap (λ (n : ℕ). known_in hash n new.shards k) (turn-long step old.shards ls new.shards h)
        ∙ turn_told (length old.shards) step so [] old.shards ls new.shards h
        (λ i s there. subst (λ (n : ℕ). IsSound (length old.shards) n s) (first i) (sound i s there)) k
      where
        first : (i : ℕ) → i ≡ length {A = State K V P View} [] + i
        first i = omega arith

    same_step : (s : State K V P View) → StepTold (length old.shards) s [] s
    same_step s place is f knows = record { knows = knows; apart = λ k a. refl }

    pub until_told : (whole part : State K V P View → List (Event × Gone K V P) → State K V P View → Type 0) →
        ((s t : State K V P View) (own : List (Event × Gone K V P)) → whole s own t →
        StepTold (length old.shards) s own t)
        → ((s t : State K V P View) (own : List (Event × Gone K V P)) → part s own t →
        StepTold (length old.shards) s own t)
        → InTurnUntil whole part old.shards ls new.shards → IsTold m.same hash old ls new
    until_told whole part so so' h =
        all_told (StepTold (length old.shards)) (λ s t own did. did)
        (until-turn (StepTold (length old.shards)) whole part so so' same_step old.shards ls new.shards h)

  -- with another capacity or configuration each shard keeps what it keeps, and its index
  update_sound : (many place : ℕ) (s : State K V P View) (capacity : ℕ) (config : Option C) → IsSound many place s →
      IsSound many place (after_update m s capacity config)
  update_sound many place s capacity config h = record {
    kept = ∥∥₁_map h.kept
        (λ k. rearranged_keeps m s k capacity (m.policy.update s.view capacity config)
        (good.update_order s.view capacity config k.once)
        (λ j pos. subst (λ l. 0 < count_of j l) (good.update_pinned s.view capacity config) pos));
    at = h.at;
  }

  -- what a shard with another capacity or configuration keeps
  abbrev Onward : State K V P View → State K V P View → Type 0
  Onward s t = ((many place : ℕ) → IsSound many place s → IsSound many place t) × ((q : ℕ × K) → t.index q ≡ s.index q)

  updates_onward : (config : Option C) (f : ℕ → State K V P View → ℕ) (ss ts : List (State K V P View)) → length ts
      ≡ length ss
      → ((i : ℕ) (s : State K V P View) → slice_get ss i ≡ Some s → slice_get ts i
      ≡ Some (after_update m s (f i s) config)) → AllZip Onward ss ts
  updates_onward config f ss ts = updates-keep m Onward config
      (λ s c. (λ many place is. update_sound many place s c config is, λ q. refl)) f ss ts

  shares_onward : (capacity : ℕ) (ss ts : List (State K V P View)) → SharesOut m capacity ss ts → AllZip Onward ss ts
  shares_onward capacity ss ts h = updates_onward None (λ i s. share_of capacity (length ss) i) ss ts h.counted h.each

  module _ (ss ts : List (State K V P View)) (onward : AllZip Onward ss ts) where
    onward_sound : (many : ℕ) → AreSound many ss → AreSound many ts
    onward_sound many sound i t there =
        (let s = zip-back Onward ss ts onward i t there in s.2.0 many i (sound i s.0 s.1))

    onward_known : (many : ℕ) (k : K) → known_in hash many ts k ≡ known_in hash many ss k
    onward_known many k = go (slice_get ss (hash k % many)) refl where
      go : (o : Option (State K V P View)) → slice_get ss (hash k % many) ≡ o → known_in hash many ts k
          ≡ option_and_then (λ (s : State K V P View). s.index (hash k, k)) o
      go (Some s) is =
          (let t = zip-at Onward ss ts onward (hash k % many) s is in
          ap (option_and_then (λ (x : State K V P View). x.index (hash k, k))) t.1 ∙ t.2.1 (hash k, k))
      go None is = none (slice_get ts (hash k % many)) refl where
        none : (o : Option (State K V P View)) → slice_get ts (hash k % many) ≡ o →
            option_and_then (λ (s : State K V P View). s.index (hash k, k)) (slice_get ts (hash k % many)) ≡ None
        none None e = ap (option_and_then (λ (x : State K V P View). x.index (hash k, k))) e
        none (Some t) e =
            absurd (let s = zip-back Onward ss ts onward (hash k % many) t e in
            let f : ◌≡◌ {A = Option (State K V P View)} None (Some s.0) = sym is ∙ s.1 in cc)

  -- a resize tells what its evictions do
  module _ {S W A : Type 0} (capacity : ℕ) (old : Core K V P View S W A) (ls : List (Event × Gone K V P))
      (new : Core K V P View S W A) (sound : AreSound (length old.shards) old.shards) where
    pub resized_told : (evicts : List (State K V P View) → List (Event × Gone K V P) → List (State K V P View) → Type 0)
        → ((mid : Core K V P View S W A) → AreSound (length mid.shards) mid.shards → evicts mid.shards ls new.shards →
        IsTold m.same hash mid ls new)
        → Resizes m evicts capacity old ls new → IsTold m.same hash old ls new
    resized_told evicts so h k =
        let mid : Core K V P View S W A = record old { capacity = capacity; shards = h.shared } in
        let onward = shares_onward capacity old.shards h.shared h.shares in
        let still : AreSound (length h.shared) h.shared =
        subst (λ (n : ℕ). AreSound n h.shared) (sym h.shares.counted)
        (onward_sound old.shards h.shared onward (length old.shards) sound) in
        so mid still h.evicted.stepped k
        ∙ leaves_congr m.same (known hash mid) (known hash old)
        (λ q. ap (λ (n : ℕ). known_in hash n h.shared q) h.shares.counted
        ∙ onward_known old.shards h.shared onward (length old.shards) q) ls k

  -- another configuration tells nothing
  pub configured_told : {S W A : Type 0} (config : C) (old new : Core K V P View S W A) → Configures m config old new
      → IsTold m.same hash old [] new
  configured_told config old new h k =
      let onward = updates_onward (Some config) (λ i s. s.capacity) old.shards new.shards h.shards.counted
      h.shards.each in
      ap (λ (n : ℕ). known_in hash n new.shards k) h.shards.counted
      ∙ onward_known old.shards new.shards onward (length old.shards) k
