-- What one shard's leaves tell of the index.
use Rattle.std.proofs.Common.{◌≡◌, ◌≢◌, ℕ, ◌%◌, ◌<◌, ◌==◌, ◌&&◌, List, [], ◌∷◌, ◌++◌, Option, Some, None, inl, inr, Bool, true, false, cond, refl, sym, ◌∙◌, ap, subst, arith}
use Rattle.std.specs.Cmp.{IsEquivalence}
use Rattle.std.specs.Map.{update}
use Rattle.std.proofs.lemmas.Bool.Decides.{eqb_tells, nat_tests}
use Rattle.std.proofs.lemmas.Map.{update_apart}
use Rattle.foyer_policy.specs.Items.{count_of, HasIdsOnce, IsNewIn}
use Rattle.foyer_policy.specs.declared.types.Event.{Event}
use Rattle.foyer_policy.specs.declared.types.Item.{Item}
use Rattle.foyer_policy.proofs.ItemLemmas.{count-cons, once-head, once-tail}
use Rattle.foyer_core.specs.declared.record.Data.{Data}
use Rattle.foyer_core.specs.Indexer.{same_key}
use Rattle.foyer_core.specs.Observed.{is_known, after_leave, after_leaves}
use Rattle.foyer_core.specs.State.{Meaning, State, AllData, key_of}
use Rattle.foyer_core.specs.Steps.{after_out, gone_of, ids_of, outside, Leave}
use Rattle.foyer_core.specs.Values.{Rec, Gone}
use Rattle.foyer_core.proofs.Keys.{same_key_laws}
use Rattle.foyer_core.proofs.LeaveLemmas.{out_data}
use Rattle.foyer_core.proofs.Leaving.{still, respects_update}
use Rattle.foyer_core.proofs.Outs.{counted_first}

-- the id that is known is known
known_here : (o : Option ℕ) (id : ℕ) → o ≡ Some id → is_known o id ≡ true
known_here None id h = absurd cc
known_here (Some a) id h = (let e : a ≡ id = cc in grind (arith, nat_tests))

known_apart : (o : Option ℕ) (id : ℕ) → o ≢ Some id → is_known o id ≡ false
known_apart None id h = refl
known_apart (Some a) id h = elim (eqb_tells a id) [ inl e ↦ absurd (h (ap (λ (n : ℕ). Some n) e.1)) | inr e ↦ e.0 ]

module _ {K V P : Type 0} (same : K → K → Bool) where
  -- a leave takes its key out where its id is known, and else nothing
  leave_known : (f : K → Option ℕ) (g : Gone K V P) → f g.kept.key ≡ Some g.id → (k : K) → after_leave same f g k
      ≡ update same f g.kept.key None k
  leave_known f g h k = rw (known_here (f g.kept.key) g.id h) refl

  pub leave_unknown : (f : K → Option ℕ) (g : Gone K V P) → f g.kept.key ≢ Some g.id → (k : K) →
      after_leave same f g k ≡ f k
  leave_unknown f g h k = rw (known_apart (f g.kept.key) g.id h) refl

  -- maps that agree do so after leaves
  leave_congr : (f g : K → Option ℕ) → ((k : K) → f k ≡ g k) → (x : Gone K V P) (k : K) → after_leave same f x k
      ≡ after_leave same g x k
  leave_congr f g h x k = go (is_known (g x.kept.key) x.id)
      (ap (λ (o : Option ℕ). is_known o x.id) (h x.kept.key)) refl where
        go : (b : Bool) → is_known (f x.kept.key) x.id ≡ is_known (g x.kept.key) x.id → is_known (g x.kept.key) x.id ≡ b →
            after_leave same f x k ≡ after_leave same g x k
        go true e is = rw (e, is) (ap (λ (o : Option ℕ). cond (same x.kept.key k) None o) (h k))
        go false e is = rw (e, is) (h k)

  pub leaves_congr : (f g : K → Option ℕ) → ((k : K) → f k ≡ g k) → (ls : List (Event × Gone K V P)) (k : K) →
      after_leaves same f ls k ≡ after_leaves same g ls k
  leaves_congr f g h [] k = h k
  leaves_congr f g h (l ∷ ls) k = leaves_congr (after_leave same f l.1) (after_leave same g l.1)
      (leave_congr f g h l.1) ls k

  pub leaves_append : (f : K → Option ℕ) (ls more : List (Event × Gone K V P)) (k : K) →
      after_leaves same f (ls ++ more) k ≡ after_leaves same (after_leaves same f ls) more k
  leaves_append f [] more k = refl
  leaves_append f (l ∷ ls) more k = leaves_append (after_leave same f l.1) ls more k

-- two maps agree on the keys whose hash has another place, of so many
abbrev pub AgreeApart : {K : Type 0} → (K → ℕ) → ℕ → ℕ → (K → Option ℕ) → (K → Option ℕ) → Type 0
AgreeApart {K} hash many place f g = (k : K) → hash k % many ≢ place → g k ≡ f k

counted_tail : (id : ℕ) (i : Item) (is : List Item) → 0 < count_of id is → 0 < count_of id (i ∷ is)
counted_tail id i is h = omega (arith, count-cons id i is)

apart_of : (i : Item) (is : List Item) → HasIdsOnce (i ∷ is) → (id : ℕ) → 0 < count_of id is → id ≢ i.id
apart_of i is once id h e =
    absurd (let new : IsNewIn i.id is = once-head i is once in omega (arith, ap (λ (a : ℕ). count_of a is) e))

-- equal keys have equal hashes, and there are so many shards
module _ {K V P View C : Type 0} (m : Meaning K P View C) (laws : IsEquivalence m.same) (hash : K → ℕ)
    (equal : (a b : K) → m.same a b ≡ true → hash a ≡ hash b) (many : ℕ) where
  -- a record belongs in the shard of this place, and has the hash of its key
  abbrev pub BelongsAt : ℕ → Data K V P → Type 0
  BelongsAt place d = (d.hash % many ≡ place) × (d.hash ≡ hash d.key)

  -- a map knows the index of the shard of this place
  abbrev pub Knows : ℕ → State K V P View → (K → Option ℕ) → Type 0
  Knows place s f = (k : K) → hash k % many ≡ place → f k ≡ s.index (hash k, k)

  -- under its key stands what the index has there
  pub known_key : (place : ℕ) (s : State K V P View) (f : K → Option ℕ) → Knows place s f → (d : Data K V P) →
      BelongsAt place d → f d.key ≡ s.index (key_of d)
  known_key place s f knows d at =
      knows d.key (ap (λ (h : ℕ). h % many) (sym at.1) ∙ at.0) ∙ ap (λ (h : ℕ). s.index (h, d.key)) (sym at.1)

  -- the hashed key of a record equals that of a key where their keys are equal
  alike : (d : Data K V P) → d.hash ≡ hash d.key → (k : K) → same_key m.same (key_of d) (hash k, k) ≡ m.same d.key k
  alike d hashed k = go (m.same d.key k) refl where
    go : (b : Bool) → m.same d.key k ≡ b → same_key m.same (key_of d) (hash k, k) ≡ m.same d.key k
    go true e =
        let one : d.hash ≡ hash k = hashed ∙ equal d.key k e in
        let is : (d.hash == hash k) ≡ true = grind (arith, nat_tests) in
        rw (is, e) refl
    go false e = rw e (off (d.hash == hash k)) where
      off : (c : Bool) → (c && false) ≡ false
      off true = refl
      off false = refl

  -- a key of another shard is not equal
  elsewhere : (place : ℕ) (d : Data K V P) → BelongsAt place d → (k : K) → hash k % many ≢ place → m.same d.key k
      ≡ false
  elsewhere place d at k apart = go (m.same d.key k) refl where
    go : (b : Bool) → m.same d.key k ≡ b → m.same d.key k ≡ false
    go true e = absurd (apart (ap (λ (h : ℕ). h % many) (sym (equal d.key k e) ∙ sym at.1) ∙ at.0))
    go false e = e

  -- one write in the index is one in the map
  module _ (place : ℕ) (s : State K V P View) (f : K → Option ℕ) (knows : Knows place s f) (d : Data K V P)
      (at : BelongsAt place d) (w : Option ℕ) where
    pub write_knows : (t : State K V P View) →
        ((q : ℕ × K) → t.index q ≡ update (same_key m.same) s.index (key_of d) w q) →
        Knows place t (update m.same f d.key w)
    write_knows t wrote k here =
        ap (λ (o : Option ℕ). cond (m.same d.key k) w o) (knows k here)
        ∙ ap (λ (b : Bool). cond b w (s.index (hash k, k))) (sym (alike d at.1 k))
        ∙ sym (wrote (hash k, k))

    pub write_apart : AgreeApart hash many place f (update m.same f d.key w)
    write_apart k apart = rw (elsewhere place d at k apart) refl

  -- what a shard's leaves tell
  pub record Tells (place : ℕ) (t : State K V P View) (f g : K → Option ℕ) : Type 0 where
    pub knows : Knows place t g
    pub apart : AgreeApart hash many place f g

  pub tells_then : (place : ℕ) (t u : State K V P View) (f g h : K → Option ℕ) → Tells place t f g → Tells place u g h
      → Tells place u f h
  tells_then place t u f g h first second =
      record { knows = second.knows; apart = λ k a. second.apart k a ∙ first.apart k a }

  -- another map that agrees tells the same
  pub tells_same : (place : ℕ) (t : State K V P View) (f g h : K → Option ℕ) → ((k : K) → h k ≡ g k) →
      Tells place t f g → Tells place t f h
  tells_same place t f g h same tells =
      record { knows = λ k a. same k ∙ tells.knows k a; apart = λ k a. same k ∙ tells.apart k a }

  -- the index stays
  pub stays_told : (place : ℕ) (s t : State K V P View) (f : K → Option ℕ) → ((q : ℕ × K) → t.index q ≡ s.index q) →
      Knows place s f → Tells place t f f
  stays_told place s t f same knows =
      record { knows = λ k here. knows k here ∙ sym (same (hash k, k)); apart = λ k a. refl }

  -- a record that leaves, which was in the index under its key
  pub out_told : (place : ℕ) (s : State K V P View) (f : K → Option ℕ) → Knows place s f → (id : ℕ) (r : Rec K V P) →
      s.index (key_of r.kept) ≡ Some id → BelongsAt place r.kept
      → Tells place (after_out m s id r) f (after_leave m.same f (gone_of s.number id r))
  out_told place s f knows id r under at =
      tells_same place (after_out m s id r) f (update m.same f r.kept.key None)
      (after_leave m.same f (gone_of s.number id r))
      (leave_known m.same f (gone_of s.number id r) (known_key place s f knows r.kept at ∙ under))
      record {
        knows = write_knows place s f knows r.kept at None (after_out m s id r) (λ q. refl);
        apart =
            write_apart place s f knows r.kept at None;
      }

  -- of these items each stands in the index under its record's key
  abbrev pub AreUnder : List Item → State K V P View → Type 0
  AreUnder items s = (id : ℕ) → 0 < count_of id items → (r : Rec K V P) → s.records id ≡ Some r →
      s.index (key_of r.kept) ≡ Some id

  abbrev pub Respects : State K V P View → Type 0
  Respects s = (k q : ℕ × K) → same_key m.same k q ≡ true → s.index k ≡ s.index q

  -- leaves of items that are in, each once
  pub leave_told : (e : Event) (items : List Item) (place : ℕ) (s : State K V P View) (f : K → Option ℕ)
      (ls : List (Event × Gone K V P)) (v : View) (t : State K V P View)
      → HasIdsOnce items → AreUnder items s → Respects s → AllData (BelongsAt place) s → Knows place s f →
      Leave m e (ids_of items) s ls v t → Tells place t f (after_leaves m.same f ls)
  leave_told e [] place s f [] v t once under resp at knows h =
      stays_told place s t f (λ q. ap (λ (x : State K V P View). x.index q) h) knows
  leave_told e [] place s f (l ∷ ls) v t once under resp at knows h = absurd h
  leave_told e (i ∷ is) place s f [] v t once under resp at knows h = absurd h
  leave_told e (i ∷ is) place s f (l ∷ ls) v t once under resp at knows h =
      let r = h.0 in
      let here : s.index (key_of r.kept) ≡ Some i.id = under i.id (counted_first i is) r h.1 in
      let first = subst (λ (g : Event × Gone K V P). Tells place (after_out m s i.id r) f (after_leave m.same f g.1))
      (sym h.2) (out_told place s f knows i.id r here (at i.id r h.1)) in
      tells_then place (after_out m s i.id r) t f (after_leave m.same f l.1)
      (after_leaves m.same (after_leave m.same f l.1) ls) first
      (leave_told e is place (after_out m s i.id r) (after_leave m.same f l.1) ls v t (once-tail i is once)
      (rest_under r h.1 here)
      (respects_update (same_key m.same) (same_key_laws m.same laws) s.index resp (key_of r.kept) None)
      (λ id q is'. let o = out_data m s i.id r h.1 id q is' in subst (BelongsAt place) (sym o.2) (at id o.0 o.1))
      first.knows h.3)
    where
      rest_under : (r : Rec K V P) → s.records i.id ≡ Some r → s.index (key_of r.kept) ≡ Some i.id →
          AreUnder is (after_out m s i.id r)
      rest_under r there here id pos q is' =
          let apart : id ≢ i.id = apart_of i is once id pos in
          let was : s.records id ≡ Some q = sym (update_apart s.records i.id (outside r) id apart) ∙ is' in
          still (same_key m.same) s.index (key_of r.kept) (key_of q.kept) i.id id resp here
          (under id (counted_tail id i is pos) q was) apart (same_key m.same (key_of r.kept) (key_of q.kept)) refl
