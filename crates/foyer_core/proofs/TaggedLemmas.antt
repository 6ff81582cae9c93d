-- Tags that have the slots to which keys lead: what they tell, and what stands after a key leads elsewhere.
use Rattle.std.proofs.Common.{◌≡◌, ◌≢◌, ℕ, Bool, true, false, true≢false, Option, Some, None, refl, sym, ◌∙◌, ap, inl, inr}
use Rattle.std.specs.Prelude.{◌⊎◌, ◌==◌, ◌&&◌, option_and_then, option_map, IfSome, IfNone}
use Rattle.std.specs.Option.{option_or}
use Rattle.std.specs.Cmp.{IsEquivalence}
use Rattle.std.specs.Map.{update}
use Rattle.std.proofs.lemmas.Bool.{cases_eq}
use Rattle.std.proofs.lemmas.Bool.Decides.{eqb_tells}
use Rattle.std.proofs.lemmas.Map.{update_same, update_other, update_here, update_apart}
use Rattle.std.proofs.lemmas.Option.{none-some, same_Some}
use Rattle.foyer_core.specs.Indexer.{same_key, same_key_equiv}
use Rattle.foyer_core.specs.Probing.{fingerprint}
use Rattle.foyer_core.specs.Trails.{keyed_with, IsTagged}

-- equal hashed keys have one hash
both_true : (a b : Bool) → (a && b) ≡ true → a ≡ true
both_true true b both = refl
both_true false b both = both

pub one_hash : {K : Type 0} (eq : K → K → Bool) (p q : ℕ × K) → same_key eq p q ≡ true → p.0 ≡ q.0
one_hash eq p q same = elim (eqb_tells p.0 q.0) [
  | inl h ↦ h.1
  | inr h ↦ absurd (true≢false (sym (both_true (p.0 == q.0) (eq p.1 q.1) same) ∙ h.0))
]

pub two_ways : (b : Bool) → (b ≡ true) ⊎ (b ≡ false)
two_ways true = inl refl
two_ways false = inr refl

module _ {K : Type 0} {eq : K → K → Bool} (laws : IsEquivalence eq) (leads : ℕ × K → Option ℕ)
    (keys : ℕ → Option (ℕ × K)) (slots : ℕ → Option ℕ)
    (respects : (p q : ℕ × K) → same_key eq p q ≡ true → leads p ≡ leads q) (is : IsTagged eq leads keys slots) where
  -- the key of a slot that is in
  pub key_of_slot : (s part : ℕ) → slots s ≡ Some part
      → (q : ℕ × K) × (keys s ≡ Some q) × (leads q ≡ Some s) × (fingerprint q.0 ≡ part)
  key_of_slot s part there = go (keys s) refl (is.back s part there) (is.under s part there) where
    go : (o : Option (ℕ × K)) → keys s ≡ o → option_and_then leads o ≡ Some s
        → option_map (λ q. fingerprint q.0) o ≡ Some part
        → (q : ℕ × K) × (keys s ≡ Some q) × (leads q ≡ Some s) × (fingerprint q.0 ≡ part)
    go None e back under = absurd (none-some s back)
    go (Some q) e back under = (q, e, back, same_Some (fingerprint q.0) part under)

  -- what a question finds is the slot of the key
  module _ (k : ℕ × K) (post : ℕ → Bool → Type 0)
      (told : (q : ℕ × K) (s : ℕ) (answer : Bool) → leads q ≡ Some s → post s answer → answer ≡ same_key eq q k) where
    pub found_is : (o : Option ℕ) → IfSome o (λ s. slots s ≡ Some (fingerprint k.0)) → IfSome o (λ s. post s true)
        → IfNone o ((s : ℕ) → slots s ≡ Some (fingerprint k.0) → post s false) → o ≡ leads k
    found_is (Some s) found says absent =
        let w = key_of_slot s (fingerprint k.0) found in
        sym w.2 ∙ respects w.0 k (sym (told w.0 s true w.2 says))
    found_is None found says absent = go (leads k) refl where
      go : (o : Option ℕ) → leads k ≡ o → None ≡ leads k
      go None e = sym e
      go (Some s) e =
          let no : false ≡ same_key eq k k = told k s false e (absent s (is.tagged k s e)) in
          absurd (true≢false (sym ((same_key_equiv laws).refl k) ∙ sym no))

  module _ (leads' : ℕ × K → Option ℕ) (keys' : ℕ → Option (ℕ × K)) (slots' : ℕ → Option ℕ) (k : ℕ × K)
      (was slot : Option ℕ)
      (led : (q : ℕ × K) → leads' q ≡ update (same_key eq) leads k slot q)
      (keyed : (s : ℕ) → keys' s ≡ keyed_with slot k keys s)
      (leads_was : leads k ≡ was)
      (new : (s : ℕ) → slot ≡ Some s → (q : ℕ × K) → leads q ≢ Some s)
      (there : (s : ℕ) → slot ≡ Some s → slots' s ≡ Some (fingerprint k.0))
      (others : (s : ℕ) → slot ≢ Some s → was ≢ Some s → slots' s ≡ slots s)
      (gone : (s : ℕ) → slot ≢ Some s → was ≡ Some s → slots' s ≡ None) where
    here : (q : ℕ × K) → same_key eq k q ≡ true → leads' q ≡ slot
    here q same = led q ∙ update_same (same_key eq) leads k slot q same

    elsewhere : (q : ℕ × K) → same_key eq k q ≡ false → leads' q ≡ leads q
    elsewhere q other = led q ∙ update_other (same_key eq) leads k slot q other

    -- a slot that was led to by another key
    other_slot : (q : ℕ × K) (s : ℕ) → same_key eq k q ≡ false → leads q ≡ Some s → was ≢ Some s
    other_slot q s other leads_q was_s =
        true≢false (sym (is.once k q s (leads_was ∙ was_s) leads_q) ∙ other)

    not_new : (q : ℕ × K) (s : ℕ) → leads q ≡ Some s → slot ≢ Some s
    not_new q s leads_q slot_s = new s slot_s q leads_q

    tagged' : (q : ℕ × K) (s : ℕ) → leads' q ≡ Some s → slots' s ≡ Some (fingerprint q.0)
    tagged' q s now = elim (two_ways (same_key eq k q)) [
      | inl same ↦ there s (sym (here q same) ∙ now) ∙ ap (λ h. Some (fingerprint h)) (one_hash eq k q same)
      | inr other ↦ (let leads_q : leads q ≡ Some s = sym (elsewhere q other) ∙ now in
          others s (not_new q s leads_q) (other_slot q s other leads_q) ∙ is.tagged q s leads_q)
    ]

    same_keyed : (s : ℕ) (o : Option ℕ) → o ≢ Some s → keyed_with o k keys s ≡ keys s
    same_keyed s None apart = refl
    same_keyed s (Some n) apart = update_apart keys n (Some k) s (λ e. apart (ap Some (sym e)))

    -- the key of a slot that is in now
    key_now : (s part : ℕ) → slots' s ≡ Some part
        → (q : ℕ × K) × (keys' s ≡ Some q) × (leads' q ≡ Some s) × (fingerprint q.0 ≡ part)
    key_now s part now = go slot refl where
      stayed : slot ≢ Some s → (q : ℕ × K) × (keys' s ≡ Some q) × (leads' q ≡ Some s) × (fingerprint q.0 ≡ part)
      stayed apart =
          let not_was : was ≢ Some s = λ e. none-some part (sym (gone s apart e) ∙ now) in
          let w = key_of_slot s part (sym (others s apart not_was) ∙ now) in
          let q = w.0 in
          let leads_now : leads' q ≡ Some s = elim (two_ways (same_key eq k q)) [
            | inl same ↦ absurd (not_was (sym leads_was ∙ respects k q same ∙ w.2))
            | inr other ↦ elsewhere q other ∙ w.2
          ] in
          (q, keyed s ∙ same_keyed s slot apart ∙ w.1, leads_now, w.3)

      go : (o : Option ℕ) → slot ≡ o → (q : ℕ × K) × (keys' s ≡ Some q) × (leads' q ≡ Some s) × (fingerprint q.0 ≡ part)
      go None e = stayed (λ some. none-some s (sym e ∙ some))
      go (Some n) e = elim (cases_eq n s) [
        | inl same ↦ (let is_s : slot ≡ Some s = e ∙ ap Some same in (
          k,
          keyed s ∙ ap (λ o. keyed_with o k keys s) is_s ∙ update_here keys s (Some k),
          here k ((same_key_equiv laws).refl k) ∙ is_s,
          same_Some (fingerprint k.0) part (sym (there s is_s) ∙ now),
        ))
        | inr apart ↦ stayed (λ some. apart (same_Some n s (sym e ∙ some)))
      ]

    once' : (p q : ℕ × K) (s : ℕ) → leads' p ≡ Some s → leads' q ≡ Some s → same_key eq p q ≡ true
    once' p q s of_p of_q = elim (two_ways (same_key eq k p)) [
      | inl same_p ↦ (elim (two_ways (same_key eq k q)) [
        | inl same_q ↦ sym ((same_key_equiv laws).congr k p q same_p) ∙ same_q
        | inr other_q ↦ absurd (not_new q s (sym (elsewhere q other_q) ∙ of_q) (sym (here p same_p) ∙ of_p))
      ])
      | inr other_p ↦ (elim (two_ways (same_key eq k q)) [
        | inl same_q ↦ absurd (not_new p s (sym (elsewhere p other_p) ∙ of_p) (sym (here q same_q) ∙ of_q))
        | inr other_q ↦ is.once p q s (sym (elsewhere p other_p) ∙ of_p) (sym (elsewhere q other_q) ∙ of_q)
      ])
    ]

    -- what stands once the key leads elsewhere
    pub tagged_after : IsTagged eq leads' keys' slots'
    tagged_after = record {
      tagged = tagged';
      back = λ s part now. let w = key_now s part now in
          ap (option_and_then leads') w.1 ∙ w.2;
      under = λ s part now. let w = key_now s part now in
          ap (option_map (λ q. fingerprint q.0)) w.1 ∙ ap Some w.3;
      once = once';
    }

-- a key that leads to no slot, near or far
pub none_near : (near far : Option ℕ) → option_or near far ≡ None → near ≡ None
none_near None far none = refl
none_near (Some s) far none = absurd (none-some s (sym none))

-- keys that are far are not near once a key that is not near leads far
module _ {K : Type 0} (eq : K → K → Bool) (near far far' : ℕ × K → Option ℕ) (k : ℕ × K) (slot : Option ℕ)
    (respects : (p q : ℕ × K) → same_key eq p q ≡ true → near p ≡ near q)
    (apart : (q : ℕ × K) (s : ℕ) → far q ≡ Some s → near q ≡ None)
    (led : (q : ℕ × K) → far' q ≡ update (same_key eq) far k slot q) (absent : near k ≡ None) where
  pub still_apart : (q : ℕ × K) (s : ℕ) → far' q ≡ Some s → near q ≡ None
  still_apart q s is = elim (two_ways (same_key eq k q)) [
    | inl same ↦ sym (respects k q same) ∙ absent
    | inr other ↦ apart q s (sym (led q ∙ update_other (same_key eq) far k slot q other) ∙ is)
  ]
