-- Which slot each hashed key leads to, by what was marked.
use Rattle.std.specs.Prelude.{◌≡◌, ℕ, Bool, true, nat_eq, Option, Some, None, option_and_then, option_map, cond, refl}
use Rattle.std.specs.Option.{option_or}
use Rattle.std.proofs.Common.{ap}
use Rattle.std.proofs.Props.{props}
use Rattle.std.specs.Cmp.{IsEquivalence}
use Rattle.std.specs.Map.{update}
use Rattle.foyer_core.specs.Indexer.{same_key, same_key_equiv}
use Rattle.foyer_core.specs.Probing.{fingerprint}
use Rattle.foyer_core.specs.declared.finder.trail.Marks.{Marks, Start, Mark'}
use Rattle.foyer_core.specs.declared.finder.trail.Trail.{Trail}

module _ {K : Type 0} where
  -- the keys of slots, once this key leads to a slot, or to none
  abbrev pub keyed_with : Option ℕ → ℕ × K → (ℕ → Option (ℕ × K)) → ℕ → Option (ℕ × K)
  keyed_with None q keys s = keys s
  keyed_with (Some n) q keys s = update nat_eq keys n (Some q) s

  abbrev led_by : (K → K → Bool) → Marks K → ℕ × K → Option ℕ
  led_by eq Start q = None
  led_by eq (Mark' shape before hash key slot) q = update (same_key eq) (led_by eq before) (hash, key.value) slot q

  abbrev keyed_by : Marks K → ℕ → Option (ℕ × K)
  keyed_by Start s = None
  keyed_by (Mark' shape before hash key slot) s = keyed_with slot (hash, key.value) (keyed_by before) s

  -- the slot to which a hashed key leads
  abbrev pub led : (K → K → Bool) → Trail K → ℕ × K → Option ℕ
  led eq t = led_by eq t.marks.value

  -- the hashed key that came last to lead to a slot
  abbrev pub keyed : Trail K → ℕ → Option (ℕ × K)
  keyed t = keyed_by t.marks.value

  led_by_same : {eq : K → K → Bool} → IsEquivalence eq → (p q : ℕ × K) → same_key eq p q ≡ true → (t : Marks K)
      → led_by eq t p ≡ led_by eq t q
  led_by_same laws p q same Start = refl
  led_by_same {eq = eq} laws p q same (Mark' shape before hash key slot) =
      let e = same_key_equiv laws in
      rw (e.symm (hash, key.value) p, e.congr p q (hash, key.value) same, e.symm q (hash, key.value))
      (ap (λ (o : Option ℕ). cond (same_key eq (hash, key.value) q) slot o) (led_by_same laws p q same before))

  -- equal hashed keys lead to the same slot
  pub led_same : {eq : K → K → Bool} → IsEquivalence eq → (t : Trail K) (p q : ℕ × K) → same_key eq p q ≡ true
      → led eq t p ≡ led eq t q
  led_same laws t p q same = led_by_same laws p q same t.marks.value

-- the slot near, where there is one, or else the one that is far
module _ {K : Type 0} (near far : ℕ × K → Option ℕ) where
  abbrev pub either : ℕ × K → Option ℕ
  either q = option_or (near q) (far q)

  pub either_same : (p q : ℕ × K) → near p ≡ near q → far p ≡ far q → either p ≡ either q
  either_same p q nears fars = rw (nears, fars) refl

-- tags that have the slots to which hashed keys lead, each under its key's fingerprint
pub record IsTagged {K : Type 0} (eq : K → K → Bool) (leads : ℕ × K → Option ℕ) (keys : ℕ → Option (ℕ × K))
    (slots : ℕ → Option ℕ) : Type 0 where
  pub tagged : (q : ℕ × K) (s : ℕ) → leads q ≡ Some s → slots s ≡ Some (fingerprint q.0)
  -- a slot that is in has a key, which leads to it
  pub back : (s part : ℕ) → slots s ≡ Some part → option_and_then leads (keys s) ≡ Some s
  pub under : (s part : ℕ) → slots s ≡ Some part → option_map (λ q. fingerprint q.0) (keys s) ≡ Some part
  -- keys that lead to one slot are one key
  pub once : (p q : ℕ × K) (s : ℕ) → leads p ≡ Some s → leads q ≡ Some s → same_key eq p q ≡ true

pub IsTagged-prop : {K : Type 0} (eq : K → K → Bool) (leads : ℕ × K → Option ℕ) (keys : ℕ → Option (ℕ × K))
    (slots : ℕ → Option ℕ) → IsProp (IsTagged eq leads keys slots)
IsTagged-prop eq leads keys slots = hlevel props
