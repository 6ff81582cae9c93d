-- What a key hits at a moment, and what the index has under it.
use Rattle.std.proofs.Common.{◌≡◌, ℕ, Bool, true, false, cond, Option, Some, None, refl, sym, ◌∙◌, ap}
use Rattle.std.specs.Prelude.{option_and_then}
use Rattle.foyer_core.specs.State.{Meaning, State, hit, is_expired_in}

module _ {K V P View C : Type 0} (m : Meaning K P View C) (now : ℕ) (s : State K V P View) (k : ℕ × K) where
  abbrev unless : ℕ → Option ℕ
  unless i = cond (is_expired_in m.expires now (s.records i)) None (Some i)

  -- what is hit is in the index
  pub hit_index : (id : ℕ) → hit m now s k ≡ Some id → s.index k ≡ Some id
  hit_index id h = go (s.index k) h where
    by : (b : Bool) (i : ℕ) → cond b None (Some i) ≡ Some id → Some i ≡ Some id
    by true i h = absurd (let e : ◌≡◌ {A = Option ℕ} None (Some id) = h in cc)
    by false i h = h

    go : (o : Option ℕ) → option_and_then unless o ≡ Some id → o ≡ Some id
    go None h = h
    go (Some i) h = by (is_expired_in m.expires now (s.records i)) i h

  -- what is in the index and not expired is hit
  pub hit_live : (id : ℕ) → s.index k ≡ Some id → is_expired_in m.expires now (s.records id) ≡ false →
      hit m now s k ≡ Some id
  hit_live id is live = ap (option_and_then unless) is ∙ ap (λ (b : Bool). cond b None (Some id)) live

  -- what is expired is not
  pub hit_expired : (id : ℕ) → s.index k ≡ Some id → is_expired_in m.expires now (s.records id) ≡ true →
      hit m now s k ≡ None
  hit_expired id is expired = ap (option_and_then unless) is ∙ ap (λ (b : Bool). cond b None (Some id)) expired

  -- where nothing is in the index, nothing is hit
  pub hit_none : s.index k ≡ None → hit m now s k ≡ None
  hit_none is = ap (option_and_then unless) is

  -- where nothing is hit, what is in the index is expired
  pub missed_expired : hit m now s k ≡ None → (id : ℕ) → s.index k ≡ Some id →
      is_expired_in m.expires now (s.records id) ≡ true
  missed_expired missed id is = go (is_expired_in m.expires now (s.records id)) refl where
    go : (b : Bool) → is_expired_in m.expires now (s.records id) ≡ b → b ≡ true
    go true e = refl
    go false e = absurd (let n : ◌≡◌ {A = Option ℕ} None (Some id) = sym missed ∙ hit_live id is e in cc)

  -- what is hit is not expired
  pub hit_fresh : (id : ℕ) → hit m now s k ≡ Some id → is_expired_in m.expires now (s.records id) ≡ false
  hit_fresh id h = go (is_expired_in m.expires now (s.records id)) refl where
    go : (b : Bool) → is_expired_in m.expires now (s.records id) ≡ b → b ≡ false
    go false e = refl
    go true e = absurd (let n : ◌≡◌ {A = Option ℕ} None (Some id) = sym (hit_expired id (hit_index id h) e) ∙ h in cc)
