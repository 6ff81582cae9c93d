-- New shards, one more at a time.
use Rattle.std.proofs.Common.{◌≡◌, ℕ, zero, suc, ◌+◌, ◌⊎◌, inl, inr, List, [], ◌∷◌, ◌++◌, length, Option, Some, None, Err, refl, ap, subst, arith}
use Rattle.std.specs.Prelude.{slice_get, Result, IfSome}
use Rattle.std.proofs.lemmas.List.{length_push}
use Rattle.foyer_core.specs.declared.config.RawCacheConfig.{RawCacheConfig}
use Rattle.foyer_core.specs.Core.{AreNewShards, IsNewShard, share_of}
use Rattle.foyer_core.specs.State.{Meaning, State}

-- what stands in a list with one more at its end
get_pushed : {A : Type 0} (xs : List A) (x : A) (i : ℕ) (y : A) → slice_get (xs ++ x ∷ []) i ≡ Some y →
    ((i ≡ length xs) × (x ≡ y)) ⊎ (slice_get xs i ≡ Some y)
get_pushed [] x zero y h = inl (refl, cc)
get_pushed [] x (suc i) y h = absurd cc
get_pushed (a ∷ xs) x zero y h = inr h
get_pushed (a ∷ xs) x (suc i) y h = elim (get_pushed xs x i y h) [
  | inl e ↦ inl (ap suc e.0, e.1)
  | inr e ↦ inr e
]

-- one more new shard
pub new_pushed : {K V P View C S W A : Type 0} (m : Meaning K P View C) (config : RawCacheConfig C S W A) (many : ℕ)
    (shards : List (State K V P View)) (s : State K V P View)
    → AreNewShards m config many shards → IsNewShard m config.eviction_config config.number
    (share_of config.capacity config.shards many) config.limits s
    → AreNewShards m config (many + 1) (shards ++ s ∷ [])
new_pushed {K} {V} {P} {View} m config many shards s made new = record {
  counted = omega (arith, length_push shards s, made.counted);
  each = λ i t is. elim (get_pushed shards s i t is) [
    | inl e ↦ (let place : many ≡ i = omega (arith, e.0, made.counted) in
        subst (λ (x : State K V P View). IsNewShard m config.eviction_config config.number
        (share_of config.capacity config.shards i) config.limits x) e.1
        (subst (λ (n : ℕ). IsNewShard m config.eviction_config config.number
        (share_of config.capacity config.shards n) config.limits s) place new))
    | inr e ↦ made.each i t e
  ];
}

-- a refusal by a fault is one of another answer too
pub refused_by : (T U : Type 0) {E : Type 0} (fault : Option E) (e : E) →
    IfSome fault (λ reason. ◌≡◌ {A = Result T E} (Err e) (Err reason)) →
    IfSome fault (λ reason. ◌≡◌ {A = Result U E} (Err e) (Err reason))
refused_by T U None e h = h
refused_by T U (Some reason) e h = (let same : e ≡ reason = cc in cc)
