-- What a shard is asked that changes nothing, and what a shard's end tells.
use Rattle.std.specs.Prelude.{◌≡◌, ℕ, ◌<◌, true, Some}
use denote.Ref.{Bor}
use Rattle.std.specs.Fn.{Shared, FnReturns}
use Rattle.foyer_core.specs.State.{Meaning, State, hit}
use Rattle.foyer_core.specs.Values.{Rec}

-- what a key hits at a moment may have a handle more
abbrev pub MayGet : {K V P View C : Type 0} → Meaning K P View C → ℕ → State K V P View → ℕ × K → Type 0
MayGet {K} {V} {P} m now s k = (id : ℕ) (r : Rec K V P) → hit m now s k ≡ Some id → s.records id ≡ Some r →
    r.handles < s.limits.handles

-- a call that only looks was made with a key and a value, and ended
pub record IsTold {F K V : Type 0} (g : Shared F (Bor K × (Bor V × Unit {0})) (Unit {0})) (f : F) (key : K)
    (value : V) : Type 0 where
  pub shown_key : Bor K
  pub shown_value : Bor V
  pub shows : (shown_key.now ≡ key) × (shown_value.now ≡ value)
  pub ends : FnReturns g f (shown_key, (shown_value, tt)) tt

-- so it was for each record that is in the index
abbrev pub TellsResidents : {F K V P View : Type 0} → Shared F (Bor K × (Bor V × Unit {0})) (Unit {0}) → F →
    State K V P View → Type 0
TellsResidents {F} {K} {V} {P} g f s = (id : ℕ) (r : Rec K V P) → s.records id ≡ Some r → r.resident ≡ true →
    IsTold g f r.kept.key r.kept.value
