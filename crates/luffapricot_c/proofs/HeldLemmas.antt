-- What an address holds after a call.
use Rattle.std.proofs.Common.{◌≡◌, ℕ, Option, Some, None, refl, subst, sym}
use Rattle.luffapricot_c.specs.Calls.{OnHeld}
use Rattle.luffapricot_c.specs.declared.cache.ByteCache.{ByteCache}

-- what is there makes a step
pub on_held : (step : ByteCache → ℕ → ByteCache → Type 0) (old new : ByteCache) (status : ℕ)
    (held after : Option ByteCache) → held ≡ Some old → after ≡ Some new → step old status new →
    OnHeld step held status after
unfolding OnHeld
on_held step old new status held after was is did =
    subst (λ h. OnHeld step h status after) (sym was) (subst (λ h. OnHeld step (Some old) status h) (sym is) did)

-- nothing is there, and nothing happens
pub on_none : (step : ByteCache → ℕ → ByteCache → Type 0) (held after : Option ByteCache) → held ≡ None → after ≡ None →
    OnHeld step held 107 after
unfolding OnHeld
on_none step held after was is = subst (λ h. OnHeld step h 107 after) (sym was) (refl, is)
