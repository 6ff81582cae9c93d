-- What a cache's time to live makes of the properties of what comes in.
use Rattle.std.specs.Prelude.{◌+◌, ◌-◌, ◌^◌, ℕ, Option, None, Some, min}

-- these properties, with this expiry if they have none: `with_expiry_of` says what they are with it
abbrev pub or_expiring : {P : Type 0} → (P → Option ℕ → P) → ℕ → Option ℕ → P → P
or_expiring with_expiry_of moment (Some _) p = p
or_expiring with_expiry_of moment None p = with_expiry_of p (Some moment)

-- the properties of what comes in at a moment, with an expiry that follows from the time to live, at most 2^64 - 1, unless
-- there is none or they have an expiry of their own
abbrev pub living : {P : Type 0} → (P → Option ℕ) → (P → Option ℕ → P) → ℕ → Option ℕ → P → P
living expiry_of with_expiry_of now None p = p
living expiry_of with_expiry_of now (Some life) p = or_expiring with_expiry_of (min (now + life) (2 ^ 64 - 1)) (expiry_of p) p
