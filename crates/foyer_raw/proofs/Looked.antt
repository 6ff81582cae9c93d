-- What a look at a value gave, by what its closure makes of each value.
use Rattle.std.proofs.Common.{ℕ, Bool, Option, Some, None, Ok, Err}
use Rattle.std.specs.Prelude.{IfOk, IfSome, Result}
use Rattle.foyer_policy.specs.declared.error.Reason.{Reason}
use Rattle.foyer_core.specs.NoEntry.{SeesLive}

module _ {K V P T S : Type 0} (same : K → K → Bool) (expires : P → Option ℕ) (now : ℕ) (key : K) (A : V → T → Type 0)
    (B : V → S → Type 0) where
  pub live_as : (t : T) (s : S) → ((v : V) → A v t → B v s) → SeesLive {P = P} same expires now key A t →
      SeesLive {P = P} same expires now key B s
  live_as t s so h = record { kept = h.kept; asked = h.asked; live = h.live; made = so h.kept.value h.made }

module _ {K V P T : Type 0} (same : K → K → Bool) (expires : P → Option ℕ) (now : ℕ) (key : K) (A B : V → T → Type 0)
  where
    pub looked_as : (r : Result (Option T) Reason) → ((v : V) (t : T) → A v t → B v t)
        → IfOk r (λ found. IfSome found (SeesLive {P = P} same expires now key A))
        → IfOk r (λ found. IfSome found (SeesLive {P = P} same expires now key B))
    looked_as (Ok (Some t)) so h = live_as same expires now key A B t t (λ v. so v t) h
    looked_as (Ok None) so h = tt
    looked_as (Err e) so h = tt
