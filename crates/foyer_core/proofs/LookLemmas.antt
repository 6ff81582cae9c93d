-- A look-up's answer, and the same as a result.
use Rattle.std.proofs.Common.{◌≡◌, Option, Some, None, true, refl, sym, ap}
use Rattle.std.specs.Prelude.{Result, Ok, Err, IfOk, IfSome}
use Rattle.foyer_core.specs.Looks.{IfHit, look_of, look_whole, whole}
use Rattle.foyer_core.specs.Values.{Held}
use Rattle.foyer_core.specs.declared.outcome.Got.{Got}
use Rattle.foyer_core.specs.declared.outcome.Got.TheVariants.{Hit, Miss, Full, OutOfMemory}

pub whole_is : {K V P : Type 0} (e : Held K V P) → e.left ≡ true → whole e ≡ e
whole_is {K} {V} {P} e h = ap (λ b. let x : Held K V P = record e { left = b } in x) (sym h)

pub whole_got : {K V P : Type 0} (f : Got K V P) → IfHit f (λ e. e.left ≡ true) → look_whole f ≡ look_of f
whole_got {K} {V} {P} (Hit e) h = ap (λ (x : Held K V P). Ok (Some x)) (whole_is e h)
whole_got Miss h = refl
whole_got Full h = refl
whole_got OutOfMemory h = refl

-- what holds of the data of the entry
module _ {K V P : Type 0} (Q : Held K V P → Type 0) where
  pub got_hit : (f : Got K V P) → IfHit f Q → IfOk (look_of f) (λ found. IfSome found Q)
  got_hit (Hit e) h = h
  got_hit Miss h = tt
  got_hit Full h = tt
  got_hit OutOfMemory h = tt

  pub hit_whole : (f : Got K V P) → ((e : Held K V P) → Q (whole e) → Q e) →
      IfOk (look_whole f) (λ found. IfSome found Q) → IfHit f Q
  hit_whole (Hit e) so h = so e h
  hit_whole Miss so h = tt
  hit_whole Full so h = tt
  hit_whole OutOfMemory so h = tt
