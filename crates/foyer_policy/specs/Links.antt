-- What a contract sees of a link: the place that it leads to, or none.
use Rattle.std.specs.Prelude.{◌≡◌, ℕ, ◌==◌, Bool, true, false, Option, Some, None, unwrap_or, refl, if◌then◌else◌}
use Rattle.std.proofs.Common.{ap, sym, arith}
use Rattle.std.proofs.lemmas.Bool.Decides.{nat_tests}
use Rattle.foyer_policy.specs.declared.link.Link.TheInside.{Inside}

abbrev pub place_of : Inside → Option ℕ
place_of l = if l.place == 18446744073709551615 then None else Some l.place

abbrev pub with_place : Option ℕ → Inside
with_place o = record { place = unwrap_or o 18446744073709551615 }

-- the field comes back
pub with_place-place_of : (l : Inside) → with_place (place_of l) ≡ l
with_place-place_of l = go (l.place == 18446744073709551615) refl where
  go : (b : Bool) → (l.place == 18446744073709551615) ≡ b → with_place (if b then None else Some l.place) ≡ l
  go true is = let here : l.place ≡ 18446744073709551615 = grind (arith, nat_tests) in
      ap (λ (n : ℕ). record { place = n }) (sym here)
  go false is = refl
