-- An element that is written as it was.
use Rattle.std.proofs.Common.{◌≡◌, ℕ, List, set, get_or, ◌∙◌, ap}
use Rattle.std.proofs.lemmas.List.{set-get_or}

pub same_item : {X : Type 0} (xs : List X) (i : ℕ) (x y : X) → x ≡ get_or xs i x → y ≡ x → set xs i y ≡ xs
same_item xs i x y is e = ap (set xs i) (e ∙ is) ∙ set-get_or xs i x
