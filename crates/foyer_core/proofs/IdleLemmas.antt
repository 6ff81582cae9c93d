-- Cores that fetch nothing.
use Rattle.std.proofs.Common.{◌≡◌, ℕ, ◌%◌, List, length, Option, Some, None, refl, sym, ◌∙◌, ap}
use Rattle.std.specs.Prelude.{All, option_and_then, slice_get}
use Rattle.std.proofs.lemmas.List.Elements.{All-get_or}
use Rattle.std.proofs.lemmas.Option.{get_or_from_slice_get, slice_get_within}
use Rattle.foyer_core.specs.Idle.{NoneOpen}
use Rattle.foyer_core.specs.Inflight.{Opens, OpenFetch, no_opens}

module _ {K N R : Type 0} where
  abbrev place_at : List (Opens K N R) → ℕ → ℕ × K → Option (OpenFetch N R)
  place_at fetches i k = option_and_then (λ (f : Opens K N R). f.by_key k) (slice_get fetches i)

  -- where no fetch ever was, none is open
  pub none_open : (fetches : List (Opens K N R)) → All (λ f. f ≡ no_opens) fetches → NoneOpen fetches
  none_open fetches new k = go (slice_get fetches (k.0 % length fetches)) refl where
    go : (o : Option (Opens K N R)) → slice_get fetches (k.0 % length fetches) ≡ o →
        option_and_then (λ f. f.by_key k) o ≡ None
    go None is = refl
    go (Some f) is =
        let at : ℕ = k.0 % length fetches in
        let f_is : f ≡ no_opens = sym (get_or_from_slice_get fetches at f f is)
        ∙ All-get_or (λ g. g ≡ no_opens) fetches at f (slice_get_within fetches at f is) new in
        ap (λ (g : Opens K N R). g.by_key k) f_is
