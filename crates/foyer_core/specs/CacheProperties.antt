-- What contracts see of the properties of a plain cache.
use Rattle.std.specs.Prelude.{◌≡◌, ℕ, Bool, true, false, Option, Some, None, unwrap_or, is_some, refl}
use Rattle.std.proofs.Common.{ap, sym}
use Rattle.foyer_policy.specs.declared.types.Hint.{Hint}
use Rattle.foyer_core.specs.declared.properties.CacheProperties.TheInside.{Inside}
use Rattle.foyer_core.specs.Values.{Answered}

-- the moment, where the record expires
abbrev pub moment_if : Bool → ℕ → Option ℕ
moment_if true moment = Some moment
moment_if false moment = None

abbrev pub whole : Inside → Answered
whole p = record { phantom = p.phantom; hint = p.hint; expires = moment_if p.expires p.moment }

abbrev pub parts : Answered → Inside
parts a = record {
  phantom = a.phantom;
  hint = a.hint;
  moment = unwrap_or a.expires 0;
  expires = is_some a.expires;
}

-- where the record does not expire, 0 stands for the moment
abbrev pub IsPlain : Inside → Type 0
IsPlain p = p.expires ≡ false → p.moment ≡ 0

-- the parts come back
pub parts-whole : (p : Inside) → IsPlain p → parts (whole p) ≡ p
parts-whole p plain = go p.expires refl where
  go : (b : Bool) → p.expires ≡ b → parts (whole p) ≡ p
  go true e = rw e refl
  go false e = rw e (ap (kept p.phantom p.hint) (sym (plain e))) where
    kept : Option Bool → Hint → ℕ → Inside
    kept phantom hint moment = record { phantom = phantom; hint = hint; moment = moment; expires = false }
