-- What a shard keeps, as a session uses it.
use Rattle.std.proofs.Common.{◌≡◌, ℕ, Option, Some, None, Ok, true, false, Bool, refl, ap, arith, ◌==◌, ◌&&◌}
use Rattle.std.proofs.lemmas.Bool.Decides.{nat_tests}
use Rattle.foyer_core.specs.Indexer.{same_key}
use Rattle.foyer_core.specs.Values.{Rec, Gone, Held}
use Rattle.foyer_core.specs.State.{Meaning, State, IsKept, key_of, handles_of, handles_in}
use Rattle.foyer_core.specs.Steps.{Gets, Removes}
use Rattle.foyer_core.proofs.Hits.{hit_index}

pub first_holds : (a b : Bool) → (a && b) ≡ true → a ≡ true
first_holds true b h = refl
first_holds false b h = absurd cc

module _ {K V P View C : Type 0} (m : Meaning K P View C) (s : State K V P View) (kept : IsKept m s) where
  -- there is no handle of the next id
  pub next_unused : handles_in s s.next ≡ 0
  next_unused = go (s.records s.next) refl where
    go : (o : Option (Rec K V P)) → s.records s.next ≡ o → handles_in s s.next ≡ 0
    go None is = ap (λ (x : Option (Rec K V P)). handles_of x) is
    go (Some r) is = absurd (omega (arith, kept.fresh s.next r is))

  -- what a get finds has the hash that was asked for
  pub found_hash : (now : ℕ) (k : ℕ × K) (entry : Held K V P) (t : State K V P View) → Gets m now s k (Ok (Some entry)) t →
      entry.kept.hash ≡ k.0
  found_hash now k entry t h =
      let same : same_key m.same k (key_of h.0.kept) ≡ true = (kept.indexed k entry.id (hit_index m now s k entry.id h.1)).1 h.0 h.2 in
      let e : (k.0 == h.0.kept.hash) ≡ true = first_holds (k.0 == h.0.kept.hash) (m.same k.1 h.0.kept.key) same in
      let alike : entry.kept.hash ≡ h.0.kept.hash = ap (λ (x : Held K V P). x.kept.hash) h.4 in
      grind (arith, nat_tests)

  -- so has what a remove takes out
  pub removed_hash : (k : ℕ × K) (entry : Held K V P) (gone : Gone K V P) (t : State K V P View) →
      Removes m s k (Ok (Some (entry, gone))) t → entry.kept.hash ≡ k.0
  removed_hash k entry gone t h =
      let same : same_key m.same k (key_of h.0.kept) ≡ true = (kept.indexed k entry.id h.1).1 h.0 h.2 in
      let e : (k.0 == h.0.kept.hash) ≡ true = first_holds (k.0 == h.0.kept.hash) (m.same k.1 h.0.kept.key) same in
      let alike : entry.kept.hash ≡ h.0.kept.hash = ap (λ (x : Held K V P). x.kept.hash) h.4 in
      grind (arith, nat_tests)
