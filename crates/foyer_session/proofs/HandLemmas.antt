-- Entries that are handed out.
use Rattle.std.proofs.Common.{◌≡◌, ℕ, zero, suc, ◌+◌, List, [], ◌∷◌, ◌++◌, length, map, reverse, replicate, Option, Some, None, Result, Ok, true, refl, sym, ap, subst, ◌∙◌, append_assoc, arith}
use Rattle.std.proofs.lemmas.List.{length-append, length-map, length-replicate, map-append, replicate_more, reverse-append}
use Rattle.foyer_core.specs.declared.outcome.Outcome.{Outcome}
use Rattle.foyer_core.specs.declared.outcome.Outcome.TheVariants.{Entries, Fault, None as Nothing}
use Rattle.foyer_core.specs.Values.{Gone, Held}
use Rattle.foyer_core.specs.Waited.{entries_in, got_of as outcome_of}
use Rattle.foyer_session.specs.Step.{first_told, given, record_of}
use Rattle.foyer_session.specs.Tokens.{AreAlike, AreUntold}

module _ {K V P : Type 0} where
  -- what tells the first of these, or else this
  abbrev pub told_from : Option (Gone K V P) → List (Held K V P) → Option (Gone K V P)
  told_from told [] = told
  told_from told (entry ∷ entries) = Some (record_of entry)

  pub told_start : (entries : List (Held K V P)) → told_from None entries ≡ first_told entries
  told_start [] = refl
  told_start (entry ∷ entries) = refl

  -- the last one is handed out
  pub told_more : (told : Option (Gone K V P)) (all rest : List (Held K V P)) (entry : Held K V P) → all ≡ rest
      ++ entry ∷ [] → told_from (Some (record_of entry)) rest ≡ told_from told all
  told_more told all [] entry is = sym (ap (told_from told) is)
  told_more told all (x ∷ rest) entry is = sym (ap (told_from told) is)

  pub handed_more : (handles now : List (Option (Held K V P))) (all rest : List (Held K V P)) (entry : Held K V P)
      (goal : List (Option (Held K V P))) → all ≡ rest ++ entry ∷ [] → now ≡ handles ++ given entry ∷ []
      → handles ++ reverse (map given all) ≡ goal → now ++ reverse (map given rest) ≡ goal
  handed_more handles now all rest entry goal is pushed h =
      ap (λ (l : List (Option (Held K V P))). l ++ reverse (map given rest)) pushed
      ∙ append_assoc handles (given entry ∷ []) (reverse (map given rest))
      ∙ ap (λ (l : List (Option (Held K V P))). handles ++ l)
      (sym (ap (λ (l : List (Held K V P)). reverse (map given l)) is
      ∙ ap reverse (map-append given rest (entry ∷ [])) ∙ reverse-append (map given rest) (given entry ∷ [])))
      ∙ h

  pub untold_rest : (rest : List (Held K V P)) (entry : Held K V P) → AreUntold (rest ++ entry ∷ []) → AreUntold rest
  untold_rest [] entry h = tt
  untold_rest (x ∷ rest) entry h = (h.0, untold_rest rest entry h.1)

  pub untold_last : (rest : List (Held K V P)) (entry : Held K V P) → AreUntold (rest ++ entry ∷ []) → entry.left ≡ true
  untold_last [] entry h = h.0
  untold_last (x ∷ rest) entry h = untold_last rest entry h.1

  -- entries that are alike
  untold_all : (n : ℕ) (entry : Held K V P) → entry.left ≡ true → AreUntold (replicate n entry)
  untold_all zero entry h = tt
  untold_all (suc n) entry h = (h, untold_all n entry h)

  pub alike_untold : (entries : List (Held K V P)) → AreAlike entries → AreUntold entries
  alike_untold [] h = tt
  alike_untold (entry ∷ entries) h = (h.0, rw h.1 (untold_all (length entries) entry h.0))

  pub given_all : (n : ℕ) (entry : Held K V P) → map given (replicate n entry) ≡ replicate n (given entry)
  given_all zero entry = refl
  given_all (suc n) entry = ap (λ (l : List (Option (Held K V P))). given entry ∷ l) (given_all n entry)

  back_all : (n : ℕ) (x : Option (Held K V P)) → reverse (replicate n x) ≡ replicate n x
  back_all zero x = refl
  back_all (suc n) x =
      let next : n + 1 ≡ suc n = omega arith in
      reverse-append (x ∷ []) (replicate n x) ∙ ap (λ (l : List (Option (Held K V P))). l ++ x ∷ []) (back_all n x)
      ∙ replicate_more n x ∙ ap (λ (m : ℕ). replicate m x) next

  -- they are handed out in any order
  pub alike_back : (entries : List (Held K V P)) → AreAlike entries → reverse (map given entries) ≡ map given entries
  alike_back [] h = refl
  alike_back (entry ∷ entries) h =
      let n : ℕ = suc (length entries) in
      let all : map given (entry ∷ entries) ≡ replicate n (given entry) =
      ap (λ (l : List (Held K V P)). map given (entry ∷ l)) h.1 ∙ given_all n entry in
      ap reverse all ∙ back_all n (given entry) ∙ sym all

  -- so many that are alike
  pub alike_of : (n : ℕ) (entry : Held K V P) (entries : List (Held K V P)) → entry.left ≡ true → entries
      ≡ replicate n entry → AreAlike entries
  alike_of n entry entries untold is = subst AreAlike (sym is) (all n)
    where
      all : (m : ℕ) → AreAlike (replicate m entry)
      all zero = tt
      all (suc m) = (untold, ap (λ (k : ℕ). replicate k entry) (sym (length-replicate m entry)))

  -- one more after them
  pub one_after : (handles : List (Option (Held K V P))) (n : ℕ) (x : Option (Held K V P)) →
      (handles ++ replicate n x) ++ x ∷ [] ≡ handles ++ replicate (1 + n) x
  one_after handles n x =
      let next : n + 1 ≡ 1 + n = omega arith in
      append_assoc handles (replicate n x) (x ∷ [])
      ∙ ap (λ (l : List (Option (Held K V P))). handles ++ l)
      (replicate_more n x ∙ ap (λ (m : ℕ). replicate m x) next)

  -- what an outcome of entries gives
  pub entries_are : (o : Outcome K V P) (entries : List (Held K V P)) → entries_in o ≡ Some entries → outcome_of o
      ≡ Ok (Some entries)
  entries_are (Entries made) entries h = ap (λ (e : Option (List (Held K V P))). Ok e) h
  entries_are Nothing entries h = absurd cc
  entries_are (Fault reason) entries h = absurd cc

  -- how many there are then
  pub given_long : (handles : List (Option (Held K V P))) (n : ℕ) (entry : Held K V P) →
      length (handles ++ map given (replicate n entry)) ≡ length handles + n
  given_long handles n entry = length-append handles (map given (replicate n entry))
      ∙ ap (λ (x : ℕ). length handles + x) (length-map (replicate n entry) given ∙ length-replicate n entry)

  pub one_longer : (handles : List (Option (Held K V P))) (x : Option (Held K V P)) → length (handles ++ x ∷ [])
      ≡ length handles + 1
  one_longer handles x = length-append handles (x ∷ [])
