-- What may be left out of a line.
use Rattle.std.proofs.Common.{◌≡◌, ◌≢◌, ℕ, suc, ◌<◌, ◌≤◌, true, not, ◌&&◌, eqb, List, [], ◌∷◌, ◌++◌, length, refl, sym, ap, ◌∙◌, subst, arith, ⊎_elim, append_assoc, true≢false}
use Rattle.std.proofs.lemmas.Bool.{cases_eq, and_parts, and_from, and_left, and_right, not-true, not_from_false, eq-eqb, ne_eqb}
use Rattle.foyer_session.specs.declared.text.Line.TheVariants.{Bad}
use Rattle.foyer_session.specs.Text.{words, line_of, line_of_words}
use Rattle.foyer_session.specs.Kept.{StandsFor, last_after, is_tight_after}
use Rattle.foyer_session.proofs.WordLemmas.{words-space, words-append_space, words-one, words-go_on, words-begin}
use Rattle.foyer_session.proofs.LineLemmas.{weight_of, line_of_words-long}

pub StandsFor-refl : (xs : List ℕ) → StandsFor xs xs
StandsFor-refl xs = λ rest. refl

pub StandsFor-trans : (xs ys zs : List ℕ) → StandsFor xs ys → StandsFor ys zs → StandsFor xs zs
StandsFor-trans xs ys zs h k = λ rest. h rest ∙ k rest

-- the same bytes behind both
pub StandsFor-append : (xs ys more : List ℕ) → StandsFor xs ys → StandsFor (xs ++ more) (ys ++ more)
StandsFor-append xs ys more h = λ rest. ap line_of (append_assoc xs more rest) ∙ h (more ++ rest)
    ∙ ap line_of (sym (append_assoc ys more rest))

-- two spaces do not meet, so each byte adds to the words or parts them
tight_weight : (b : ℕ) (xs rest : List ℕ) → is_tight_after b xs ≡ true
    → (b ≡ 32 → length xs ≤ weight_of (words (xs ++ rest)))
    × (b ≢ 32 → suc (length xs) ≤ weight_of (words (b ∷ xs ++ rest)))
tight_weight b [] rest tight =
    (λ _. omega arith, λ ne. let (word, more, is) = words-begin b rest ne in omega (arith, ap weight_of is))
tight_weight b (c ∷ ys) rest tight =
    let (apart, later) = and_parts (not (eqb b 32 && eqb c 32)) (is_tight_after c ys) tight in
    let next = tight_weight c ys rest later in
    ⊎_elim (λ e. (
      λ d. absurd
          (true≢false
          (sym (and_from (eqb b 32) (eqb c 32) (eq-eqb b 32 d) (eq-eqb c 32 e))
          ∙ not-true (eqb b 32 && eqb c 32) apart)),
      λ ne.
          let is : words (b ∷ c ∷ ys ++ rest) ≡ (b ∷ []) ∷ words (ys ++ rest) = ap (λ x. words (b ∷ x ∷ ys ++ rest)) e
          ∙ words-one b (ys ++ rest) ne in
          omega (arith, ap weight_of is, next.0 e),
    )) (λ nf. (
      λ d. next.1 nf,
      λ ne. let (word, more, is, goes) = words-go_on b c (ys ++ rest) ne nf in
          omega (arith, ap weight_of is, ap weight_of goes, next.1 nf),
    )) (cases_eq c 32)

-- what is tight and long is bad, whatever follows
pub tight-bad : (xs rest : List ℕ) → is_tight_after 32 xs ≡ true → 105 < length xs → line_of (xs ++ rest) ≡ Bad
tight-bad xs rest tight long = line_of_words-long (words (xs ++ rest))
    (omega (arith, (tight_weight 32 xs rest tight).0 refl))

-- so another byte changes nothing
pub StandsFor-full : (xs : List ℕ) (b : ℕ) → is_tight_after 32 xs ≡ true → 105 < length xs → StandsFor xs (xs ++ b ∷ [])
StandsFor-full xs b tight long = λ rest. tight-bad xs rest tight long
    ∙ sym (ap line_of (append_assoc xs (b ∷ []) rest) ∙ tight-bad xs (b ∷ rest) tight long)

last_split : (b : ℕ) (xs : List ℕ) → (front : List ℕ) × (b ∷ xs ≡ front ++ last_after b xs ∷ [])
last_split b [] = ([], refl)
last_split b (x ∷ xs) = let (front, is) = last_split x xs in (b ∷ front, ap (λ l. b ∷ l) is)

StandsFor-twice : (front : List ℕ) → StandsFor (front ++ 32 ∷ []) ((front ++ 32 ∷ []) ++ 32 ∷ [])
StandsFor-twice front = λ rest. ap line_of_words (
    ap words (append_assoc front (32 ∷ []) rest) ∙ words-append_space front rest
    ∙ ap (λ l. words front ++ l) (sym (words-space rest))
    ∙ sym (words-append_space front (32 ∷ rest))
    ∙ ap words
    (sym (append_assoc front (32 ∷ []) (32 ∷ rest)) ∙ sym (append_assoc (front ++ 32 ∷ []) (32 ∷ []) rest)))

-- a space after a space, or in first place, changes nothing
pub StandsFor-space : (xs : List ℕ) → last_after 32 xs ≡ 32 → StandsFor xs (xs ++ 32 ∷ [])
StandsFor-space [] last = λ rest. ap line_of_words (sym (words-space rest))
StandsFor-space (b ∷ xs) last =
    let (front, is) = last_split b xs in
    let ends : b ∷ xs ≡ front ++ 32 ∷ [] = is ∙ ap (λ x. front ++ x ∷ []) last in
    subst (λ l. StandsFor l (l ++ 32 ∷ [])) (sym ends) (StandsFor-twice front)

pub apart_by_last : (last b : ℕ) → last ≢ 32 → not (eqb last 32 && eqb b 32) ≡ true
apart_by_last last b ne = not_from_false _ (and_left (eqb last 32) (eqb b 32) (ne_eqb last 32 ne))

pub apart_by_byte : (last b : ℕ) → b ≢ 32 → not (eqb last 32 && eqb b 32) ≡ true
apart_by_byte last b ne = not_from_false _ (and_right (eqb last 32) (eqb b 32) (ne_eqb b 32 ne))

pub last_after-push : (last : ℕ) (xs : List ℕ) (b : ℕ) → last_after last (xs ++ b ∷ []) ≡ b
last_after-push last [] b = refl
last_after-push last (x ∷ xs) b = last_after-push x xs b

pub is_tight_after-push : (last : ℕ) (xs : List ℕ) (b : ℕ) → is_tight_after last xs ≡ true →
    not (eqb (last_after last xs) 32 && eqb b 32) ≡ true → is_tight_after last (xs ++ b ∷ []) ≡ true
is_tight_after-push last [] b tight apart = and_from _ true apart refl
is_tight_after-push last (x ∷ xs) b tight apart =
    let (first, later) = and_parts (not (eqb last 32 && eqb x 32)) (is_tight_after x xs) tight in
    and_from (not (eqb last 32 && eqb x 32)) _ first (is_tight_after-push x xs b later apart)
