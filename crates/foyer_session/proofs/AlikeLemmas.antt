-- Clones of answers, and equal ones, by those who waited and what they get.
use Rattle.std.proofs.Common.{◌≡◌, ℕ, suc, List, [], ◌∷◌, Option, Some, None, Result, Ok, Err, Bool, true, false, refl, sym, ap, ◌∙◌, subst}
use Rattle.std.specs.Prelude.{nat_eq, ◌&&◌, ◌||◌, length}
use Rattle.std.specs.Cmp.Lexicographic.{pointwise}
use Rattle.std.proofs.Math.Dec.{eqb-suc-suc, eqb-suc-zero}
use Rattle.std.proofs.lemmas.List.{length-map}
use Rattle.foyer_policy.specs.Errors.{SameReason}
use Rattle.foyer_policy.specs.declared.error.Reason.{Reason}
use Rattle.foyer_core.specs.declared.outcome.Waiting.{Waiting}
use Rattle.foyer_session.specs.declared.answers.Gets.{Gets}
use Rattle.foyer_session.specs.declared.answers.Gets.TheVariants.{Handles, Nothing, Fault}
use Rattle.foyer_session.specs.Alike.{SameAnswers, SameGets, SameGot, answers_eq, gets_eq, handles_in, refusals_in}
use Rattle.foyer_session.proofs.AnswerLemmas.{got-many}
use Rattle.foyer_session.specs.Tokens.{each_gets, got_by, handles_from, numbers_of}

same_handles : (first : ℕ) (tokens : List ℕ) → SameAnswers (handles_from first tokens) (handles_from first tokens)
same_handles first [] = tt
same_handles first (t ∷ ts) = (refl, refl, same_handles (suc first) ts)

same_each : (got copy : Result (Option ℕ) Reason) (tokens : List ℕ) → SameGot got copy →
    SameAnswers (each_gets got tokens) (each_gets copy tokens)
same_each got copy [] same = tt
same_each got copy (t ∷ ts) same = (refl, same, same_each got copy ts same)

same_by : (gets copy : Gets) (tokens : List ℕ) → SameGets gets copy →
    SameAnswers (got_by gets tokens) (got_by copy tokens)
same_by (Handles first) (Handles copy) tokens same =
    subst (λ n. SameAnswers (handles_from first tokens) (handles_from n tokens)) (sym same) (same_handles first tokens)
same_by Nothing Nothing tokens same = same_each (Ok None) (Ok None) tokens refl
same_by (Fault reason) (Fault copy) tokens same = same_each (Err reason) (Err copy) tokens same
same_by (Handles first) Nothing tokens same = absurd same
same_by (Handles first) (Fault copy) tokens same = absurd same
same_by Nothing (Handles copy) tokens same = absurd same
same_by Nothing (Fault copy) tokens same = absurd same
same_by (Fault reason) (Handles copy) tokens same = absurd same
same_by (Fault reason) Nothing tokens same = absurd same

-- those who waited get the same by a clone
pub same_answers : {N : Type 0} (gets copy : Gets) (waiters others : List (Waiting N)) → SameGets gets copy → others
    ≡ waiters
    → SameAnswers (got_by gets (numbers_of waiters)) (got_by copy (numbers_of others))
same_answers gets copy waiters others same is =
    subst (λ ws. SameAnswers (got_by gets (numbers_of waiters)) (got_by copy (numbers_of ws))) (sym is)
    (same_by gets copy (numbers_of waiters) same)

pub and_true : (b : Bool) → (b && true) ≡ b
and_true true = refl
and_true false = refl

-- the same tokens wait, where only the tokens are compared
pub tokens_eq : {N : Type 0} (equal : Waiting N → Waiting N → Bool) →
    ((x y : Waiting N) → equal x y ≡ nat_eq x.token y.token) → (xs ys : List (Waiting N))
    → pointwise equal xs ys ≡ pointwise nat_eq (numbers_of xs) (numbers_of ys)
tokens_eq equal is [] [] = refl
tokens_eq equal is [] (y ∷ ys) = refl
tokens_eq equal is (x ∷ xs) [] = refl
tokens_eq equal is (x ∷ xs) (y ∷ ys) = λ i. is x y i && tokens_eq equal is xs ys i

-- whether nobody waits
abbrev none : List ℕ → Bool
none [] = true
none (t ∷ ts) = false

none_is : (ts : List ℕ) → nat_eq (length ts) 0 ≡ none ts
none_is [] = refl
none_is (t ∷ ts) = eqb-suc-zero (length ts)

module _ (reasons : Reason → Reason → Bool) where
  -- whether two got the same
  abbrev same : Result (Option ℕ) Reason → Result (Option ℕ) Reason → Bool
  same x y = pointwise nat_eq (handles_in x) (handles_in y) && pointwise reasons (refusals_in x) (refusals_in y)

  same_next : (a b : ℕ) → same (Ok (Some (suc a))) (Ok (Some (suc b))) ≡ same (Ok (Some a)) (Ok (Some b))
  same_next a b = ap (λ n. (n && true) && true) (eqb-suc-suc a b)

  one_more : (token rest empty got : Bool) → ((token && got) && (rest && (empty || got))) ≡ ((token && rest) && got)
  one_more false rest empty got = refl
  one_more true true true true = refl
  one_more true true false true = refl
  one_more true false empty true = refl
  one_more true true empty false = refl
  one_more true false empty false = refl

  apart : (token rest more : Bool) → ((token && false) && more) ≡ ((token && rest) && false)
  apart false rest more = refl
  apart true true more = refl
  apart true false more = refl

  handles_eq : (a b : ℕ) (ts us : List ℕ) → answers_eq reasons (handles_from a ts) (handles_from b us)
      ≡ (pointwise nat_eq ts us && (none ts || same (Ok (Some a)) (Ok (Some b))))
  handles_eq a b [] [] = refl
  handles_eq a b [] (u ∷ us) = refl
  handles_eq a b (t ∷ ts) [] = refl
  handles_eq a b (t ∷ ts) (u ∷ us) =
      ap (λ more. (nat_eq t u && same (Ok (Some a)) (Ok (Some b))) && more)
      (handles_eq (suc a) (suc b) ts us ∙ ap (λ got. pointwise nat_eq ts us && (none ts || got)) (same_next a b))
      ∙ one_more (nat_eq t u) (pointwise nat_eq ts us) (none ts) (same (Ok (Some a)) (Ok (Some b)))

  each_eq : (x y : Result (Option ℕ) Reason) (ts us : List ℕ) → answers_eq reasons (each_gets x ts) (each_gets y us)
      ≡ (pointwise nat_eq ts us && (none ts || same x y))
  each_eq x y [] [] = refl
  each_eq x y [] (u ∷ us) = refl
  each_eq x y (t ∷ ts) [] = refl
  each_eq x y (t ∷ ts) (u ∷ us) =
      ap (λ more. (nat_eq t u && same x y) && more) (each_eq x y ts us)
      ∙ one_more (nat_eq t u) (pointwise nat_eq ts us) (none ts) (same x y)

  -- what all of one kind get, beside what all of another get
  abbrev IsApart : (List ℕ → List (ℕ × Result (Option ℕ) Reason)) → (List ℕ → List (ℕ × Result (Option ℕ) Reason)) →
      Type 0
  IsApart f g = (ts us : List ℕ) → answers_eq reasons (f ts) (g us) ≡ (pointwise nat_eq ts us && (none ts || false))

  handles_each : (a : ℕ) (y : Result (Option ℕ) Reason) → same (Ok (Some a)) y ≡ false →
      IsApart (handles_from a) (each_gets y)
  handles_each a y differ [] [] = refl
  handles_each a y differ [] (u ∷ us) = refl
  handles_each a y differ (t ∷ ts) [] = refl
  handles_each a y differ (t ∷ ts) (u ∷ us) =
      ap (λ got. (nat_eq t u && got) && answers_eq reasons (handles_from (suc a) ts) (each_gets y us)) differ
      ∙ apart (nat_eq t u) (pointwise nat_eq ts us) (answers_eq reasons (handles_from (suc a) ts) (each_gets y us))

  each_handles : (x : Result (Option ℕ) Reason) (b : ℕ) → same x (Ok (Some b)) ≡ false →
      IsApart (each_gets x) (handles_from b)
  each_handles x b differ [] [] = refl
  each_handles x b differ [] (u ∷ us) = refl
  each_handles x b differ (t ∷ ts) [] = refl
  each_handles x b differ (t ∷ ts) (u ∷ us) =
      ap (λ got. (nat_eq t u && got) && answers_eq reasons (each_gets x ts) (handles_from (suc b) us)) differ
      ∙ apart (nat_eq t u) (pointwise nat_eq ts us) (answers_eq reasons (each_gets x ts) (handles_from (suc b) us))

  by_kinds : (gets others : Gets) (ts us : List ℕ) → answers_eq reasons (got_by gets ts) (got_by others us)
      ≡ (pointwise nat_eq ts us && (none ts || gets_eq reasons gets others))
  by_kinds (Handles a) (Handles b) ts us =
      handles_eq a b ts us ∙ ap (λ got. pointwise nat_eq ts us && (none ts || got))
      (and_true (nat_eq a b && true) ∙ and_true (nat_eq a b))
  by_kinds (Handles a) Nothing ts us = handles_each a (Ok None) refl ts us
  by_kinds (Handles a) (Fault reason) ts us = handles_each a (Err reason) refl ts us
  by_kinds Nothing (Handles b) ts us = each_handles (Ok None) b refl ts us
  by_kinds Nothing Nothing ts us = each_eq (Ok None) (Ok None) ts us
  by_kinds Nothing (Fault reason) ts us = each_eq (Ok None) (Err reason) ts us
  by_kinds (Fault reason) (Handles b) ts us = each_handles (Err reason) b refl ts us
  by_kinds (Fault reason) Nothing ts us = each_eq (Err reason) (Ok None) ts us
  by_kinds (Fault reason) (Fault other) ts us =
      each_eq (Err reason) (Err other) ts us ∙ ap (λ got. pointwise nat_eq ts us && (none ts || got))
      (and_true (reasons reason other))

  -- two lists of answers are equal where the tokens are, and none waits or what they get is equal
  pub answers_eq_is : {N : Type 0} (gets others : Gets) (waiters waits : List (Waiting N))
      (xs ys : List (ℕ × Result (Option ℕ) Reason)) (tokens empty got : Bool)
      → got_by gets (numbers_of waiters) ≡ xs → got_by others (numbers_of waits) ≡ ys
      → tokens ≡ pointwise nat_eq (numbers_of waiters) (numbers_of waits) → empty ≡ nat_eq (length xs) 0 → got
      ≡ gets_eq reasons gets others
      → answers_eq reasons xs ys ≡ (tokens && (empty || got))
  answers_eq_is gets others waiters waits xs ys tokens empty got is are a e q =
      let long : length (numbers_of waiters) ≡ length xs = length-map waiters (λ w. w.token)
      ∙ sym (got-many gets waiters) ∙ ap length is in
      (λ i. answers_eq reasons (sym is i) (sym are i)) ∙ by_kinds gets others (numbers_of waiters) (numbers_of waits)
      ∙ (λ i. sym a i && ((sym (none_is (numbers_of waiters)) ∙ ap (λ n. nat_eq n 0) long ∙ sym e) i || sym q i))
