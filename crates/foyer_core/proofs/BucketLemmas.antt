-- Tags in buckets: reads after a write, and the fingerprint of a slot's tag in the first buckets.
use Rattle.std.proofs.Common.{
  ◌≡◌,
  ◌≢◌,
  ℕ,
  zero,
  suc,
  ◌+◌,
  ◌<◌,
  ◌≤◌,
  List,
  [],
  ◌∷◌,
  Option,
  Some,
  None,
  Bool,
  length,
  set,
  replicate,
  ◌++◌,
  refl,
  sym,
  ◌∙◌,
  ap,
  subst,
  inl,
  inr,
  arith,
}
use Rattle.std.specs.Prelude.{if◌then◌else◌, slice_get}
use Rattle.std.proofs.lemmas.Option.{none-some, same_Some, slice_get_within}
use Rattle.std.proofs.lemmas.Bool.Decides.{eqb_tells}
use Rattle.std.proofs.Math.Path.{fun_ext}
use Rattle.foyer_core.specs.Probing.{home, named, IsProbed, IsOnce, IsBefore, part_in, part_of, one_if, count_in}
use Rattle.foyer_core.specs.declared.tags.buckets.Tag.{Tag}

-- what holds of some tags holds of the same ones
pub along : (P : (ℕ → Option Tag) → Type 0) (at at' : ℕ → Option Tag) → ((i : ℕ) → at' i ≡ at i) → P at → P at'
along P at at' same p = let e : at' ≡ at = fun_ext same in subst P (sym e) p

-- it is the one that was read
pub named_twice : (o : Option Tag) (t : Tag) → named o ≡ Some t → named (Some t) ≡ Some t
named_twice None t e = absurd (none-some t e)
named_twice (Some u) t e = elim (eqb_tells u.slot 4294967295) [
  | inl h ↦ absurd (none-some t (sym (ap (λ (b : Bool). if b then None else Some u) h.0) ∙ e))
  | inr h ↦ (let read : named (Some u) ≡ Some u = ap (λ (b : Bool). if b then None else Some u) h.0 in
      let same : u ≡ t = same_Some u t (sym read ∙ e) in
      subst (λ (v : Tag). named (Some v) ≡ Some v) same read)
]

-- a tag stands in a bucket that there is
pub named_within : (xs : List Tag) (i : ℕ) (t : Tag) → named (slice_get xs i) ≡ Some t → i < length xs
named_within xs i t e = go (slice_get xs i) refl where
  go : (o : Option Tag) → slice_get xs i ≡ o → i < length xs
  go None is = absurd (none-some t (sym (ap named is) ∙ e))
  go (Some u) is = slice_get_within xs i u is

get_set : (xs : List Tag) (i : ℕ) (x : Tag) → i < length xs → slice_get (set xs i x) i ≡ Some x
get_set [] i x within = absurd (omega arith)
get_set (y ∷ xs) zero x within = refl
get_set (y ∷ xs) (suc i) x within = get_set xs i x (omega arith)

get_set_other : (xs : List Tag) (i j : ℕ) (x : Tag) → j ≢ i → slice_get (set xs i x) j ≡ slice_get xs j
get_set_other [] i j x apart = refl
get_set_other (y ∷ xs) zero zero x apart = absurd (apart refl)
get_set_other (y ∷ xs) zero (suc j) x apart = refl
get_set_other (y ∷ xs) (suc i) zero x apart = refl
get_set_other (y ∷ xs) (suc i) (suc j) x apart = get_set_other xs i j x (λ e. apart (ap suc e))

-- new buckets are empty
pub named_replicate : (m : ℕ) (e : Tag) → named (Some e) ≡ None → (i : ℕ) → named (slice_get (replicate m e) i) ≡ None
named_replicate zero e empty i = refl
named_replicate (suc m) e empty zero = empty
named_replicate (suc m) e empty (suc i) = named_replicate m e empty i

pub named_grown : (xs : List Tag) (m : ℕ) (e : Tag) → named (Some e) ≡ None → (i : ℕ)
    → named (slice_get (xs ++ replicate m e) i) ≡ named (slice_get xs i)
named_grown [] m e empty i = named_replicate m e empty i
named_grown (x ∷ xs) m e empty zero = refl
named_grown (x ∷ xs) m e empty (suc i) = named_grown xs m e empty i

-- a tag of a slot among the first buckets
pub record Stands (at : ℕ → Option Tag) (n slot : ℕ) : Type 0 where
  pub bucket : ℕ
  pub tag : Tag
  pub within : bucket < n
  pub here : at bucket ≡ Some tag
  pub names : tag.slot ≡ slot

module _ (at : ℕ → Option Tag) where
  pub standing : (n slot i : ℕ) (t : Tag) → i < n → at i ≡ Some t → t.slot ≡ slot
      → (v : Stands at n slot) × (v.tag ≡ t)
  standing n slot i t within is names =
      (record { bucket = i; tag = t; within = within; here = is; names = names }, refl)

  abbrev further : (n slot : ℕ) → Stands at n slot → Stands at (suc n) slot
  further n slot w = record
      { bucket = w.bucket; tag = w.tag; within = omega (arith, w.within); here = w.here; names = w.names }

  found_step : (n slot part : ℕ)
      → (part_of at n slot ≡ Some part → (w : Stands at n slot) × (w.tag.fingerprint ≡ part))
      → (o : Option Tag) → at n ≡ o → part_in o slot (part_of at n slot) ≡ Some part
      → (w : Stands at (suc n) slot) × (w.tag.fingerprint ≡ part)
  found_step n slot part before None is e =
      let w = before e in
      (further n slot w.0, w.1)
  found_step n slot part before (Some t) is e = elim (eqb_tells t.slot slot) [
    | inl h ↦ (
      record { bucket = n; tag = t; within = omega arith; here = is; names = h.1 },
      same_Some t.fingerprint part
          (sym (ap (λ (b : Bool). if b then Some t.fingerprint else part_of at n slot) h.0) ∙ e),
    )
    | inr h ↦ (let w = before
        (sym (ap (λ (b : Bool). if b then Some t.fingerprint else part_of at n slot) h.0) ∙ e) in
        (further n slot w.0, w.1))
  ]

  -- a slot that has a fingerprint has a tag
  pub found : (n slot part : ℕ) → part_of at n slot ≡ Some part → (w : Stands at n slot) × (w.tag.fingerprint ≡ part)
  found zero slot part e = absurd (none-some part e)
  found (suc n) slot part e = found_step n slot part (found n slot part) (at n) refl e

  stands_step : IsOnce at → (n i : ℕ) (t : Tag) → at i ≡ Some t → i < suc n
      → (i < n → part_of at n t.slot ≡ Some t.fingerprint)
      → (o : Option Tag) → at n ≡ o → part_in o t.slot (part_of at n t.slot) ≡ Some t.fingerprint
  stands_step once n i t is within before None none =
      let apart : i ≢ n = λ e. none-some t (sym none ∙ ap at (sym e) ∙ is) in
      before (omega arith)
  stands_step once n i t is within before (Some u) there = elim (eqb_tells u.slot t.slot) [
    | inl h ↦ (let same : u ≡ t = same_Some u t (sym there ∙ ap at (once n i u t there is h.1) ∙ is) in
        ap (λ (b : Bool). if b then Some u.fingerprint else part_of at n t.slot) h.0
        ∙ ap (λ (v : Tag). Some v.fingerprint) same)
    | inr h ↦ (let apart : i ≢ n =
        λ e. h.1 (ap (λ (v : Tag). v.slot) (same_Some u t (sym there ∙ ap at (sym e) ∙ is))) in
        ap (λ (b : Bool). if b then Some u.fingerprint else part_of at n t.slot) h.0 ∙ before (omega arith))
  ]

  -- a slot that has a tag has its fingerprint
  pub stands : IsOnce at → (n i : ℕ) (t : Tag) → i < n → at i ≡ Some t → part_of at n t.slot ≡ Some t.fingerprint
  stands once zero i t within is = absurd (omega arith)
  stands once (suc n) i t within is = stands_step once n i t is within (λ less. stands once n i t less is) (at n) refl

  -- a slot that no tag has
  pub none_stands : (n slot : ℕ) → ((i : ℕ) (t : Tag) → at i ≡ Some t → t.slot ≢ slot) → part_of at n slot ≡ None
  none_stands n slot none = go (part_of at n slot) refl where
    go : (o : Option ℕ) → part_of at n slot ≡ o → part_of at n slot ≡ None
    go None is = is
    go (Some part) is = let w = found n slot part is in absurd (none w.0.bucket w.0.tag w.0.here w.0.names)

  -- a slot that has no fingerprint has no tag
  pub no_tag : IsOnce at → (n : ℕ) → IsBefore n at → (slot : ℕ) → part_of at n slot ≡ None → (i : ℕ) (t : Tag)
      → at i ≡ Some t → t.slot ≢ slot
  no_tag once n before slot none i t is e =
      none-some t.fingerprint (sym (ap (part_of at n) e ∙ none) ∙ stands once n i t (before i t is) is)

  count_step : (n : ℕ) → count_in at n ≤ n → (o : Option Tag) → count_in at n + one_if o ≤ suc n
  count_step n before None = omega arith
  count_step n before (Some t) = omega arith

  -- no more buckets than there are have a tag
  pub count_within : (n : ℕ) → count_in at n ≤ n
  count_within zero = omega arith
  count_within (suc n) = count_step n (count_within n) (at n)

module _ (at at' : ℕ → Option Tag) (n slot : ℕ) (once : IsOnce at')
    (to : (i : ℕ) (t : Tag) → at i ≡ Some t → t.slot ≡ slot → (v : Stands at' n slot) × (v.tag ≡ t)) where
  -- a fingerprint goes where its tag goes
  pub carried : (part : ℕ) → part_of at n slot ≡ Some part → part_of at' n slot ≡ Some part
  carried part e =
      let w = found at n slot part e in
      let v = to w.0.bucket w.0.tag w.0.here w.0.names in
      sym (ap (part_of at' n) v.0.names) ∙ stands at' once n v.0.bucket v.0.tag v.0.within v.0.here
      ∙ ap (λ (t : Tag). Some t.fingerprint) v.1 ∙ ap Some w.1

same_from : (o o' : Option ℕ) → ((x : ℕ) → o ≡ Some x → o' ≡ Some x) → ((x : ℕ) → o' ≡ Some x → o ≡ Some x) → o' ≡ o
same_from None None p q = refl
same_from None (Some x) p q = sym (q x refl)
same_from (Some x) o' p q = p x refl

-- a slot's tag stands in both
pub same_part : (at at' : ℕ → Option Tag) (n slot : ℕ) → IsOnce at → IsOnce at'
    → ((i : ℕ) (t : Tag) → at i ≡ Some t → t.slot ≡ slot → (v : Stands at' n slot) × (v.tag ≡ t))
    → ((i : ℕ) (t : Tag) → at' i ≡ Some t → t.slot ≡ slot → (v : Stands at n slot) × (v.tag ≡ t))
    → part_of at' n slot ≡ part_of at n slot
same_part at at' n slot once once' to from =
    same_from (part_of at n slot) (part_of at' n slot) (carried at at' n slot once' to)
    (carried at' at n slot once from)

module _ (at : ℕ → Option Tag) (n more : ℕ) (before : IsBefore n at) where
  part_step : (slot : ℕ) (o : Option Tag) → at (n + more) ≡ o → part_of at (n + more) slot ≡ part_of at n slot
      → part_in (at (n + more)) slot (part_of at (n + more) slot) ≡ part_of at n slot
  part_step slot None is same = ap (λ (o : Option Tag). part_in o slot (part_of at (n + more) slot)) is ∙ same
  part_step slot (Some t) is same = absurd (omega (arith, before (n + more) t is))

  longer_step : (o : Option Tag) → at (n + more) ≡ o → count_in at (n + more) ≡ count_in at n
      → count_in at (n + more) + one_if (at (n + more)) ≡ count_in at n
  longer_step None is same = ap (λ (o : Option Tag). count_in at (n + more) + one_if o) is
      ∙ (let e : count_in at (n + more) + 0 ≡ count_in at n = omega arith in e)
  longer_step (Some t) is same = absurd (omega (arith, before (n + more) t is))

-- empty buckets behind say nothing
pub part_longer : (at : ℕ → Option Tag) (n more slot : ℕ) → IsBefore n at
    → part_of at (n + more) slot ≡ part_of at n slot
part_longer at n zero slot before = ap (λ (m : ℕ). part_of at m slot) (let e : n + 0 ≡ n = omega arith in e)
part_longer at n (suc more) slot before =
    ap (λ (m : ℕ). part_of at m slot) (let e : n + suc more ≡ suc (n + more) = omega arith in e)
    ∙ part_step at n more before slot (at (n + more)) refl (part_longer at n more slot before)

pub count_longer : (at : ℕ → Option Tag) (n more : ℕ) → IsBefore n at → count_in at (n + more) ≡ count_in at n
count_longer at n zero before = ap (count_in at) (let e : n + 0 ≡ n = omega arith in e)
count_longer at n (suc more) before =
    ap (count_in at) (let e : n + suc more ≡ suc (n + more) = omega arith in e)
    ∙ longer_step at n more before (at (n + more)) refl (count_longer at n more before)

-- where every bucket is empty
module _ (at : ℕ → Option Tag) (none : (i : ℕ) → at i ≡ None) where
  pub no_tags : (P : ℕ → Tag → Type 0) → (i : ℕ) (t : Tag) → at i ≡ Some t → P i t
  no_tags P i t is = absurd (none-some t (sym (none i) ∙ is))

  pub probed_none : (bits : ℕ) → IsProbed bits at
  probed_none bits = record {
    behind = no_tags (λ i t. home bits t.fingerprint ≤ i);
    full = λ i j t is. no_tags (λ i t. home bits t.fingerprint ≤ j → j < i → at j ≢ None) i t is;
  }

  pub once_none : IsOnce at
  once_none i j t u is there same = no_tags (λ i t. i ≡ j) i t is

  pub before_none : (end : ℕ) → IsBefore end at
  before_none end = no_tags (λ i t. i < end)

  pub part_none : (n slot : ℕ) → part_of at n slot ≡ None
  part_none n slot = none_stands at n slot (no_tags (λ i t. t.slot ≢ slot))

  pub count_none : (n : ℕ) → count_in at n ≡ 0
  count_none zero = refl
  count_none (suc n) =
      let before : count_in at n ≡ 0 = count_none n in
      let here : one_if (at n) ≡ 0 = ap one_if (none n) in
      omega arith
