-- An index of tags: what stands after each step.
use Rattle.std.proofs.Common.{◌≡◌, ◌≢◌, ℕ, ◌+◌, ◌-◌, ◌<◌, ◌≤◌, Option, Some, None, true, false, true≢false, nat_eq, inl, inr, sym, ◌∙◌, ap, subst, refl, arith}
use Rattle.std.specs.Prelude.{◌==◌, IfNone}
use Rattle.std.proofs.lemmas.Bool.Decides.{eqb_tells}
use Rattle.std.specs.Map.{update}
use Rattle.std.proofs.lemmas.Option.{slice_get_past}
use Rattle.foyer_core.specs.Probing.{home, named, tag_in, size_of, IsNamed, AllNamed, IsPut, IsProbedBut, IsOnce, IsBefore, IsMoved, part_of, one_if, count_in}
use Rattle.foyer_core.specs.declared.tags.buckets.Tag.{Tag}
use Rattle.foyer_core.specs.declared.tags.buckets.Buckets.{Buckets}
use Rattle.foyer_core.proofs.BucketLemmas.{along, named_within, found, stands, no_tag, part_longer, count_longer}
use Rattle.foyer_core.proofs.ProbeLemmas.{
  AreBehind,
  behind_more,
  count_put,
  once_put,
  part_put,
  part_replace,
  part_taken,
  once_moved,
  probed_moved,
  moved_back,
  moved_trans,
}

-- what a test of two slots says
pub same_slot : (a b : ℕ) → (a == b) ≡ true → a ≡ b
same_slot a b says = elim (eqb_tells a b) [ inl h ↦ h.1 | inr h ↦ absurd (true≢false (sym says ∙ h.0)) ]

pub other_slot : (a b : ℕ) → (a == b) ≡ false → a ≢ b
other_slot a b says = elim (eqb_tells a b) [ inl h ↦ absurd (true≢false (sym h.0 ∙ says)) | inr h ↦ h.1 ]

-- every tag stands in a bucket that there is
pub tags_within : (b : Buckets) → IsBefore (size_of b) (tag_in b)
tags_within b i t is = named_within b.tags.items i t is

-- behind the last bucket there is no tag
pub tags_past : (b : Buckets) (i : ℕ) → size_of b ≤ i → tag_in b i ≡ None
tags_past b i past = ap named (slice_get_past b.tags.items i past)

-- more buckets with the same tags
module _ (b b' : Buckets) (same : (i : ℕ) → tag_in b' i ≡ tag_in b i) (more : size_of b ≤ size_of b') where
  longer : size_of b + (size_of b' - size_of b) ≡ size_of b'
  longer = omega arith

  pub part_grown : (slot : ℕ) → part_of (tag_in b') (size_of b') slot ≡ part_of (tag_in b) (size_of b) slot
  part_grown slot = along (λ f. part_of f (size_of b') slot ≡ part_of (tag_in b) (size_of b) slot) (tag_in b)
      (tag_in b') same
      (subst (λ (m : ℕ). part_of (tag_in b) m slot ≡ part_of (tag_in b) (size_of b) slot) longer
      (part_longer (tag_in b) (size_of b) (size_of b' - size_of b) slot (tags_within b)))

  pub count_grown : count_in (tag_in b') (size_of b') ≡ count_in (tag_in b) (size_of b)
  count_grown = along (λ f. count_in f (size_of b') ≡ count_in (tag_in b) (size_of b)) (tag_in b) (tag_in b') same
      (subst (λ (m : ℕ). count_in (tag_in b) m ≡ count_in (tag_in b) (size_of b)) longer
      (count_longer (tag_in b) (size_of b) (size_of b' - size_of b) (tags_within b)))

-- a slot has a tag of this fingerprint exactly where it is in under it
module _ (b : Buckets) (once : IsOnce (tag_in b)) where
  pub part_named : (part bucket slot : ℕ) → IsNamed (tag_in b) part bucket slot
      → part_of (tag_in b) (size_of b) slot ≡ Some part
  part_named part bucket slot is =
      sym (ap (part_of (tag_in b) (size_of b)) is.names)
      ∙ stands (tag_in b) once (size_of b) bucket is.tag (tags_within b bucket is.tag is.here) is.here
      ∙ ap Some is.hashed

  pub part_tag : (i : ℕ) (t : Tag) → tag_in b i ≡ Some t → part_of (tag_in b) (size_of b) t.slot ≡ Some t.fingerprint
  part_tag i t is = stands (tag_in b) once (size_of b) i t (tags_within b i t is) is

  -- the slot of a tag has none before it
  pub part_before : (i : ℕ) (t : Tag) → tag_in b i ≡ Some t → part_of (tag_in b) i t.slot ≡ None
  part_before i t is = go (part_of (tag_in b) i t.slot) refl where
    go : (o : Option ℕ) → part_of (tag_in b) i t.slot ≡ o → part_of (tag_in b) i t.slot ≡ None
    go None none = none
    go (Some part) some =
        let w = found (tag_in b) i t.slot part some in
        let same : w.0.bucket ≡ i = once w.0.bucket i w.0.tag t w.0.here is w.0.names in
        absurd (omega (arith, w.0.within, same))

-- what holds of each tag of a fingerprint holds of each slot under it
pub each_named : (b : Buckets) (part : ℕ) (P : ℕ → Type 0) → AllNamed (tag_in b) part P → (slot : ℕ)
    → part_of (tag_in b) (size_of b) slot ≡ Some part → P slot
each_named b part P all slot is =
    let w = found (tag_in b) (size_of b) slot part is in
    subst P w.0.names (all w.0.bucket w.0.tag w.0.here w.1)

pub if_none : {A : Type 0} (o : Option A) (P : Type 0) → P → IfNone o P
if_none None P p = p
if_none (Some x) P p = tt

-- a new tag
module _ (b b' : Buckets) (bits end bucket : ℕ) (t : Tag) (put : IsPut (tag_in b) (tag_in b') bucket (Some t))
    (size : size_of b' ≡ size_of b)
    (within : bucket < size_of b) (empty : tag_in b bucket ≡ None) (once : IsOnce (tag_in b))
    (new : part_of (tag_in b) (size_of b) t.slot ≡ None) where
  pub once_in : IsOnce (tag_in b')
  once_in = once_put (tag_in b) (tag_in b') bucket t put once
      (no_tag (tag_in b) once (size_of b) (tags_within b) t.slot new)

  pub count_in_put : count_in (tag_in b') (size_of b') ≡ count_in (tag_in b) (size_of b) + 1
  count_in_put =
      let counted : count_in (tag_in b') (size_of b) + one_if (tag_in b bucket) ≡ count_in (tag_in b)
      (size_of b) + 1 = count_put (tag_in b) (tag_in b') bucket (Some t) put (size_of b) within in
      let none : one_if (tag_in b bucket) ≡ 0 = ap one_if empty in
      let same : count_in (tag_in b') (size_of b') ≡ count_in (tag_in b') (size_of b) =
      ap (count_in (tag_in b')) size in
      omega arith

  pub parts_in : (slot : ℕ)
      → part_of (tag_in b') (size_of b') slot ≡ update nat_eq (part_of (tag_in b) (size_of b)) t.slot
      (Some t.fingerprint) slot
  parts_in slot = ap (λ (m : ℕ). part_of (tag_in b') m slot) size
      ∙ part_put (tag_in b) (tag_in b') bucket t put (size_of b) once once_in (tags_within b) within empty slot

-- a tag that takes the place of another of its fingerprint
module _ (b b' : Buckets) (bucket slot : ℕ) (t : Tag) (is : IsNamed (tag_in b) t.fingerprint bucket slot)
    (put : IsPut (tag_in b) (tag_in b') bucket (Some t)) (size : size_of b' ≡ size_of b) (once : IsOnce (tag_in b))
    (new : part_of (tag_in b) (size_of b) t.slot ≡ None) where
  pub once_replace : IsOnce (tag_in b')
  once_replace = once_put (tag_in b) (tag_in b') bucket t put once
      (no_tag (tag_in b) once (size_of b) (tags_within b) t.slot new)

  pub count_replace : count_in (tag_in b') (size_of b') ≡ count_in (tag_in b) (size_of b)
  count_replace =
      let counted : count_in (tag_in b') (size_of b) + one_if (tag_in b bucket) ≡ count_in (tag_in b)
      (size_of b) + 1 =
      count_put (tag_in b) (tag_in b') bucket (Some t) put (size_of b) (tags_within b bucket is.tag is.here) in
      let one : one_if (tag_in b bucket) ≡ 1 = ap one_if is.here in
      let same : count_in (tag_in b') (size_of b') ≡ count_in (tag_in b') (size_of b) =
      ap (count_in (tag_in b')) size in
      omega arith

  pub parts_replace : (s : ℕ) → part_of (tag_in b') (size_of b') s
      ≡ update nat_eq (update nat_eq (part_of (tag_in b) (size_of b)) slot None) t.slot (Some t.fingerprint) s
  parts_replace s = ap (λ (m : ℕ). part_of (tag_in b') m s) size
      ∙ part_replace (tag_in b) (tag_in b') bucket t put (size_of b) once once_replace (tags_within b)
      (tags_within b bucket is.tag is.here) is.tag is.here s
      ∙ ap (λ (k : ℕ). update nat_eq (update nat_eq (part_of (tag_in b) (size_of b)) k None) t.slot
      (Some t.fingerprint) s) is.names

-- a tag that is taken out, whose gap is closed
module _ (b mid b' : Buckets) (part bucket slot : ℕ) (is : IsNamed (tag_in b) part bucket slot)
    (take : IsPut (tag_in b) (tag_in mid) bucket None)
    (size : size_of mid ≡ size_of b) (once : IsOnce (tag_in b))
    (moved : IsMoved (size_of mid) (tag_in mid) (tag_in b')) (size' : size_of b' ≡ size_of mid) where
  pub parts_out : (s : ℕ)
      → part_of (tag_in b') (size_of b') s ≡ update nat_eq (part_of (tag_in b) (size_of b)) slot None s
  parts_out s = ap (λ (m : ℕ). part_of (tag_in b') m s) size' ∙ moved.parts s
      ∙ ap (λ (m : ℕ). part_of (tag_in mid) m s) size
      ∙ part_taken (tag_in b) (tag_in mid) bucket take (size_of b) once (tags_within b) is.tag is.here s
      ∙ ap (λ (k : ℕ). update nat_eq (part_of (tag_in b) (size_of b)) k None s) is.names

  pub count_out : count_in (tag_in b) (size_of b) ≡ count_in (tag_in b') (size_of b') + 1
  count_out =
      let taken : count_in (tag_in mid) (size_of b) + one_if (tag_in b bucket) ≡ count_in (tag_in b) (size_of b) + 0 =
      count_put (tag_in b) (tag_in mid) bucket None take (size_of b) (tags_within b bucket is.tag is.here) in
      let one : one_if (tag_in b bucket) ≡ 1 = ap one_if is.here in
      let same : count_in (tag_in b') (size_of b') ≡ count_in (tag_in mid) (size_of b) =
      ap (count_in (tag_in b')) size' ∙ moved.count ∙ ap (count_in (tag_in mid)) size in
      omega arith

-- while a gap is closed: the tags that there were; those between the gap and a bucket have homes behind the gap
pub record IsClosing (bits : ℕ) (old new : Buckets) (gap next : ℕ) : Type 0 where
  pub order : gap < next
  pub size : size_of new ≡ size_of old
  pub empty : tag_in new gap ≡ None
  pub probed : IsProbedBut gap bits (tag_in new)
  pub once : IsOnce (tag_in new)
  pub behind : AreBehind bits gap next (tag_in new)
  pub moved : IsMoved (size_of old) (tag_in old) (tag_in new)

-- a tag behind the gap that stays
pub closing_stays : (bits : ℕ) (old b : Buckets) (gap next : ℕ) (t : Tag) → IsClosing bits old b gap next
    → tag_in b next ≡ Some t → gap < home bits t.fingerprint
    → IsClosing bits old b gap (next + 1)
closing_stays bits old b gap next t c is apart = record {
  order = omega (arith, c.order);
  size = c.size;
  empty = c.empty;
  probed = c.probed;
  once = c.once;
  behind = behind_more bits gap next (tag_in b) t is apart c.behind;
  moved = c.moved;
}

-- a tag that moves into the gap, so that its bucket is the gap
pub closing_moves : (bits : ℕ) (old b mid b' : Buckets) (gap next : ℕ) (t : Tag) → IsClosing bits old b gap next
    → next < size_of b → tag_in b next ≡ Some t → home bits t.fingerprint ≤ gap
    → IsPut (tag_in b) (tag_in mid) gap (Some t) → IsPut (tag_in mid) (tag_in b') next None → size_of b' ≡ size_of b
    → IsClosing bits old b' next (next + 1)
closing_moves bits old b mid b' gap next t c within is back put take size =
    let step : IsMoved (size_of b) (tag_in b) (tag_in b') =
    moved_back (tag_in b) (tag_in mid) (tag_in b') next gap t c.order is c.empty put take (size_of b) within
    c.once (tags_within b) in
    record {
      order = omega arith;
      size = size ∙ c.size;
      empty = take.here;
      probed = probed_moved (tag_in b) (tag_in mid) (tag_in b') next gap t c.order is c.empty put take bits c.probed
          back;
      once = once_moved (tag_in b) (tag_in mid) (tag_in b') next gap t c.order is c.empty put take c.once;
      behind = λ i u more less there. absurd (omega (arith, more, less));
      moved = moved_trans (size_of old) (tag_in old) (tag_in b) (tag_in b') c.moved
          (subst (λ (m : ℕ). IsMoved m (tag_in b) (tag_in b')) c.size step);
    }
