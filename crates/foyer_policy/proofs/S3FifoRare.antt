-- A small queue at its front: where the threshold stops, and what the front weighs.
use Rattle.std.proofs.Common.{◌≡◌, ℕ, zero, suc, length, ◌+◌, ◌≤◌, ◌<◌, true, false, List, [], ◌∷◌, Option, Some, None, refl, ◌∙◌, ap, arith}
use Rattle.std.specs.Prelude.{nat_le, is_some, option_map}
use Rattle.foyer_policy.specs.Policy.{Pops}
use Rattle.std.proofs.lemmas.Bool.Decides.{nat_tests}
use Rattle.std.proofs.lemmas.List.Sums.{sum_by-cons}
use Rattle.foyer_policy.specs.Items.{weight_of}
use Rattle.foyer_policy.specs.S3Fifo.{Entry, S3FifoView, items, frequent_front, from_rare, from_main, promoted, is_over, s3fifo_pop, s3fifo}
use Rattle.foyer_policy.specs.S3FifoLaws.{append-none, from_main-none, pop-shorter}
use Rattle.foyer_policy.specs.PopTimes.{pop_times}
use Rattle.foyer_policy.specs.S3FifoQueues.{Gives}
use Rattle.foyer_policy.specs.declared.types.Item.{Item}

module _ (t : ℕ) (l : List Entry) (e : Entry) (es : List Entry) (is : l ≡ e ∷ es) where
  pub rare-stops : e.frequency < t → from_rare t l ≡ e ∷ es
  rare-stops h = (let n : nat_le t e.frequency ≡ false = grind (arith, nat_tests) in ap (from_rare t) is ∙ rw n refl)

  pub front-stops : e.frequency < t → frequent_front t l ≡ []
  front-stops h =
      (let n : nat_le t e.frequency ≡ false = grind (arith, nat_tests) in ap (frequent_front t) is ∙ rw n refl)

  pub rare-goes : t ≤ e.frequency → from_rare t l ≡ from_rare t es
  rare-goes h = (let n : nat_le t e.frequency ≡ true = grind (arith, nat_tests) in ap (from_rare t) is ∙ rw n refl)

  pub front-goes : t ≤ e.frequency → frequent_front t l ≡ e ∷ frequent_front t es
  front-goes h =
      (let n : nat_le t e.frequency ≡ true = grind (arith, nat_tests) in ap (frequent_front t) is ∙ rw n refl)

pub weight-head : (l : List Entry) (e : Entry) (es : List Entry) → l ≡ e ∷ es → weight_of (items l)
    ≡ e.item.weight + weight_of (items es)
weight-head l e es is = ap (λ (x : List Entry). weight_of (items x)) is
    ∙ sum_by-cons (λ (i : Item). i.weight) e.item (items es)

-- small is over its limit, and none of it is below the threshold: main gives, once all of small is there
pub over-none : (v w : S3FifoView) (r : Option Item) → v.limit < weight_of (items v.small) →
    from_rare v.setting.threshold v.small ≡ [] → Gives (from_main (promoted v)) r (promoted v) w →
    Gives (s3fifo_pop v) r v w
over-none v w (Some i) over rare h = (let e : is_over v ≡ true = grind (arith, nat_tests) in rw (e, rare) h)
over-none v w None over rare h =
    let none = append-none v.main v.small (from_main-none (promoted v) h.0).0 in
    absurd (omega (arith, over, ap (λ (l : List Entry). weight_of (items l)) none.1))

-- pops until none
pub pop_times-none : (n : ℕ) (v : S3FifoView) → s3fifo_pop v ≡ None → pop_times s3fifo_pop n v ≡ v
pop_times-none zero v h = refl
pop_times-none (suc n) v h = rw h refl

pub pop_times-some : (v w : S3FifoView) (i : Item) → s3fifo_pop v ≡ Some (i, w) →
    pop_times s3fifo_pop (length v.small + length v.main) v ≡ pop_times s3fifo_pop (length w.small + length w.main) w
pop_times-some v w i h =
    let n : length v.small + length v.main ≡ suc (length w.small + length w.main) = pop-shorter v w i h ∙ omega arith in
    ap (λ (k : ℕ). pop_times s3fifo_pop k v) n ∙ rw h refl

-- a pop that gave an item
pub some-popped : (v w : S3FifoView) (o : Option (ℕ × Item)) → is_some o ≡ true →
    Pops s3fifo v (option_map (λ e. e.1) o) w → (i : Item) × (s3fifo_pop v ≡ Some (i, w))
some-popped v w None h p = absurd cc
some-popped v w (Some e) h p = (e.1, p)
