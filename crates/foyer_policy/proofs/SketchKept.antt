-- What is true of each sketch stays true.
use Rattle.std.proofs.Common.{◌≡◌, ℕ, ◌+◌, ◌*◌, ◌/◌, ◌<◌, ◌≤◌, true, false, List, [], ◌∷◌, length, map, get_or, replicate, refl, sym, ◌∙◌, ap, subst, arith}
use Rattle.std.specs.Prelude.{nat_le}
use Rattle.std.specs.Simd.{first_chunks}
use Rattle.std.proofs.Math.Bool.{Bool-set}
use Rattle.std.proofs.Math.Logic.{∥∥₁_map, ∥∥₁_elim}
use Rattle.std.proofs.lemmas.Bool.Decides.{nat_tests}
use Rattle.std.proofs.lemmas.List.{length-map, length-replicate}
use Rattle.foyer_policy.specs.Sketch.{Sketch, new_sketch, counted, halved, counting, HasPast, sketch_of, IsSketch, estimate_of}
use Rattle.foyer_policy.specs.Sketch.Event.{Counted, Halved}
use Rattle.foyer_policy.proofs.ChunkLemmas.{first_chunks-map, first_chunks-replicate, length-first_chunks}
use Rattle.foyer_policy.proofs.SketchLemmas.{row-length}
use Rattle.foyer_policy.proofs.SketchPasts.{IsPast-new, IsPast-halved, IsPast-counting, estimates_bounded}

pub HasPast-halved : (s : Sketch) → HasPast s → HasPast (halved s)
HasPast-halved s = λ h. ∥∥₁_map h (λ p. (Halved ∷ p.0, IsPast-halved s p.0 p.1))

pub HasPast-counting : (s : Sketch) (hash : ℕ) → 0 < s.buckets →
    ((r : ℕ) → r < length s.rows → length (get_or s.rows r []) ≡ s.buckets) → HasPast s → HasPast (counting hash s)
HasPast-counting s hash some full = λ h. ∥∥₁_map h (λ p. (Counted hash ∷ p.0, IsPast-counting s p.0 hash some full p.1))

module _ (rows buckets : ℕ) where
  pub sketch_of-new : sketch_of rows buckets (replicate (rows * buckets) 0) 0 ≡ new_sketch rows buckets
  sketch_of-new = ap (λ (r : List (List ℕ)). record { buckets = buckets; rows = r; step = 0 })
      (first_chunks-replicate buckets rows 0)

  pub IsSketch-new : 0 < rows → 0 < buckets → IsSketch rows buckets (replicate (rows * buckets) 0) 0
  IsSketch-new r b = record {
    some_rows = r;
    some_buckets = b;
    size = length-replicate (rows * buckets) 0;
    below = b;
    past = subst HasPast (sym sketch_of-new) ∣ ([], IsPast-new rows buckets) ∣₁;
  }

  module _ (counters : List ℕ) (step : ℕ) where
    pub sketch_of-halved : sketch_of rows buckets (map (λ n. n / 2) counters) step
        ≡ halved (sketch_of rows buckets counters step)
    sketch_of-halved = ap (λ (r : List (List ℕ)). record { buckets = buckets; rows = r; step = step })
        (first_chunks-map (λ (n : ℕ). n / 2) buckets rows counters)

    pub IsSketch-halved : IsSketch rows buckets counters step → IsSketch rows buckets (map (λ n. n / 2) counters) step
    IsSketch-halved s = record {
      some_rows = s.some_rows;
      some_buckets = s.some_buckets;
      size = length-map counters (λ (n : ℕ). n / 2) ∙ s.size;
      below = s.below;
      past = subst HasPast (sym sketch_of-halved) (HasPast-halved (sketch_of rows buckets counters step) s.past);
    }

    module _ (hash : ℕ) (now : List ℕ)
        (is : first_chunks buckets rows now ≡ counted buckets hash 0 (first_chunks buckets rows counters)) where
      -- without a halving
      pub sketch_of-counted : step + 1 < buckets → sketch_of rows buckets now (step + 1)
          ≡ counting hash (sketch_of rows buckets counters step)
      sketch_of-counted lt =
          let t : nat_le buckets (step + 1) ≡ false = grind (arith, nat_tests) in
          rw (t, is) refl

      -- and with one
      pub sketch_of-settled : buckets ≤ step + 1 → sketch_of rows buckets (map (λ n. n / 2) now) ((step + 1) / 2)
          ≡ counting hash (sketch_of rows buckets counters step)
      sketch_of-settled le =
          let t : nat_le buckets (step + 1) ≡ true = grind (arith, nat_tests) in
          rw (t, first_chunks-map (λ (n : ℕ). n / 2) buckets rows now, is) refl

      has_past : IsSketch rows buckets counters step → HasPast (counting hash (sketch_of rows buckets counters step))
      has_past s =
          HasPast-counting (sketch_of rows buckets counters step) hash s.some_buckets
          (λ r lt. row-length rows buckets r counters s.size
          (omega (arith, length-first_chunks buckets rows counters))) s.past

      pub IsSketch-counted : length now ≡ length counters → step + 1 < buckets → IsSketch rows buckets counters step →
          IsSketch rows buckets now (step + 1)
      IsSketch-counted n lt s = record {
        some_rows = s.some_rows;
        some_buckets = s.some_buckets;
        size = n ∙ s.size;
        below = lt;
        past = subst HasPast (sym (sketch_of-counted lt)) (has_past s);
      }

      pub IsSketch-settled : length now ≡ length counters → buckets ≤ step + 1 → IsSketch rows buckets counters step →
          IsSketch rows buckets (map (λ n. n / 2) now) ((step + 1) / 2)
      IsSketch-settled n le s = record {
        some_rows = s.some_rows;
        some_buckets = s.some_buckets;
        size = length-map now (λ (n : ℕ). n / 2) ∙ (n ∙ s.size);
        below = omega (arith, s.below);
        past = subst HasPast (sym (sketch_of-settled le)) (has_past s);
      }

-- an estimate is at most the step, since some past explains the sketch
pub estimate-le : (s : Sketch) (hash : ℕ) → 0 < length s.rows → 0 < s.buckets → HasPast s → estimate_of s hash ≤ s.step
estimate-le s hash rows buckets h =
    let t : nat_le (estimate_of s hash) s.step ≡ true =
    ∥∥₁_elim h (Bool-set _ _)
    (λ p. test_le (estimate_of s hash) s.step (estimates_bounded s p.0 hash rows buckets p.1).1) in
    grind (arith, nat_tests) where
      test_le : (m n : ℕ) → m ≤ n → nat_le m n ≡ true
      test_le m n le = grind (arith, nat_tests)
