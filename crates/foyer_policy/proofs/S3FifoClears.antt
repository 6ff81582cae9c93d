-- What pops leave of a small queue that is over its limit.
use Rattle.std.proofs.Common.{◌≡◌, ℕ, ◌+◌, ◌≤◌, ◌<◌, Bool, true, false, cond, List, [], ◌∷◌, ◌++◌, Option, Some, None, length, refl, ap, subst, arith}
use Rattle.std.specs.Prelude.{nat_le}
use Rattle.std.proofs.lemmas.Bool.Decides.{nat_tests}
use Rattle.foyer_policy.specs.Items.{weight_of}
use Rattle.foyer_policy.specs.GhostQueue.{ghost_push}
use Rattle.foyer_policy.specs.S3Fifo.{Entry, S3FifoView, items, frequent_front, from_rare, MainTurn, main_turn, first_of_small, main_gives, from_main, promoted, over_limit, is_over, s3fifo_pop}
use Rattle.foyer_policy.specs.declared.types.Item.{Item}
use Rattle.foyer_policy.proofs.S3FifoRare.{weight-head}

abbrev weight_in : S3FifoView → ℕ
weight_in v = weight_of (items v.small)

rare-length : (t : ℕ) (l : List Entry) → length (from_rare t l) ≤ length l
rare-length t [] = omega arith
rare-length t (e ∷ es) = go (nat_le t e.frequency) (rare-length t es) where
  go : (b : Bool) → length (from_rare t es) ≤ length es → length (cond b (from_rare t es) (e ∷ es)) ≤ length (e ∷ es)
  go true rec = omega arith
  go false rec = omega arith

-- the limit stays, and small weighs no more
abbrev NoMore : S3FifoView → S3FifoView → Type 0
NoMore v w = (w.limit ≡ v.limit) × (weight_in w ≤ weight_in v)

main-no_more : (v w : S3FifoView) (i : Item) → from_main v ≡ Some (i, w) → NoMore v w
main-no_more v w i h = go (main_turn v.main) h where
  small : (l : List Entry) → v.small ≡ l → first_of_small v l ≡ Some (i, w) → NoMore v w
  small [] s h = absurd cc
  small (e ∷ es) s h =
      let left : S3FifoView = record v { small = es } in
      let same : ◌≡◌ {A = Item × S3FifoView} (e.item, left) (i, w) = cc in
      subst (λ (x : Item × S3FifoView). NoMore v x.1) same (refl, omega (arith, weight-head v.small e es s))

  go : (o : Option MainTurn) → main_gives v o ≡ Some (i, w) → NoMore v w
  go None h = small v.small refl h
  go (Some t) h =
      let left : S3FifoView = record v { main = t.main } in
      let same : ◌≡◌ {A = Item × S3FifoView} (t.victim, left) (i, w) = cc in
      subst (λ (x : Item × S3FifoView). NoMore v x.1) same (refl, omega arith)

-- small was over its limit, and is shorter now
abbrev pub WasOver : S3FifoView → S3FifoView → Type 0
WasOver v w = (v.limit < weight_in v) × (length w.small + 1 ≤ length v.small)

-- where small is still over its limit after a pop, it was before, and the pop took from it
pub still-over : (v w : S3FifoView) (i : Item) → s3fifo_pop v ≡ Some (i, w) → w.limit < weight_in w → WasOver v w
still-over v w i h over = go (is_over v) refl h where
  some : v.limit < weight_in v → (r : List Entry) → from_rare v.setting.threshold v.small ≡ r → over_limit v r
      ≡ Some (i, w) → WasOver v w
  some was [] is h =
      (let n = main-no_more (promoted v) w i h in let nothing : weight_in (promoted v) ≡ 0 = refl in
      absurd (omega (arith, over, n.1, nothing)))
  some was (e ∷ es) is h =
      let left : S3FifoView = record v {
        small = es;
        main = v.main ++ frequent_front v.setting.threshold v.small;
        ghost =
            ghost_push v.ghost e.item.hash e.item.weight;
      } in
      let same : ◌≡◌ {A = Item × S3FifoView} (e.item, left) (i, w) = cc in
      subst (λ (x : Item × S3FifoView). WasOver v x.1) same
      (was, omega (arith, rare-length v.setting.threshold v.small, ap (λ (l : List Entry). length l) is))

  go : (b : Bool) → is_over v ≡ b → cond b (over_limit v (from_rare v.setting.threshold v.small)) (from_main v)
      ≡ Some (i, w) → WasOver v w
  go true was h =
      (let o : v.limit < weight_in v = grind (arith, nat_tests) in
      some o (from_rare v.setting.threshold v.small) refl h)
  go false was h =
      (let o : weight_in v ≤ v.limit = grind (arith, nat_tests) in let n = main-no_more v w i h in
      absurd (omega (arith, over, n.0, n.1, o)))
