-- A list as chunks of one length, and a list that is halved chunk by chunk.
use Rattle.std.proofs.Common.{◌≡◌, ℕ, zero, suc, ◌+◌, ◌-◌, ◌*◌, ◌<◌, ◌≤◌, List, [], ◌∷◌, ◌++◌, length, map, take, drop, get_or, set, replicate, refl, sym, ◌∙◌, ap, arith, append_assoc, length-append}
use Rattle.std.specs.Simd.{first_chunks}
use Rattle.std.specs.Simd.Lanes.{chunk, put_chunk}
use Rattle.std.proofs.Math.Seq.{take-set-lt, take-suc-set, drop-cons}
use Rattle.std.proofs.lemmas.List.{take-set-le, length-take-le, drop-set-lt, drop-set-add, drop-drop, take-map, drop-map, take-replicate, drop-replicate, map-append, take_all, drop_all, drop_at, append-nil, length-map}
use Rattle.std.proofs.lemmas.Simd.{length-chunk, get_or-chunk, take_more_put_chunk, put_chunk_is, chunk-drop}

module _ {X : Type 0} (n : ℕ) where
  pub length-first_chunks : (k : ℕ) (xs : List X) → length (first_chunks n k xs) ≡ k
  length-first_chunks zero xs = refl
  length-first_chunks (suc k) xs = ap (λ (j : ℕ). suc j) (length-first_chunks k (drop n xs))

  -- a chunk
  pub get_or-first_chunks : (k i : ℕ) (xs : List X) → i < k → get_or (first_chunks n k xs) i [] ≡ chunk (i * n) n xs
  get_or-first_chunks zero i xs h = absurd (omega arith)
  get_or-first_chunks (suc k) zero xs h = (let e : zero * n ≡ 0 = omega arith in rw e refl)
  get_or-first_chunks (suc k) (suc i) xs h =
      get_or-first_chunks k i (drop n xs) (omega arith)
      ∙ ap (take n) (drop-drop (i * n) n xs ∙ ap (λ (m : ℕ). drop m xs) (omega arith))

  -- an element of a chunk
  pub get_or-in_chunk : (k i b : ℕ) (xs : List X) (d : X) → i < k → b < n →
      get_or (get_or (first_chunks n k xs) i []) b d ≡ get_or xs (i * n + b) d
  get_or-in_chunk k i b xs d hi hb = rw (get_or-first_chunks k i xs hi) (get_or-chunk (i * n) n xs b d hb)

  -- a write to one element is a write to its chunk
  pub first_chunks-set : (k i b : ℕ) (v : X) (xs : List X) → i < k → b < n → first_chunks n k (set xs (i * n + b) v)
      ≡ set (first_chunks n k xs) i (set (get_or (first_chunks n k xs) i []) b v)
  first_chunks-set zero i b v xs hi hb = absurd (omega arith)
  first_chunks-set (suc k) zero b v xs hi hb =
      let e : zero * n + b ≡ b = omega arith in
      rw (e, take-set-lt n xs b v hb, drop-set-lt n xs b v hb) refl
  first_chunks-set (suc k) (suc i) b v xs hi hb =
      let e : suc i * n + b ≡ n + (i * n + b) = omega arith in
      rw (e, take-set-le n xs (n + (i * n + b)) v (omega arith), drop-set-add n xs (i * n + b) v)
      (ap (λ r. take n xs ∷ r) (first_chunks-set k i b v (drop n xs) (omega arith) hb))

  pub first_chunks-replicate : (k : ℕ) (a : X) → first_chunks n k (replicate (k * n) a) ≡ replicate k (replicate n a)
  first_chunks-replicate zero a = refl
  first_chunks-replicate (suc k) a =
      let e : suc k * n ≡ n + k * n = omega arith in
      let m : (n + k * n) - n ≡ k * n = omega arith in
      rw (e, take-replicate n (n + k * n) a (omega arith), drop-replicate n (n + k * n) a, m)
      (ap (λ r. replicate n a ∷ r) (first_chunks-replicate k a))

pub first_chunks-map : {X Y : Type 0} (f : X → Y) (n k : ℕ) (xs : List X) → first_chunks n k (map f xs)
    ≡ map (map f) (first_chunks n k xs)
first_chunks-map f n zero xs = refl
first_chunks-map f n (suc k) xs = rw (take-map f n xs, drop-map f n xs)
    (ap (λ r. map f (take n xs) ∷ r) (first_chunks-map f n k (drop n xs)))

module _ {X : Type 0} (f : X → X) where
  -- the list with f taken of each element from here on
  abbrev pub done_from : ℕ → List X → List X
  done_from at xs = take at xs ++ map f (drop at xs)

  -- f is taken of a whole chunk
  pub done_from-chunk : (at m : ℕ) (xs : List X) → at + m ≤ length xs →
      done_from (at + m) (put_chunk at xs (map f (chunk at m xs))) ≡ done_from at xs
  done_from-chunk at m xs h =
      let ys = map f (chunk at m xs) in
      let n : length ys ≡ m = length-map (chunk at m xs) f ∙ length-chunk at m xs h in
      let front : take (at + m) (put_chunk at xs ys) ≡ take at xs ++ ys =
      take_more_put_chunk at xs ys (at + m) (omega arith) h in
      let back : drop (at + m) (put_chunk at xs ys) ≡ drop (at + m) xs = drop-put_chunk at m xs ys n h in
      rw (front, back, append_assoc)
      (ap (λ r. take at xs ++ r)
      (sym (ap (map f) (chunk-drop at m xs) ∙ map-append f (chunk at m xs) (drop (at + m) xs)))) where
        drop-put_chunk : (at m : ℕ) (xs ys : List X) → length ys ≡ m → at + m ≤ length xs →
            drop (at + m) (put_chunk at xs ys) ≡ drop (at + m) xs
        drop-put_chunk at m xs ys n h =
            let room : at + length ys ≤ length xs = omega arith in
            let front : length (take at xs ++ ys) ≡ at + m =
            omega (arith, length-append (take at xs) ys, length-take-le at xs (omega arith)) in
            rw (put_chunk_is at xs ys room, ← append_assoc, n, drop-drop m at xs)
            (drop_at (take at xs ++ ys) (drop (at + m) xs) (at + m) front)

  -- f is taken of one element
  pub done_from-one : (k : ℕ) (d : X) (xs : List X) → k < length xs → done_from (k + 1) (set xs k (f (get_or xs k d)))
      ≡ done_from k xs
  done_from-one k d xs h =
      let e : k + 1 ≡ suc k = omega arith in
      rw (
        e,
        take-suc-set xs k (f (get_or xs k d)) h,
        drop-set-lt (suc k) xs k (f (get_or xs k d)) (omega arith),
        append_assoc,
      )
      (ap (λ r. take k xs ++ r) (sym (ap (map f) (drop-cons xs k d h))))

  -- nothing is left
  pub done_from-end : (k : ℕ) (xs : List X) → length xs ≤ k → done_from k xs ≡ xs
  done_from-end k xs h = rw (take_all k xs h, drop_all k xs h) (append-nil xs)
