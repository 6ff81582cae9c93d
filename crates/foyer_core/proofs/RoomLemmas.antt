-- Pairs that come to the end and go, and chains that are made anew.
use Rattle.std.proofs.Common.{◌≡◌, ◌≢◌, ℕ, zero, suc, ◌+◌, ◌-◌, ◌<◌, ◌≤◌, List, [], ◌∷◌, ◌++◌, Bool, true, false, Option, None, length, get_or, set, take, map, replicate, refl, sym, ap, ◌∙◌, subst, arith}
use Rattle.std.specs.Prelude.{◌&&◌, ◌||◌, ◌==◌, not, nat_lt, slice_get}
use Rattle.std.specs.List.{swap_remove}
use Rattle.std.specs.List.Sorted.{IsPermutation}
use Rattle.std.proofs.lemmas.Bool.Decides.{nat_tests}
use Rattle.std.proofs.lemmas.Bool.{true≢false}
use Rattle.std.proofs.lemmas.List.{map-append, map-set, take-map, length-map, length-append, length-take, length-set, get_or_append_left, get_or-take, get_or-set_other}
use Rattle.std.proofs.lemmas.List.Sorted.{IsPermutation-map, IsPermutation-swap_remove}
use Rattle.foyer_core.specs.declared.indexer.chain.Pair.{Pair}
use Rattle.foyer_core.specs.Chains.{home, entry_of, entries_of, hashes_of, nexts_of, chain_of, has, is_in, Takes, AreChains, AllInChains}
use Rattle.foyer_core.proofs.FindLemmas.{entry_there}
use Rattle.foyer_core.proofs.PathLemmas.{within}
use Rattle.foyer_core.proofs.ChainLemmas.{Stand, are_chains, is_in-chain, in_none, grown, shrunk, empty_stand, is_in-empty}

-- ---- what is in, when one place comes in or goes

out_is : (t u : ℕ → Bool) (p : ℕ) → ((i : ℕ) → u i ≡ (not (i == p) && t i)) → u p ≡ false
out_is t u p is = is p ∙ (let same : (p == p) ≡ true = grind (arith, nat_tests) in rw same refl)

stays_out : (t u : ℕ → Bool) (p q : ℕ) → t q ≡ false → ((i : ℕ) → u i ≡ (not (i == p) && t i)) → u q ≡ false
stays_out t u p q out is = is q ∙ rw out (go (q == p)) where
  go : (b : Bool) → (not b && false) ≡ false
  go true = refl
  go false = refl

stays_in : (t u : ℕ → Bool) (p q : ℕ) → t q ≡ true → q ≢ p → ((i : ℕ) → u i ≡ (not (i == p) && t i)) → u q ≡ true
stays_in t u p q here other is = is q ∙ (let past : (q == p) ≡ false = grind (arith, nat_tests) in rw (past, here) refl)

-- a place more is in
pub done_more : (t u : ℕ → Bool) (p : ℕ) → ((i : ℕ) → t i ≡ nat_lt i p) → ((i : ℕ) → u i ≡ ((i == p) || t i)) →
    (i : ℕ) → u i ≡ nat_lt i (p + 1)
done_more t u p done put i = put i ∙ ap (λ (b : Bool). (i == p) || b) (done i)
    ∙ go (i == p) refl (nat_lt i p) refl (nat_lt i (p + 1)) refl where
      go : (a : Bool) → (i == p) ≡ a → (b : Bool) → nat_lt i p ≡ b → (c : Bool) → nat_lt i (p + 1) ≡ c → (a || b) ≡ c
      go true x b y true z = refl
      go true x b y false z =
          absurd (let same : i ≡ p = grind (arith, nat_tests) in let le : p + 1 ≤ i = grind (arith, nat_tests) in
          omega arith)
      go false x true y true z = refl
      go false x true y false z =
          absurd (let lt : i < p = grind (arith, nat_tests) in let le : p + 1 ≤ i = grind (arith, nat_tests) in omega arith)
      go false x false y true z =
          absurd (let ge : p ≤ i = grind (arith, nat_tests) in let lt : i < p + 1 = grind (arith, nat_tests) in
          let other : i ≢ p = grind (arith, nat_tests) in omega arith)
      go false x false y false z = refl

module _ {K : Type 0} where
  pub length-hashes_of : (pairs : List (Pair K)) → length (hashes_of pairs) ≡ length pairs
  length-hashes_of pairs = length-map {B = ℕ} pairs (λ p. p.hash)

  pub length-nexts_of : (pairs : List (Pair K)) → length (nexts_of pairs) ≡ length pairs
  length-nexts_of pairs = length-map {B = Option ℕ} pairs (λ p. p.next)

  in_pairs : (shift : ℕ) (heads : List (Option ℕ)) (pairs : List (Pair K)) →
      AreChains shift heads (hashes_of pairs) (nexts_of pairs) → (s i : ℕ) → has i (chain_of heads (nexts_of pairs) s)
      ≡ true → i < length pairs
  in_pairs shift heads pairs are s i h =
      let lt : i < length (nexts_of pairs) = within (nexts_of pairs) (get_or heads s None)
      (chain_of heads (nexts_of pairs) s) i (are.path s) h in
      omega (arith, lt, length-nexts_of pairs)

  -- ---- one more pair, which is in no chain yet

  module _ (shift : ℕ) (heads : List (Option ℕ)) (pairs : List (Pair K))
      (all : AllInChains shift heads (hashes_of pairs) (nexts_of pairs)) (x : Pair K) where
    abbrev more : List (Pair K)
    more = pairs ++ x ∷ []

    more_stand : Stand shift heads (hashes_of pairs ++ x.hash ∷ []) (nexts_of pairs ++ x.next ∷ [])
        (chain_of heads (nexts_of pairs))
    more_stand = grown shift heads (hashes_of pairs) (nexts_of pairs) all.chains x.hash x.next
        (λ s i h. omega (arith, in_pairs shift heads pairs all.chains s i h, length-hashes_of pairs))

    hashes_more : hashes_of more ≡ hashes_of pairs ++ x.hash ∷ []
    hashes_more = map-append (λ (p : Pair K). p.hash) pairs (x ∷ [])

    nexts_more : nexts_of more ≡ nexts_of pairs ++ x.next ∷ []
    nexts_more = map-append (λ (p : Pair K). p.next) pairs (x ∷ [])

    pub more_chains : AreChains shift heads (hashes_of more) (nexts_of more)
    more_chains = rw (hashes_more, nexts_more)
        (are_chains shift heads (hashes_of pairs ++ x.hash ∷ []) (nexts_of pairs ++ x.next ∷ [])
        (chain_of heads (nexts_of pairs)) more_stand)

    is_in-more : (i : ℕ) → is_in shift heads (hashes_of more) (nexts_of more) i
        ≡ has i (chain_of heads (nexts_of pairs) (home shift (get_or (hashes_of pairs ++ x.hash ∷ []) i 0)))
    is_in-more i = rw (hashes_more, nexts_more)
        (is_in-chain shift heads (hashes_of pairs ++ x.hash ∷ []) (nexts_of pairs ++ x.next ∷ [])
        (chain_of heads (nexts_of pairs)) more_stand i)

    pub last_apart : is_in shift heads (hashes_of more) (nexts_of more) (length pairs) ≡ false
    last_apart = is_in-more (length pairs) ∙ go
        (home shift (get_or (hashes_of pairs ++ x.hash ∷ []) (length pairs) 0)) where
          go : (s : ℕ) → has (length pairs) (chain_of heads (nexts_of pairs) s) ≡ false
          go s = by (has (length pairs) (chain_of heads (nexts_of pairs) s)) refl where
            by : (b : Bool) → has (length pairs) (chain_of heads (nexts_of pairs) s) ≡ b → b ≡ false
            by false is = refl
            by true is =
                absurd (let lt : length pairs < length pairs =
                in_pairs shift heads pairs all.chains s (length pairs) is in omega arith)

    pub others_in : (i : ℕ) → i < length pairs → is_in shift heads (hashes_of more) (nexts_of more) i ≡ true
    others_in i lt =
        let lt' : i < length (hashes_of pairs) = omega (arith, lt, length-hashes_of pairs) in
        is_in-more i ∙ ap (λ (h : ℕ). has i (chain_of heads (nexts_of pairs) (home shift h)))
        (get_or_append_left (hashes_of pairs) (x.hash ∷ []) 0 i lt') ∙ all.each i lt'

    -- once it was put in, all are
    pub all_more : (heads' : List (Option ℕ)) (pairs' : List (Pair K)) →
        AreChains shift heads' (hashes_of pairs') (nexts_of pairs') → hashes_of pairs' ≡ hashes_of more
        → ((i : ℕ) → is_in shift heads' (hashes_of pairs') (nexts_of pairs') i
        ≡ ((i == length pairs) || is_in shift heads (hashes_of more) (nexts_of more) i))
        → AllInChains shift heads' (hashes_of pairs') (nexts_of pairs')
    all_more heads' pairs' are same put = record {
      chains = are;
      each = λ i lt.
          let len : length (hashes_of pairs') ≡ length pairs + 1 = ap length same ∙ length-hashes_of more
          ∙ length-append pairs (x ∷ []) in
          put i ∙ go i (i == length pairs) refl (omega (arith, lt, len));
    } where
      go : (i : ℕ) (b : Bool) → (i == length pairs) ≡ b → i < length pairs + 1 →
          (b || is_in shift heads (hashes_of more) (nexts_of more) i) ≡ true
      go i true is lt = refl
      go i false is lt = others_in i (let other : i ≢ length pairs = grind (arith, nat_tests) in omega arith)

  -- ---- the pair of a place goes, and the last one takes the place

  swap_is : {Y : Type 0} (f : Pair K → Y) (pairs : List (Pair K)) (p : ℕ) (x : Pair K) → map f (swap_remove pairs p x)
      ≡ take (length pairs - 1) (set (map f pairs) p (f (get_or pairs (length pairs - 1) x)))
  swap_is f pairs p x = sym (take-map f (length pairs - 1) (set pairs p (get_or pairs (length pairs - 1) x)))
      ∙ ap (take (length pairs - 1)) (map-set f pairs p (get_or pairs (length pairs - 1) x))

  module _ (shift : ℕ) (heads : List (Option ℕ)) (pairs : List (Pair K))
      (are : AreChains shift heads (hashes_of pairs) (nexts_of pairs)) (p m : ℕ) (x : Pair K)
      (len : m + 1 ≡ length pairs)
      (out : is_in shift heads (hashes_of pairs) (nexts_of pairs) p ≡ false)
      (last : is_in shift heads (hashes_of pairs) (nexts_of pairs) m ≡ false) where
    abbrev fewer : List (Pair K)
    fewer = swap_remove pairs p x

    abbrev end : Pair K
    end = get_or pairs m x

    at_end : length pairs - 1 ≡ m
    at_end = omega (arith, len)

    hashes_fewer : hashes_of fewer ≡ take m (set (hashes_of pairs) p end.hash)
    hashes_fewer = swap_is (λ (q : Pair K). q.hash) pairs p x
        ∙ ap (λ (n : ℕ). take n (set (hashes_of pairs) p (get_or pairs n x).hash)) at_end

    nexts_fewer : nexts_of fewer ≡ take m (set (nexts_of pairs) p end.next)
    nexts_fewer = swap_is (λ (q : Pair K). q.next) pairs p x
        ∙ ap (λ (n : ℕ). take n (set (nexts_of pairs) p (get_or pairs n x).next)) at_end

    fewer_stand : Stand shift heads (take m (set (hashes_of pairs) p end.hash))
        (take m (set (nexts_of pairs) p end.next)) (chain_of heads (nexts_of pairs))
    fewer_stand = shrunk shift heads (hashes_of pairs) (nexts_of pairs) are p m end.hash end.next
        (omega (arith, len, length-nexts_of pairs)) out last

    pub fewer_chains : AreChains shift heads (hashes_of fewer) (nexts_of fewer)
    fewer_chains = rw (hashes_fewer, nexts_fewer)
        (are_chains shift heads (take m (set (hashes_of pairs) p end.hash)) (take m (set (nexts_of pairs) p end.next))
        (chain_of heads (nexts_of pairs)) fewer_stand)

    is_in-fewer : (i : ℕ) → is_in shift heads (hashes_of fewer) (nexts_of fewer) i
        ≡ has i (chain_of heads (nexts_of pairs) (home shift (get_or (take m (set (hashes_of pairs) p end.hash)) i 0)))
    is_in-fewer i = rw (hashes_fewer, nexts_fewer)
        (is_in-chain shift heads (take m (set (hashes_of pairs) p end.hash))
        (take m (set (nexts_of pairs) p end.next)) (chain_of heads (nexts_of pairs)) fewer_stand i)

    pub place_apart : is_in shift heads (hashes_of fewer) (nexts_of fewer) p ≡ false
    place_apart = is_in-fewer p ∙ in_none shift heads (hashes_of pairs) (nexts_of pairs) are p _ out

    pub others_stay : (i : ℕ) → i < m → i ≢ p → is_in shift heads (hashes_of fewer) (nexts_of fewer) i
        ≡ is_in shift heads (hashes_of pairs) (nexts_of pairs) i
    others_stay i lt other =
        is_in-fewer i ∙ ap (λ (h : ℕ). has i (chain_of heads (nexts_of pairs) (home shift h)))
        (get_or-take m (set (hashes_of pairs) p end.hash) i 0 lt
        ∙ get_or-set_other (hashes_of pairs) p i end.hash 0 other)

    pub length-fewer : length fewer ≡ m
    length-fewer =
        omega (
          arith,
          len,
          length-take (length pairs - 1) (set pairs p (get_or pairs (length pairs - 1) x)),
          length-set pairs p (get_or pairs (length pairs - 1) x),
        )

  -- the last pair went
  module _ (shift : ℕ) (heads : List (Option ℕ)) (pairs : List (Pair K))
      (are : AreChains shift heads (hashes_of pairs) (nexts_of pairs)) (p m : ℕ) (x : Pair K)
      (len : m + 1 ≡ length pairs)
      (t : ℕ → Bool) (each : (i : ℕ) → i < m + 1 → t i ≡ true) where
    pub last_gone : p ≡ m → ((i : ℕ) → is_in shift heads (hashes_of pairs) (nexts_of pairs) i ≡ (not (i == p) && t i))
        → AllInChains shift heads (hashes_of (swap_remove pairs p x)) (nexts_of (swap_remove pairs p x))
    last_gone same is =
        let in_now : ℕ → Bool = λ i. is_in shift heads (hashes_of pairs) (nexts_of pairs) i in
        let out : is_in shift heads (hashes_of pairs) (nexts_of pairs) p ≡ false = out_is t in_now p is in
        let last : is_in shift heads (hashes_of pairs) (nexts_of pairs) m ≡ false =
        subst (λ (q : ℕ). is_in shift heads (hashes_of pairs) (nexts_of pairs) q ≡ false) same out in
        record {
          chains = fewer_chains shift heads pairs are p m x len out last;
          each = λ i lt.
              let below : i < m =
              omega (
                arith,
                lt,
                length-hashes_of (swap_remove pairs p x),
                length-fewer shift heads pairs are p m x len out last,
              ) in
              others_stay shift heads pairs are p m x len out last i below (omega arith)
              ∙ stays_in t in_now p i (each i (omega arith)) (omega arith) is;
        }

    -- another pair went, and the last one with it, which came in again
    module _ (u : ℕ → Bool) (first : (i : ℕ) → u i ≡ (not (i == p) && t i))
        (then : (i : ℕ) → is_in shift heads (hashes_of pairs) (nexts_of pairs) i ≡ (not (i == m) && u i)) where
      out_p : is_in shift heads (hashes_of pairs) (nexts_of pairs) p ≡ false
      out_p = stays_out u (λ i. is_in shift heads (hashes_of pairs) (nexts_of pairs) i) m p (out_is t u p first) then

      out_m : is_in shift heads (hashes_of pairs) (nexts_of pairs) m ≡ false
      out_m = out_is u (λ i. is_in shift heads (hashes_of pairs) (nexts_of pairs) i) m then

      pub both_chains : AreChains shift heads (hashes_of (swap_remove pairs p x)) (nexts_of (swap_remove pairs p x))
      both_chains = fewer_chains shift heads pairs are p m x len out_p out_m

      pub both_apart : is_in shift heads (hashes_of (swap_remove pairs p x)) (nexts_of (swap_remove pairs p x)) p
          ≡ false
      both_apart = place_apart shift heads pairs are p m x len out_p out_m

      pub both_gone : (heads' : List (Option ℕ)) (pairs' : List (Pair K)) →
          AreChains shift heads' (hashes_of pairs') (nexts_of pairs') → hashes_of pairs'
          ≡ hashes_of (swap_remove pairs p x)
          → ((i : ℕ) → is_in shift heads' (hashes_of pairs') (nexts_of pairs') i
          ≡ ((i == p) || is_in shift heads (hashes_of (swap_remove pairs p x)) (nexts_of (swap_remove pairs p x))
          i))
          → AllInChains shift heads' (hashes_of pairs') (nexts_of pairs')
      both_gone heads' pairs' are' same put = record {
        chains = are';
        each = λ i lt.
            put i ∙ go i (i == p) refl
            (omega (
              arith,
              lt,
              ap length same,
              length-hashes_of (swap_remove pairs p x),
              length-fewer shift heads pairs are p m x len out_p out_m,
            ));
      } where
        go : (i : ℕ) (b : Bool) → (i == p) ≡ b → i < m →
            (b || is_in shift heads (hashes_of (swap_remove pairs p x)) (nexts_of (swap_remove pairs p x)) i) ≡ true
        go i true is lt = refl
        go i false is lt =
            let other : i ≢ p = grind (arith, nat_tests) in
            others_stay shift heads pairs are p m x len out_p out_m i lt other
            ∙ stays_in u (λ j. is_in shift heads (hashes_of pairs) (nexts_of pairs) j) m i
            (stays_in t u p i (each i (omega arith)) other first) (omega arith) then

  -- what goes is the entry of that place
  pub takes : (old : List ((ℕ × K) × ℕ)) (pairs : List (Pair K)) (p : ℕ) (x : Pair K) → entries_of pairs ≡ old →
      p < length pairs → x ≡ get_or pairs p x → Takes old p x.number (entries_of (swap_remove pairs p x))
  takes old pairs p x is lt read = record {
    entry = entry_of x;
    there = ap (λ (es : List ((ℕ × K) × ℕ)). slice_get es p) (sym is) ∙ entry_there pairs p x lt read;
    had = refl;
    others = subst (λ (es : List ((ℕ × K) × ℕ)). IsPermutation es (entry_of x ∷ entries_of (swap_remove pairs p x)))
        is (IsPermutation-map entry_of pairs (x ∷ swap_remove pairs p x) (IsPermutation-swap_remove pairs p x lt read));
  }

-- ---- heads that lead nowhere

pub nowhere : (n s : ℕ) → get_or (replicate n (let e : Option ℕ = None in e)) s None ≡ None
nowhere zero s = refl
nowhere (suc n) zero = refl
nowhere (suc n) (suc s) = nowhere n s

-- ---- chains that are made anew

module _ {K : Type 0} where
  -- none is in where no head leads anywhere
  pub none_in : (shift : ℕ) (heads : List (Option ℕ)) (n : ℕ) (pairs : List (Pair K)) → heads ≡ replicate n None →
      AreChains shift heads (hashes_of pairs) (nexts_of pairs)
      × ((i : ℕ) → is_in shift heads (hashes_of pairs) (nexts_of pairs) i ≡ false)
  none_in shift heads n pairs is =
      let none : (s : ℕ) → get_or heads s None ≡ None = λ s. rw is (nowhere n s) in (
        are_chains shift heads (hashes_of pairs) (nexts_of pairs) (λ s. [])
            (empty_stand shift heads (hashes_of pairs) (nexts_of pairs) none),
        is_in-empty shift heads (hashes_of pairs) (nexts_of pairs) none,
      )

  -- where there is a pair, there are heads
  pub some_heads : (shift : ℕ) (heads : List (Option ℕ)) (pairs : List (Pair K)) (i : ℕ) →
      AllInChains shift heads (hashes_of pairs) (nexts_of pairs) → i < length pairs → 0 < length heads
  some_heads shift [] pairs i all lt =
      let here : is_in shift [] (hashes_of pairs) (nexts_of pairs) i ≡ true =
      all.each i (omega (arith, lt, length-hashes_of pairs)) in
      let gone : is_in shift [] (hashes_of pairs) (nexts_of pairs) i ≡ false =
      is_in-empty shift [] (hashes_of pairs) (nexts_of pairs) (λ s. refl) i in
      absurd (true≢false (sym here ∙ gone))
  some_heads shift (h ∷ hs) pairs i all lt = omega arith

  -- all are in where there are none
  pub all_of_none : (shift : ℕ) (heads : List (Option ℕ)) (n : ℕ) (pairs : List (Pair K)) → heads ≡ replicate n None →
      pairs ≡ [] → AllInChains shift heads (hashes_of pairs) (nexts_of pairs)
  all_of_none shift heads n pairs is empty = record {
    chains = (none_in shift heads n pairs is).0;
    each = λ i lt. absurd (omega (arith, lt, length-hashes_of pairs, ap length empty));
  }
