-- Chains as their links change.
use Rattle.std.proofs.Common.{◌≡◌, ◌≢◌, ℕ, ◌+◌, ◌-◌, ◌*◌, ◌%◌, ◌^◌, ◌<◌, List, [], ◌∷◌, ◌++◌, take, Bool, true, false, cond, Option, Some, None, length, get_or, set, refl, sym, ap, ◌∙◌, subst, arith, nat_eq}
use Rattle.std.specs.Prelude.{◌&&◌, ◌||◌, ◌==◌, not}
use Rattle.std.specs.List.{IsDistinct}
use Rattle.std.proofs.lemmas.Bool.Decides.{nat_tests}
use Rattle.std.proofs.lemmas.Nat.{shr_below, mod_below}
use Rattle.std.proofs.lemmas.Bool.{true≢false}
use Rattle.std.proofs.lemmas.List.{length-set, length-take, length-append, get_or_append_left, get_or-take, get_or-set_same, get_or-set_other}
use Rattle.std.proofs.lemmas.Map.Keys.{IsDistinct-cons}
use Rattle.foyer_core.specs.Chains.{home, chain_of, IsPath, has, is_in, before_in, AreChains}
use Rattle.foyer_core.proofs.PathLemmas.{has_not, within, walk-distinct, IsPath-same, IsPath-set, without, has-without, IsDistinct-without, IsPath-rest, IsPath-without}

-- a chain's number is below a power of two
pub home_below : (shift hash : ℕ) → shift < 64 → home shift hash < 2 ^ (64 - shift)
home_below shift hash lt =
    let sum : (64 - shift) + shift ≡ 64 = omega arith in
    let below : (hash * 11400714819323198485) % 2 ^ 64 < 2 ^ ((64 - shift) + shift) =
    rw sum (mod_below (hash * 11400714819323198485) (2 ^ 64) (omega arith)) in
    shr_below ((hash * 11400714819323198485) % 2 ^ 64) (64 - shift) shift below

-- the chains are these lists of places
pub record Stand (shift : ℕ) (heads : List (Option ℕ)) (hashes : List ℕ) (nexts : List (Option ℕ))
    (chain : ℕ → List ℕ) : Type 0 where
  pub path : (s : ℕ) → IsPath nexts (get_or heads s None) (chain s)
  pub once : (s : ℕ) → IsDistinct nat_eq (chain s)
  pub own : (s i : ℕ) → has i (chain s) ≡ true → home shift (get_or hashes i 0) ≡ s

module _ (shift : ℕ) (heads : List (Option ℕ)) (hashes : List ℕ) (nexts : List (Option ℕ)) (chain : ℕ → List ℕ)
    (stand : Stand shift heads hashes nexts chain) where
  pub chain_is : (s : ℕ) → chain_of heads nexts s ≡ chain s
  chain_is s = walk-distinct nexts (get_or heads s None) (chain s) (stand.path s) (stand.once s)

  pub are_chains : AreChains shift heads hashes nexts
  are_chains = record {
    path = λ s. subst (λ (xs : List ℕ). IsPath nexts (get_or heads s None) xs) (sym (chain_is s)) (stand.path s);
    once = λ s. subst (λ (xs : List ℕ). IsDistinct nat_eq xs) (sym (chain_is s)) (stand.once s);
    own = λ s i h. stand.own s i (subst (λ (xs : List ℕ). has i xs ≡ true) (chain_is s) h);
  }

  pub is_in-chain : (i : ℕ) → is_in shift heads hashes nexts i ≡ has i (chain (home shift (get_or hashes i 0)))
  is_in-chain i = ap (has i) (chain_is (home shift (get_or hashes i 0)))

module _ (shift : ℕ) (heads : List (Option ℕ)) (hashes : List ℕ) (nexts : List (Option ℕ))
    (are : AreChains shift heads hashes nexts) where
  -- what stands in a chain is in
  pub here_is_in : (s i : ℕ) → has i (chain_of heads nexts s) ≡ true → is_in shift heads hashes nexts i ≡ true
  here_is_in s i h = subst (λ (t : ℕ). has i (chain_of heads nexts t) ≡ true) (sym (are.own s i h)) h

  -- what is not in stands in no chain
  pub in_none : (p s : ℕ) → is_in shift heads hashes nexts p ≡ false → has p (chain_of heads nexts s) ≡ false
  in_none p s out = go (has p (chain_of heads nexts s)) refl where
    go : (b : Bool) → has p (chain_of heads nexts s) ≡ b → b ≡ false
    go false is = refl
    go true is = let h : is_in shift heads hashes nexts p ≡ true = here_is_in s p is in absurd cc

  -- a place stands in no chain but its own
  pub elsewhere : (p s : ℕ) → home shift (get_or hashes p 0) ≢ s → has p (chain_of heads nexts s) ≡ false
  elsewhere p s other = go (has p (chain_of heads nexts s)) refl where
    go : (b : Bool) → has p (chain_of heads nexts s) ≡ b → b ≡ false
    go false is = refl
    go true is = absurd (other (are.own s p is))

  -- ---- where what is in is as it was

  pub unchanged : (hashes' : List ℕ) (nexts' : List (Option ℕ)) →
      ((x : ℕ) → is_in shift heads hashes nexts x ≡ true → (x < length nexts')
      × (get_or nexts' x None ≡ get_or nexts x None) × (get_or hashes' x 0 ≡ get_or hashes x 0))
      → Stand shift heads hashes' nexts' (chain_of heads nexts)
  unchanged hashes' nexts' same = record {
    path = λ s. IsPath-same nexts nexts' (get_or heads s None) (chain_of heads nexts s)
        (λ x h. let e = same x (here_is_in s x h) in (e.0, e.1)) (are.path s);
    once = are.once;
    own = λ s i h. ap (home shift) (same i (here_is_in s i h)).2 ∙ are.own s i h;
  }

  -- more pairs, of which the last is in no chain
  pub grown : (h : ℕ) (n : Option ℕ) → ((s i : ℕ) → has i (chain_of heads nexts s) ≡ true → i < length hashes) →
      Stand shift heads (hashes ++ h ∷ []) (nexts ++ n ∷ []) (chain_of heads nexts)
  grown h n in_hashes = unchanged (hashes ++ h ∷ []) (nexts ++ n ∷ []) (λ x is.
      let s : ℕ = home shift (get_or hashes x 0) in
      let lt : x < length nexts = within nexts (get_or heads s None) (chain_of heads nexts s) x (are.path s) is in (
        omega (arith, lt, length-append nexts (n ∷ [])),
        get_or_append_left nexts (n ∷ []) None x lt,
        get_or_append_left hashes (h ∷ []) 0 x (in_hashes s x is),
      ))

  -- without the last pair, and with another one in the place of p
  pub shrunk : (p m h : ℕ) (n : Option ℕ) → m + 1 ≡ length nexts → is_in shift heads hashes nexts p ≡ false →
      is_in shift heads hashes nexts m ≡ false
      → Stand shift heads (take m (set hashes p h)) (take m (set nexts p n)) (chain_of heads nexts)
  shrunk p m h n len out last = unchanged (take m (set hashes p h)) (take m (set nexts p n)) (λ x is.
      let s : ℕ = home shift (get_or hashes x 0) in
      let lt : x < length nexts = within nexts (get_or heads s None) (chain_of heads nexts s) x (are.path s) is in
      let other : x ≢ p = λ same. let t : is_in shift heads hashes nexts p ≡ true = rw same at is in
      let f : is_in shift heads hashes nexts p ≡ false = out in true≢false (sym t ∙ f) in
      let before : x ≢ m = λ same. let t : is_in shift heads hashes nexts m ≡ true = rw same at is in
      let f : is_in shift heads hashes nexts m ≡ false = last in true≢false (sym t ∙ f) in
      let below : x < m = omega (arith, lt, len, before) in (
        omega (arith, below, length-take m (set nexts p n), length-set nexts p n, len),
        get_or-take m (set nexts p n) x None below ∙ get_or-set_other nexts p x n None other,
        get_or-take m (set hashes p h) x 0 below ∙ get_or-set_other hashes p x h 0 other,
      ))

  -- ---- a place comes in

  module _ (p : ℕ) (lt : p < length nexts) (heads_lt : home shift (get_or hashes p 0) < length heads)
      (out : is_in shift heads hashes nexts p ≡ false) where
    abbrev home_p : ℕ
    home_p = home shift (get_or hashes p 0)

    abbrev first_p : Option ℕ
    first_p = get_or heads home_p None

    abbrev put_chain : ℕ → List ℕ
    put_chain s = cond (s == home_p) (p ∷ chain_of heads nexts s) (chain_of heads nexts s)

    put_path : (s : ℕ) (b : Bool) → (s == home_p) ≡ b →
        IsPath (set nexts p first_p) (get_or (set heads home_p (Some p)) s None)
        (cond b (p ∷ chain_of heads nexts s) (chain_of heads nexts s))
    put_path s true is =
        let same : s ≡ home_p = grind (arith, nat_tests) in
        let there : IsPath (set nexts p first_p) first_p (chain_of heads nexts home_p) =
        IsPath-set nexts p first_p first_p (chain_of heads nexts home_p) (in_none p home_p out) (are.path home_p) in
        subst (λ (t : ℕ). IsPath (set nexts p first_p) (get_or (set heads home_p (Some p)) t None)
        (p ∷ chain_of heads nexts t)) (sym same) (
          get_or-set_same heads home_p (Some p) None heads_lt,
          omega (arith, length-set nexts p first_p),
          rw (get_or-set_same nexts p first_p None lt) there,
        )
    put_path s false is =
        let other : s ≢ home_p = grind (arith, nat_tests) in
        rw (get_or-set_other heads home_p s (Some p) None other)
        (IsPath-set nexts p first_p (get_or heads s None) (chain_of heads nexts s) (in_none p s out) (are.path s))

    put_once : (s : ℕ) (b : Bool) → IsDistinct nat_eq (cond b (p ∷ chain_of heads nexts s) (chain_of heads nexts s))
    put_once s true = IsDistinct-cons nat_eq p (chain_of heads nexts s)
        (has_not p (chain_of heads nexts s) (in_none p s out)) (are.once s)
    put_once s false = are.once s

    put_own : (s i : ℕ) (b c : Bool) → (s == home_p) ≡ b → nat_eq i p ≡ c →
        has i (cond b (p ∷ chain_of heads nexts s) (chain_of heads nexts s)) ≡ true → home shift (get_or hashes i 0) ≡ s
    put_own s i true true is here h =
        let same : s ≡ home_p = grind (arith, nat_tests) in
        let place : i ≡ p = grind (arith, nat_tests) in
        rw place (sym same)
    put_own s i true false is here h = are.own s i (rw here at h)
    put_own s i false c is here h = are.own s i h

    pub put_stand : Stand shift (set heads home_p (Some p)) hashes (set nexts p first_p) put_chain
    put_stand = record {
      path = λ s. put_path s (s == home_p) refl;
      once = λ s. put_once s (s == home_p);
      own = λ s i h. put_own s i (s == home_p) (nat_eq i p) refl refl h;
    }

    put_has : (i s : ℕ) (b c : Bool) → s ≡ home shift (get_or hashes i 0) → (s == home_p) ≡ b → nat_eq i p ≡ c →
        has i (cond b (p ∷ chain_of heads nexts s) (chain_of heads nexts s)) ≡ (c || has i (chain_of heads nexts s))
    put_has i s true c at is here = rw here refl
    put_has i s false false at is here = refl
    put_has i s false true at is here =
        let place : i ≡ p = grind (arith, nat_tests) in
        let same : s ≡ home_p = rw place at at in
        let t : (s == home_p) ≡ true = grind (arith, nat_tests) in
        absurd cc

    pub is_in-put : (i : ℕ) → is_in shift (set heads home_p (Some p)) hashes (set nexts p first_p) i
        ≡ ((i == p) || is_in shift heads hashes nexts i)
    is_in-put i = is_in-chain shift (set heads home_p (Some p)) hashes (set nexts p first_p) put_chain put_stand i
        ∙ put_has i (home shift (get_or hashes i 0)) (home shift (get_or hashes i 0) == home_p)
        (nat_eq i p) refl refl refl

  -- ---- a place goes out

  module _ (p : ℕ) (heads_lt : home shift (get_or hashes p 0) < length heads)
      (there : is_in shift heads hashes nexts p ≡ true) where
    abbrev home_out : ℕ
    home_out = home shift (get_or hashes p 0)

    abbrev after_p : Option ℕ
    after_p = get_or nexts p None

    abbrev out_chain : ℕ → List ℕ
    out_chain s = cond (s == home_out) (without p (chain_of heads nexts s)) (chain_of heads nexts s)

    out_once : (s : ℕ) (b : Bool) → IsDistinct nat_eq
        (cond b (without p (chain_of heads nexts s)) (chain_of heads nexts s))
    out_once s true = IsDistinct-without p (chain_of heads nexts s) (are.once s)
    out_once s false = are.once s

    was_in : (s i : ℕ) (b : Bool) → (not b && has i (chain_of heads nexts s)) ≡ true → has i (chain_of heads nexts s)
        ≡ true
    was_in s i true h = absurd cc
    was_in s i false h = h

    out_own : (s i : ℕ) (b : Bool) → has i (cond b (without p (chain_of heads nexts s)) (chain_of heads nexts s))
        ≡ true → home shift (get_or hashes i 0) ≡ s
    out_own s i true h = are.own s i
        (was_in s i (i == p) (sym (has-without i p (chain_of heads nexts s) (are.once s)) ∙ h))
    out_own s i false h = are.own s i h

    out_has : (i s : ℕ) (b c : Bool) → s ≡ home shift (get_or hashes i 0) → (s == home_out) ≡ b → (i == p) ≡ c →
        has i (cond b (without p (chain_of heads nexts s)) (chain_of heads nexts s))
        ≡ (not c && has i (chain_of heads nexts s))
    out_has i s true c at is here = has-without i p (chain_of heads nexts s) (are.once s)
        ∙ ap (λ (d : Bool). not d && has i (chain_of heads nexts s)) here
    out_has i s false false at is here = refl
    out_has i s false true at is here =
        let place : i ≡ p = grind (arith, nat_tests) in
        let same : s ≡ home_out = rw place at at in
        let t : (s == home_out) ≡ true = grind (arith, nat_tests) in
        absurd cc

    -- by the head of its chain
    first_path : before_in None p (chain_of heads nexts home_out) ≡ None → (s : ℕ) (b : Bool) → (s == home_out) ≡ b →
        IsPath nexts (get_or (set heads home_out after_p) s None)
        (cond b (without p (chain_of heads nexts s)) (chain_of heads nexts s))
    first_path first s true is =
        let same : s ≡ home_out = grind (arith, nat_tests) in
        let path : IsPath nexts after_p (without p (chain_of heads nexts home_out)) =
        IsPath-rest nexts (get_or heads home_out None) p (chain_of heads nexts home_out) there first
        (are.path home_out) in
        subst (λ (t : ℕ). IsPath nexts (get_or (set heads home_out after_p) t None)
        (without p (chain_of heads nexts t))) (sym same)
        (rw (get_or-set_same heads home_out after_p None heads_lt) path)
    first_path first s false is =
        let other : s ≢ home_out = grind (arith, nat_tests) in
        rw (get_or-set_other heads home_out s after_p None other) (are.path s)

    pub first_stand : before_in None p (chain_of heads nexts home_out) ≡ None →
        Stand shift (set heads home_out after_p) hashes nexts out_chain
    first_stand first = record {
      path = λ s. first_path first s (s == home_out) refl;
      once = λ s. out_once s (s == home_out);
      own = λ s i h. out_own s i (s == home_out) h;
    }

    pub is_in-first : before_in None p (chain_of heads nexts home_out) ≡ None → (i : ℕ) →
        is_in shift (set heads home_out after_p) hashes nexts i ≡ (not (i == p) && is_in shift heads hashes nexts i)
    is_in-first first i = is_in-chain shift (set heads home_out after_p) hashes nexts out_chain (first_stand first) i
        ∙ out_has i (home shift (get_or hashes i 0)) (home shift (get_or hashes i 0) == home_out)
        (i == p) refl refl refl

    -- by the link of the place before
    later_path : (q : ℕ) → before_in None p (chain_of heads nexts home_out) ≡ Some q → (s : ℕ) (b : Bool) →
        (s == home_out) ≡ b → IsPath (set nexts q after_p) (get_or heads s None)
        (cond b (without p (chain_of heads nexts s)) (chain_of heads nexts s))
    later_path q before s true is =
        let same : s ≡ home_out = grind (arith, nat_tests) in
        let path : IsPath (set nexts q after_p) (get_or heads home_out None)
        (without p (chain_of heads nexts home_out)) =
        (IsPath-without nexts (get_or heads home_out None) p q (chain_of heads nexts home_out) there before
        (are.once home_out) (are.path home_out)).0 in
        subst (λ (t : ℕ). IsPath (set nexts q after_p) (get_or heads t None) (without p (chain_of heads nexts t)))
        (sym same) path
    later_path q before s false is =
        let other : s ≢ home_out = grind (arith, nat_tests) in
        let member : has q (chain_of heads nexts home_out) ≡ true =
        (IsPath-without nexts (get_or heads home_out None) p q (chain_of heads nexts home_out) there before
        (are.once home_out) (are.path home_out)).1 in
        let gone : has q (chain_of heads nexts s) ≡ false =
        elsewhere q s (λ e. other (sym e ∙ are.own home_out q member)) in
        IsPath-set nexts q after_p (get_or heads s None) (chain_of heads nexts s) gone (are.path s)

    pub later_stand : (q : ℕ) → before_in None p (chain_of heads nexts home_out) ≡ Some q →
        Stand shift heads hashes (set nexts q after_p) out_chain
    later_stand q before = record {
      path = λ s. later_path q before s (s == home_out) refl;
      once = λ s. out_once s (s == home_out);
      own = λ s i h. out_own s i (s == home_out) h;
    }

    pub is_in-later : (q : ℕ) → before_in None p (chain_of heads nexts home_out) ≡ Some q → (i : ℕ) →
        is_in shift heads hashes (set nexts q after_p) i ≡ (not (i == p) && is_in shift heads hashes nexts i)
    is_in-later q before i = is_in-chain shift heads hashes (set nexts q after_p) out_chain (later_stand q before) i
        ∙ out_has i (home shift (get_or hashes i 0)) (home shift (get_or hashes i 0) == home_out)
        (i == p) refl refl refl

-- ---- no place is in

module _ (shift : ℕ) (heads : List (Option ℕ)) (hashes : List ℕ) (nexts : List (Option ℕ))
    (none : (s : ℕ) → get_or heads s None ≡ None) where
  pub empty_stand : Stand shift heads hashes nexts (λ s. [])
  unfolding IsDistinct
  empty_stand = record { path = none; once = λ s. tt; own = λ s i h. absurd cc }

  pub is_in-empty : (i : ℕ) → is_in shift heads hashes nexts i ≡ false
  is_in-empty i = is_in-chain shift heads hashes nexts (λ s. []) empty_stand i
