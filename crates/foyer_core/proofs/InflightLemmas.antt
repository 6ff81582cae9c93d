-- OpenFetch fetches, as one opens, is waited for or is taken.
use Rattle.std.proofs.Math.Path.{fun_ext}
use Rattle.std.proofs.Common.{
  ◌≡◌,
  ◌≢◌,
  ℕ,
  ◌+◌,
  ◌<◌,
  ◌≤◌,
  ◌⊎◌,
  List,
  [],
  ◌∷◌,
  ◌++◌,
  Bool,
  true,
  false,
  cond,
  Option,
  Some,
  None,
  length,
  nat_eq,
  refl,
  sym,
  ap,
  ◌∙◌,
  subst,
  inl,
  inr,
  arith,
  rules,
}
use Rattle.std.specs.Prelude.{◌==◌, if◌then◌else◌, is_some, option_and_then, IsSomeAnd}
use Rattle.std.specs.declared.cmp.PartialEq.{Ghosts as EqGhosts}
use Rattle.std.specs.declared.hash.Hash.{Ghosts as HashGhosts}
use Rattle.std.specs.declared.clone.Clone.{Ghosts as CloneGhosts}
use Rattle.std.specs.Cmp.{IsEquivalence, nat_eq_equiv}
use Rattle.std.specs.List.{IsDistinct}
use Rattle.std.specs.Map.{lookup, update}
use Rattle.std.proofs.lemmas.Bool.{true≢false, eq-eqb, eqb-true}
use Rattle.std.proofs.lemmas.Bool.Decides.{nat_tests, eqb_tells}
use Rattle.std.proofs.lemmas.List.{map_push, length_push}
use Rattle.std.proofs.lemmas.List.Folds.{list_any-append}
use Rattle.std.proofs.lemmas.Grind.{common_steps}
use Rattle.std.proofs.lemmas.Map.{update_here, update_apart, update_same, update_other}
use Rattle.std.proofs.lemmas.Map.Keys.{IsDistinct-push}
use Rattle.foyer_core.specs.declared.indexer.chain.Pair.{Pair}
use Rattle.foyer_core.specs.declared.outcome.Waiting.{Waiting}
use Rattle.foyer_core.specs.Indexer.{same_key, same_key_equiv}
use Rattle.foyer_core.specs.Chains.{entries_of, has}
use Rattle.foyer_core.specs.Entries.{lookup_same}
use Rattle.foyer_core.specs.Inflight.{OpenFetch, Opens, AreOpen, AreLinked, after_nothing, asked, closed, tokens_of, joined, opens_by, with_open, without_later}
use Rattle.foyer_core.specs.Inflights.{opens_of}
use Rattle.foyer_core.specs.Slots.{Slots, get, with_value}
use Rattle.foyer_core.specs.declared.inflight.InflightManager.{InflightManager}
use Rattle.foyer_core.proofs.SlotLemmas.{write_at}
use Rattle.foyer_core.proofs.TableLemmas.{update_same as update_there}

tells : (b : Bool) → (b ≡ true) ⊎ (b ≡ false)
tells true = inl refl
tells false = inr refl

pub none_some : {A : Type 0} (o : Option A) (x : A) → o ≡ None → o ≡ Some x → ⊥
none_some o x none some = (let h : None ≡ Some x = sym none ∙ some in absurd cc)

pub one : {A : Type 0} (a b : A) → Some a ≡ Some b → a ≡ b
one a b h = cc

pub led_to : {A : Type 0} (o : Option A) → is_some o ≡ true → o ≡ None → ⊥
led_to o some none = true≢false (sym some ∙ ap is_some none)

-- a number that stands in a list and one more stands in the list, or is that one
has_more : (t n : ℕ) (ts : List ℕ) → has t (ts ++ n ∷ []) ≡ true → (has t ts ≡ true) ⊎ (t ≡ n)
has_more t n ts h = go (tells (has t ts)) where
  go : (has t ts ≡ true) ⊎ (has t ts ≡ false) → (has t ts ≡ true) ⊎ (t ≡ n)
  go (inl e) = inl e
  go (inr e) =
      (let last : has t (n ∷ []) ≡ true = rw e at (sym (list_any-append (nat_eq t) ts (n ∷ [])) ∙ h) in
      inr (grind (arith, nat_tests)))

module _ {N R : Type 0} where
  -- the tokens once one more waits
  tokens-joined : (o : OpenFetch N R) (w : Waiting N) (later : Option R) → tokens_of (joined (Some o) o.opened o.fetch w later)
      ≡ tokens_of o ++ w.token ∷ []
  tokens-joined o w later = map_push (λ (w : Waiting N). w.token) o.tokens w

  -- the fetch that is open, where it is the one that was asked for
  pub asked_is : (id : ℕ) (p : Option (OpenFetch N R)) → is_some (asked (Some id) p) ≡ true → (o : OpenFetch N R)
      × (p ≡ Some o) × (asked (Some id) p ≡ Some o)
  asked_is id None h = absurd cc
  asked_is id (Some o) h = go (o.fetch == id) h where
    go : (b : Bool) → is_some (if b then Some o else None) ≡ true → (x : OpenFetch N R) × (Some o ≡ Some x)
        × ((if b then Some o else None) ≡ Some x)
    go true h = (o, refl, refl)
    go false h = absurd cc

-- open fetches with the same parts are one
pub same_opens : {K N R : Type 0} (f g : Opens K N R) → ((q : ℕ × K) → f.by_key q ≡ g.by_key q) → f.next_fetch ≡
    g.next_fetch → f.next_token ≡ g.next_token → f ≡ g
same_opens f g places fetch token =
    let p : f.by_key ≡ g.by_key = fun_ext places in
    λ i. record { by_key = p i; next_fetch = fetch i; next_token = token i }

module _ {K N R : Type 0} where
  pub opens_same : (keys keys' : ℕ × K → Option ℕ) (slots slots' : ℕ → Option (OpenFetch N R)) →
      ((q : ℕ × K) → keys' q ≡ keys q) → ((n : ℕ) → slots' n ≡ slots n) → (q : ℕ × K) → option_and_then slots' (keys' q)
      ≡ option_and_then slots (keys q)
  opens_same keys keys' slots slots' k s q = ap (option_and_then slots') (k q) ∙ go (keys q) where
    go : (o : Option ℕ) → option_and_then slots' o ≡ option_and_then slots o
    go None = refl
    go (Some n) = s n

module _ {K N R : Type 0} (eq : K → K → Bool) where
  -- what was written under a key is there
  pub written_there : IsEquivalence eq → (f g : Opens K N R) (k : ℕ × K) (o : OpenFetch N R) →
      ((q : ℕ × K) → g.by_key q ≡ update (same_key eq) f.by_key k (Some o) q) → g.by_key k ≡ Some o
  written_there laws f g k o write = write k
      ∙ update_same (same_key eq) f.by_key k (Some o) k ((same_key_equiv laws).refl k)

  -- the fetch that is open under a key is written, which none under another key is like
  pub record Fits (f : Opens K N R) (id token : ℕ) (k : ℕ × K) (o : OpenFetch N R) : Type 0 where
    pub waited : 0 < length o.tokens
    pub below : o.fetch < id
    pub tokens_below : (t : ℕ) → has t (tokens_of o) ≡ true → t < token
    pub once : IsDistinct nat_eq (tokens_of o)
    pub own_fetch : (q : ℕ × K) (x : OpenFetch N R) → f.by_key q ≡ Some x → x.fetch ≡ o.fetch → same_key eq k q ≡ true
    pub own_tokens : (q : ℕ × K) (x : OpenFetch N R) (t : ℕ) → f.by_key q ≡ Some x → has t (tokens_of x) ≡ true → has t
        (tokens_of o) ≡ true → same_key eq k q ≡ true

  module _ (f g : Opens K N R) (k : ℕ × K) (w : Option (OpenFetch N R))
      (write : (q : ℕ × K) → g.by_key q ≡ update (same_key eq) f.by_key k w q) where
    -- what is open afterwards is what was written, or was open under another key
    was : (q : ℕ × K) (o : OpenFetch N R) → g.by_key q ≡ Some o → ((same_key eq k q ≡ true) × (w ≡ Some o))
        ⊎ ((same_key eq k q ≡ false) × (f.by_key q ≡ Some o))
    was q o h = go (tells (same_key eq k q)) where
      go : (same_key eq k q ≡ true) ⊎ (same_key eq k q ≡ false) → ((same_key eq k q ≡ true) × (w ≡ Some o)) ⊎
          ((same_key eq k q ≡ false) × (f.by_key q ≡ Some o))
      go (inl e) = inl (e, sym (update_same (same_key eq) f.by_key k w q e) ∙ sym (write q) ∙ h)
      go (inr e) = inr (e, sym (update_other (same_key eq) f.by_key k w q e) ∙ sym (write q) ∙ h)

module _ {K N R : Type 0} {eq : K → K → Bool} where
  pub open_same : (f g : Opens K N R) → ((q : ℕ × K) → g.by_key q ≡ f.by_key q) → g.next_fetch ≡ f.next_fetch →
      g.next_token ≡ f.next_token → AreOpen eq f → AreOpen eq g
  open_same f g same id token a = record {
    waited = λ q o h. a.waited q o (sym (same q) ∙ h);
    below = λ q o h. rw id (a.below q o (sym (same q) ∙ h));
    tokens_below = λ q o t h there. rw token (a.tokens_below q o t (sym (same q) ∙ h) there);
    once = λ q o h. a.once q o (sym (same q) ∙ h);
    one_fetch = λ p q x y hp hq. a.one_fetch p q x y (sym (same p) ∙ hp) (sym (same q) ∙ hq);
    one_open = λ p q x y t hp hq. a.one_open p q x y t (sym (same p) ∙ hp) (sym (same q) ∙ hq);
  }

  module _ (f g : Opens K N R) (k : ℕ × K) (w : Option (OpenFetch N R))
      (write : (q : ℕ × K) → g.by_key q ≡ update (same_key eq) f.by_key k w q) where
    pub open_none : w ≡ None → g.next_fetch ≡ f.next_fetch → g.next_token ≡ f.next_token → AreOpen eq f → AreOpen eq g
    open_none none id token a = record {
      waited = λ q o h. a.waited q o (old q o h);
      below = λ q o h. rw id (a.below q o (old q o h));
      tokens_below = λ q o t h there. rw token (a.tokens_below q o t (old q o h) there);
      once = λ q o h. a.once q o (old q o h);
      one_fetch = λ p q x y hp hq. a.one_fetch p q x y (old p x hp) (old q y hq);
      one_open = λ p q x y t hp hq. a.one_open p q x y t (old p x hp) (old q y hq);
    } where
      old : (q : ℕ × K) (o : OpenFetch N R) → g.by_key q ≡ Some o → f.by_key q ≡ Some o
      old q o h = go (was eq f g k w write q o h) where
        go : ((same_key eq k q ≡ true) × (w ≡ Some o)) ⊎ ((same_key eq k q ≡ false) × (f.by_key q ≡ Some o)) →
            f.by_key q ≡ Some o
        go (inl e) = absurd (none_some w o none e.1)
        go (inr e) = e.1

  -- no fetch is open
  pub open_empty : (f : Opens K N R) → ((q : ℕ × K) → f.by_key q ≡ None) → AreOpen eq f
  open_empty f none = record {
    waited = λ q o h. absurd (none_some (f.by_key q) o (none q) h);
    below = λ q o h. absurd (none_some (f.by_key q) o (none q) h);
    tokens_below = λ q o t h there. absurd (none_some (f.by_key q) o (none q) h);
    once = λ q o h. absurd (none_some (f.by_key q) o (none q) h);
    one_fetch = λ p q x y hp hq. absurd (none_some (f.by_key p) x (none p) hp);
    one_open = λ p q x y t hp hq. absurd (none_some (f.by_key p) x (none p) hp);
  }

  module _ (laws : IsEquivalence eq) (f g : Opens K N R) (k : ℕ × K) (new : OpenFetch N R)
      (write : (q : ℕ × K) → g.by_key q ≡ update (same_key eq) f.by_key k (Some new) q) where
    abbrev Was : ℕ × K → OpenFetch N R → Type 0
    Was q o = ((same_key eq k q ≡ true) × (Some new ≡ Some o)) ⊎ ((same_key eq k q ≡ false) × (f.by_key q ≡ Some o))

    both : (p q : ℕ × K) → same_key eq k p ≡ true → same_key eq k q ≡ true → same_key eq p q ≡ true
    both p q kp kq = sym ((same_key_equiv laws).congr k p q kp) ∙ kq

    apart : (q : ℕ × K) {A : Type 0} → same_key eq k q ≡ false → same_key eq k q ≡ true → A
    apart q other is = absurd (true≢false (sym is ∙ other))

    pub open_write : f.next_fetch ≤ g.next_fetch → f.next_token ≤ g.next_token →
        Fits eq f g.next_fetch g.next_token k new → AreOpen eq f → AreOpen eq g
    open_write ids tokens fits a = record {
      waited = λ q o h. waited o (was eq f g k (Some new) write q o h) (λ old. a.waited q o old);
      below = λ q o h. below o (was eq f g k (Some new) write q o h) (λ old. a.below q o old);
      tokens_below = λ q o t h there. tokens_below o t there (was eq f g k (Some new) write q o h)
          (λ old. a.tokens_below q o t old there);
      once = λ q o h. once o (was eq f g k (Some new) write q o h) (λ old. a.once q o old);
      one_fetch = λ p q x y hp hq same. one_fetch p q x y same (was eq f g k (Some new) write p x hp)
          (was eq f g k (Some new) write q y hq);
      one_open = λ p q x y t hp hq tx ty. one_open p q x y t tx ty (was eq f g k (Some new) write p x hp)
          (was eq f g k (Some new) write q y hq);
    } where
      waited : {q : ℕ × K} (o : OpenFetch N R) → Was q o → (f.by_key q ≡ Some o → 0 < length o.tokens) → 0 < length o.tokens
      waited o (inl e) old = subst (λ (x : OpenFetch N R). 0 < length x.tokens) (one new o e.1) fits.waited
      waited o (inr e) old = old e.1

      below : {q : ℕ × K} (o : OpenFetch N R) → Was q o → (f.by_key q ≡ Some o → o.fetch < f.next_fetch) →
          o.fetch < g.next_fetch
      below o (inl e) old = subst (λ (x : OpenFetch N R). x.fetch < g.next_fetch) (one new o e.1) fits.below
      below o (inr e) old = (let lt = old e.1 in omega arith)

      tokens_below : {q : ℕ × K} (o : OpenFetch N R) (t : ℕ) → has t (tokens_of o) ≡ true → Was q o →
          (f.by_key q ≡ Some o → t < f.next_token) → t < g.next_token
      tokens_below o t there (inl e) old = fits.tokens_below t
          (ap (λ (x : OpenFetch N R). has t (tokens_of x)) (one new o e.1) ∙ there)
      tokens_below o t there (inr e) old = (let lt = old e.1 in omega arith)

      once : {q : ℕ × K} (o : OpenFetch N R) → Was q o → (f.by_key q ≡ Some o → IsDistinct nat_eq (tokens_of o)) →
          IsDistinct nat_eq (tokens_of o)
      once o (inl e) old = subst (λ (x : OpenFetch N R). IsDistinct nat_eq (tokens_of x)) (one new o e.1) fits.once
      once o (inr e) old = old e.1

      flip : (p q : ℕ × K) → same_key eq k q ≡ true → same_key eq k p ≡ true → same_key eq p q ≡ true
      flip p q kq kp = both p q kp kq

      one_fetch : (p q : ℕ × K) (x y : OpenFetch N R) → x.fetch ≡ y.fetch → Was p x → Was q y → same_key eq p q ≡ true
      one_fetch p q x y same (inl e) (inl d) = both p q e.0 d.0
      one_fetch p q x y same (inl e) (inr d) =
          apart q d.0 (fits.own_fetch q y d.1 (sym same ∙ ap (λ (o : OpenFetch N R). o.fetch) (sym (one new x e.1))))
      one_fetch p q x y same (inr e) (inl d) =
          apart p e.0 (fits.own_fetch p x e.1 (same ∙ ap (λ (o : OpenFetch N R). o.fetch) (sym (one new y d.1))))
      one_fetch p q x y same (inr e) (inr d) = a.one_fetch p q x y e.1 d.1 same

      one_open : (p q : ℕ × K) (x y : OpenFetch N R) (t : ℕ) → has t (tokens_of x) ≡ true → has t (tokens_of y) ≡ true →
          Was p x → Was q y → same_key eq p q ≡ true
      one_open p q x y t tx ty (inl e) (inl d) = both p q e.0 d.0
      one_open p q x y t tx ty (inl e) (inr d) =
          apart q d.0 (fits.own_tokens q y t d.1 ty (ap (λ (o : OpenFetch N R). has t (tokens_of o)) (one new x e.1) ∙ tx))
      one_open p q x y t tx ty (inr e) (inl d) =
          apart p e.0 (fits.own_tokens p x t e.1 tx (ap (λ (o : OpenFetch N R). has t (tokens_of o)) (one new y d.1) ∙ ty))
      one_open p q x y t tx ty (inr e) (inr d) = a.one_open p q x y t e.1 d.1 tx ty

  -- a fetch opens
  pub fits_new : (now : ℕ) (f : Opens K N R) (k : ℕ × K) (w : Waiting N) → w.token ≡ f.next_token → AreOpen eq f →
      Fits eq f (f.next_fetch + 1) (f.next_token + 1) k
      (record { fetch = f.next_fetch; opened = now; tokens = w ∷ []; later = None })
  unfolding IsDistinct
  fits_new now f k w token a = record {
    waited = omega arith;
    below = omega arith;
    tokens_below = λ t h. (let is : t ≡ w.token = only t h in omega (arith, is, token));
    once = search (rules, common_steps);
    own_fetch = λ q x h same. (let lt = a.below q x h in absurd (omega (arith, lt, same)));
    own_tokens = λ q x t h tx tw.
        (let lt = a.tokens_below q x t h tx in let is : t ≡ w.token = only t tw in
        absurd (omega (arith, lt, is, token)));
  } where
    only : (t : ℕ) → has t (w.token ∷ []) ≡ true → t ≡ w.token
    only t h = grind (arith, nat_tests)

  -- one more waits
  pub fits_joined : (laws : IsEquivalence eq) (f : Opens K N R) (k : ℕ × K) (o : OpenFetch N R) (w : Waiting N)
      (later : Option R) → f.by_key k ≡ Some o → w.token ≡ f.next_token → AreOpen eq f → Fits eq f f.next_fetch
      (f.next_token + 1) k (joined (Some o) o.opened o.fetch w later)
  fits_joined laws f k o w later there token a = record {
    waited = subst (λ (n : ℕ). 0 < n) (sym (length_push o.tokens w)) (omega arith);
    below = a.below k o there;
    tokens_below = λ t h. tokens_below t (more t h);
    once = subst (λ (ts : List ℕ). IsDistinct nat_eq ts) (sym (tokens-joined o w later))
        (IsDistinct-push nat_eq_equiv (tokens_of o) w.token (a.once k o there)
        (fresh (tells (has w.token (tokens_of o)))));
    own_fetch = λ q x h same. a.one_fetch k q o x there h (sym same);
    own_tokens = λ q x t h tx to. own_tokens q x t h tx (more t to);
  } where
    more : (t : ℕ) → has t (tokens_of (joined (Some o) o.opened o.fetch w later)) ≡ true → (has t (tokens_of o) ≡ true)
        ⊎ (t ≡ w.token)
    more t h = has_more t w.token (tokens_of o) (ap (has t) (sym (tokens-joined o w later)) ∙ h)

    tokens_below : (t : ℕ) → (has t (tokens_of o) ≡ true) ⊎ (t ≡ w.token) → t < f.next_token + 1
    tokens_below t (inl e) = (let lt = a.tokens_below k o t there e in omega (arith, lt))
    tokens_below t (inr e) = omega (arith, e, token)

    fresh : (has w.token (tokens_of o) ≡ true) ⊎ (has w.token (tokens_of o) ≡ false) → has w.token (tokens_of o) ≡ false
    fresh (inl e) = (let lt = a.tokens_below k o w.token there e in absurd (omega (arith, lt, token)))
    fresh (inr e) = e

    own_tokens : (q : ℕ × K) (x : OpenFetch N R) (t : ℕ) → f.by_key q ≡ Some x → has t (tokens_of x) ≡ true →
        (has t (tokens_of o) ≡ true) ⊎ (t ≡ w.token) → same_key eq k q ≡ true
    own_tokens q x t h tx (inl e) = a.one_open k q o x t there h e tx
    own_tokens q x t h tx (inr e) = (let lt = a.tokens_below q x t h tx in absurd (omega (arith, lt, e, token)))

  -- the kept builder is taken
  pub fits_same : (f : Opens K N R) (k : ℕ × K) (o : OpenFetch N R) (later : Option R) → f.by_key k ≡ Some o → AreOpen eq
      f → Fits eq f f.next_fetch f.next_token k (record { fetch = o.fetch; opened = o.opened; tokens = o.tokens; later = later })
  fits_same f k o later there a = record {
    waited = a.waited k o there;
    below = a.below k o there;
    tokens_below = λ t h. a.tokens_below k o t there h;
    once = a.once k o there;
    own_fetch = λ q x h same. a.one_fetch k q o x there h (sym same);
    own_tokens = λ q x t h tx to. a.one_open k q o x t there h to tx;
  }

  -- ---- keys and slots

  pub linked_same : (keys keys' : ℕ × K → Option ℕ) (slots slots' : ℕ → Option (OpenFetch N R)) →
      ((q : ℕ × K) → keys' q ≡ keys q) → ((n : ℕ) → slots' n ≡ slots n) → AreLinked eq keys slots → AreLinked eq keys'
      slots'
  linked_same keys keys' slots slots' k s a = record {
    led = λ q n h. ap is_some (s n) ∙ a.led q n (sym (k q) ∙ h);
    apart = λ p q n hp hq. a.apart p q n (sym (k p) ∙ hp) (sym (k q) ∙ hq);
  }

  module _ (laws : IsEquivalence eq) (keys keys' : ℕ × K → Option ℕ) (slots slots' : ℕ → Option (OpenFetch N R))
      (k : ℕ × K) (n : ℕ) (linked : AreLinked eq keys slots) where
    side : (w : Option ℕ) → ((q : ℕ × K) → keys' q ≡ update (same_key eq) keys k w q) → (q : ℕ × K) →
        ((same_key eq k q ≡ true) × (keys' q ≡ w)) ⊎ ((same_key eq k q ≡ false) × (keys' q ≡ keys q))
    side w write q = go (tells (same_key eq k q)) where
      go : (same_key eq k q ≡ true) ⊎ (same_key eq k q ≡ false) → ((same_key eq k q ≡ true) × (keys' q ≡ w))
          ⊎ ((same_key eq k q ≡ false) × (keys' q ≡ keys q))
      go (inl e) = inl (e, write q ∙ update_same (same_key eq) keys k w q e)
      go (inr e) = inr (e, write q ∙ update_other (same_key eq) keys k w q e)

    -- a fetch opens in a free slot
    module _ (new : OpenFetch N R) (free : slots n ≡ None)
        (put : (q : ℕ × K) → keys' q ≡ update (same_key eq) keys k (Some n) q)
        (write : (m : ℕ) → slots' m ≡ update nat_eq slots n (Some new) m) where
      here : slots' n ≡ Some new
      here = write n ∙ update_here slots n (Some new)

      other : (q : ℕ × K) (m : ℕ) → keys q ≡ Some m → slots' m ≡ slots m
      other q m h = write m ∙ update_apart slots n (Some new) m
          (λ e. led_to (slots m) (linked.led q m h) (ap slots e ∙ free))

      pub lead_places : (q : ℕ × K) → option_and_then slots' (keys' q)
          ≡ update (same_key eq) (λ p. option_and_then slots (keys p)) k (Some new) q
      lead_places q = go (side (Some n) put q) where
        unchanged : (o : Option ℕ) → keys q ≡ o → option_and_then slots' o ≡ option_and_then slots o
        unchanged None h = refl
        unchanged (Some m) h = other q m h

        go : ((same_key eq k q ≡ true) × (keys' q ≡ Some n)) ⊎ ((same_key eq k q ≡ false) × (keys' q ≡ keys q)) →
            option_and_then slots' (keys' q) ≡ update (same_key eq) (λ p. option_and_then slots (keys p)) k (Some new) q
        go (inl e) = ap (option_and_then slots') e.1 ∙ here
            ∙ sym (update_same (same_key eq) (λ p. option_and_then slots (keys p)) k (Some new) q e.0)
        go (inr e) = ap (option_and_then slots') e.1 ∙ unchanged (keys q) refl ∙ sym
            (update_other (same_key eq) (λ p. option_and_then slots (keys p)) k (Some new) q e.0)

      -- what is open then, where it is a first one who waits
      pub lead_open : (now id token : ℕ) (w : Waiting N) → w.token ≡ token → new ≡ record
          { fetch = id; opened = now; tokens = w ∷ []; later = None } → AreOpen eq (opens_by keys slots id token) → AreOpen eq
          (opens_by keys' slots' (id + 1) (token + 1))
      lead_open now id token w is made a =
          let f = opens_by keys slots id token in
          open_write laws f (opens_by keys' slots' (id + 1) (token + 1)) k new lead_places (omega arith) (omega arith)
          (subst (λ (o : OpenFetch N R). Fits eq f (id + 1) (token + 1) k o) (sym made) (fits_new now f k w is a)) a

      pub lead_linked : AreLinked eq keys' slots'
      lead_linked = record {
        led = λ q m h. led q m h (side (Some n) put q);
        apart = λ p q m hp hq. apart p q m hp hq (side (Some n) put p) (side (Some n) put q);
      } where
        led : (q : ℕ × K) (m : ℕ) → keys' q ≡ Some m → ((same_key eq k q ≡ true) × (keys' q ≡ Some n)) ⊎
            ((same_key eq k q ≡ false) × (keys' q ≡ keys q)) → is_some (slots' m) ≡ true
        led q m h (inl e) = subst (λ (x : ℕ). is_some (slots' x) ≡ true) (one n m (sym e.1 ∙ h)) (ap is_some here)
        led q m h (inr e) = (let old = sym e.1 ∙ h in ap is_some (other q m old) ∙ linked.led q m old)

        taken : (q : ℕ × K) (m : ℕ) → keys q ≡ Some m → m ≡ n → ⊥
        taken q m h e = led_to (slots m) (linked.led q m h) (ap slots e ∙ free)

        apart : (p q : ℕ × K) (m : ℕ) → keys' p ≡ Some m → keys' q ≡ Some m →
            ((same_key eq k p ≡ true) × (keys' p ≡ Some n)) ⊎ ((same_key eq k p ≡ false) × (keys' p ≡ keys p)) →
            ((same_key eq k q ≡ true) × (keys' q ≡ Some n)) ⊎ ((same_key eq k q ≡ false) × (keys' q ≡ keys q)) →
            same_key eq p q ≡ true
        apart p q m hp hq (inl e) (inl d) = sym ((same_key_equiv laws).congr k p q e.0) ∙ d.0
        apart p q m hp hq (inl e) (inr d) = absurd (taken q m (sym d.1 ∙ hq) (one m n (sym hp ∙ e.1)))
        apart p q m hp hq (inr e) (inl d) = absurd (taken p m (sym e.1 ∙ hp) (one m n (sym hq ∙ d.1)))
        apart p q m hp hq (inr e) (inr d) = linked.apart p q m (sym e.1 ∙ hp) (sym d.1 ∙ hq)

    module _ (there : keys k ≡ Some n) where
      -- other keys lead elsewhere
      away : (q : ℕ × K) (m : ℕ) → same_key eq k q ≡ false → keys q ≡ Some m → m ≢ n
      away q m other h e = true≢false (sym (linked.apart k q n there (h ∙ ap (λ (x : ℕ). Some x) e)) ∙ other)

      -- the open fetch of a key is written
      module _ (respects : (p q : ℕ × K) → same_key eq p q ≡ true → keys p ≡ keys q) (new : OpenFetch N R)
          (write : (m : ℕ) → slots' m ≡ update nat_eq slots n (Some new) m) where
        pub write_places : (q : ℕ × K) → option_and_then slots' (keys q)
            ≡ update (same_key eq) (λ p. option_and_then slots (keys p)) k (Some new) q
        write_places q = go (tells (same_key eq k q)) where
          unchanged : same_key eq k q ≡ false → (o : Option ℕ) → keys q ≡ o → option_and_then slots' o
              ≡ option_and_then slots o
          unchanged other None h = refl
          unchanged other (Some m) h = write m ∙ update_apart slots n (Some new) m (away q m other h)

          go : (same_key eq k q ≡ true) ⊎ (same_key eq k q ≡ false) → option_and_then slots' (keys q) ≡ update
              (same_key eq) (λ p. option_and_then slots (keys p)) k (Some new) q
          go (inl e) = ap (option_and_then slots') (sym (respects k q e) ∙ there) ∙ write n ∙ update_here slots n
              (Some new) ∙ sym (update_same (same_key eq) (λ p. option_and_then slots (keys p)) k (Some new) q e)
          go (inr e) = unchanged e (keys q) refl ∙
              sym (update_other (same_key eq) (λ p. option_and_then slots (keys p)) k (Some new) q e)

        pub write_linked : AreLinked eq keys slots'
        write_linked = record {
          led = λ q m h. led q m h (eqb_tells m n);
          apart = linked.apart;
        } where
          led : (q : ℕ × K) (m : ℕ) → keys q ≡ Some m → ((nat_eq m n ≡ true) × (m ≡ n))
              ⊎ ((nat_eq m n ≡ false) × (m ≢ n)) → is_some (slots' m) ≡ true
          led q m h (inl e) = subst (λ (x : ℕ). is_some (slots' x) ≡ true) (sym e.1)
              (ap is_some (write n ∙ update_here slots n (Some new)))
          led q m h (inr e) = ap is_some (write m ∙ update_apart slots n (Some new) m e.1) ∙ linked.led q m h

        -- what is open then, where one more waits
        pub join_open : (id token : ℕ) (o : OpenFetch N R) (w : Waiting N) (later : Option R) → slots n ≡ Some o → w.token
            ≡ token → new ≡ joined (Some o) o.opened o.fetch w later → AreOpen eq (opens_by keys slots id token) → AreOpen eq
            (opens_by keys slots' id (token + 1))
        join_open id token o w later was is made a =
            let f = opens_by keys slots id token in
            let open_there : f.by_key k ≡ Some o = ap (option_and_then slots) there ∙ was in
            open_write laws f (opens_by keys slots' id (token + 1)) k new write_places (omega arith) (omega arith)
            (subst (λ (x : OpenFetch N R). Fits eq f id (token + 1) k x) (sym made)
            (fits_joined laws f k o w later open_there is a)) a

        -- what is open then, where the builder alone is another
        pub later_open : (id token : ℕ) (o : OpenFetch N R) (later : Option R) → slots n ≡ Some o → new ≡ record
            { fetch = o.fetch; opened = o.opened; tokens = o.tokens; later = later } → AreOpen eq (opens_by keys slots id token) → AreOpen
            eq (opens_by keys slots' id token)
        later_open id token o later was made a =
            let f = opens_by keys slots id token in
            let open_there : f.by_key k ≡ Some o = ap (option_and_then slots) there ∙ was in
            open_write laws f (opens_by keys slots' id token) k new write_places (omega arith) (omega arith)
            (subst (λ (x : OpenFetch N R). Fits eq f id token k x) (sym made) (fits_same f k o later open_there a)) a

      -- the open fetch of a key is taken
      module _ (out : (q : ℕ × K) → keys' q ≡ update (same_key eq) keys k None q)
          (write : (m : ℕ) → slots' m ≡ update nat_eq slots n None m) where
        stays : (q : ℕ × K) (m : ℕ) → same_key eq k q ≡ false → keys q ≡ Some m → slots' m ≡ slots m
        stays q m other h = write m ∙ update_apart slots n None m (away q m other h)

        pub take_places : (q : ℕ × K) → option_and_then slots' (keys' q)
            ≡ update (same_key eq) (λ p. option_and_then slots (keys p)) k None q
        take_places q = go (side None out q) where
          unchanged : same_key eq k q ≡ false → (o : Option ℕ) → keys q ≡ o → option_and_then slots' o
              ≡ option_and_then slots o
          unchanged other None h = refl
          unchanged other (Some m) h = stays q m other h

          go : ((same_key eq k q ≡ true) × (keys' q ≡ None)) ⊎ ((same_key eq k q ≡ false) × (keys' q ≡ keys q)) →
              option_and_then slots' (keys' q) ≡ update (same_key eq) (λ p. option_and_then slots (keys p)) k None q
          go (inl e) = ap (option_and_then slots') e.1
              ∙ sym (update_same (same_key eq) (λ p. option_and_then slots (keys p)) k None q e.0)
          go (inr e) = ap (option_and_then slots') e.1 ∙ unchanged e.0 (keys q) refl ∙ sym
              (update_other (same_key eq) (λ p. option_and_then slots (keys p)) k None q e.0)

        -- what is open then
        pub take_open : (id token : ℕ) → AreOpen eq (opens_by keys slots id token) →
            AreOpen eq (opens_by keys' slots' id token)
        take_open id token a = open_none (opens_by keys slots id token) (opens_by keys' slots' id token) k None
            take_places refl refl refl a

        pub take_linked : AreLinked eq keys' slots'
        take_linked = record {
          led = λ q m h. led q m h (side None out q);
          apart = λ p q m hp hq. linked.apart p q m (old p m hp (side None out p)) (old q m hq (side None out q));
        } where
          led : (q : ℕ × K) (m : ℕ) → keys' q ≡ Some m → ((same_key eq k q ≡ true) × (keys' q ≡ None)) ⊎
              ((same_key eq k q ≡ false) × (keys' q ≡ keys q)) → is_some (slots' m) ≡ true
          led q m h (inl e) = absurd (none_some (keys' q) m e.1 h)
          led q m h (inr e) = (let before = sym e.1 ∙ h in ap is_some (stays q m e.0 before) ∙ linked.led q m before)

          old : (q : ℕ × K) (m : ℕ) → keys' q ≡ Some m → ((same_key eq k q ≡ true) × (keys' q ≡ None)) ⊎
              ((same_key eq k q ≡ false) × (keys' q ≡ keys q)) → keys q ≡ Some m
          old q m h (inl e) = absurd (none_some (keys' q) m e.1 h)
          old q m h (inr e) = sym e.1 ∙ h

-- another map below an update
pub update_below : {K A : Type 0} (e : K → K → Bool) (f g : K → Option A) (k : K) (w : Option A) (q : K) → g q ≡ f q →
    update e g k w q ≡ update e f k w q
update_below {A = A} e f g k w q same = ap (λ (o : Option A). cond (e k q) w o) same

-- room was made, and then a value put in
pub put_in_room : {T : Type 0} (old room new : Slots T) (n key : ℕ) (x y : T) → ((m : ℕ) → get room m ≡ get old m) →
    key ≡ n → x ≡ y → ((m : ℕ) → get new m ≡ update nat_eq (get room) key (Some x) m) → (m : ℕ) → get new m ≡ update
    nat_eq (get old) n (Some y) m
put_in_room {T = T} old room new n key x y kept at is put m =
    put m
    ∙ update_below nat_eq (get old) (get room) key (Some x) m (kept m)
    ∙ ap (λ (q : ℕ). update nat_eq (get old) q (Some x) m) at
    ∙ ap (λ (z : T). update nat_eq (get old) n (Some z) m) is

-- a write of what is there
pub write_again : {T : Type 0} (s : Slots T) (n : ℕ) (x y : T) → get s n ≡ Some x → y ≡ x → (m : ℕ) →
    get (with_value s n y) m ≡ get s m
write_again {T = T} s n x y there is m =
    write_at s n x y there m
    ∙ ap (λ (z : T). update nat_eq (get s) n (Some z) m) is
    ∙ update_there (get s) n x there m

module _ {N R : Type 0} where
  -- the fetch that is open, where it is said to be
  pub open_asked : (id : ℕ) (p : Option (OpenFetch N R)) → IsSomeAnd p (λ o. o.fetch ≡ id) → (o : OpenFetch N R)
      × (p ≡ Some o) × (asked (Some id) p ≡ Some o)
  open_asked id None h = absurd h
  open_asked id (Some o) h = (o, refl, rw (eq-eqb o.fetch id h) refl)

module _ {K N R : Type 0} (eq : K → K → Bool) (f : Opens K N R) (k : ℕ × K) (o : OpenFetch N R)
    (there : f.by_key k ≡ Some o) where
  abbrev bare : OpenFetch N R
  bare = record { fetch = o.fetch; opened = o.opened; tokens = o.tokens; later = None }

  -- or is closed
  pub nothing_taken : is_some o.later ≡ false → closed eq (with_open eq f k (Some bare)) k ≡ after_nothing eq f k
  nothing_taken none = same_opens (closed eq (with_open eq f k (Some bare)) k) (after_nothing eq f k)
      (λ q. go q (same_key eq k q)) refl refl where
        gone : option_and_then without_later (f.by_key k) ≡ None
        gone = ap (option_and_then without_later) there ∙ rw none refl

        go : (q : ℕ × K) (b : Bool) → cond b None (cond b (Some bare) (f.by_key q))
            ≡ cond b (option_and_then without_later (f.by_key k)) (f.by_key q)
        go q true = sym gone
        go q false = refl

-- a key that leads to no fetch leads nowhere
pub led_none : {N R : Type 0} (slots : ℕ → Option (OpenFetch N R)) (o : Option ℕ) →
    ((n : ℕ) → o ≡ Some n → is_some (slots n) ≡ true) → option_and_then slots o ≡ None → o ≡ None
led_none slots None led none = refl
led_none slots (Some n) led none = absurd (led_to (slots n) (led n refl) none)

module _ {K N R : Type 0} {q : EqGhosts K} {h : HashGhosts K} {c : CloneGhosts K} where
  -- equal keys have the same fetch
  pub opens_alike : IsEquivalence q.eq → (m : InflightManager K N R q h c) (a b : ℕ × K) → same_key q.eq a b ≡ true →
      (opens_of m).by_key a ≡ (opens_of m).by_key b
  opens_alike laws m a b same = ap (option_and_then (get m.inflights))
      (lookup_same laws a b same (entries_of m.index.pairs.items))

  pub alike_at : IsEquivalence q.eq → (m : InflightManager K N R q h c) (hash : ℕ) (a b : K) → q.eq a b ≡ true →
      (opens_of m).by_key (hash, b) ≡ (opens_of m).by_key (hash, a)
  alike_at laws m hash a b same = sym (opens_alike laws m (hash, a) (hash, b) (rw (eq-eqb hash hash refl) same))

-- no key is found exactly where there is no pair
pub none_in : {K : Type 0} {eq : K → K → Bool} → IsEquivalence eq → (pairs : List (Pair K)) →
    ((q : ℕ × K) → lookup (same_key eq q) (entries_of pairs) ≡ None) → (length pairs == 0) ≡ true
none_in laws [] none = refl
none_in {K = K} {eq = eq} laws (p ∷ ps) none =
    let k : ℕ × K = (p.hash, p.key) in
    let found : lookup (same_key eq k) (entries_of (p ∷ ps)) ≡ Some p.number = rw ((same_key_equiv laws).refl k) refl in
    absurd (none_some (lookup (same_key eq k) (entries_of (p ∷ ps))) p.number (none k) found)

pub empty_in : {K : Type 0} (eq : K → K → Bool) (pairs : List (Pair K)) → (length pairs == 0) ≡ true → (q : ℕ × K) →
    lookup (same_key eq q) (entries_of pairs) ≡ None
empty_in eq [] empty q = refl
empty_in eq (p ∷ ps) empty q =
    (let none : length (p ∷ ps) ≡ 0 = eqb-true (length (p ∷ ps)) 0 empty in absurd (omega (arith, none)))

module _ {K N R : Type 0} (eq : K → K → Bool) where
  -- what is not open is closed already
  pub closed_already : (f : Opens K N R) (k : ℕ × K) →
      ((q : ℕ × K) → same_key eq k q ≡ true → f.by_key k ≡ f.by_key q) → f.by_key k ≡ None → f ≡ closed eq f k
  closed_already f k respects none = same_opens f (closed eq f k) (λ q. go q (same_key eq k q) refl) refl refl where
    go : (q : ℕ × K) (b : Bool) → same_key eq k q ≡ b → f.by_key q ≡ cond b None (f.by_key q)
    go q true h = sym (respects q h) ∙ none
    go q false h = refl

-- where any fetch was asked for, and there is none
pub none_asked : {N R : Type 0} (p : Option (OpenFetch N R)) → asked None p ≡ None → p ≡ None
none_asked None h = refl
none_asked (Some o) h = absurd cc
