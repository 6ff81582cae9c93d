-- The words of a list of bytes.
use Rattle.std.proofs.Common.{◌≡◌, ◌≢◌, ℕ, zero, suc, ◌+◌, ◌<◌, ◌≤◌, Bool, true, false, cond, nat_lt, List, [], ◌∷◌, ◌++◌, length, get_or, take, drop, filter, All, refl, sym, ap, ◌∙◌, arith, eqb, lt-ltb, ne_eqb, get_or-drop, take-append-drop, ⊎_elim, ap₂, length-drop}
use Rattle.std.specs.List.{slice_split, onto_first}
use Rattle.std.proofs.lemmas.List.{drop_more, drop_all, take_all, length-take-le, nil_from_length}
use Rattle.std.proofs.lemmas.Bool.{cases_lt, eqb-false}
use Rattle.std.proofs.lemmas.List.Elements.{All-nil, All-cons, All-head, All-tail, All-weaker, filter-append}
use Rattle.std.proofs.lemmas.List.Splits.{slice_split-cons_no, slice_split_none, length-slice_split}
use Rattle.foyer_session.specs.Text.{words}

abbrev is_space : ℕ → Bool
is_space b = eqb b 32

-- the runs that are words
abbrev runs : List (List ℕ) → List (List ℕ)
runs parts = filter (λ run. nat_lt 0 (length run)) parts

runs-word : (word : List ℕ) (parts : List (List ℕ)) → 0 < length word → runs (word ∷ parts) ≡ word ∷ runs parts
runs-word word parts some = ap (λ t. cond t (word ∷ runs parts) (runs parts)) (lt-ltb 0 (length word) some)

no_space : (bytes : List ℕ) → All (λ b. b ≢ 32) bytes → All (λ b. is_space b ≡ false) bytes
no_space bytes h = All-weaker (λ b. b ≢ 32) (λ b. is_space b ≡ false) (λ b ne. ne_eqb b 32 ne) bytes h

pub words-nil : words [] ≡ []
unfolding words
words-nil = refl

-- a space at the front
pub words-space : (bytes : List ℕ) → words (32 ∷ bytes) ≡ words bytes
unfolding words
words-space bytes = refl

-- spaces at the front
pub words-drop : (i : ℕ) (bytes : List ℕ) → All (λ b. b ≡ 32) (take i bytes) → words bytes ≡ words (drop i bytes)
words-drop zero bytes h = refl
words-drop (suc i) [] h = refl
words-drop (suc i) (b ∷ bytes) h =
    ap (λ x. words (x ∷ bytes)) (All-head (λ x. x ≡ 32) b (take i bytes) h) ∙ words-space bytes
    ∙ words-drop i bytes (All-tail (λ x. x ≡ 32) b (take i bytes) h)

onto_first-append : (x : ℕ) (parts more : List (List ℕ)) → 0 < length parts → onto_first x (parts ++ more)
    ≡ onto_first x parts ++ more
onto_first-append x [] more some = absurd (omega arith)
onto_first-append x (part ∷ parts) more some = refl

-- the pieces before a space and those after it
slice_split-space : (xs ys : List ℕ) → slice_split is_space (xs ++ 32 ∷ ys) ≡ slice_split is_space xs
    ++ slice_split is_space ys
slice_split-space [] ys = refl
slice_split-space (x ∷ xs) ys = at (is_space x) (slice_split is_space (xs ++ 32 ∷ ys)) (slice_split is_space xs)
    (slice_split is_space ys) (slice_split-space xs ys) (omega (arith, length-slice_split is_space xs))
  where
    at : (b : Bool) (joined left right : List (List ℕ)) → joined ≡ left ++ right → 0 < length left →
        cond b ([] ∷ joined) (onto_first x joined) ≡ cond b ([] ∷ left) (onto_first x left) ++ right
    at true joined left right e some = ap (λ l. [] ∷ l) e
    at false joined left right e some = ap (onto_first x) e ∙ onto_first-append x left right some

-- the words before a space and those after it
pub words-append_space : (xs ys : List ℕ) → words (xs ++ 32 ∷ ys) ≡ words xs ++ words ys
unfolding words
words-append_space xs ys = ap runs (slice_split-space xs ys)
    ∙ filter-append (λ run. nat_lt 0 (length run)) (slice_split is_space xs) (slice_split is_space ys)

-- a word with nothing behind
pub words-word : (word : List ℕ) → 0 < length word → All (λ b. b ≢ 32) word → words word ≡ word ∷ []
unfolding words
words-word word some h = ap runs (slice_split_none is_space word (no_space word h)) ∙ runs-word word [] some

-- the first n bytes are the first word
pub words-first : (bytes : List ℕ) (n : ℕ) → 0 < n → n ≤ length bytes → All (λ b. b ≢ 32) (take n bytes) →
    (n < length bytes → get_or bytes n 0 ≡ 32) → words bytes ≡ take n bytes ∷ words (drop n bytes)
words-first bytes n some within h end = ⊎_elim more last (cases_lt n (length bytes))
  where
    long : 0 < length (take n bytes)
    long = rw (length-take-le n bytes within) some

    more : n < length bytes → words bytes ≡ take n bytes ∷ words (drop n bytes)
    more lt =
        let rest : drop n bytes ≡ 32 ∷ drop (n + 1) bytes = drop_more bytes n 0 lt
        ∙ ap (λ b. b ∷ drop (n + 1) bytes) (end lt) in
        ap words (sym (take-append-drop n bytes) ∙ ap (λ l. take n bytes ++ l) rest)
        ∙ words-append_space (take n bytes) (drop (n + 1) bytes)
        ∙ ap (λ l. l ++ words (drop (n + 1) bytes)) (words-word (take n bytes) long h)
        ∙ ap (λ l. take n bytes ∷ l) (sym (words-space (drop (n + 1) bytes)) ∙ ap words (sym rest))

    last : length bytes ≤ n → words bytes ≡ take n bytes ∷ words (drop n bytes)
    last le =
        let whole : take n bytes ≡ bytes = take_all n bytes le in
        ap words (sym whole) ∙ words-word (take n bytes) long h
        ∙ ap (λ l. take n bytes ∷ l) (sym words-nil ∙ ap words (sym (drop_all n bytes le)))

-- spaces alone
pub words-spaces : (i : ℕ) (bytes : List ℕ) → All (λ b. b ≡ 32) (take i bytes) → length (drop i bytes) ≡ 0 →
    words bytes ≡ []
words-spaces i bytes h none = words-drop i bytes h ∙ ap words (nil_from_length (drop i bytes) none) ∙ words-nil

some_bytes : (n : ℕ) → (n ≡ 0 → ⊥) → 0 < n
some_bytes zero h = absurd (h refl)
some_bytes (suc n) h = omega arith

-- a slice that is not empty
pub some_from_test : (bytes : List ℕ) (empty : Bool) → empty ≡ eqb (length bytes) 0 → empty ≡ false → 0 < length bytes
some_from_test bytes empty is test = some_bytes (length bytes) (eqb-false (length bytes) 0 (sym is ∙ test))

-- spaces, and then a word of n bytes
pub words-next : (i n : ℕ) (bytes rest word more : List ℕ) → rest ≡ drop i bytes → All (λ b. b ≡ 32) (take i bytes) →
    (i < length bytes → get_or bytes i 0 ≢ 32) → 0 < length rest
    → n ≤ length rest → All (λ b. b ≢ 32) (take n rest) → (n < length rest → get_or rest n 0 ≡ 32) → word
    ≡ take n rest → more ≡ drop n rest → words bytes ≡ word ∷ words more
words-next i n bytes rest word more is spaces start some within h end word_is more_is =
    let inside : i < length bytes = omega (arith, some, ap length is, length-drop i bytes) in
    let j : i + 0 ≡ i = omega arith in
    let here : get_or rest 0 0 ≡ get_or bytes i 0 = ap (λ l. get_or l 0 0) is ∙ get_or-drop i bytes 0 0
    ∙ ap (λ k. get_or bytes k 0) j in
    let pos : 0 < n = some_bytes n (λ e. start inside (sym here ∙ rw e at end some)) in
    words-drop i bytes spaces ∙ ap words (sym is) ∙ words-first rest n pos within h end
    ∙ ap₂ (λ w m. w ∷ words m) (sym word_is) (sym more_is)

-- a word of one byte
pub words-one : (b : ℕ) (bytes : List ℕ) → b ≢ 32 → words (b ∷ 32 ∷ bytes) ≡ (b ∷ []) ∷ words bytes
words-one b bytes ne =
    words-append_space (b ∷ []) bytes ∙ ap (λ l. l ++ words bytes)
    (words-word (b ∷ []) (omega arith) (All-cons (λ x. x ≢ 32) b [] ne (All-nil (λ x. x ≢ 32))))

-- the first word goes on
pub words-go_on : (b c : ℕ) (bytes : List ℕ) → b ≢ 32 → c ≢ 32 → (word : List ℕ) × (more : List (List ℕ))
    × (words (c ∷ bytes) ≡ word ∷ more) × (words (b ∷ c ∷ bytes) ≡ (b ∷ word) ∷ more)
unfolding words
words-go_on b c bytes ne nf =
    let here = slice_split-cons_no is_space c bytes (ne_eqb c 32 nf) in
    let there = slice_split-cons_no is_space b (c ∷ bytes) (ne_eqb b 32 ne) ∙ ap (onto_first b) here in
    let (word, more, is, goes) = at (slice_split is_space bytes) in
    (word, more, ap runs here ∙ is, ap runs there ∙ goes)
  where
    at : (parts : List (List ℕ)) → (word : List ℕ) × (more : List (List ℕ))
        × (runs (onto_first c parts) ≡ word ∷ more) × (runs (onto_first b (onto_first c parts)) ≡ (b ∷ word) ∷ more)
    at [] = (c ∷ [], [], runs-word (c ∷ []) [] (omega arith), runs-word (b ∷ c ∷ []) [] (omega arith))
    at (part ∷ parts) =
        (c ∷ part, runs parts, runs-word (c ∷ part) parts (omega arith), runs-word (b ∷ c ∷ part) parts (omega arith))

-- a byte that is no space begins a word
pub words-begin : (b : ℕ) (bytes : List ℕ) → b ≢ 32 → (word : List ℕ) × (more : List (List ℕ))
    × (words (b ∷ bytes) ≡ word ∷ more)
unfolding words
words-begin b bytes ne =
    let (word, more, is) = at (slice_split is_space bytes) in
    (word, more, ap runs (slice_split-cons_no is_space b bytes (ne_eqb b 32 ne)) ∙ is)
  where
    at : (parts : List (List ℕ)) → (word : List ℕ) × (more : List (List ℕ)) × (runs (onto_first b parts) ≡ word ∷ more)
    at [] = (b ∷ [], [], runs-word (b ∷ []) [] (omega arith))
    at (part ∷ parts) = (b ∷ part, runs parts, runs-word (b ∷ part) parts (omega arith))
