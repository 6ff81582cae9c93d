-- Texts that are written piece by piece, and a program's loop over lines, of which it writes a text for each.
use Rattle.std.proofs.Common.{◌≡◌, ℕ, zero, suc, ◌+◌, List, [], ◌∷◌, ◌++◌, Option, Some, None, IfSome, OnErr, Result, Ok, Err, IsErr, length, take, refl, sym, ap, ◌∙◌, subst, arith, append_assoc, append-nil}
use Rattle.std.specs.Io.KnownBytes.{Appends, Keeps}
use Rattle.std.specs.Io.BufRead.{drop_through, DropsThrough}
use Rattle.std.proofs.Math.Seq.{take-append-add}
use Rattle.std.proofs.KnownBytes.{Appends-nil, Appends-kept, Appends-trans}
use Rattle.std.proofs.lemmas.List.{take_all}
use Rattle.foyer_session.specs.declared.text.Line.{Line}
use Rattle.foyer_session.specs.Text.{next_line, Lines}
use Rattle.foyer_session.specs.Print.{AppendsFront, WritesText}
use Rattle.foyer_session.specs.Told.{Told, ToldOf, TellsAll, TellsPart}

-- ---- pieces of a text

-- a beginning of the front is one of the whole
take-front : (xs ys : List ℕ) (n : ℕ) → (m : ℕ) × (take n xs ≡ take m (xs ++ ys))
take-front xs ys zero = (0, refl)
take-front [] ys (suc n) = (0, refl)
take-front (x ∷ xs) ys (suc n) = let (m, is) = take-front xs ys n in (suc m, ap (λ zs. x ∷ zs) is)

-- a piece was written, and a beginning of the rest
pub AppendsFront-after : (a b c : Option (List ℕ)) (xs ys : List ℕ) → Appends a b xs → AppendsFront b c ys →
    AppendsFront a c (xs ++ ys)
AppendsFront-after a b c xs ys h (n, k) =
    (length xs + n, rw (take-append-add xs ys n) (Appends-trans a b c xs (take n ys) h k))

-- a beginning of a piece was written, and nothing of the rest
pub AppendsFront-append : (a b : Option (List ℕ)) (xs ys : List ℕ) → AppendsFront a b xs → AppendsFront a b (xs ++ ys)
AppendsFront-append a b xs ys (n, h) = let (m, is) = take-front xs ys n in (m, subst (Appends a b) is h)

-- all was written
pub AppendsFront-all : (a b : Option (List ℕ)) (xs : List ℕ) → Appends a b xs → AppendsFront a b xs
AppendsFront-all a b xs h = (length xs, subst (Appends a b) (sym (take_all (length xs) xs (omega arith))) h)

-- a piece was written, and a call for the rest was made
pub WritesText-after : {T E : Type 0} (a b c : Option (List ℕ)) (result : Result T E) (xs ys : List ℕ) →
    Appends a b xs → WritesText b c result ys → WritesText a c result (xs ++ ys)
WritesText-after a b c (Ok x) xs ys h k = Appends-trans a b c xs ys h k
WritesText-after a b c (Err e) xs ys h k = AppendsFront-after a b c xs ys h k

-- ---- lines

-- one more line was read
pub Lines-push : (input : List ℕ) (lines : List Line) (rest : List ℕ) (line : Line) → Lines input lines rest →
    next_line rest ≡ Some line → Lines input (lines ++ line ∷ []) (drop_through 10 rest)
Lines-push input [] rest line h is = (sym (ap next_line h) ∙ is, ap (drop_through 10) h)
Lines-push input (first ∷ lines) rest line h is = (h.0, Lines-push (drop_through 10 input) lines rest line h.1 is)

no_line : (input : List ℕ) → next_line input ≡ None → input ≡ []
no_line [] h = refl
no_line (b ∷ bs) h = cc

module _ {S : Type 0} (Answers : S → Line → List ℕ → S → Type 0) where
  -- and its text was written
  pub Told-push : (old : S) (lines : List Line) (text : List ℕ) (mid : S) (line : Line) (more : List ℕ) (new : S) →
      Told Answers old lines text mid → Answers mid line more new →
      Told Answers old (lines ++ line ∷ []) (text ++ more) new
  Told-push old [] text mid line more new h a = (
    more,
    [],
    new,
    ap (λ l. l ++ more) h.0 ∙ sym (append-nil more),
    subst (λ s. Answers s line more new) h.1 a,
    (refl, refl),
  )
  Told-push old (first ∷ lines) text mid line more new h a = (
    h.0,
    h.1 ++ more,
    h.2,
    ap (λ l. l ++ more) h.3 ∙ append_assoc h.0 h.1 more,
    h.4,
    Told-push h.2 lines h.1 mid line more new h.5 a,
  )

  pub ToldOf-none : (old : S) (input : List ℕ) → ToldOf Answers old input input [] old
  ToldOf-none old input = record { lines = []; read = refl; told = (refl, refl) }

  pub ToldOf-push : (old : S) (input rest text : List ℕ) (mid : S) (line : Line) (more : List ℕ) (new : S) →
      ToldOf Answers old input rest text mid → next_line rest ≡ Some line → Answers mid line more new →
      ToldOf Answers old input (drop_through 10 rest) (text ++ more) new
  ToldOf-push old input rest text mid line more new t is a = record {
    lines = t.lines ++ line ∷ [];
    read = Lines-push input t.lines rest line t.read is;
    told = Told-push old t.lines text mid line more new t.told a;
  }

  -- ---- a loop over the lines of a reader, which writes to a writer

  -- the lines so far were answered, and their text was written; known and held are from before the loop
  abbrev pub SoFar : S → S → Option (List ℕ) → Option (List ℕ) → Option (List ℕ) → Option (List ℕ) → Type 0
  SoFar old new known now held holds = IfSome known
      (λ input. (rest : List ℕ) × (text : List ℕ) × (now ≡ Some rest) × ToldOf Answers old input rest text new
      × Appends held holds text)

  pub SoFar-none : (old : S) (known held : Option (List ℕ)) → SoFar old old known known held held
  SoFar-none old None held = tt
  SoFar-none old (Some input) held = (input, [], refl, ToldOf-none old input, Appends-nil held)

  -- one more line was read, and its text written
  pub SoFar-more : (old mid new : S) (known now then held holds last : Option (List ℕ)) (line : Line) (more : List ℕ)
      → SoFar old mid known now held holds
      → IfSome now (λ input. Some line ≡ next_line input) → DropsThrough now then 10 → Answers mid line more new →
      Appends holds last more → SoFar old new known then held last
  SoFar-more old mid new None now then held holds last line more s is drops a w = tt
  SoFar-more old mid new (Some input) now then held holds last line more (rest, text, known, told, wrote) is drops a w =
      let here : Some line ≡ next_line rest = subst (λ o. IfSome o (λ xs. Some line ≡ next_line xs)) known is in
      let left : then ≡ Some (drop_through 10 rest) = subst (λ o. DropsThrough o then 10) known drops in (
        drop_through 10 rest,
        text ++ more,
        left,
        ToldOf-push old input rest text mid line more new told (sym here) a,
        Appends-trans held holds last text more wrote w,
      )

  -- there was no more line
  pub SoFar-ends : (old new : S) (known now held holds : Option (List ℕ)) → SoFar old new known now held holds →
      IfSome now (λ input. None ≡ next_line input) → TellsAll Answers old new known held holds
  SoFar-ends old new None now held holds s is = tt
  SoFar-ends old new (Some input) now held holds (rest, text, known, told, wrote) is =
      let nothing : rest ≡ [] = no_line rest (sym (subst (λ o. IfSome o (λ xs. None ≡ next_line xs)) known is)) in
      (text, subst (λ r. ToldOf Answers old input r text new) nothing told, wrote)

  -- and then the reader is at its end
  pub SoFar-at-end : (old new : S) (known now then held holds : Option (List ℕ)) → SoFar old new known now held holds
      → IfSome now (λ input. None ≡ next_line input) → DropsThrough now then 10 → IfSome known (λ input. then ≡ Some [])
  SoFar-at-end old new None now then held holds s is drops = tt
  SoFar-at-end old new (Some input) now then held holds (rest, text, known, told, wrote) is drops =
      let nothing : rest ≡ [] = no_line rest (sym (subst (λ o. IfSome o (λ xs. None ≡ next_line xs)) known is)) in
      subst (λ o. DropsThrough o then 10) (known ∙ ap (λ r. Some r) nothing) drops

  -- what was written was handed on
  pub SoFar-flushed : (old new : S) (known now held holds kept : Option (List ℕ)) → SoFar old new known now held holds
      → Keeps holds kept → SoFar old new known now held kept
  SoFar-flushed old new None now held holds kept s same = tt
  SoFar-flushed old new (Some input) now held holds kept (rest, text, known, told, wrote) same =
      (rest, text, known, told, Appends-kept held holds kept text wrote same)

  -- the loop stopped between two lines
  pub SoFar-stops : (old new : S) (known now held holds : Option (List ℕ)) → SoFar old new known now held holds →
      TellsPart Answers old new known held holds
  SoFar-stops old new None now held holds s = tt
  SoFar-stops old new (Some input) now held holds (rest, text, known, told, wrote) =
      (rest, text, told, AppendsFront-all held holds text wrote)

  -- it stopped within the text of one more line
  pub SoFar-breaks : (old mid new : S) (known now then held holds last : Option (List ℕ)) (line : Line)
      (more : List ℕ) → SoFar old mid known now held holds
      → IfSome now (λ input. Some line ≡ next_line input) → DropsThrough now then 10 → Answers mid line more new →
      AppendsFront holds last more → TellsPart Answers old new known held last
  SoFar-breaks old mid new None now then held holds last line more s is drops a w = tt
  SoFar-breaks old mid new (Some input) now then held holds last line more (rest, text, known, told, wrote) is drops a
      w =
      let here : Some line ≡ next_line rest = subst (λ o. IfSome o (λ xs. Some line ≡ next_line xs)) known is in (
        drop_through 10 rest,
        text ++ more,
        ToldOf-push old input rest text mid line more new told (sym here) a,
        AppendsFront-after held holds last text more wrote w,
      )

-- a call that failed wrote a beginning
pub WritesText-stops : {T E : Type 0} (a b : Option (List ℕ)) (result : Result T E) (xs : List ℕ) → IsErr result →
    AppendsFront a b xs → WritesText a b result xs
WritesText-stops a b (Ok x) xs h k = absurd cc
WritesText-stops a b (Err e) xs h k = k

-- it holds at `Err` where it holds
pub OnErr-always : {T E P : Type 0} (result : Result T E) → P → OnErr result P
OnErr-always (Ok x) p = tt
OnErr-always (Err e) p = p
