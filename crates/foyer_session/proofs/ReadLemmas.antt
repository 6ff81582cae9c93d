-- A line that is read part by part.
use Rattle.std.proofs.Common.{◌≡◌, ◌≢◌, ℕ, ◌+◌, ◌-◌, ◌<◌, ◌≤◌, Bool, true, false, List, [], ◌∷◌, ◌++◌, Option, Some, None, IfSome, Result, Ok, Err, OnErr, length, get_or, take, refl, sym, ap, ◌∙◌, subst, arith, append_assoc, append-nil, length-append, lt-ltb, true≢false}
use Rattle.std.specs.Io.{StartsWith}
use Rattle.std.specs.Io.KnownBytes.{Keeps, Consumes, IsAtEnd}
use Rattle.std.specs.Io.BufRead.{take_through, drop_through, ends_with_byte, strip_last, first_piece, DropsThrough, DropsConsumable}
use Rattle.std.proofs.KnownBytes.{Consumes-nil, Consumes-trans, Consumes-kept}
use Rattle.std.proofs.BufReadLemmas.{take_through-append, drop_through-append, Consumes_shown}
use Rattle.std.proofs.lemmas.Bool.{and_from, and_parts, cond-true, cond-false, eq-eqb, eqb-true, ltb-true, false_from_ne_true}
use Rattle.std.proofs.lemmas.List.{take_more, take_at, length_push, get_or_push}
use Rattle.std.proofs.lemmas.List.Elements.{All-nil, All-append, All-get_or}
use Rattle.foyer_session.specs.declared.text.Line.{Line}
use Rattle.foyer_session.specs.Text.{line_of, next_line}
use Rattle.foyer_session.specs.Kept.{StandsFor}
use Rattle.foyer_session.specs.Reading.{HasNoEnd, StopsWithin}
use Rattle.foyer_session.proofs.KeptLemmas.{StandsFor-refl, StandsFor-trans, StandsFor-append}

-- the bytes of a line that a byte 10 ends
first_piece-closed : (front rest : List ℕ) → HasNoEnd front → first_piece 10 (front ++ 10 ∷ rest) ≡ front
first_piece-closed front rest whole =
    let len = length_push front 10 in
    let last : length (front ++ 10 ∷ []) - 1 ≡ length front = omega (arith, len) in
    let here : get_or (front ++ 10 ∷ []) (length (front ++ 10 ∷ []) - 1) 0 ≡ 10 =
    ap (λ k. get_or (front ++ 10 ∷ []) k 0) last ∙ get_or_push front 10 0 (length front) refl in
    let ends : ends_with_byte 10 (front ++ 10 ∷ []) ≡ true =
    and_from _ _ (lt-ltb 0 (length (front ++ 10 ∷ [])) (omega (arith, len))) (eq-eqb _ 10 here) in
    ap (strip_last 10) (take_through-append 10 front (10 ∷ rest) whole)
    ∙ cond-true (ends_with_byte 10 (front ++ 10 ∷ [])) _ _ ends
    ∙ take_at front (10 ∷ []) _ (sym last)

-- the bytes of a line that the input ends
first_piece-open : (front : List ℕ) → HasNoEnd front → first_piece 10 front ≡ front
first_piece-open front whole =
    let all : take_through 10 front ≡ front = ap (take_through 10) (sym (append-nil front))
    ∙ take_through-append 10 front [] whole ∙ append-nil front in
    let stays : ends_with_byte 10 front ≡ false = false_from_ne_true _ (λ e.
    let (some, last) = and_parts _ _ e in
    let pos = ltb-true 0 (length front) some in
    All-get_or (λ b. b ≢ 10) front (length front - 1) 0 (omega (arith, pos)) whole (eqb-true _ 10 last)) in
    ap (strip_last 10) all ∙ cond-false (ends_with_byte 10 front) _ _ stays

next_line-some : (input : List ℕ) → 0 < length input → next_line input ≡ Some (line_of (first_piece 10 input))
next_line-some [] some = absurd (omega arith)
next_line-some (b ∷ bs) some = refl

drop_through-closed : (front rest : List ℕ) → HasNoEnd front → drop_through 10 (front ++ 10 ∷ rest) ≡ rest
drop_through-closed front rest whole = drop_through-append 10 front (10 ∷ rest) whole

drop_through-open : (front : List ℕ) → HasNoEnd front → drop_through 10 front ≡ []
drop_through-open front whole = ap (drop_through 10) (sym (append-nil front)) ∙ drop_through-append 10 front [] whole

-- the line, where nothing follows what was kept
line_of-kept : (kept done : List ℕ) → StandsFor kept done → line_of kept ≡ line_of done
line_of-kept kept done stands = ap line_of (sym (append-nil kept)) ∙ stands [] ∙ ap line_of (append-nil done)

-- the bytes of a line so far
pub record ReadSoFar (known now : Option (List ℕ)) (kept : List ℕ) (is_started : Bool) : Type 0 where
  pub done : List ℕ
  pub whole : HasNoEnd done
  pub consumes : Consumes known now done
  pub stands : StandsFor kept done
  pub some : is_started ≡ true → 0 < length done
  pub none : is_started ≡ false → done ≡ []

pub so_far-none : (known : Option (List ℕ)) → ReadSoFar known known [] false
so_far-none known = record {
  done = [];
  whole = All-nil (λ b. b ≢ 10);
  consumes = Consumes-nil known;
  stands = StandsFor-refl [];
  some = λ e. absurd (true≢false (sym e));
  none = λ _. refl;
}

-- the reader was interrupted
pub so_far-kept : (known now then : Option (List ℕ)) (kept next : List ℕ) (is_started : Bool) →
    ReadSoFar known now kept is_started → Keeps now then → next ≡ kept → ReadSoFar known then next is_started
so_far-kept known now then kept next is_started s keeps same = record {
  done = s.done;
  whole = s.whole;
  consumes = Consumes-kept known now then s.done s.consumes keeps;
  stands = subst (λ l. StandsFor l s.done) (sym same) s.stands;
  some = s.some;
  none = s.none;
}

-- another part was read
pub so_far-more : (known now then : Option (List ℕ)) (kept next : List ℕ) (is_started : Bool) (text : List ℕ) →
    ReadSoFar known now kept is_started → 0 < length text → HasNoEnd text → Consumes now then text →
    StandsFor next (kept ++ text) → ReadSoFar known then next true
so_far-more known now then kept next is_started text s more whole consumes stands = record {
  done = s.done ++ text;
  whole = All-append (λ b. b ≢ 10) s.done text s.whole whole;
  consumes = Consumes-trans known now then s.done text s.consumes consumes;
  stands = StandsFor-trans next (kept ++ text) (s.done ++ text) stands (StandsFor-append kept s.done text s.stands);
  some = λ _. omega (arith, length-append s.done text);
  none = λ e. absurd (true≢false e);
}

-- a line was read, and the reader is behind it
pub record ReadsLine (known then : Option (List ℕ)) (kept : List ℕ) : Type 0 where
  pub line : IfSome known (λ input. Some (line_of kept) ≡ next_line input)
  pub rest : DropsThrough known then 10

-- what the call answers is that line
pub IsLine-same : (known : Option (List ℕ)) {line made : Line} → made ≡ line →
    IfSome known (λ input. Some line ≡ next_line input) → IfSome known (λ input. Some made ≡ next_line input)
IsLine-same known e h = subst (λ l. IfSome known (λ input. Some l ≡ next_line input)) (sym e) h

-- its end was read
pub line-closed : (known now then : Option (List ℕ)) (kept next : List ℕ) (is_started : Bool) (text : List ℕ) →
    ReadSoFar known now kept is_started → HasNoEnd text → Consumes now then (text ++ 10 ∷ []) →
    StandsFor next (kept ++ text) → ReadsLine known then next
line-closed known now then kept next is_started text s whole consumes stands =
    at known then (Consumes-trans known now then s.done (text ++ 10 ∷ []) s.consumes consumes)
  where
    all : HasNoEnd (s.done ++ text)
    all = All-append (λ b. b ≢ 10) s.done text s.whole whole

    is : line_of next ≡ line_of (s.done ++ text)
    is = line_of-kept next (s.done ++ text)
        (StandsFor-trans next (kept ++ text) (s.done ++ text) stands (StandsFor-append kept s.done text s.stands))

    at : (a b : Option (List ℕ)) → Consumes a b (s.done ++ (text ++ 10 ∷ [])) → ReadsLine a b next
    at None b h = record { line = tt; rest = tt }
    at (Some input) None h = absurd h
    at (Some input) (Some rest) h =
        let joined : input ≡ (s.done ++ text) ++ 10 ∷ rest = h ∙ append_assoc s.done (text ++ 10 ∷ []) rest
        ∙ ap (λ l. s.done ++ l) (append_assoc text (10 ∷ []) rest) ∙ sym (append_assoc s.done text (10 ∷ rest)) in
        let some : 0 < length input = omega (arith, ap length joined, length-append (s.done ++ text) (10 ∷ rest)) in
        record {
          line = sym
              (next_line-some input some ∙ ap (λ l. Some (line_of (first_piece 10 l))) joined
              ∙ ap (λ l. Some (line_of l)) (first_piece-closed (s.done ++ text) rest all) ∙ ap Some (sym is));
          rest = ap Some (sym (ap (drop_through 10) joined ∙ drop_through-closed (s.done ++ text) rest all));
        }

-- the reader had no more than was read, and has lost that
all_read : (known now then : Option (List ℕ)) (done : List ℕ) → Consumes known now done → IsAtEnd now → Keeps now then
    → IfSome known (λ input. (input ≡ done) × (then ≡ Some []))
all_read None now then done h end keeps = tt
all_read (Some input) None then done h end keeps = absurd h
all_read (Some input) (Some rest) None done h end keeps = absurd keeps
all_read (Some input) (Some rest) (Some left) done h end keeps =
    (h ∙ ap (λ l. done ++ l) end ∙ append-nil done, ap Some (keeps ∙ end))

-- the input ended the line
pub line-ended : (known now then : Option (List ℕ)) (kept next : List ℕ) (is_started : Bool) →
    ReadSoFar known now kept is_started → is_started ≡ true → IsAtEnd now → Keeps now then → next ≡ kept →
    ReadsLine known then next
line-ended known now then kept next is_started s started end keeps same =
    at known (all_read known now then s.done s.consumes end keeps)
  where
    at : (a : Option (List ℕ)) → IfSome a (λ input. (input ≡ s.done) × (then ≡ Some [])) → ReadsLine a then next
    at None h = record { line = tt; rest = tt }
    at (Some input) (is, left) =
        let some : 0 < length input = omega (arith, ap length is, s.some started) in
        record {
          line = sym
              (next_line-some input some ∙ ap (λ l. Some (line_of (first_piece 10 l))) is
              ∙ ap (λ l. Some (line_of l)) (first_piece-open s.done s.whole)
              ∙ ap Some (sym (ap line_of same ∙ line_of-kept kept s.done s.stands)));
          rest = left ∙ ap Some (sym (ap (drop_through 10) is ∙ drop_through-open s.done s.whole));
        }

-- the reader failed after a call that took nothing
pub stops_later : {T E : Type 0} (known now then : Option (List ℕ)) (result : Result T E) → Keeps known now →
    OnErr result (StopsWithin now then) → OnErr result (StopsWithin known then)
stops_later known now then (Ok x) keeps h = tt
stops_later known now then (Err e) keeps (part, whole, consumes) = (
  part,
  whole,
  Consumes-trans known now then [] part (Consumes-kept known known now [] (Consumes-nil known) keeps)
      consumes,
)

-- the bytes of a slice before the place of the byte 10, and that byte
pub take_closed : (bytes : List ℕ) (end : ℕ) → end < length bytes → get_or bytes end 0 ≡ 10 → take (end + 1) bytes
    ≡ take end bytes ++ 10 ∷ []
take_closed bytes end lt is = take_more bytes end 0 lt ∙ ap (λ b. take end bytes ++ b ∷ []) is

-- a whole line was read at once
pub line-whole : (known now then : Option (List ℕ)) (limit : Option ℕ) (bytes : List ℕ) (end : ℕ) →
    IfSome known (λ xs. StartsWith xs bytes) → IfSome known (λ xs. length bytes ≡ 0 → xs ≡ []) → Keeps known now
    → IfSome known (λ _. IfSome limit (λ n. length bytes ≤ n)) → HasNoEnd (take end bytes) → end < length bytes →
    get_or bytes end 0 ≡ 10 → DropsConsumable now then limit (end + 1) → ReadsLine known then (take end bytes)
line-whole known now then limit bytes end front at_end keeps fits whole inside is drops =
    let moved = Consumes_shown known now then limit bytes (end + 1) (omega arith) front at_end keeps fits drops in
    line-closed known known then [] (take end bytes) false (take end bytes) (so_far-none known) whole
    (subst (Consumes known then) (take_closed bytes end inside is) moved.0) (StandsFor-refl (take end bytes))
