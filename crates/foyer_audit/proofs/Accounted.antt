-- When receipts account for a history.
use Rattle.std.proofs.Common.{◌≡◌, ◌≢◌, ◌+◌, ◌<◌, ◌≤◌, ◌==◌, ◌∙◌, if◌then◌else◌, ℕ, zero, suc, Bool, true, false, nat_lt, List, [], ◌∷◌, ◌++◌, length, get_or, take, Option, Some, IsSomeAnd, All, AllPairs, count_by, slice_get, arith, refl, sym, subst, ap, ne_eqb, lt-ltb, ltb-true, ltb-false}
use Rattle.std.proofs.lemmas.Option.{same_Some}
use Rattle.std.proofs.lemmas.List.Elements.{All-head, All-tail}
use Rattle.std.proofs.lemmas.List.Sums.{sum_by-cons, sum_by_more, sum_by_more_le}
use Rattle.foyer_session.specs.declared.command.Command.{Command}
use Rattle.foyer_session.specs.declared.command.Reply.{Reply}
use Rattle.foyer_audit.specs.declared.receipt.Receipt.{Receipt}
use Rattle.foyer_audit.specs.Accounts.{Agree, EachOnce, times}
use Rattle.foyer_audit.proofs.Counts.{count_by-none}

-- where something stands at a place, the place is within the list
some_within : {X : Type 0} (xs : List X) (k : ℕ) (P : X → Type 0) → IsSomeAnd (slice_get xs k) P → k < length xs
some_within [] k P h = absurd h
some_within (x ∷ xs) zero P h = omega arith
some_within (x ∷ xs) (suc k) P h = let within = some_within xs k P h in omega arith

-- by whether a number is below a bound
by_bound : (a b v : ℕ) → (a < b → v ≡ 1) → (b ≤ a → v ≡ 0) → v ≡ (if nat_lt a b then 1 else 0)
by_bound a b v low high = by (nat_lt a b) refl
  where
    by : (t : Bool) → nat_lt a b ≡ t → v ≡ (if t then 1 else 0)
    by true h = low (ltb-true a b h)
    by false h = high (ltb-false a b h)

-- what is pushed stands at the old length
pub slice_get-push : {X : Type 0} (xs : List X) (x : X) → slice_get (xs ++ x ∷ []) (length xs) ≡ Some x
slice_get-push [] x = refl
slice_get-push (y ∷ xs) x = slice_get-push xs x

-- the reply that was read at a number is the one that stands there
pub read_there : {X Y : Type 0} (calls : List (X × Y)) (number : ℕ) (made : X) (reply read : Y)
    → (x : X) × (slice_get calls number ≡ Some (x, read)) → slice_get calls number ≡ Some (made, reply) → read ≡ reply
read_there {X} {Y} calls number made reply read there stands =
    let pair : ◌≡◌ {A = X × Y} (there.0, read) (made, reply) = same_Some _ _ (sym there.1 ∙ stands) in
    ap (λ (p : X × Y). p.1) pair

-- whether a share with a number was found, after one more that has it, where none was before, and after one that lacks
pub found_now : (before after : ℕ) (found here new : Bool) → before ≡ (if found then 1 else 0)
    → after ≡ before + (if here then 1 else 0) → here ≡ true → found ≡ false → new ≡ true → after
    ≡ (if new then 1 else 0)
found_now before after found here new was more has none is = rw is (omega (arith, rw none at was, rw has at more))

pub found_before : (before after : ℕ) (found here new : Bool) → before ≡ (if found then 1 else 0)
    → after ≡ before + (if here then 1 else 0) → here ≡ false → new ≡ found → after ≡ (if new then 1 else 0)
found_before before after found here new was more lacks is = rw is (omega (arith, was, rw lacks at more))

module _ {S K V P Q C : Type 0} (receipts : S → List (Receipt K V P Q C)) where
  -- how many receipts of a share have a number, by the list that was read
  pub counted_here : (number : ℕ) (s : S) (xs : List (Receipt K V P Q C)) → xs ≡ receipts s → {n : ℕ}
      → count_by (λ r. r.number == number) xs ≡ n → count_by (λ r. r.number == number) (receipts s) ≡ n
  counted_here number s xs is here = sym (ap (count_by (λ r. r.number == number)) is) ∙ here

  -- one share more adds as many as it has
  pub times-more : (shares : List S) (number i : ℕ) (s : S) (n : ℕ) → i < length shares → s ≡ get_or shares i s
      → count_by (λ r. r.number == number) (receipts s) ≡ n
      → times receipts number (take (i + 1) shares) ≡ times receipts number (take i shares) + n
  times-more shares number i s n lt is here =
      let count = λ (t : S). count_by (λ r. r.number == number) (receipts t) in
      let more = sum_by_more count shares i s lt in
      let this = sym (ap count is) ∙ here in
      more ∙ ap (λ (m : ℕ). times receipts number (take i shares) + m) this

  -- where one share more adds a second one, there are more than one
  pub times-too_many : (shares : List S) (number i : ℕ) (s : S) → i < length shares → s ≡ get_or shares i s
      → times receipts number (take i shares) ≡ 1 → count_by (λ r. r.number == number) (receipts s) ≡ 1
      → times receipts number shares ≢ 1
  times-too_many shares number i s lt is before here one =
      let count = λ (t : S). count_by (λ r. r.number == number) (receipts t) in
      let within = sum_by_more_le count shares i s lt in
      let this = sym (ap count is) ∙ here in
      omega (arith, within, this, before, one)

  -- the numbers of these shares' receipts are below a bound
  abbrev pub AllBelow : ℕ → List S → Type 0
  AllBelow len shares = All (λ s. All (λ r. r.number < len) (receipts s)) shares

  -- a number that is not below it is that of none
  times-past : (shares : List S) (len number : ℕ) → AllBelow len shares → len ≤ number → times receipts number shares
      ≡ 0
  times-past [] len number below past = refl
  times-past (s ∷ shares) len number below past =
      let first = All-head (λ t. All (λ r. r.number < len) (receipts t)) s shares below in
      let rest = times-past shares len number (All-tail (λ t. All (λ r. r.number < len) (receipts t)) s shares below)
      past in
      let none = count_by-none (λ r. r.number == number) (receipts s)
      (λ k d lt. ne_eqb _ _ (λ same. absurd (let l = first k d lt in omega arith))) in
      omega (arith, sum_by-cons (λ t. count_by (λ r. r.number == number) (receipts t)) s shares)

  -- where each number below the bound is that of one receipt, each number is that of one or of none
  pub each_once_from_below : (shares : List S) (len : ℕ) → AllBelow len shares
      → ((number : ℕ) → number < len → times receipts number shares ≡ 1) → EachOnce receipts len shares
  each_once_from_below shares len below once number =
      by_bound number len _ (once number) (times-past shares len number below)

  -- and the other way round
  pub once_from_each : (shares : List S) (len : ℕ) → EachOnce receipts len shares → (number : ℕ) → number < len
      → times receipts number shares ≡ 1
  once_from_each shares len each number lt = each number ∙ ap (λ t. if t then 1 else 0) (lt-ltb number len lt)

  -- where the receipts of shares agree with a history, their numbers are below its length
  pub below_from_agree : {same : Command K V P Q C → Command K V P Q C → Bool}
      {alike : Reply K V P → Reply K V P → Bool}
      {history : List (Command K V P Q C × Reply K V P)} (shares : List S)
      → All (λ s. Agree same alike history (receipts s)) shares → AllBelow (length history) shares
  below_from_agree shares agree k d lt i e below = some_within _ _ _ ((agree k d lt).stand i e below)
