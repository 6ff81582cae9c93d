-- Receipts of calls, and which of them account for a history.
use Rattle.std.specs.Prelude.{◌≡◌, ◌<◌, ◌==◌, if◌then◌else◌, ℕ, Bool, true, nat_lt, List, [], ◌∷◌, ◌++◌, length, slice_get, Option, Some, None, IfSome, IsSomeAnd, All, AllPairs, sum_by, count_by, ⊤}
use Rattle.foyer_session.specs.declared.command.Command.{Command}
use Rattle.foyer_session.specs.declared.command.Reply.{Reply}
use Rattle.foyer_audit.specs.declared.receipt.Receipt.{Receipt}

module _ {K V P Q C : Type 0} where
  -- one receipt more, of this command, number and reply
  abbrev pub received : List (Receipt K V P Q C) → Command K V P Q C → ℕ → Option (Reply K V P) →
      List (Receipt K V P Q C)
  received receipts command number reply = receipts ++ record { number = number; command = command; reply = reply } ∷ []

  -- the numbers of receipts rise
  abbrev pub Rise : List (Receipt K V P Q C) → Type 0
  Rise receipts = AllPairs (λ one later. one.number < later.number) receipts

-- two copies of a reply, or none
abbrev pub AreCopies : {K V P : Type 0} → (Reply K V P → Reply K V P → Type 0) → Reply K V P → Option (Reply K V P) →
    Option (Reply K V P) → Type 0
AreCopies clones reply (Some one) (Some other) = clones reply one × clones reply other
AreCopies clones reply None None = ⊤
AreCopies clones reply _ _ = ⊥

-- `clones` says what a clone of a reply is.
module _ {K V P Q C : Type 0} (clones : Reply K V P → Reply K V P → Type 0) where
  -- a call of this command answered this number and copy of a reply, and left a receipt of it with another copy
  pub record IsReceived (old : List (Receipt K V P Q C)) (command : Command K V P Q C) (number : ℕ)
      (reply : Reply K V P)
      (told : Option (Reply K V P)) (new : List (Receipt K V P Q C)) : Type 0 where
    pub copy : Option (Reply K V P)
    pub copies : AreCopies clones reply told copy
    pub receipts : new ≡ received old command number copy

-- `same` says when two commands are equal, and `alike` when two replies are.
module _ {K V P Q C : Type 0} (same : Command K V P Q C → Command K V P Q C → Bool)
    (alike : Reply K V P → Reply K V P → Bool) where
  -- whether a call is that of a receipt: the commands are equal, and so are the replies where the receipt has one
  abbrev pub IsCallOf : Receipt K V P Q C → Command K V P Q C × Reply K V P → Type 0
  IsCallOf receipt call = (same call.0 receipt.command ≡ true)
      × IfSome receipt.reply (λ reply. alike call.1 reply ≡ true)

  -- a receipt's call stands in a history at the receipt's number
  abbrev pub Stands : List (Command K V P Q C × Reply K V P) → Receipt K V P Q C → Type 0
  Stands history receipt = IsSomeAnd (slice_get history receipt.number) (IsCallOf receipt)

  -- the receipts of a share agree with a history: the call of each stands there, and their numbers rise
  pub record Agree (history : List (Command K V P Q C × Reply K V P)) (receipts : List (Receipt K V P Q C)) : Type
      0 where
    pub stand : All (Stands history) receipts
    pub rise : Rise receipts

module _ {S K V P Q C : Type 0} (receipts : S → List (Receipt K V P Q C)) where
  -- how many receipts of these shares have a number
  abbrev pub times : ℕ → List S → ℕ
  times number shares = sum_by (λ s. count_by (λ r. r.number == number) (receipts s)) shares

  -- each number below the length is that of one receipt, and no other number is that of any
  abbrev pub EachOnce : ℕ → List S → Type 0
  EachOnce len shares = (number : ℕ) → times number shares ≡ (if nat_lt number len then 1 else 0)

  -- The receipts of these shares account for a history: each call of it is that of one receipt, and the calls of a
  -- share
  -- stand there in the share's order.
  pub record AccountFor (same : Command K V P Q C → Command K V P Q C → Bool) (alike : Reply K V P → Reply K V P → Bool)
      (history : List (Command K V P Q C × Reply K V P)) (shares : List S) : Type 0 where
    pub agree : All (λ s. Agree same alike history (receipts s)) shares
    pub once : EachOnce (length history) shares
