-- What an insert says of the key of its entry, said of the key that was inserted.
use Rattle.std.proofs.Common.{◌≡◌, ◌∙◌, ℕ, Bool, List, ap, subst}
use Rattle.foyer_core.specs.declared.outcome.Answers.{Answers}
use Rattle.foyer_core.specs.Core.{Core}
use Rattle.foyer_core.specs.CoreFetches.{at_hash, open_in}
use Rattle.foyer_core.specs.Inflight.{Opens, closed, waiters_of}
use Rattle.foyer_core.specs.CallLaws.{AnswersIn, IsNewEntry}
use Rattle.foyer_core.specs.State.{key_of}
use Rattle.foyer_core.specs.Values.{Held}
use Rattle.foyer_core.specs.Waited.{AnswersEach}

module _ {K V P View S W A N R : Type 0} (same : K → K → Bool) {core : Core K V P View S W A} {hash : ℕ} {key : K}
    {value : V} {entry : Held K V P} {answers : Answers K V P N} {fetches after : List (Opens K N R)}
    (given : IsNewEntry core hash key value entry) (did : AnswersIn same hash entry answers fetches after) where
  own_key : key_of entry.kept ≡ (hash, key)
  own_key = ap (λ (h : ℕ). (h, entry.kept.key)) given.hash_is ∙ ap (λ (k : K). (hash, k)) given.key_is

  -- who waited for that key gets an entry each
  pub new_answers : AnswersEach (waiters_of (open_in fetches (hash, key))) entry answers
  new_answers = subst (λ (q : ℕ × K). AnswersEach (waiters_of (open_in fetches q)) entry answers) own_key did.each

  -- and its fetch is closed
  pub new_closes : after ≡ at_hash (λ f. closed same f (hash, key)) fetches hash
  new_closes = subst (λ (q : ℕ × K). after ≡ at_hash (λ f. closed same f q) fetches hash) own_key did.closes
