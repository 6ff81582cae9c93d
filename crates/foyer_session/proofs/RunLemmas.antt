-- A run goes on by one step.
use Rattle.std.proofs.Common.{◌≡◌, Bool, List, [], ◌∷◌, ◌++◌, map, length, refl, sym, ap, ◌∙◌, arith, append-nil}
use Rattle.std.proofs.lemmas.List.{map-append}
use Rattle.std.specs.Iterator.{Yields}
use Rattle.std.specs.Vec.Iter.{into_iter_items, into_iter_steps}
use Rattle.std.specs.declared.vec.IntoIter.{IntoIter}
use Rattle.foyer_session.specs.declared.command.Command.{Command}
use Rattle.foyer_session.specs.declared.command.Reply.{Reply}
use Rattle.foyer_session.specs.Step.{SessionState, Step}
use Rattle.foyer_session.specs.Run.{Run}
use Rattle.foyer_session.specs.Terms.{Terms}

module _ {K V P View C S W A Q : Type 0} (t : Terms K V P View C S W A) (picks : Q → K → V → Bool → Type 0) where
  Run-snoc : (old : SessionState K V P View S W A) (cs : List (Command K V P Q C)) (rs : List (Reply K V P))
      (mid : SessionState K V P View S W A) (c : Command K V P Q C) (r : Reply K V P)
      (new : SessionState K V P View S W A)
      → Run t picks old cs rs mid → Step t picks mid c r.answer r.leaves new →
      Run t picks old (cs ++ c ∷ []) (rs ++ r ∷ []) new
  Run-snoc old [] [] mid c r new h s = rw (sym h) (new, s, refl)
  Run-snoc old [] (x ∷ rs) mid c r new h s = absurd h
  Run-snoc old (y ∷ cs) [] mid c r new h s = absurd h
  Run-snoc old (y ∷ cs) (x ∷ rs) mid c r new h s = (h.0, h.1, Run-snoc h.0 cs rs mid c r new h.2 s)

  -- the same over what holds the commands
  pub Run-more : {X : Type 0} (f : X → Command K V P Q C) (old : SessionState K V P View S W A) (xs : List X)
      (rs : List (Reply K V P)) (mid : SessionState K V P View S W A) (x : X) (r : Reply K V P)
      (new : SessionState K V P View S W A)
      → Run t picks old (map f xs) rs mid → Step t picks mid (f x) r.answer r.leaves new →
      Run t picks old (map f (xs ++ x ∷ [])) (rs ++ r ∷ []) new
  Run-more f old xs rs mid x r new h s = rw map-append (Run-snoc old (map f xs) rs mid (f x) r new h s)

-- the last parts of a list are none
pub all_yielded : {A B : Type 0} (f : A → B) (xs ys : List A) (zs : List B) → length ys ≡ 0 → map f (xs ++ ys) ≡ zs →
    map f xs ≡ zs
all_yielded f xs [] zs none h = ap (map f) (sym (append-nil xs)) ∙ h
all_yielded f xs (y ∷ ys) zs none h = absurd (omega arith)

-- what the iterator of a vector has given is a front of its items
pub taken_front : {X A : Type 0} (from : IntoIter X A) (xs : List X) (to : IntoIter X A) →
    Yields into_iter_steps from xs to → into_iter_items from ≡ xs ++ into_iter_items to
taken_front from [] to y = ap into_iter_items y
taken_front from (x ∷ xs) to y = y.1.0 ∙ ap (λ ys. x ∷ ys) (taken_front y.0 xs to y.2)
