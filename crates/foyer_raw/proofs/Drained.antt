-- What a vector's iterator has given.
use Rattle.std.proofs.Common.{◌≡◌, List, [], ◌∷◌, ◌++◌, ap, ◌∙◌}
use Rattle.std.specs.Iterator.{Yields}
use Rattle.std.specs.Vec.Iter.{into_iter_items, into_iter_steps}
use Rattle.std.specs.declared.vec.IntoIter.{IntoIter}

-- it is a front of the items
pub taken_front : {X A : Type 0} (from : IntoIter X A) (xs : List X) (to : IntoIter X A) →
    Yields into_iter_steps from xs to → into_iter_items from ≡ xs ++ into_iter_items to
taken_front from [] to y = ap into_iter_items y
taken_front from (x ∷ xs) to y = y.1.0 ∙ ap (λ ys. x ∷ ys) (taken_front y.0 xs to y.2)
