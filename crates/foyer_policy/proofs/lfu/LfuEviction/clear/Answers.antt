use Rattle.std.proofs.Common.{◌≡◌, ℕ, List, [], ◌∷◌, ◌∙◌, set, refl, ap}
use Rattle.foyer_policy.specs.declared.types.Item.{Item}
use Rattle.foyer_policy.proofs.SegmentLemmas.{emptied}
use Rattle.foyer_policy.proofs.lfu.LfuEviction.clear.Goals as goal
use Rattle.foyer_policy.proofs.lfu.LfuEviction.clear.Goals.{After-drain-3}

-- nothing is left in any list
nothing : (c : After-drain-3) → c.drain-3.new.lists.lists ≡ [] ∷ [] ∷ [] ∷ []
nothing c =
    let ls : List (List (ℕ × Item)) = c.self.inside.lists.lists in
    let three = rw c.drain.ensures.lists at c.drain.ensures.count in
    c.drain-3.ensures.lists
    ∙ ap (λ (l : List (List (ℕ × Item))). set l 2 []) c.drain-2.ensures.lists
    ∙ ap (λ (l : List (List (ℕ × Item))). set (set l 1 []) 2 []) c.drain.ensures.lists
    ∙ emptied ls three

pub returns-clause-view : goal.returns-clause-view
returns-clause-view c = rw (← c.self.view_is, nothing (goal.at.returns-clause-view c).After-drain-3) refl

pub returns-clause-places : goal.returns-clause-places
returns-clause-places c = λ p. rw (nothing (goal.at.returns-clause-places c).After-drain-3) refl
