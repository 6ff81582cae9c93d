-- What a pop of a Sieve takes: the first unvisited of the rotation from the hand, or else its first.
use Rattle.std.proofs.Common.{◌≡◌, List, [], ◌∷◌, ◌++◌, Option, Some, None, refl, sym, ap, ◌∙◌}
use Rattle.foyer_policy.specs.Policy.{Pops}
use Rattle.foyer_policy.specs.Sieve.{Entry, SieveView, before_hand, from_hand, rotation, from_unvisited, first_item, unvisited_or_first, Turn, where_all_visited, where_behind_visited, first_unvisited, turn, after_turn, popped, sieve}
use Rattle.foyer_policy.specs.SieveLaws.{unvisited-found, unvisited-none}
use Rattle.foyer_policy.specs.declared.sieve.SieveConfig.{SieveConfig}
use Rattle.foyer_policy.specs.declared.types.Item.{Item}

abbrev victim_of : Option Turn → Option Item
victim_of None = None
victim_of (Some t) = Some t.victim

all-first : (before behind : List Entry) → victim_of (where_all_visited before behind) ≡ first_item (behind ++ before)
all-first before (e ∷ es) = refl
all-first (e ∷ es) [] = refl
all-first [] [] = refl

turn-first : (before behind : List Entry) → victim_of (turn before behind) ≡ unvisited_or_first (behind ++ before)
turn-first before behind = go (from_unvisited behind) refl where
  inner : (r : List Entry) → from_unvisited behind ≡ [] → from_unvisited before ≡ r →
      victim_of (where_behind_visited before behind r) ≡ unvisited_or_first (behind ++ before)
  inner [] none is = rw (unvisited-none behind before none ∙ is) (all-first before behind)
  inner (e ∷ es) none is = rw (unvisited-none behind before none ∙ is) refl

  go : (r : List Entry) → from_unvisited behind ≡ r → victim_of (first_unvisited before behind r)
      ≡ unvisited_or_first (behind ++ before)
  go [] is = inner (from_unvisited before) is refl
  go (e ∷ es) is = rw (unvisited-found behind before e es is) refl

gives-victim : (o : Option Turn) (w : SieveView) (i : Item) → popped o ≡ Some (i, w) → Some i ≡ victim_of o
gives-victim None w i h = absurd cc
gives-victim (Some t) w i h =
    let same : ◌≡◌ {A = Item × SieveView} (t.victim, after_turn t) (i, w) = cc in
    ap (λ (x : Item × SieveView). let o : Option Item = Some x.0 in o) (sym same)

gives-none : (o : Option Turn) → popped o ≡ None → ◌≡◌ {A = Option Item} None (victim_of o)
gives-none None h = refl
gives-none (Some t) h = absurd cc

pub victim-first : (v w : SieveView) (found : Option Item) → Pops (sieve SieveConfig) v found w → found
    ≡ unvisited_or_first (rotation v)
victim-first v w None h = gives-none (turn (before_hand v.hand v.queue) (from_hand v.hand v.queue)) h.0
    ∙ turn-first (before_hand v.hand v.queue) (from_hand v.hand v.queue)
victim-first v w (Some i) h = gives-victim (turn (before_hand v.hand v.queue) (from_hand v.hand v.queue)) w i h
    ∙ turn-first (before_hand v.hand v.queue) (from_hand v.hand v.queue)
