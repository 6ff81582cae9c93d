-- Items under places, each with what a policy keeps beside it.
use Rattle.std.specs.Prelude.{ℕ, Bool, true, false, List, Option, Some, None, map, option_map}
use Rattle.foyer_policy.specs.Lists.{find}
use Rattle.foyer_policy.specs.declared.types.Item.{Item}
use Rattle.foyer_policy.specs.declared.queued.Queued.TheInside.{Inside}

-- what a contract sees of a value of a list: the item and what the policy keeps, and not the number beside them
pub record Queued (S : Type 0) : Type 0 where
  pub item : Item
  pub state : S

-- the moment, where the record expires
abbrev pub moment_if : Bool → ℕ → Option ℕ
moment_if true moment = Some moment
moment_if false moment = None

module _ {S : Type 0} where
  abbrev pub queued : Inside S → Queued S
  queued k = record {
    item = record {
      id = k.id;
      hash = k.hash;
      weight = k.weight;
      hint = k.hint;
      expires = moment_if k.expires k.moment;
    };
    state = k.state;
  }

  -- the items of a list
  abbrev pub items_of : List (ℕ × Queued S) → List Item
  items_of = map (λ e. e.1.item)

  -- the item at a place
  abbrev pub queued_at : ℕ → List (List (ℕ × Queued S)) → Option Item
  queued_at p ls = option_map (λ n. n.item) (find p ls)
