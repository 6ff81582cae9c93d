-- Items under places, each with a state: what a write of a state leaves.
use Rattle.std.proofs.Common.{◌≡◌, ℕ, Bool, true, false, cond, List, Some, map, refl, ◌∙◌, ap}
use Rattle.std.specs.Prelude.{◌==◌, option_map}
use Rattle.foyer_policy.specs.Queued.{Queued, queued_at}
use Rattle.foyer_policy.specs.Lists.{find, with_value}
use Rattle.foyer_policy.specs.declared.types.Item.{Item}
use Rattle.foyer_policy.proofs.PlaceLemmas.{place_is}
use Rattle.foyer_policy.proofs.FoundLemmas.{find-write}

module _ {S : Type 0} where
  abbrev pub item_of : Queued S → Item
  item_of n = n.item

  -- each place keeps its item where a state is written
  pub queued-write : (p q : ℕ) (n : Queued S) (s : S) (ls : List (List (ℕ × Queued S))) → find p ls ≡ Some n
      → queued_at q (map (with_value p (record { item = n.item; state = s })) ls) ≡ queued_at q ls
  queued-write p q n s ls h = ap (option_map item_of) (find-write p q n w ls h) ∙ go (p == q) refl where
    w : Queued S
    w = record { item = n.item; state = s }

    go : (b : Bool) → (p == q) ≡ b → option_map item_of (cond b (Some w) (find q ls)) ≡ queued_at q ls
    go true is = rw (← place_is p q is, h) refl
    go false is = refl
