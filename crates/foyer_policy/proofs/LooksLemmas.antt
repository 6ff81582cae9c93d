-- All looks of a lawful policy are paid for by victims and acquires.
use Rattle.std.proofs.Common.{◌≡◌, ◌+◌, ◌≤◌, List, [], ◌∷◌, Option, Some, None, refl, arith}
use Rattle.foyer_policy.specs.Policy.{Policy, IsPolicy, view_or}
use Rattle.foyer_policy.specs.Looks.{Call, Push, Pop, Remove, Acquire, Release, Update, Clear, after_call, call_looks, call_pays, one_if_some, all_looks, victims_and_acquires, LooksArePaid}
use Rattle.foyer_policy.specs.declared.types.Item.{Item}
use Rattle.foyer_policy.proofs.PopsLemmas.Cleared.{clear-credit}

module _ {V C : Type 0} (m : Policy V C) (law : IsPolicy m) where
  -- one call
  paid-call : (v : V) (c : Call C) → call_looks m v c + m.credit (after_call m v c) ≤ m.credit v + call_pays m v c
  paid-call v (Push i) = omega (arith, law.push_credit v i)
  paid-call v Pop = go (m.pop v) refl where
    go : (o : Option (Item × V)) → m.pop v ≡ o →
        m.looks v + m.credit (view_or m o v (λ w. w)) ≤ m.credit v + one_if_some m o
    go None is = omega (arith, law.none_looks v is)
    go (Some p) is = omega (arith, law.pop_looks v p.1 p.0 is)
  paid-call v (Remove id) = omega (arith, law.remove_credit v id)
  paid-call v (Acquire id) = omega (arith, law.acquire_credit v id)
  paid-call v (Release id) = omega (arith, law.release_credit v id)
  paid-call v (Update capacity config) = omega (arith, law.update_credit v capacity config)
  paid-call v Clear = omega (arith, clear-credit m law v)

  -- a list of calls
  paid-calls : (v : V) (cs : List (Call C)) → all_looks m v cs ≤ m.credit v + victims_and_acquires m v cs
  paid-calls v [] = omega arith
  paid-calls v (c ∷ cs) = omega (arith, paid-call v c, paid-calls (after_call m v c) cs)

  pub looks-are-paid : LooksArePaid m
  looks-are-paid capacity config calls accepted =
      omega (arith, paid-calls (m.opening capacity config) calls, law.opening_credit capacity config accepted)
