-- How many records the pops of a policy read, over a list of calls.
use Rattle.std.specs.Prelude.{◌≡◌, ℕ, ◌+◌, ◌≤◌, List, [], ◌∷◌, Option, Some, None}
use Rattle.foyer_policy.specs.Policy.{Policy, view_or}
use Rattle.foyer_policy.specs.declared.types.Item.{Item}

-- a call of a policy
pub data Call (C : Type 0) : Type 0 where
  Push : Item → Call C
  Pop : Call C
  Remove : ℕ → Call C
  Acquire : ℕ → Call C
  Release : ℕ → Call C
  Update : ℕ → Option C → Call C
  Clear : Call C

module _ {V C : Type 0} (m : Policy V C) where
  -- what a call makes of a view
  abbrev pub after_call : V → Call C → V
  after_call v (Push i) = m.push v i
  after_call v Pop = view_or m (m.pop v) v (λ w. w)
  after_call v (Remove id) = m.remove v id
  after_call v (Acquire id) = m.acquire v id
  after_call v (Release id) = m.release v id
  after_call v (Update capacity config) = m.update v capacity config
  after_call v Clear = m.clear v

  -- what a pop reads; other calls count none
  abbrev pub call_looks : V → Call C → ℕ
  call_looks v (Push i) = 0
  call_looks v Pop = m.looks v
  call_looks v (Remove id) = 0
  call_looks v (Acquire id) = 0
  call_looks v (Release id) = 0
  call_looks v (Update capacity config) = 0
  call_looks v Clear = 0

  abbrev pub one_if_some : Option (Item × V) → ℕ
  one_if_some None = 0
  one_if_some (Some p) = 1

  -- one for a pop with a victim, and one for an acquire; what a clear takes out does not count
  abbrev pub call_pays : V → Call C → ℕ
  call_pays v (Push i) = 0
  call_pays v Pop = one_if_some (m.pop v)
  call_pays v (Remove id) = 0
  call_pays v (Acquire id) = 1
  call_pays v (Release id) = 0
  call_pays v (Update capacity config) = 0
  call_pays v Clear = 0

  -- all looks of a list of calls from a view on
  abbrev pub all_looks : V → List (Call C) → ℕ
  all_looks v [] = 0
  all_looks v (c ∷ cs) = call_looks v c + all_looks (after_call v c) cs

  -- all victims of pops, and all acquires
  abbrev pub victims_and_acquires : V → List (Call C) → ℕ
  victims_and_acquires v [] = 0
  victims_and_acquires v (c ∷ cs) = call_pays v c + victims_and_acquires (after_call v c) cs

  -- from a new policy on, all looks are at most the victims of pops and the acquires
  abbrev pub LooksArePaid : Type 0
  LooksArePaid = (capacity : ℕ) (config : C) (calls : List (Call C)) → m.fault config ≡ None
      → all_looks (m.opening capacity config) calls ≤ victims_and_acquires (m.opening capacity config) calls
