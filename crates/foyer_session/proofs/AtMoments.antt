-- What a core's shards keep they keep at each moment.
use Rattle.std.proofs.Common.{◌≡◌, ℕ, List, true}
use Rattle.std.proofs.Math.Logic.{∥∥₁_map}
use Rattle.std.specs.Cmp.{IsEquivalence}
use Rattle.foyer_policy.specs.Policy.{IsPolicy}
use Rattle.foyer_core.specs.State.{Meaning, State, at_moment}
use Rattle.foyer_core.proofs.CoreTold.{AreSound}
use Rattle.foyer_core.proofs.Moments.{kept_at, timed_lawful}

pub moment_sound : {K V P View C : Type 0} (m : Meaning K P View C) (laws : IsEquivalence m.same)
    (good : IsPolicy m.policy) (hash : K → ℕ) (equal : (a b : K) → m.same a b ≡ true → hash a ≡ hash b) (now many : ℕ)
    (ss : List (State K V P View)) → AreSound m laws good hash equal many ss →
    AreSound (at_moment now m) laws (timed_lawful now m.policy good) hash equal many ss
moment_sound m laws good hash equal now many ss sound i s there =
    let is = sound i s there in record { kept = ∥∥₁_map is.kept (kept_at m now s); at = is.at }
