-- Legal histories.
use Rattle.std.specs.Prelude.{◌≡◌, ℕ, ◌%◌, ◌<◌, ◌==◌, Bool, true, false, not, All, List, [], ◌∷◌, Option, Some, None}
use Rattle.foyer_core.specs.declared.config.RawCacheConfig.{RawCacheConfig}
use Rattle.foyer_core.specs.Core.{IsNewCore, share_of}
use Rattle.foyer_core.specs.Inflight.{no_opens}
use Rattle.foyer_session.specs.declared.command.Answer.TheVariants.{NotHeld}
use Rattle.foyer_session.specs.declared.command.Command.{Command}
use Rattle.foyer_session.specs.declared.command.Command.TheVariants.{Insert, Get, Contains, Touch, Remove, GetOrFetch, Complete, Fail, Cancel, FetchOrTake, IsOpen}
use Rattle.foyer_session.specs.declared.command.Reply.{Reply}
use Rattle.foyer_session.specs.Step.{SessionState, Step}
use Rattle.foyer_session.specs.Terms.{Terms}

-- the key that a command names
abbrev pub key_of : {K V P Q C : Type 0} → Command K V P Q C → Option K
key_of (Insert now k v p) = Some k
key_of (Get now k) = Some k
key_of (Contains now k) = Some k
key_of (Touch now k) = Some k
key_of (Remove k) = Some k
key_of (GetOrFetch now k later) = Some k
key_of (Complete now k fetch end) = Some k
key_of (Fail k fetch fault) = Some k
key_of (Cancel k fetch) = Some k
key_of (FetchOrTake k fetch outcome) = Some k
key_of (IsOpen k fetch) = Some k
key_of _ = None

-- the configuration of a cache whose one shard is that of this number of a cache of this configuration
abbrev pub of_shard : {C S W A : Type 0} → RawCacheConfig C S W A → ℕ → RawCacheConfig C S W A
of_shard config shard = record config { capacity = share_of config.capacity config.shards shard; shards = 1 }

module _ {K V P View C S W A : Type 0} (t : Terms K V P View C S W A) where
  -- a session over that one shard, which holds nothing and has handed nothing out
  pub record IsOpening (config : RawCacheConfig C S W A) (shard : ℕ) (s : SessionState K V P View S W A) : Type 0 where
    pub core_is : IsNewCore t.meaning (of_shard config shard) s.core
    pub nothing_open : All (λ f. f ≡ no_opens) s.fetches
    pub no_handles : s.handles ≡ []
    pub no_pieces : s.pieces ≡ []

  -- whether a key lives in another shard than the one of this number, of so many
  abbrev pub is_elsewhere : ℕ → ℕ → SessionState K V P View S W A → Option K → Bool
  is_elsewhere shards shard s None = false
  is_elsewhere shards shard s (Some k) = not (t.hash s.core.hash_builder k % shards == shard)

-- `same` says when two commands are equal. The shard has this number, of so many.
module _ {K V P View C S W A Q : Type 0} (t : Terms K V P View C S W A) (picks : Q → K → V → Bool → Type 0)
    (same : Command K V P Q C → Command K V P Q C → Bool) (shards shard : ℕ) where
  -- what a shard may answer to a command, by whether its key lives in another one
  abbrev pub CallWhere : Bool → SessionState K V P View S W A → Command K V P Q C → Reply K V P →
      SessionState K V P View S W A → Type 0
  CallWhere true old command reply new = (reply.answer ≡ NotHeld) × (reply.leaves ≡ []) × (new ≡ old)
  CallWhere false old command reply new =
      (made : Command K V P Q C) × (same made command ≡ true) × Step t picks old made reply.answer reply.leaves new

  -- what a shard may answer to a command: where its key lives in another shard, that none is held, and nothing changes;
  -- and else what a session may answer to an equal command
  abbrev pub Call : SessionState K V P View S W A → Command K V P Q C → Reply K V P → SessionState K V P View S W A →
      Type 0
  Call old command reply new = CallWhere (is_elsewhere t shards shard old (key_of command)) old command reply new

  -- each call is one from the state that those before it left
  abbrev pub Legal : SessionState K V P View S W A → List (Command K V P Q C × Reply K V P) →
      SessionState K V P View S W A → Type 0
  Legal old [] new = new ≡ old
  Legal old (call ∷ calls) new = (mid : SessionState K V P View S W A) × Call old call.0 call.1 mid
      × Legal mid calls new

-- A legal history of one of the shards of a cache, from the opening state of a configuration to this one.
pub record IsHistory {K V P View C S W A Q : Type 0} (t : Terms K V P View C S W A) (picks : Q → K → V → Bool → Type 0)
    (same : Command K V P Q C → Command K V P Q C → Bool) (config : RawCacheConfig C S W A) (shard : ℕ)
    (calls : List (Command K V P Q C × Reply K V P)) (now : SessionState K V P View S W A) : Type 0 where
  pub opening : SessionState K V P View S W A
  pub opens : IsOpening t config shard opening
  pub legal : Legal t picks same config.shards shard opening calls now

-- A legal history of one of the shards of a cache, of some configuration, to some state.
abbrev pub IsSomeHistory : {K V P View C S W A Q : Type 0} → Terms K V P View C S W A → (Q → K → V → Bool → Type 0)
    → (Command K V P Q C → Command K V P Q C → Bool) → List (Command K V P Q C × Reply K V P) → Type 0
IsSomeHistory {K} {V} {P} {View} {C} {S} {W} {A} {Q} t picks same calls =
    (config : RawCacheConfig C S W A) × (shard : ℕ) × (now : SessionState K V P View S W A) × (shard < config.shards)
    × ∥ IsHistory t picks same config shard calls now ∥₁
