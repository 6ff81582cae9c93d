-- How a legal history opens, and that it goes on by one call.
use Rattle.std.proofs.Common.{◌≡◌, ◌≢◌, ℕ, Bool, All, List, [], ◌∷◌, ◌++◌, refl, sym, subst, ne_eqb}
use Rattle.foyer_policy.specs.Policy.{Policy}
use Rattle.foyer_core.specs.declared.config.RawCacheConfig.{RawCacheConfig}
use Rattle.foyer_core.specs.Core.{Core, IsNewCore, core_fault, share_of}
use Rattle.foyer_core.specs.Inflight.{no_opens}
use Rattle.foyer_session.specs.declared.command.Command.{Command}
use Rattle.foyer_session.specs.declared.command.Reply.{Reply}
use Rattle.foyer_session.specs.Step.{SessionState}
use Rattle.foyer_session.specs.Terms.{Terms}
use Rattle.foyer_audit.specs.Legal.{Call, IsHistory, IsOpening, Legal}

-- where there is to be a shard, a configuration has the fault that it has with one shard and any capacity
pub same_fault : {View C S W A : Type 0} (policy : Policy View C) (config : RawCacheConfig C S W A) (capacity : ℕ)
    → config.shards ≢ 0 → core_fault policy config ≡ core_fault policy record config { capacity = capacity; shards = 1 }
same_fault policy config capacity some = rw (ne_eqb config.shards 0 some) refl

-- a session over a new core of one shard, which has that shard's part of the capacity
pub opens_over : {K V P View C S W A : Type 0} (t : Terms K V P View C S W A) (config : RawCacheConfig C S W A)
    (shard capacity : ℕ) (core : Core K V P View S W A) (s : SessionState K V P View S W A)
    → capacity ≡ share_of config.capacity config.shards shard
    → IsNewCore t.meaning record config { capacity = capacity; shards = 1 } core → s.core ≡ core
    → All (λ f. f ≡ no_opens) s.fetches → s.handles ≡ [] → s.pieces ≡ [] → IsOpening t config shard s
opens_over t config shard capacity core s part made is none handles pieces = record {
  core_is = subst (IsNewCore t.meaning _) (sym is)
      (subst (λ n. IsNewCore t.meaning record config { capacity = n; shards = 1 } core) part made);
  nothing_open = none;
  no_handles = handles;
  no_pieces = pieces;
}

module _ {K V P View C S W A Q : Type 0} (t : Terms K V P View C S W A) (picks : Q → K → V → Bool → Type 0)
    (same : Command K V P Q C → Command K V P Q C → Bool) where
  module _ (shards shard : ℕ) where
    legal-snoc : (old : SessionState K V P View S W A) (calls : List (Command K V P Q C × Reply K V P))
        (mid : SessionState K V P View S W A) (call : Command K V P Q C × Reply K V P)
        (new : SessionState K V P View S W A) → Legal t picks same shards shard old calls mid
        → Call t picks same shards shard mid call.0 call.1 new
        → Legal t picks same shards shard old (calls ++ call ∷ []) new
    legal-snoc old [] mid call new h s = rw (sym h) (new, s, refl)
    legal-snoc old (x ∷ xs) mid call new h s = (h.0, h.1, legal-snoc h.0 xs mid call new h.2 s)

  module _ (config : RawCacheConfig C S W A) (shard : ℕ) where
    pub history-snoc : (calls : List (Command K V P Q C × Reply K V P)) (mid : SessionState K V P View S W A)
        (call : Command K V P Q C × Reply K V P) (new : SessionState K V P View S W A)
        → IsHistory t picks same config shard calls mid → Call t picks same config.shards shard mid call.0 call.1 new
        → IsHistory t picks same config shard (calls ++ call ∷ []) new
    history-snoc calls mid call new h s = record {
      opening = h.opening;
      opens = h.opens;
      legal = legal-snoc config.shards shard h.opening calls mid call new h.legal s;
    }

    pub history-nil : (new : SessionState K V P View S W A) → IsOpening t config shard new
        → IsHistory t picks same config shard [] new
    history-nil new opens = record { opening = new; opens = opens; legal = refl }
