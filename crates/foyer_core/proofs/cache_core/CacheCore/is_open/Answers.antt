use Rattle.std.proofs.Common.{◌≡◌, Some, ap, sym, subst, ◌∙◌, ℕ, ◌%◌, vec_len}
use Rattle.foyer_core.specs.Cores.{hashes_of}
use Rattle.foyer_core.specs.Shards.{opens_of, state_of}
use Rattle.foyer_core.proofs.CoreLemmas.{shard_over}
use Rattle.foyer_core.proofs.FetchesOver.{opened_over}
use Rattle.foyer_core.proofs.InflightLemmas.{one}
use Rattle.foyer_core.proofs.cache_core.CacheCore.is_open.Goals as goal

pub returns-clause-is_open : goal.returns-clause-is_open
returns-clause-is_open g c =
    let s = c.args.self.now in
    let x = c.index.result.now in
    let hash = hashes_of s c.args.key.now in
    let at = c.shard_index.ensures.index ∙ ap (λ (n : ℕ). n % vec_len s.shards) c.hash-hash.ensures.hash in
    let placed = λ (key : g.row.K.Denot). opened_over opens_of s.shards.items hash (vec_len s.shards) c.shard_index.result x
    s.shards.ok.0 c.shard_index.ensures.within at c.index.ensures key in
    rw (placed c.args.key.now) (rw c.hash-hash.ensures.hash at c.is_open.ensures.is_open)

pub returns-clause-equal_keys : goal.returns-clause-equal_keys
returns-clause-equal_keys g c other same =
    let s = c.args.self.now in
    let x = c.index.result.now in
    let hash = hashes_of s c.args.key.now in
    let at = c.shard_index.ensures.index ∙ ap (λ (n : ℕ). n % vec_len s.shards) c.hash-hash.ensures.hash in
    let placed = λ (key : g.row.K.Denot). opened_over opens_of s.shards.items hash (vec_len s.shards) c.shard_index.result x
    s.shards.ok.0 c.shard_index.ensures.within at c.index.ensures key in
    placed other ∙ (rw c.hash-hash.ensures.hash at c.is_open.ensures.equal_keys) other same
    ∙ sym (placed c.args.key.now)

pub returns-clause-apart : goal.returns-clause-apart
returns-clause-apart g c t id r o found known there opened =
    let s = c.args.self.now in
    let x = c.index.result.now in
    let key = c.args.key.now in
    let hash = hashes_of s key in
    let at = c.shard_index.ensures.index ∙ ap (λ (n : ℕ). n % vec_len s.shards) c.hash-hash.ensures.hash in
    let placed = opened_over opens_of s.shards.items hash (vec_len s.shards) c.shard_index.result x
    s.shards.ok.0 c.shard_index.ensures.within at c.index.ensures key in
    let here = shard_over state_of s.capacity s.hash_builder s.rules.weighter s.rules.filter s.shards.items hash
    (vec_len s.shards) c.shard_index.result x s.shards.ok.0 c.shard_index.ensures.within at c.index.ensures in
    let same = one (state_of x) t (sym here ∙ found) in
    c.is_open.ensures.apart (hash, key) id r o
    (subst (λ q. q.index (hash, key) ≡ Some id) (sym same) known)
    (subst (λ q. q.records id ≡ Some r) (sym same) there) (sym placed ∙ opened)
