use Rattle.std.proofs.Common.{◌≡◌, ◌∙◌, ◌%◌, ℕ, ap, sym, subst, vec_len}
use Rattle.std.specs.Prelude.{Option, IsSomeAnd}
use Rattle.foyer_core.specs.ResidentPieces.{is_resident}
use Rattle.foyer_core.specs.Shards.{state_of}
use Rattle.foyer_core.specs.State.{State}
use Rattle.foyer_core.proofs.CoreLemmas.{shard_over}
use Rattle.foyer_core.proofs.cache_core.CacheCore.has_piece.Goals as goal

pub returns : goal.returns
returns g c =
    let s = c.args.self.now in
    let p = c.args.piece.now in
    let here = shard_over state_of s.capacity s.hash_builder s.rules.weighter s.rules.filter s.shards.items p.kept.hash
    (vec_len s.shards) c.shard_index.result c.index.result.now
    s.shards.ok.0 c.shard_index.ensures.within (c.shard_index.ensures.index ∙ ap (λ (n : ℕ). n % vec_len s.shards) c.hash.ensures)
    c.index.ensures in
    subst (λ (o : Option (State g.row.K.Denot g.row.V.Denot g.row.P.Denot g.E.Eviction.View)). IsSomeAnd o
    (λ t. c.has_piece.result ≡ is_resident t p))
    (sym here) c.has_piece.ensures
