use Rattle.std.proofs.Common.{◌≡◌, ◌∙◌, ℕ, Err, ap}
use Rattle.std.specs.Prelude.{IfSome}
use Rattle.std.proofs.lemmas.List.{map-append}
use Rattle.foyer_core.specs.Shards.{opens_of, state_of}
use Rattle.foyer_core.specs.Stored.{meaning}
use Rattle.foyer_core.proofs.FetchesOver.{opens_pushed}
use Rattle.foyer_core.proofs.Sharing.{new_pushed, refused_by}
use Rattle.foyer_core.proofs.StoredLemmas.{err_is}
use Rattle.foyer_core.proofs.cache_core.CacheCore.new_shards.Goals as goal

pub returns-in_err-shard-clause-refused : goal.returns-in_err-shard-clause-refused
returns-in_err-shard-clause-refused g c =
    err_is c.from_residual.result c.in_err-shard.field-0.0
    (λ r. IfSome (g.E.Eviction.model.fault c.args.config.now.eviction_config) (λ reason. r ≡ Err reason))
    c.from_residual.ensures.1
    (refused_by _ _ (g.E.Eviction.model.fault c.args.config.now.eviction_config) c.in_err-shard.field-0.0
    c.in_err-shard.ensures.refused)

pub loop-number-preserved : goal.loop-number-preserved
loop-number-preserved g c =
    let config = c.args.config.now in
    let m = meaning g.K.PartialEq.eq g.E.Eviction.model g.P.Properties.hint_of g.P.Properties.phantom_of g.P.Properties.expiry_of in
    let made = c.in_ok-shard.ensures in
    record {
      made = rw (c.push_reserved.ensures.items, c.reserve.ensures.items, map-append)
          (new_pushed m config c.loop-number.number _ (state_of c.in_ok-shard.shard) c.loop-number.invariant.made
          record {
            numbered = made.number;
            capacity_is = made.capacity ∙ c.shard_capacity.ensures;
            limits_are = made.limits;
            view_is = made.view ∙ ap (λ (n : ℕ). m.policy.opening n config.eviction_config) c.shard_capacity.ensures;
            nothing_indexed = made.index;
            no_records = made.records;
            starts = made.next;
          });
      opens = opens_pushed opens_of c.loop-number.shards.items c.reserve.new.self.items c.push_reserved.new.self.items
          c.in_ok-shard.shard c.reserve.ensures.items c.push_reserved.ensures.items c.loop-number.invariant.opens
          made.opens;
      accepted = λ some. made.accepted;
    }
