use Rattle.std.proofs.Common.{◌∙◌, refl}
use Rattle.foyer_trace.proofs.runner.core_of.Goals as goal

pub returns : goal.returns
returns g c = record {
  given = record {
    capacity = c.with_weighter.result.capacity;
    shards = c.args.shards;
    eviction_config = c.args.config;
    hash_builder = c.with_weighter.result.hash_builder;
    weighter = c.with_weighter.result.weighter;
    filter = c.with_weighter.result.filter;
    number = c.with_weighter.result.number;
    limits = c.with_weighter.result.limits;
  };
  config_is = refl;
  capacity_is = c.with_weighter.ensures.capacity ∙ c.new.ensures.capacity;
  shards_are = refl;
  new = c.in_ok-new.ensures.made;
}
