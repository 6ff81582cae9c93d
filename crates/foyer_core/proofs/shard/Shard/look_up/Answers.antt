use Rattle.std.proofs.Common.{◌≡◌, true}
use Rattle.foyer_core.specs.Looks.{look_whole}
use Rattle.foyer_core.specs.Values.{Held}
use Rattle.foyer_core.proofs.LookLemmas.{hit_whole}
use Rattle.foyer_core.specs.Inflights.{opens_of}
use Rattle.foyer_core.specs.Stores.{meaning_of, state_of}
use Rattle.foyer_core.proofs.ApartLemmas.{within_apart, within_same}
use Rattle.foyer_core.proofs.Origins.{gets_from, nothing_new}
use Rattle.foyer_core.proofs.ShardTold.{gets_index}
use Rattle.foyer_core.proofs.Asked.{got_key}
use Rattle.foyer_core.proofs.shard.Shard.look_up.Goals as goal

pub invariant_of-self : goal.invariant_of-self
invariant_of-self g c =
    let s = c.args.self.now in
    let f = opens_of s.inflights in
    let old = state_of s.store in
    let new = state_of c.look_up.new.self in
    record {
      apart = within_apart (meaning_of s.store).expires f old new
          (within_same old new
          (gets_index (meaning_of s.store) c.args.now old (c.args.hash, c.args.key.now) (look_whole c.look_up.result) new
          c.look_up.ensures.gets)
          (gets_from nothing_new (meaning_of s.store) c.args.now old (c.args.hash, c.args.key.now) (look_whole c.look_up.result) new
          c.look_up.ensures.gets)) s.apart;
    }

pub returns-clause-asked : goal.returns-clause-asked
returns-clause-asked g c =
    let s = c.args.self.now in
    let Asked : Held g.row.K.Denot g.row.V.Denot g.row.P.Denot → Type 0 =
    λ (e : Held g.row.K.Denot g.row.V.Denot g.row.P.Denot). g.K.PartialEq.eq c.args.key.now e.kept.key ≡ true in
    hit_whole Asked c.look_up.result (λ e h. h)
    (got_key (meaning_of s.store) (state_of s.store) s.store.sound (c.args.hash, c.args.key.now)
    (state_of c.look_up.new.self) c.args.now (look_whole c.look_up.result) c.look_up.ensures.gets)
