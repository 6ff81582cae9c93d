use Rattle.std.proofs.Common.{◌<◌, length, get_or}
use Rattle.foyer_core.specs.Chains.{home, hashes_of}
use Rattle.foyer_core.proofs.ChainLemmas.{home_below}
use Rattle.foyer_core.proofs.PairLemmas.{put}
use Rattle.foyer_core.proofs.indexer.chain.put_in.Goals as goal

pub returns : goal.returns
returns g c =
    let own : home c.args.shift (get_or (hashes_of c.args.pairs.now) c.args.place 0) < length c.args.heads.now =
    rw c.requires.heads
    (home_below c.args.shift (get_or (hashes_of c.args.pairs.now) c.args.place 0) c.requires.shift) in
    let r = put c.args.shift c.args.heads.now c.args.pairs.now c.requires.chains c.args.place
    c.index-pairs-place.result c.requires.within own
    c.home_of-home.result c.index-heads-home.result c.to.result c.home_of-home.ensures.value c.index-heads-home.is
    c.to.ensures c.requires.apart in
    record { chains = r.chains; linked = r.linked; hashes = r.hashes; entries = r.entries }
