use Rattle.std.proofs.Common.{◌<◌, length, sym, ap, refl, get_or}
use Rattle.std.proofs.lemmas.List.{get_or_default}
use Rattle.foyer_core.specs.declared.indexer.chain.Pair.{Pair}
use Rattle.foyer_core.specs.Chains.{home, hashes_of}
use Rattle.foyer_core.proofs.ChainLemmas.{home_below}
use Rattle.foyer_core.proofs.PairLemmas.{take_first, take_later}
use Rattle.foyer_core.proofs.indexer.chain.take_out.Goals as goal

pub returns-in-Some : goal.returns-in-Some
returns-in-Some g c =
    let own : home c.args.shift (get_or (hashes_of c.args.pairs.now) c.args.place 0) < length c.args.heads.now =
    rw c.requires.heads
    (home_below c.args.shift (get_or (hashes_of c.args.pairs.now) c.args.place 0) c.requires.shift) in
    let r = take_later c.args.shift c.args.heads.now c.args.pairs.now c.requires.chains c.args.place
    c.index-pairs-place.result c.requires.within own
    _ refl c.requires.linked c.in-Some.before c.index-pairs-before.result (sym c.in-Some.ensures.place) in
    record { chains = r.chains; linked = r.linked; hashes = r.hashes; entries = r.entries }

pub returns-in-None : goal.returns-in-None
returns-in-None g c =
    let own : home c.args.shift (get_or (hashes_of c.args.pairs.now) c.args.place 0) < length c.args.heads.now =
    rw c.requires.heads
    (home_below c.args.shift (get_or (hashes_of c.args.pairs.now) c.args.place 0) c.requires.shift) in
    let r = take_first c.args.shift c.args.heads.now c.args.pairs.now c.requires.chains c.args.place
    c.index-pairs-place-in-None.result c.requires.within own
    _ (ap (λ (p : Pair g.row.K.Denot). p.next)
    (get_or_default c.args.pairs.now c.args.place c.index-pairs-place.result c.index-pairs-place-in-None.result
    c.requires.within))
    c.requires.linked c.home_of.result c.home_of.ensures.value (sym c.in-None.ensures.place) in
    record { chains = r.chains; linked = r.linked; hashes = r.hashes; entries = r.entries }
