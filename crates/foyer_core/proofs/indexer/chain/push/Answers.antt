use Rattle.std.proofs.Common.{◌≡◌, ℕ, List, false, [], ◌∷◌, ◌++◌, sym, ap, ◌∙◌, subst}
use Rattle.std.specs.Prelude.{◌==◌, ◌||◌}
use Rattle.std.proofs.lemmas.List.{with_items_is}
use Rattle.foyer_core.specs.declared.indexer.chain.Pair.{Pair}
use Rattle.foyer_core.specs.Chains.{hashes_of, nexts_of, is_in, AreChains, AllInChains}
use Rattle.foyer_core.proofs.RoomLemmas.{more_chains, last_apart, all_more}
use Rattle.foyer_core.proofs.indexer.chain.push.Goals as goal

pub put_in-requires-clause-chains : goal.put_in-requires-clause-chains
put_in-requires-clause-chains g c =
    let is = c.deref_mut.ensures.value ∙ c.push_reserved.ensures.items in
    subst (λ (ps : List (Pair g.row.K.Denot)). AreChains c.args.shift c.args.heads.now (hashes_of ps) (nexts_of ps))
    (sym is)
    (more_chains c.args.shift c.args.heads.now c.args.pairs.now.items c.requires.linked c.args.pair)

pub put_in-requires-clause-apart : goal.put_in-requires-clause-apart
put_in-requires-clause-apart g c =
    let is = c.deref_mut.ensures.value ∙ c.push_reserved.ensures.items in
    let place = c.len-place.ensures ∙ c.args.pairs.now.ok.0 in
    subst (λ (ps : List (Pair g.row.K.Denot)). is_in c.args.shift c.args.heads.now (hashes_of ps) (nexts_of ps)
    c.len-place.result ≡ false) (sym is)
    (subst (λ (n : ℕ). is_in c.args.shift c.args.heads.now (hashes_of (c.args.pairs.now.items ++ c.args.pair ∷ []))
    (nexts_of (c.args.pairs.now.items ++ c.args.pair ∷ [])) n ≡ false) (sym place)
    (last_apart c.args.shift c.args.heads.now c.args.pairs.now.items c.requires.linked c.args.pair))

pub returns-clause-linked : goal.returns-clause-linked
returns-clause-linked g c =
    let is = c.deref_mut.ensures.value ∙ c.push_reserved.ensures.items in
    let place = c.len-place.ensures ∙ c.args.pairs.now.ok.0 in
    let e = c.put_in.ensures in
    let put = subst
    (λ (n : ℕ). (i : ℕ) → is_in c.args.shift c.put_in.new.heads (hashes_of c.put_in.new.pairs)
    (nexts_of c.put_in.new.pairs) i
    ≡ ((i == n) || is_in c.args.shift c.args.heads.now (hashes_of (c.args.pairs.now.items ++ c.args.pair ∷ []))
    (nexts_of (c.args.pairs.now.items ++ c.args.pair ∷ [])) i)) place
    (subst (λ (ps : List (Pair g.row.K.Denot)). (i : ℕ) →
    is_in c.args.shift c.put_in.new.heads (hashes_of c.put_in.new.pairs) (nexts_of c.put_in.new.pairs) i
    ≡ ((i == c.len-place.result) || is_in c.args.shift c.args.heads.now (hashes_of ps) (nexts_of ps) i)) is
    e.linked) in
    subst (λ (ps : List (Pair g.row.K.Denot)). AllInChains c.args.shift c.put_in.new.heads (hashes_of ps)
    (nexts_of ps))
    (sym (with_items_is c.push_reserved.new.self c.put_in.new.pairs
    (c.put_in.auto.pairs ∙ c.deref_mut.ensures.len)))
    (all_more c.args.shift c.args.heads.now c.args.pairs.now.items c.requires.linked c.args.pair c.put_in.new.heads
    c.put_in.new.pairs e.chains (e.hashes ∙ ap hashes_of is) put)
