use Rattle.std.proofs.Common.{◌≡◌, ℕ, ◌+◌, ◌-◌, ◌<◌, List, Bool, true, false, length, get_or, sym, ap, ◌∙◌, subst, arith}
use Rattle.std.specs.Prelude.{◌==◌, ◌&&◌, ◌||◌, not, vec_len}
use Rattle.std.specs.List.{swap_remove}
use Rattle.std.specs.Vec.{with_items}
use Rattle.std.proofs.lemmas.List.{with_items_is}
use Rattle.foyer_core.specs.declared.indexer.chain.Pair.{Pair}
use Rattle.foyer_core.specs.Chains.{entries_of, hashes_of, nexts_of, is_in, Takes, AreChains, AllInChains}
use Rattle.foyer_core.proofs.RoomLemmas.{length-hashes_of, last_gone, both_chains, both_apart, both_gone, takes}
use Rattle.foyer_core.proofs.indexer.chain.swap_remove.Goals as goal

pub returns-then-place-last-clause-linked : goal.returns-then-place-last-clause-linked
returns-then-place-last-clause-linked g c =
    let one = with_items_is c.args.pairs.now c.take_out.new.pairs (c.take_out.auto.pairs ∙ c.deref_mut.ensures.len) in
    let t : ℕ → Bool = λ i. is_in c.args.shift c.args.heads.now (hashes_of c.deref_mut.result.now)
    (nexts_of c.deref_mut.result.now) i in
    let m : ℕ = c.len-last.result - 1 in
    let size : length c.take_out.new.pairs ≡ vec_len c.args.pairs.now = c.take_out.auto.pairs
    ∙ c.deref_mut.ensures.len in
    let len : m + 1 ≡ length c.take_out.new.pairs = omega (arith, size, c.len-last.ensures, c.requires.within) in
    let each : (i : ℕ) → i < m + 1 → t i ≡ true = λ i lt.
    subst (λ (ps : List (Pair g.row.K.Denot)). is_in c.args.shift c.args.heads.now (hashes_of ps) (nexts_of ps) i
    ≡ true) (sym c.deref_mut.ensures.value)
    (c.requires.linked.each i
    (omega (arith, lt, len, size, length-hashes_of c.args.pairs.now.items, c.args.pairs.now.ok.0))) in
    let items = c.swap_remove.ensures.items ∙
    ap (λ (ps : List (Pair g.row.K.Denot)). swap_remove ps c.args.place c.swap_remove.result) one in
    subst (λ (ps : List (Pair g.row.K.Denot)). AllInChains c.args.shift c.take_out.new.heads (hashes_of ps)
    (nexts_of ps)) (sym items)
    (last_gone c.args.shift c.take_out.new.heads c.take_out.new.pairs c.take_out.ensures.chains c.args.place m
    c.swap_remove.result len t each c.if-place-last.true c.take_out.ensures.linked)

pub returns-then-place-last-clause-taken : goal.returns-then-place-last-clause-taken
returns-then-place-last-clause-taken g c =
    let one = with_items_is c.args.pairs.now c.take_out.new.pairs (c.take_out.auto.pairs ∙ c.deref_mut.ensures.len) in
    let items = c.swap_remove.ensures.items ∙
    ap (λ (ps : List (Pair g.row.K.Denot)). swap_remove ps c.args.place c.swap_remove.result) one in
    let old : List ((ℕ × g.row.K.Denot) × ℕ) = entries_of c.args.pairs.now.items in
    let same : entries_of c.take_out.new.pairs ≡ old = c.take_out.ensures.entries
    ∙ ap entries_of c.deref_mut.ensures.value in
    let lt : c.args.place < length c.take_out.new.pairs =
    omega (arith, c.requires.within, c.take_out.auto.pairs, c.deref_mut.ensures.len) in
    let read : c.swap_remove.result ≡ get_or c.take_out.new.pairs c.args.place c.swap_remove.result =
    c.swap_remove.ensures.value ∙
    ap (λ (ps : List (Pair g.row.K.Denot)). get_or ps c.args.place c.swap_remove.result) one in
    subst (λ (ps : List (Pair g.row.K.Denot)). Takes old c.args.place c.swap_remove.result.number (entries_of ps))
    (sym items) (takes old c.take_out.new.pairs c.args.place c.swap_remove.result same lt read)

pub put_in-requires-clause-chains : goal.put_in-requires-clause-chains
put_in-requires-clause-chains g c =
    let one = with_items_is c.args.pairs.now c.take_out.new.pairs (c.take_out.auto.pairs ∙ c.deref_mut.ensures.len) in
    let t : ℕ → Bool = λ i. is_in c.args.shift c.args.heads.now (hashes_of c.deref_mut.result.now)
    (nexts_of c.deref_mut.result.now) i in
    let m : ℕ = c.len-last.result - 1 in
    let size : length c.take_out.new.pairs ≡ vec_len c.args.pairs.now = c.take_out.auto.pairs
    ∙ c.deref_mut.ensures.len in
    let len : m + 1 ≡ length c.take_out.new.pairs = omega (arith, size, c.len-last.ensures, c.requires.within) in
    let each : (i : ℕ) → i < m + 1 → t i ≡ true = λ i lt.
    subst (λ (ps : List (Pair g.row.K.Denot)). is_in c.args.shift c.args.heads.now (hashes_of ps) (nexts_of ps) i
    ≡ true) (sym c.deref_mut.ensures.value)
    (c.requires.linked.each i
    (omega (arith, lt, len, size, length-hashes_of c.args.pairs.now.items, c.args.pairs.now.ok.0))) in
    let x : Pair g.row.K.Denot = c.swap_remove-taken.result in
    let d2 : c.deref_mut-2.result.now ≡ c.take_out.new.pairs = c.deref_mut-2.ensures.value ∙ one in
    let two = with_items_is (with_items c.args.pairs.now c.take_out.new.pairs) c.take_out-2.new.pairs
    (c.take_out-2.auto.pairs ∙ c.deref_mut-2.ensures.len) in
    let d3 : c.deref_mut-3.result.now ≡ swap_remove c.take_out-2.new.pairs c.args.place x =
    c.deref_mut-3.ensures.value ∙ c.swap_remove-taken.ensures.items
    ∙ ap (λ (ps : List (Pair g.row.K.Denot)). swap_remove ps c.args.place x) two in
    let size2 : length c.take_out-2.new.pairs ≡ vec_len c.args.pairs.now = c.take_out-2.auto.pairs
    ∙ c.deref_mut-2.ensures.len in
    let len2 : m + 1 ≡ length c.take_out-2.new.pairs = omega (arith, size2, c.len-last.ensures, c.requires.within) in
    let u : ℕ → Bool = λ i. is_in c.args.shift c.take_out.new.heads (hashes_of c.deref_mut-2.result.now)
    (nexts_of c.deref_mut-2.result.now) i in
    let first : (i : ℕ) → u i ≡ (not (i == c.args.place) && t i) =
    subst (λ (ps : List (Pair g.row.K.Denot)). (i : ℕ) →
    is_in c.args.shift c.take_out.new.heads (hashes_of ps) (nexts_of ps) i ≡ (not (i == c.args.place) && t i))
    (sym d2) c.take_out.ensures.linked in
    subst (λ (ps : List (Pair g.row.K.Denot)). AreChains c.args.shift c.take_out-2.new.heads (hashes_of ps)
    (nexts_of ps)) (sym d3)
    (both_chains c.args.shift c.take_out-2.new.heads c.take_out-2.new.pairs c.take_out-2.ensures.chains c.args.place m
    x len2 t each u first c.take_out-2.ensures.linked)

pub put_in-requires-clause-apart : goal.put_in-requires-clause-apart
put_in-requires-clause-apart g c =
    let one = with_items_is c.args.pairs.now c.take_out.new.pairs (c.take_out.auto.pairs ∙ c.deref_mut.ensures.len) in
    let t : ℕ → Bool = λ i. is_in c.args.shift c.args.heads.now (hashes_of c.deref_mut.result.now)
    (nexts_of c.deref_mut.result.now) i in
    let m : ℕ = c.len-last.result - 1 in
    let size : length c.take_out.new.pairs ≡ vec_len c.args.pairs.now = c.take_out.auto.pairs
    ∙ c.deref_mut.ensures.len in
    let len : m + 1 ≡ length c.take_out.new.pairs = omega (arith, size, c.len-last.ensures, c.requires.within) in
    let each : (i : ℕ) → i < m + 1 → t i ≡ true = λ i lt.
    subst (λ (ps : List (Pair g.row.K.Denot)). is_in c.args.shift c.args.heads.now (hashes_of ps) (nexts_of ps) i
    ≡ true) (sym c.deref_mut.ensures.value)
    (c.requires.linked.each i
    (omega (arith, lt, len, size, length-hashes_of c.args.pairs.now.items, c.args.pairs.now.ok.0))) in
    let x : Pair g.row.K.Denot = c.swap_remove-taken.result in
    let d2 : c.deref_mut-2.result.now ≡ c.take_out.new.pairs = c.deref_mut-2.ensures.value ∙ one in
    let two = with_items_is (with_items c.args.pairs.now c.take_out.new.pairs) c.take_out-2.new.pairs
    (c.take_out-2.auto.pairs ∙ c.deref_mut-2.ensures.len) in
    let d3 : c.deref_mut-3.result.now ≡ swap_remove c.take_out-2.new.pairs c.args.place x =
    c.deref_mut-3.ensures.value ∙ c.swap_remove-taken.ensures.items
    ∙ ap (λ (ps : List (Pair g.row.K.Denot)). swap_remove ps c.args.place x) two in
    let size2 : length c.take_out-2.new.pairs ≡ vec_len c.args.pairs.now = c.take_out-2.auto.pairs
    ∙ c.deref_mut-2.ensures.len in
    let len2 : m + 1 ≡ length c.take_out-2.new.pairs = omega (arith, size2, c.len-last.ensures, c.requires.within) in
    let u : ℕ → Bool = λ i. is_in c.args.shift c.take_out.new.heads (hashes_of c.deref_mut-2.result.now)
    (nexts_of c.deref_mut-2.result.now) i in
    let first : (i : ℕ) → u i ≡ (not (i == c.args.place) && t i) =
    subst (λ (ps : List (Pair g.row.K.Denot)). (i : ℕ) →
    is_in c.args.shift c.take_out.new.heads (hashes_of ps) (nexts_of ps) i ≡ (not (i == c.args.place) && t i))
    (sym d2) c.take_out.ensures.linked in
    subst (λ (ps : List (Pair g.row.K.Denot)). is_in c.args.shift c.take_out-2.new.heads (hashes_of ps) (nexts_of ps)
    c.args.place ≡ false) (sym d3)
    (both_apart c.args.shift c.take_out-2.new.heads c.take_out-2.new.pairs c.take_out-2.ensures.chains c.args.place m
    x len2 t each u first c.take_out-2.ensures.linked)

pub returns-clause-linked : goal.returns-clause-linked
returns-clause-linked g c =
    let one = with_items_is c.args.pairs.now c.take_out.new.pairs (c.take_out.auto.pairs ∙ c.deref_mut.ensures.len) in
    let t : ℕ → Bool = λ i. is_in c.args.shift c.args.heads.now (hashes_of c.deref_mut.result.now)
    (nexts_of c.deref_mut.result.now) i in
    let m : ℕ = c.len-last.result - 1 in
    let size : length c.take_out.new.pairs ≡ vec_len c.args.pairs.now = c.take_out.auto.pairs
    ∙ c.deref_mut.ensures.len in
    let len : m + 1 ≡ length c.take_out.new.pairs = omega (arith, size, c.len-last.ensures, c.requires.within) in
    let each : (i : ℕ) → i < m + 1 → t i ≡ true = λ i lt.
    subst (λ (ps : List (Pair g.row.K.Denot)). is_in c.args.shift c.args.heads.now (hashes_of ps) (nexts_of ps) i
    ≡ true) (sym c.deref_mut.ensures.value)
    (c.requires.linked.each i
    (omega (arith, lt, len, size, length-hashes_of c.args.pairs.now.items, c.args.pairs.now.ok.0))) in
    let x : Pair g.row.K.Denot = c.swap_remove-taken.result in
    let d2 : c.deref_mut-2.result.now ≡ c.take_out.new.pairs = c.deref_mut-2.ensures.value ∙ one in
    let two = with_items_is (with_items c.args.pairs.now c.take_out.new.pairs) c.take_out-2.new.pairs
    (c.take_out-2.auto.pairs ∙ c.deref_mut-2.ensures.len) in
    let d3 : c.deref_mut-3.result.now ≡ swap_remove c.take_out-2.new.pairs c.args.place x =
    c.deref_mut-3.ensures.value ∙ c.swap_remove-taken.ensures.items
    ∙ ap (λ (ps : List (Pair g.row.K.Denot)). swap_remove ps c.args.place x) two in
    let size2 : length c.take_out-2.new.pairs ≡ vec_len c.args.pairs.now = c.take_out-2.auto.pairs
    ∙ c.deref_mut-2.ensures.len in
    let len2 : m + 1 ≡ length c.take_out-2.new.pairs = omega (arith, size2, c.len-last.ensures, c.requires.within) in
    let u : ℕ → Bool = λ i. is_in c.args.shift c.take_out.new.heads (hashes_of c.deref_mut-2.result.now)
    (nexts_of c.deref_mut-2.result.now) i in
    let first : (i : ℕ) → u i ≡ (not (i == c.args.place) && t i) =
    subst (λ (ps : List (Pair g.row.K.Denot)). (i : ℕ) →
    is_in c.args.shift c.take_out.new.heads (hashes_of ps) (nexts_of ps) i ≡ (not (i == c.args.place) && t i))
    (sym d2) c.take_out.ensures.linked in
    let three = with_items_is c.swap_remove-taken.new.self c.put_in.new.pairs
    (c.put_in.auto.pairs ∙ c.deref_mut-3.ensures.len) in
    let put : (i : ℕ) → is_in c.args.shift c.put_in.new.heads (hashes_of c.put_in.new.pairs)
    (nexts_of c.put_in.new.pairs) i
    ≡ ((i == c.args.place) || is_in c.args.shift c.take_out-2.new.heads
    (hashes_of (swap_remove c.take_out-2.new.pairs c.args.place x))
    (nexts_of (swap_remove c.take_out-2.new.pairs c.args.place x)) i) =
    subst (λ (ps : List (Pair g.row.K.Denot)). (i : ℕ) →
    is_in c.args.shift c.put_in.new.heads (hashes_of c.put_in.new.pairs) (nexts_of c.put_in.new.pairs) i
    ≡ ((i == c.args.place) || is_in c.args.shift c.take_out-2.new.heads (hashes_of ps) (nexts_of ps) i)) d3
    c.put_in.ensures.linked in
    subst (λ (ps : List (Pair g.row.K.Denot)). AllInChains c.args.shift c.put_in.new.heads (hashes_of ps)
    (nexts_of ps)) (sym three)
    (both_gone c.args.shift c.take_out-2.new.heads c.take_out-2.new.pairs c.take_out-2.ensures.chains c.args.place m x
    len2 t each u first c.take_out-2.ensures.linked c.put_in.new.heads c.put_in.new.pairs c.put_in.ensures.chains
    (c.put_in.ensures.hashes ∙ ap hashes_of d3) put)

pub returns-clause-taken : goal.returns-clause-taken
returns-clause-taken g c =
    let m : ℕ = c.len-last.result - 1 in
    let one = with_items_is c.args.pairs.now c.take_out.new.pairs (c.take_out.auto.pairs ∙ c.deref_mut.ensures.len) in
    let x : Pair g.row.K.Denot = c.swap_remove-taken.result in
    let two = with_items_is (with_items c.args.pairs.now c.take_out.new.pairs) c.take_out-2.new.pairs
    (c.take_out-2.auto.pairs ∙ c.deref_mut-2.ensures.len) in
    let three = with_items_is c.swap_remove-taken.new.self c.put_in.new.pairs
    (c.put_in.auto.pairs ∙ c.deref_mut-3.ensures.len) in
    let d2 : c.deref_mut-2.result.now ≡ c.take_out.new.pairs = c.deref_mut-2.ensures.value ∙ one in
    let d3 : c.deref_mut-3.result.now ≡ swap_remove c.take_out-2.new.pairs c.args.place x =
    c.deref_mut-3.ensures.value ∙ c.swap_remove-taken.ensures.items
    ∙ ap (λ (ps : List (Pair g.row.K.Denot)). swap_remove ps c.args.place x) two in
    let old : List ((ℕ × g.row.K.Denot) × ℕ) = entries_of c.args.pairs.now.items in
    let same : entries_of c.take_out-2.new.pairs ≡ old = c.take_out-2.ensures.entries ∙ ap entries_of d2
    ∙ c.take_out.ensures.entries ∙ ap entries_of c.deref_mut.ensures.value in
    let lt : c.args.place < length c.take_out-2.new.pairs =
    omega (arith, c.requires.within, c.take_out-2.auto.pairs, c.deref_mut-2.ensures.len) in
    let read : x ≡ get_or c.take_out-2.new.pairs c.args.place x = c.swap_remove-taken.ensures.value
    ∙ ap (λ (ps : List (Pair g.row.K.Denot)). get_or ps c.args.place x) two in
    subst (λ (es : List ((ℕ × g.row.K.Denot) × ℕ)). Takes old c.args.place x.number es)
    (sym (ap entries_of three ∙ c.put_in.ensures.entries ∙ ap entries_of d3))
    (takes old c.take_out-2.new.pairs c.args.place x same lt read)
