-- How pairs are linked in chains.
use Rattle.std.specs.Prelude.{◌≡◌, ℕ, zero, suc, ◌*◌, ◌/◌, ◌%◌, ◌^◌, ◌<◌, List, [], ◌∷◌, Bool, true, Option, Some, None, length, map, slice_index_or, slice_get, nat_eq, ◌==◌, if◌then◌else◌}
use Rattle.std.specs.List.{list_any, IsDistinct}
use Rattle.std.specs.List.Sorted.{IsPermutation}
use Rattle.std.proofs.Props.{props}
use Rattle.std.proofs.lemmas.Map.Keys.{IsDistinct-prop}
use Rattle.foyer_core.specs.Indexer.{same_key}
use Rattle.foyer_core.specs.declared.indexer.chain.Pair.{Pair}

-- the number of the chain of a hash: the upper bits of its product with an odd number
abbrev pub home : ℕ → ℕ → ℕ
home shift hash = (hash * 0x9e3779b97f4a7c15) % 2 ^ 64 / 2 ^ shift

module _ {K : Type 0} where
  -- the hashed key of a pair with its number
  abbrev pub entry_of : Pair K → (ℕ × K) × ℕ
  entry_of p = ((p.hash, p.key), p.number)

  abbrev pub entries_of : List (Pair K) → List ((ℕ × K) × ℕ)
  entries_of pairs = map entry_of pairs

  abbrev pub hashes_of : List (Pair K) → List ℕ
  hashes_of pairs = map (λ p. p.hash) pairs

  abbrev pub nexts_of : List (Pair K) → List (Option ℕ)
  nexts_of pairs = map (λ p. p.next) pairs

-- the places from a link on, at most so many
abbrev pub walk : List (Option ℕ) → ℕ → Option ℕ → List ℕ
walk nexts zero link = []
walk nexts (suc n) None = []
walk nexts (suc n) (Some p) = p ∷ walk nexts n (slice_index_or nexts p None)

-- the places of a chain, from its head on
abbrev pub chain_of : List (Option ℕ) → List (Option ℕ) → ℕ → List ℕ
chain_of heads nexts s = walk nexts (length nexts) (slice_index_or heads s None)

-- the links lead from this one through these places to the end
abbrev pub IsPath : List (Option ℕ) → Option ℕ → List ℕ → Type 0
IsPath nexts link [] = link ≡ None
IsPath nexts link (x ∷ xs) = (link ≡ Some x) × (x < length nexts) × IsPath nexts (slice_index_or nexts x None) xs

-- whether a place stands in a list of places
abbrev pub has : ℕ → List ℕ → Bool
has i xs = list_any (nat_eq i) xs

-- whether a place stands in the chain of its hash
abbrev pub is_in : ℕ → List (Option ℕ) → List ℕ → List (Option ℕ) → ℕ → Bool
is_in shift heads hashes nexts i = has i (chain_of heads nexts (home shift (slice_index_or hashes i 0)))

-- from each head a chain leads to the end, through places of pairs whose hashes belong there, no place twice
pub record AreChains (shift : ℕ) (heads : List (Option ℕ)) (hashes : List ℕ) (nexts : List (Option ℕ)) : Type 0 where
  pub path : (s : ℕ) → IsPath nexts (slice_index_or heads s None) (chain_of heads nexts s)
  pub once : (s : ℕ) → IsDistinct nat_eq (chain_of heads nexts s)
  pub own : (s i : ℕ) → has i (chain_of heads nexts s) ≡ true → home shift (slice_index_or hashes i 0) ≡ s

-- and each place stands in a chain
pub record AllInChains (shift : ℕ) (heads : List (Option ℕ)) (hashes : List ℕ) (nexts : List (Option ℕ)) : Type 0 where
  pub chains : AreChains shift heads hashes nexts
  pub each : (i : ℕ) → i < length hashes → is_in shift heads hashes nexts i ≡ true

-- the last place before this one in a list of places, or none where it is the first
abbrev pub before_in : Option ℕ → ℕ → List ℕ → Option ℕ
before_in b p [] = b
before_in b p (x ∷ xs) = if x == p then b else before_in (Some x) p xs

-- the key of the i-th entry is this one
pub record HasKeyAt {K : Type 0} (eq : K → K → Bool) (q : ℕ × K) (es : List ((ℕ × K) × ℕ)) (i : ℕ) : Type 0 where
  pub within : i < length es
  pub same : (d : (ℕ × K) × ℕ) → same_key eq q (slice_index_or es i d).0 ≡ true

-- the i-th entry is out, which had this number; the others may have changed places
pub record Takes {K : Type 0} (old : List ((ℕ × K) × ℕ)) (i number : ℕ) (new : List ((ℕ × K) × ℕ)) : Type 0 where
  pub entry : (ℕ × K) × ℕ
  pub there : slice_get old i ≡ Some entry
  pub had : number ≡ entry.1
  pub others : IsPermutation old (entry ∷ new)

IsPath-prop : (nexts : List (Option ℕ)) (link : Option ℕ) (xs : List ℕ) → IsProp (IsPath nexts link xs)
IsPath-prop nexts link [] = hlevel props
IsPath-prop nexts link (x ∷ xs) = let rest : IsProp (IsPath nexts (slice_index_or nexts x None) xs) =
    IsPath-prop nexts (slice_index_or nexts x None) xs in hlevel (props, rest)

AreChains-prop : (shift : ℕ) (heads : List (Option ℕ)) (hashes : List ℕ) (nexts : List (Option ℕ)) →
    IsProp (AreChains shift heads hashes nexts)
AreChains-prop shift heads hashes nexts = hlevel (props, IsPath-prop, IsDistinct-prop)

pub AllInChains-prop : (shift : ℕ) (heads : List (Option ℕ)) (hashes : List ℕ) (nexts : List (Option ℕ)) →
    IsProp (AllInChains shift heads hashes nexts)
AllInChains-prop shift heads hashes nexts = hlevel (props, AreChains-prop)
