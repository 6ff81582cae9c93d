-- Keys and values of bytes, and what C gives with them.
use Rattle.std.specs.Prelude.{◌≡◌, ℕ, ◌==◌, ◌++◌, Bool, true, List, Option, None, Some, bit_and, bit_or, drop, if◌then◌else◌, length, not, take, unwrap_or}
use Rattle.foyer_policy.specs.declared.types.Hint.{Hint}
use Rattle.foyer_policy.specs.declared.types.Hint.TheVariants.{Low, Normal}
use Rattle.foyer_core.specs.declared.record.Data.{Data}
use Rattle.foyer_core.specs.State.{coming_in}
use Rattle.foyer_core.specs.Values.{Answered}
use Rattle.luffapricot_c.specs.declared.key.Key.{Key}
use Rattle.luffapricot_c.specs.declared.record.LuffaRecord.{LuffaRecord}
use Rattle.luffapricot_c.specs.declared.terms.LuffaTerms.{LuffaTerms}
use Rattle.luffapricot_c.specs.declared.value.Value.{Value}

-- a key of these bytes, with the hash that the caller gives them
abbrev pub IsKey : ℕ → List ℕ → Key → Type 0
IsKey hash bytes key = (key.hash ≡ hash) × (key.bytes.items ≡ bytes)

-- a value of these bytes and this owner, with the weight that the caller gives them
abbrev pub IsValue : List ℕ → ℕ → ℕ → Value → Type 0
IsValue bytes owner weight value = (value.bytes.items ≡ bytes) × (value.owner ≡ owner) × (value.weight ≡ weight)

-- when a record expires, where 0 is never
abbrev pub expiry_of : ℕ → Option ℕ
expiry_of expires = if expires == 0 then None else Some expires

-- the properties of a record that only expires
abbrev pub plain : Option ℕ → Answered
plain expires = record { phantom = None; hint = Normal; expires = expires }

-- the properties by the flags that C gives: 1 expires, 2 is of low priority, 4 is phantom
abbrev pub properties_of : LuffaTerms → Answered
properties_of t = record {
  phantom = if bit_and t.flags 4 == 0 then None else Some true;
  hint = if bit_and t.flags 2 == 0 then Normal else Low;
  expires = if bit_and t.flags 1 == 0 then None else Some t.expires;
}

-- whether these ask that a record is only inserted if it fits: 8
abbrev pub asks_fit : LuffaTerms → Bool
asks_fit t = not (bit_and t.flags 8 == 0)

-- the flags of properties by their parts
abbrev pub expiry_flag : Option ℕ → ℕ
expiry_flag None = 0
expiry_flag (Some _) = 1

abbrev pub hint_flag : Hint → ℕ
hint_flag Normal = 0
hint_flag Low = 2

abbrev pub phantom_flag : Option Bool → ℕ
phantom_flag None = 0
phantom_flag (Some phantom) = if phantom then 4 else 0

-- the flags by which C would give properties
abbrev pub flags_of : Answered → ℕ
flags_of p = bit_or (bit_or (expiry_flag p.expires) (hint_flag p.hint)) (phantom_flag p.phantom)

-- the properties with which a record comes in, by what the filter answered
abbrev pub admitted_with : Answered → Bool → Answered
admitted_with p admitted = coming_in (λ _. None) (λ q phantom. record q { phantom = Some phantom }) admitted p

-- the bytes of a buffer after a copy of these into it, of which what fits is copied
abbrev pub copied_into : List ℕ → List ℕ → List ℕ
copied_into bytes out = take (length out) bytes ++ drop (length bytes) out

-- what is left in a buffer by a copy of a value, whose length is told
abbrev pub CopiesValue : List ℕ → List ℕ → Value → ℕ → Type 0
CopiesValue out filled value len = (len ≡ length value.bytes.items) × (filled ≡ copied_into value.bytes.items out)

-- a key and a value with a weight and properties are shown to C, with 0 for a record that never expires
abbrev pub ShowsParts : LuffaRecord → Key → Value → ℕ → Answered → Type 0
ShowsParts shown key value weight p = (shown.key_len ≡ length key.bytes.items)
    × (shown.value_len ≡ length value.bytes.items) × (shown.weight ≡ weight) × (shown.owner ≡ value.owner)
    × (shown.expires ≡ unwrap_or p.expires 0) × (shown.flags ≡ flags_of p)

-- a record that is shown to C
abbrev pub Shows : LuffaRecord → Data Key Value Answered → Type 0
Shows shown d = ShowsParts shown d.key d.value d.weight d.properties
