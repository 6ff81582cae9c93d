-- Names of records, by which C holds handles of them.
use Rattle.std.specs.Prelude.{ℕ}
use Rattle.foyer_core.specs.Values.{Answered, Held}
use Rattle.luffapricot_c.specs.declared.key.Key.{Key}
use Rattle.luffapricot_c.specs.declared.value.Value.{Value}

-- what names a record: a hash that leads to its shard, and its id there
pub record Named : Type 0 where
  pub hash : ℕ
  pub id : ℕ

-- the name of an entry's record
abbrev pub named_of : Held Key Value Answered → Named
named_of entry = record { hash = entry.kept.hash; id = entry.id }
