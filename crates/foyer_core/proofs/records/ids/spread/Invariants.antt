use Rattle.std.proofs.Common.{◌≡◌, vec_len}
use Rattle.std.specs.Prelude.{vec_capacity}
use Rattle.foyer_core.proofs.NearLemmas.{AreSpread}
use Rattle.foyer_core.proofs.records.ids.spread.Given as goal

-- the places so far have what they should
abbrev pub invariant-loop-place : goal.invariant-loop-place
invariant-loop-place l = record {
  room : vec_capacity l.wider ≡ l.places;
  many : vec_len l.wider ≡ l.place;
  named : AreSpread l.near l.wider.items l.end l.bits l.place;
}
