use Rattle.std.proofs.Common.{◌≡◌, ◌^◌, ◌-◌, map, take}
use Rattle.std.specs.Prelude.{unwrap_or}
use Rattle.foyer_trace.proofs.trace.Part.new.Given as goal

-- each list has what the records so far have
abbrev pub invariant-loop-place : goal.invariant-loop-place
invariant-loop-place l = record {
  keys : l.keys.items ≡ map (λ it. it.key) (take l.place l.records);
  times : l.times.items ≡ map (λ it. it.time) (take l.place l.records);
  sizes : l.sizes.items ≡ map (λ it. it.size) (take l.place l.records);
  ttls : l.ttls.items ≡ map (λ it. unwrap_or it.ttl (2 ^ 64 - 1)) (take l.place l.records);
}
