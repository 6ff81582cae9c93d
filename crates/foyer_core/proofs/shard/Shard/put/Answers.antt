use Rattle.std.proofs.Common.{ℕ, sym, ap}
use Rattle.std.proofs.Math.Logic.{∥∥₁_map}
use Rattle.foyer_policy.specs.declared.types.Source.TheVariants.{Outer}
use Rattle.foyer_core.specs.Inflights.{opens_of}
use Rattle.foyer_core.specs.State.{at_moment}
use Rattle.foyer_core.specs.Steps.{newcomer}
use Rattle.foyer_core.specs.Values.{Held}
use Rattle.foyer_core.specs.declared.record.Data.{Data}
use Rattle.foyer_core.specs.Stores.{meaning_of, state_of}
use Rattle.foyer_core.proofs.ApartLemmas.{arrived_apart, new_apart, refuses_apart}
use Rattle.foyer_core.proofs.InflightLemmas.{closed_already, opens_alike}
use Rattle.foyer_core.proofs.Moments.{kept_at}
use Rattle.foyer_core.proofs.NoEntryLemmas.{gave_apart}
use Rattle.foyer_core.proofs.Returning.{inserted_entry}
use Rattle.foyer_core.proofs.WaitedLemmas.{either_way}
use Rattle.foyer_core.proofs.shard.Shard.put.Goals as goal

pub invariant_of-self : goal.invariant_of-self
invariant_of-self g c =
    let s = c.args.self.now in
    let m = at_moment c.args.now (meaning_of s.store) in
    let f = opens_of s.inflights in
    let old = state_of s.store in
    let new = state_of c.put.new.self in
    let k : ℕ × g.row.K.Denot = (c.args.kept.hash, c.args.kept.key) in
    let i = newcomer old c.args.kept 1 in
    let went = c.put.ensures.puts in
    let sound = ∥∥₁_map s.store.sound (kept_at (meaning_of s.store) c.args.now old) in
    let shut = closed_already g.K.PartialEq.eq f k (λ q h. opens_alike g.met.K.Eq.laws s.inflights k q h)
    (c.requires.alone k) in
    record {
      apart = either_way c.put.result went.so
          (λ last h. let kept = ap (λ (e : Held g.row.K.Denot g.row.V.Denot g.row.P.Denot). e.kept)
          (inserted_entry m Outer old i went.more h.entry h.mid h.inserts) in
          gave_apart (meaning_of s.store) f h.mid h.entry.id last new h.gives_back
          (arrived_apart m f old sound i (new_apart m f old c.args.kept 1) Outer went.more h.entry h.mid h.inserts
          c.args.kept.hash c.args.kept.key
          (ap (λ (d : Data g.row.K.Denot g.row.V.Denot g.row.P.Denot). d.hash) (sym kept))
          (ap (λ (d : Data g.row.K.Denot g.row.V.Denot g.row.P.Denot). d.key) (sym kept)) f shut s.apart))
          (λ error h. refuses_apart m f old i error went.more new h s.apart);
    }
