use Rattle.std.proofs.Common.{◌≡◌, ℕ, Bool, Option, Some, true, refl, sym, ap, subst}
use Rattle.foyer_core.specs.declared.outcome.FetchTarget.{FetchTarget}
use Rattle.foyer_core.specs.declared.outcome.FetchTarget.TheVariants.{Entry, Piece as PieceOf}
use Rattle.foyer_core.specs.CoreFetches.{Completed, open_in}
use Rattle.foyer_core.specs.Cores.{core_of, fetches_of, hashes_of, meaning_of_core}
use Rattle.foyer_core.specs.Inflight.{OpenFetch, asked}
use Rattle.foyer_core.specs.Shards.{opens_of}
use Rattle.foyer_core.specs.State.{at_moment, coming_in}
use Rattle.foyer_core.specs.Waited.{ending_of}
use Rattle.foyer_core.proofs.Arriving.{asked_open, place_waited}
use Rattle.foyer_core.proofs.EndLaws.{end_bounded, end_found, end_stays, end_told, same_stays}
use Rattle.foyer_core.proofs.Sound.{core_sound_at}
use Rattle.foyer_core.proofs.Moments.{timed_lawful}
use Rattle.foyer_core.proofs.MomentLaws.{bounds_target_at, finds_target_at}
use Rattle.foyer_core.proofs.cache_core.CacheCore.complete.Goals as goal

pub returns-then-not-is_open-clause-stay : goal.returns-then-not-is_open-clause-stay
returns-then-not-is_open-clause-stay g c = same_stays (core_of c.args.self.now) (core_of c.args.self.now) refl

pub returns-in-Entry : goal.returns-in-Entry
returns-in-Entry g c =
    let s = c.args.self.now in
    let t = c.complete_value.new.self in
    let m = at_moment c.args.now (meaning_of_core s) in
    let key = c.args.key.now in
    let k : ℕ × g.row.K.Denot = (hashes_of s key, key) in
    let ended = ending_of c.complete_value.result in
    let weighs = g.W.Weighter.weighs s.rules.weighter in
    let admits = g.A.Filter.admits s.rules.filter in
    let properties = λ (p : g.row.P.Denot) (admitted : Bool).
    coming_in g.P.Properties.location_of g.P.Properties.with_phantom_of admitted p in
    let laws = g.met.K.Eq.laws in
    let good = timed_lawful c.args.now g.E.Eviction.model g.met.E.Eviction.lawful in
    let equal : (a b : g.row.K.Denot) → g.K.PartialEq.eq a b ≡ true → hashes_of s a ≡ hashes_of s b =
    λ a b same. ap (g.S.HashBuilder.hash_of s.hash_builder) (g.met.K.Hash.respects_eq a b same) in
    let sound = core_sound_at c.args.now s laws g.met.E.Eviction.lawful equal in
    let found = asked_open c.args.fetch (open_in (fetches_of s) k)
    (c.is_open.ensures.is_open.0 c.if-not-is_open.false) in
    let opened = asked (Some c.args.fetch) (open_in (fetches_of s) k) in
    let comes : (target : FetchTarget g.row.K.Denot g.row.V.Denot g.row.P.Denot)
    (p : Option (OpenFetch g.row.N.Denot g.row.R.Denot)) → Type 0 = λ target p.
    Completed m record {
      hash = hashes_of s;
      weighs = weighs;
      admits = admits;
      properties = properties;
    } c.args.source target k p ended (core_of s) (fetches_of s) (core_of t) (fetches_of t) in
    let completed : comes c.args.target opened =
    rw c.in-Entry.is
    (subst (comes (Entry c.in-Entry.value c.in-Entry.properties)) (sym found.1) (c.complete_value.ensures.completed found.0 found.1)) in
    let waited = λ (o : OpenFetch g.row.N.Denot g.row.R.Denot) (is : opened ≡ Some o).
    place_waited opens_of s.shards.items k c.args.fetch (λ x q there. x.inflights.sound.waited k q there) o is in
    let hashes = λ (b : g.row.S.Denot) (q : g.row.K.Denot). g.S.HashBuilder.hash_of b (g.K.Hash.hash_input q) in
    record {
      completed = completed;
      found = finds_target_at (meaning_of_core s) c.args.now (hashes_of t) g.P.Properties.location_of admits
          c.args.target key ended.outcome (core_of t)
          (end_found m laws good hashes (core_of s) (core_of t) equal sound (fetches_of s) (fetches_of t) c.args.source key
          ended weighs admits g.P.Properties.location_of g.P.Properties.with_phantom_of c.args.target opened waited
          completed);
      bounded = bounds_target_at (meaning_of_core s) c.args.now g.P.Properties.location_of admits c.args.target
          (hashes_of s key) key ended.outcome (core_of s) (core_of t)
          (end_bounded m laws good hashes (core_of s) (core_of t) equal sound (fetches_of s) (fetches_of t) c.args.source key
          ended weighs admits g.P.Properties.location_of g.P.Properties.with_phantom_of c.args.target opened waited
          completed);
      stay = end_stays m laws good hashes (core_of s) (core_of t) equal sound (fetches_of s) (fetches_of t) c.args.source key
          ended weighs admits properties c.args.target opened waited completed;
      told = end_told m laws good hashes (core_of s) (core_of t) equal sound (fetches_of s) (fetches_of t) c.args.source key
          ended weighs admits properties c.args.target opened waited completed;
    }

pub returns-in-Piece : goal.returns-in-Piece
returns-in-Piece g c =
    let s = c.args.self.now in
    let t = c.complete_piece.new.self in
    let m = at_moment c.args.now (meaning_of_core s) in
    let key = c.args.key.now in
    let k : ℕ × g.row.K.Denot = (hashes_of s key, key) in
    let ended = ending_of c.complete_piece.result in
    let weighs = g.W.Weighter.weighs s.rules.weighter in
    let admits = g.A.Filter.admits s.rules.filter in
    let properties = λ (p : g.row.P.Denot) (admitted : Bool).
    coming_in g.P.Properties.location_of g.P.Properties.with_phantom_of admitted p in
    let laws = g.met.K.Eq.laws in
    let good = timed_lawful c.args.now g.E.Eviction.model g.met.E.Eviction.lawful in
    let equal : (a b : g.row.K.Denot) → g.K.PartialEq.eq a b ≡ true → hashes_of s a ≡ hashes_of s b =
    λ a b same. ap (g.S.HashBuilder.hash_of s.hash_builder) (g.met.K.Hash.respects_eq a b same) in
    let sound = core_sound_at c.args.now s laws g.met.E.Eviction.lawful equal in
    let found = asked_open c.args.fetch (open_in (fetches_of s) k)
    (c.is_open.ensures.is_open.0 c.if-not-is_open.false) in
    let opened = asked (Some c.args.fetch) (open_in (fetches_of s) k) in
    let comes : (target : FetchTarget g.row.K.Denot g.row.V.Denot g.row.P.Denot)
    (p : Option (OpenFetch g.row.N.Denot g.row.R.Denot)) → Type 0 = λ target p.
    Completed m record {
      hash = hashes_of s;
      weighs = weighs;
      admits = admits;
      properties = properties;
    } c.args.source target k p ended (core_of s) (fetches_of s) (core_of t) (fetches_of t) in
    let completed : comes c.args.target opened =
    rw c.in-Piece.is
    (subst (comes (PieceOf c.in-Piece.piece)) (sym found.1) (c.complete_piece.ensures.completed found.0 found.1)) in
    let waited = λ (o : OpenFetch g.row.N.Denot g.row.R.Denot) (is : opened ≡ Some o).
    place_waited opens_of s.shards.items k c.args.fetch (λ x q there. x.inflights.sound.waited k q there) o is in
    let hashes = λ (b : g.row.S.Denot) (q : g.row.K.Denot). g.S.HashBuilder.hash_of b (g.K.Hash.hash_input q) in
    record {
      completed = completed;
      found = finds_target_at (meaning_of_core s) c.args.now (hashes_of t) g.P.Properties.location_of admits
          c.args.target key ended.outcome (core_of t)
          (end_found m laws good hashes (core_of s) (core_of t) equal sound (fetches_of s) (fetches_of t) c.args.source key
          ended weighs admits g.P.Properties.location_of g.P.Properties.with_phantom_of c.args.target opened waited
          completed);
      bounded = bounds_target_at (meaning_of_core s) c.args.now g.P.Properties.location_of admits c.args.target
          (hashes_of s key) key ended.outcome (core_of s) (core_of t)
          (end_bounded m laws good hashes (core_of s) (core_of t) equal sound (fetches_of s) (fetches_of t) c.args.source key
          ended weighs admits g.P.Properties.location_of g.P.Properties.with_phantom_of c.args.target opened waited
          completed);
      stay = end_stays m laws good hashes (core_of s) (core_of t) equal sound (fetches_of s) (fetches_of t) c.args.source key
          ended weighs admits properties c.args.target opened waited completed;
      told = end_told m laws good hashes (core_of s) (core_of t) equal sound (fetches_of s) (fetches_of t) c.args.source key
          ended weighs admits properties c.args.target opened waited completed;
    }
