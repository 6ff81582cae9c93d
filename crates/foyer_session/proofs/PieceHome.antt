-- A piece's record comes in in the shard of the piece's key.
use Rattle.std.proofs.Common.{◌≡◌, ℕ, ◌%◌, length, Ok, sym, ap, ◌∙◌, refl}
use Rattle.std.proofs.Math.Logic.{∥∥₁_elim}
use Rattle.std.proofs.Props.{props}
use Rattle.std.specs.declared.cmp.PartialEq.{Ghosts as EqGhosts}
use Rattle.std.specs.declared.hash.Hash.{Ghosts as HashGhosts}
use Rattle.std.specs.declared.clone.Clone.{Ghosts as CloneGhosts}
use Rattle.std.specs.declared.default.Default.{Ghosts as DefaultGhosts}
use Rattle.foyer_policy.specs.declared.eviction.Eviction.{Ghosts as EvictionGhosts}
use Rattle.foyer_policy.specs.declared.hash.HashBuilder.{Ghosts as HashBuilderGhosts}
use Rattle.foyer_policy.specs.declared.properties.Properties.{Ghosts as PropertiesGhosts}
use Rattle.foyer_core.specs.declared.cache_core.CacheCore.{CacheCore}
use Rattle.foyer_core.specs.declared.finder.Finder.{Ghosts as FinderGhosts}
use Rattle.foyer_core.specs.declared.weighter.Weighter.{Ghosts as WeighterGhosts}
use Rattle.foyer_core.specs.declared.filter.Filter.{Ghosts as FilterGhosts}
use Rattle.foyer_core.specs.Core.{Core, AtShard, shard_of}
use Rattle.foyer_core.specs.Cores.{core_of, fetches_of, hashes_of, meaning_of_core}
use Rattle.foyer_core.specs.Pieces.{InsertsPiece}
use Rattle.foyer_core.specs.State.{State, key_of, at_moment}
use Rattle.foyer_core.specs.Values.{Carried, Made}
use Rattle.foyer_session.proofs.CoreLemmas.{fetches_long, kept_at}
use Rattle.foyer_session.proofs.FoundLemmas.{next_unused}
use Rattle.foyer_session.proofs.PieceLemmas.{piece_gives}

module _ {E K V P S W A N R I C : Type 0} {e : EvictionGhosts E C}
    {q : EqGhosts K} {h : HashGhosts K} {c : CloneGhosts K} {p : PropertiesGhosts P} {d : DefaultGhosts P}
    {b : HashBuilderGhosts S} {w : WeighterGhosts W K V} {f : FilterGhosts A K V} {i : FinderGhosts I K} where
  pub came_home : (s : CacheCore E K V P S W A N R I C e q h c p d b w f i) (now : ℕ) (weighs : ℕ → Type 0)
      (piece : Carried K V P) (made : Made K V P) (more : State K V P e.View → ℕ) (new : Core K V P e.View S W A)
      → AtShard (λ x t. InsertsPiece (at_moment now (meaning_of_core s)) weighs (hashes_of s piece.kept.key) piece (more x)
      (Ok made) x t) (hashes_of s piece.kept.key) (core_of s) new
      → hashes_of s piece.kept.key % length (fetches_of s) ≡ (key_of made.entry.kept).0 % length (fetches_of s)
  came_home s now weighs piece made more new at =
      let hash = hashes_of s piece.kept.key in
      let place = shard_of (core_of s) hash in
      let home : made.entry.kept.hash % length (core_of s).shards ≡ hash % length (core_of s).shards = ∥∥₁_elim
      (kept_at s hash at.before at.there) (hlevel props) (λ k.
      (piece_gives (at_moment now (meaning_of_core s)) (length (core_of s).shards) place at.before at.after
      (s.whole.belong place at.before at.there) weighs hash piece made (more at.before) at.stepped refl
      (next_unused (meaning_of_core s) at.before k)).placed) in
      ap (λ (n : ℕ). hash % n) (fetches_long s) ∙ sym home
      ∙ ap (λ (n : ℕ). made.entry.kept.hash % n) (sym (fetches_long s))
