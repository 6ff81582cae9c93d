-- Which types of foyer_core may cross threads.
use denote.RattleType.{RattleType}
use denote.Param.Send.{IsSend, IsSync, owning_send, sendable}
use denote.Param.SendFields.{as_row_send, as_row_sync}
use Rattle.std.proofs.Crossing.{crosses, Arc-send, Vec-send}
use Rattle.std.proofs.MapsCrossing.{crosses as maps_cross}
use Rattle.core.specs.declared.clone.Clone as clone
use Rattle.core.specs.declared.cmp.PartialEq as eq
use Rattle.core.specs.declared.default.Default as default
use Rattle.core.specs.declared.hash.Hash as hash
use Rattle.foyer_policy.specs.declared.eviction.Eviction as eviction
use Rattle.foyer_policy.specs.declared.hash.HashBuilder as builder
use Rattle.foyer_policy.specs.declared.properties.Properties as properties
use Rattle.foyer_policy.specs.contracts.past.Past as Past
use Rattle.foyer_core.specs.declared.filter.Filter as filter
use Rattle.foyer_core.specs.declared.finder.Finder as finder
use Rattle.foyer_core.specs.declared.indexer.Indexer as indexer
use Rattle.foyer_core.specs.declared.weighter.Weighter as weighter
use Rattle.foyer_core.specs.contracts.share.Body as Body
use Rattle.foyer_core.specs.contracts.share.Share as Share
use Rattle.foyer_core.specs.contracts.slot.Slot as Slot
use Rattle.foyer_core.specs.contracts.slots.Slots as Slots
use Rattle.foyer_core.specs.contracts.slots.Cell as Cell
use Rattle.foyer_core.specs.contracts.tags.Tags as Tags
use Rattle.foyer_core.specs.contracts.tags.buckets.Buckets as Buckets
use Rattle.foyer_core.specs.contracts.tags.buckets.Tag as Tag
use Rattle.foyer_core.specs.contracts.records.ids.Standing as Standing
use Rattle.foyer_core.specs.contracts.records.ids.Ids as Ids
use Rattle.foyer_core.specs.contracts.records.Records as Records
use Rattle.foyer_core.specs.contracts.record.Limits as Limits
use Rattle.foyer_core.specs.contracts.finder.trail.Marks as Marks
use Rattle.foyer_core.specs.contracts.finder.trail.Trail as Trail
use Rattle.foyer_core.specs.contracts.finder.key_tags.KeyTags as KeyTags
use Rattle.foyer_core.specs.contracts.finder.tag_finder.TagFinder as TagFinder
use Rattle.foyer_core.specs.contracts.indexer.chain.Pair as Pair
use Rattle.foyer_core.specs.contracts.indexer.hash_table.HashTableIndexer as Table
use Rattle.foyer_core.specs.contracts.store.Store as Store
use Rattle.foyer_core.specs.contracts.outcome.Waiting as Waiting
use Rattle.foyer_core.specs.contracts.inflight.Inflight as Inflight
use Rattle.foyer_core.specs.contracts.inflight.InflightManager as Manager
use Rattle.foyer_core.specs.contracts.shard.Shard as Shard
use Rattle.foyer_core.specs.contracts.cache_core.load.Load as Load
use Rattle.foyer_core.specs.contracts.cache_core.CacheCore as Core
use Rattle.foyer_core.specs.contracts.entry.CoreEntry as CoreEntry
use Rattle.foyer_core.specs.contracts.entry.Left as Left
use Rattle.foyer_core.specs.contracts.entry.tail.Tail as Tail
use Rattle.foyer_core.specs.contracts.piece.Piece as Piece

module _ (T : RattleType) (t : IsSend T) where
  cell : IsSend (Cell.the_field T).row
  cell = search sendable depth 20

  pub slots : IsSend (Slots.the_field T).row
  slots = let c = Vec-send (Cell.the_row T) (as_row_send (Cell.the_field T) cell) in search sendable depth 20

standing : IsSend Standing.the_row
standing = search sendable depth 20

ids : IsSend Ids.the_field.row
ids = let a = Vec-send Standing.the_row standing in search (sendable, crosses, maps_cross) depth 20

tag : IsSend Tag.the_row
tag = search sendable depth 20

buckets : IsSend Buckets.the_field.row
buckets = let a = Vec-send Tag.the_row tag in search sendable depth 20

tags : IsSend Tags.the_field.row
tags = let a = as_row_send Buckets.the_field buckets in search (sendable, crosses) depth 20

-- What the records of a key, a value and properties are made of.
module _ (K V P : RattleType) (k : IsSend K) (v : IsSend V) (p : IsSend P) (ks : IsSync K) (vs : IsSync V) (ps : IsSync P) where
  body : IsSend (Body.the_field K V P).row
  body = search sendable depth 20

  body_sync : IsSync (Body.the_field K V P).row
  body_sync = search sendable depth 20

  share : IsSend (Share.the_field K V P).row
  share = let a = Arc-send (Body.the_row K V P) (as_row_send (Body.the_field K V P) body) (as_row_sync (Body.the_field K V P) body_sync) in search sendable depth 20

  slot : IsSend (Slot.the_field K V P).row
  slot = let a = Arc-send (Body.the_row K V P) (as_row_send (Body.the_field K V P) body) (as_row_sync (Body.the_field K V P) body_sync) in
      let s = as_row_send (Share.the_field K V P) share in search (sendable, crosses) depth 20

  tail : IsSend (Tail.the_field K V P).row
  tail = let a = Arc-send (Body.the_row K V P) (as_row_send (Body.the_field K V P) body) (as_row_sync (Body.the_field K V P) body_sync) in
      search (sendable, crosses) depth 20

  pub entry : IsSend (CoreEntry.the_field K V P).row
  entry = let t = tail in let s = as_row_send (Share.the_field K V P) share in search (sendable, crosses) depth 20

  pub gone : IsSend (Left.the_field K V P).row
  gone = let s = as_row_send (Share.the_field K V P) share in search (sendable, crosses) depth 20

  pub piece : IsSend (Piece.the_field K V P).row
  piece = let s = as_row_send (Share.the_field K V P) share in search (sendable, crosses) depth 20

  records : IsSend (Records.the_field K V P).row
  records = let s = as_row_send (Slots.the_field (Slot.the_row K V P)) (slots (Slot.the_row K V P) (as_row_send (Slot.the_field K V P) slot)) in
      let i = ids in let z = slots (Slot.the_row K V P) (as_row_send (Slot.the_field K V P) slot) in search sendable depth 20

-- a past owns nothing
past_send : (T : RattleType) → IsSend (Past.the_row T)
past_send T = owning_send (Past.the_type T) (search sendable, tt) (λ d. tt) (λ k x w. tt)

module _ (K : RattleType) (k : IsSend K) where
  trail : IsSend (Trail.the_field K).row
  trail = let m = past_send (Marks.the_row K) in search sendable depth 20

  pair : IsSend (Pair.the_field K).row
  pair = search sendable depth 20

  module _ (e : eq.Ghosts K.Denot) (h : hash.Ghosts K.Denot) (c : clone.Ghosts K.Denot) where
    key_tags : IsSend (KeyTags.the_field K e h c).row
    key_tags = let t = trail in let u = tags in search sendable depth 20

    table : IsSend (Table.the_field K e h c).row
    table = let p = Vec-send (Pair.the_row K) (as_row_send (Pair.the_field K) pair) in search (sendable, crosses) depth 20

    pub tag_finder : (i : indexer.Ghosts (Table.the_row K e h c).Denot K.Denot) → IsSend (TagFinder.the_row K (Table.the_row K e h c) e h c i)
    tag_finder i = as_row_send (TagFinder.the_field K (Table.the_row K e h c) e h c i)
        (let n = key_tags in let far = as_row_send (Table.the_field K e h c) table in search sendable depth 20)

module _ (N R : RattleType) (n : IsSend N) (r : IsSend R) where
  waiting : IsSend (Waiting.the_field N).row
  waiting = search sendable depth 20

  inflight : IsSend (Inflight.the_field N R).row
  inflight = let w = Vec-send (Waiting.the_row N) (as_row_send (Waiting.the_field N) waiting) in search sendable depth 20

  module _ (K : RattleType) (k : IsSend K) (e : eq.Ghosts K.Denot) (h : hash.Ghosts K.Denot) (c : clone.Ghosts K.Denot) where
    manager : IsSend (Manager.the_field K N R e h c).row
    manager = let i = as_row_send (Slots.the_field (Inflight.the_row N R)) (slots (Inflight.the_row N R) (as_row_send (Inflight.the_field N R) inflight)) in
        let t = as_row_send (Table.the_field K e h c) (table K k e h c) in search (sendable, crosses) depth 20

limits : IsSend Limits.the_field.row
limits = search sendable depth 20

load : IsSend Load.the_field.row
load = search sendable depth 20

module _ (E K V P I C : RattleType) (es : IsSend E) (k : IsSend K) (v : IsSend V) (p : IsSend P) (is : IsSend I) (ks : IsSync K) (vs : IsSync V)
    (ps : IsSync P) (ev : eviction.Ghosts E.Denot C.Denot) (e : eq.Ghosts K.Denot) (h : hash.Ghosts K.Denot) (c : clone.Ghosts K.Denot)
    (pr : properties.Ghosts P.Denot) (d : default.Ghosts P.Denot) (f : finder.Ghosts I.Denot K.Denot) where
  store : IsSend (Store.the_field E K V P I C ev e h c pr d f).row
  store = let r = records K V P k v p ks vs ps in let l = limits in search sendable depth 20

  module _ (N R : RattleType) (n : IsSend N) (r : IsSend R) where
    shard : IsSend (Shard.the_field E K V P N R I C ev e h c pr d f).row
    shard = let s = store in let m = manager N R n r K k e h c in search sendable depth 20

    pub core : (S W A : RattleType) (b : builder.Ghosts S.Denot) (w : weighter.Ghosts W.Denot K.Denot V.Denot) (a : filter.Ghosts A.Denot K.Denot V.Denot) →
        IsSend S → IsSend W → IsSend A → IsSend (Core.the_field E K V P S W A N R I C ev e h c pr d b w a f).row
    core S W A b w a s w_send a_send =
        let l = load in let many = Vec-send (Shard.the_row E K V P N R I C ev e h c pr d f) (as_row_send (Shard.the_field E K V P N R I C ev e h c pr d f) shard) in
        search (sendable, crosses) depth 20
