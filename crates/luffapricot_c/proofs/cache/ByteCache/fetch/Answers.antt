use Rattle.luffapricot_c.proofs.Clones.{key_clone}
use Rattle.luffapricot_c.proofs.cache.ByteCache.fetch.Goals as goal

pub get_or_enqueue-requires-clause-clones : goal.get_or_enqueue-requires-clause-clones
get_or_enqueue-requires-clause-clones c κs = λ k c' clone.
    key_clone k.hash c'.hash k.bytes.items c'.bytes.items clone.0 clone.1
