use Rattle.std.proofs.Common.{◌∙◌, ap, refl}
use Rattle.foyer_core.specs.Table.{rec_of}
use Rattle.luffapricot_c.specs.declared.key.Key.{Key}
use Rattle.luffapricot_c.proofs.NamedLemmas.{inserts_again}
use Rattle.luffapricot_c.proofs.cache.ByteCache.set_expires.Goals as goal

pub returns-in-Ok : goal.returns-in-Ok
returns-in-Ok c =
    let x = rec_of c.in-Some-held.record in
    inserts_again c.args.now c.args.expires _ c.in-Some.entry.now c.name.result x c.in_ok-key.key c.in_ok-value.value
    c.with_hint-properties.result c.args.self.now c.put.new.self c.in-Some.ensures c.name.ensures c.in-Some-held.ensures (
      c.in_ok-key.ensures.hash ∙ ap (λ (k : Key). k.hash) c.key.ensures,
      c.in_ok-key.ensures.bytes ∙ c.as_slice.ensures ∙ ap (λ (k : Key). k.bytes.items) c.key-2.ensures,
    )
    (rw c.value.ensures at c.in_ok-value.ensures.copy)
    (rw (c.with_hint-properties.ensures, c.plain_properties.ensures, c.hint.ensures, c.properties.ensures) refl)
    c.in-Ok.ensures
