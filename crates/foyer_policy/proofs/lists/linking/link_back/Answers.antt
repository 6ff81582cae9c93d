use Rattle.std.proofs.Common.{◌∙◌, ◌<◌, None, length, refl, arith}
use Rattle.std.proofs.lemmas.List.{get_or_read_under}
use Rattle.foyer_policy.proofs.HoldsLemmas.{tail_there, vacant_if_lost, Holds-link, lists_of-Holds, Holds-again}
use Rattle.foyer_policy.proofs.lists.linking.link_back.Goals as goal

pub insert_at-requires : goal.insert_at-requires
insert_at-requires g c =
    let none = vacant_if_lost c.args.nodes.now c.args.heads.now c.args.tails.now c.args.node c.requires.sound
    c.requires.free in
    (omega arith, (c.requires.sound.arena, (c.requires.within, (none, c.requires.list))))

pub set_after-requires : goal.set_after-requires
set_after-requires g c =
    let lt : c.args.list < length c.args.tails.now =
    omega (
      arith,
      c.requires.sound.linked.heads_len,
      c.requires.sound.linked.tails_len,
      c.requires.list,
      c.requires.count,
    ) in
    let lh : c.args.list < length c.args.heads.now = rw c.requires.count c.requires.list in
    let b = get_or_read_under c.args.tails.now c.args.list (length c.args.tails.now) c.index-tails-list.result None
    c.index-tails-list.is lt refl in
    let none = vacant_if_lost c.args.nodes.now c.args.heads.now c.args.tails.now c.args.node c.requires.sound
    c.requires.free in
    let u = rw (b, c.end.ensures) at c.insert_at.ensures.node in (
      omega arith,
      (
        c.insert_at.ensures.arena,
        (
          rw b (tail_there c.args.nodes.now c.insert_at.new.self c.insert_at.new.self c.args.heads.now
              c.args.heads.now c.args.tails.now c.args.list c.args.node c.args.value
              c.requires.sound lh none u c.insert_at.ensures.others),
          lh,
        ),
      ),
    )

pub returns-clause-sound : goal.returns-clause-sound
returns-clause-sound g c =
    let lt : c.args.list < length c.args.tails.now =
    omega (
      arith,
      c.requires.sound.linked.heads_len,
      c.requires.sound.linked.tails_len,
      c.requires.list,
      c.requires.count,
    ) in
    let b = get_or_read_under c.args.tails.now c.args.list (length c.args.tails.now) c.index-tails-list.result None
    c.index-tails-list.is lt refl in
    let none = vacant_if_lost c.args.nodes.now c.args.heads.now c.args.tails.now c.args.node c.requires.sound
    c.requires.free in
    let u = rw (b, c.end.ensures) at c.insert_at.ensures.node in
    rw c.to-2.ensures (Holds-again _ _ _ _
    (Holds-link c.args.nodes.now c.insert_at.new.self c.set_after.new.nodes c.args.heads.now c.set_after.new.heads
    c.args.tails.now c.args.list c.args.node c.args.value
    c.requires.sound (rw c.requires.count c.requires.list) none u c.insert_at.ensures.others
    c.set_after.ensures.arena
    (rw (b, c.to.ensures) at c.set_after.ensures.links) (c.set_after.ensures.used ∙ c.insert_at.ensures.counts.0)
    (rw (b, c.to.ensures) at c.set_after.ensures.heads)))

pub returns-clause-lists : goal.returns-clause-lists
returns-clause-lists g c =
    let lt : c.args.list < length c.args.tails.now =
    omega (
      arith,
      c.requires.sound.linked.heads_len,
      c.requires.sound.linked.tails_len,
      c.requires.list,
      c.requires.count,
    ) in
    let b = get_or_read_under c.args.tails.now c.args.list (length c.args.tails.now) c.index-tails-list.result None
    c.index-tails-list.is lt refl in
    let none = vacant_if_lost c.args.nodes.now c.args.heads.now c.args.tails.now c.args.node c.requires.sound
    c.requires.free in
    let u = rw (b, c.end.ensures) at c.insert_at.ensures.node in
    lists_of-Holds _ _ _ _
    (Holds-link c.args.nodes.now c.insert_at.new.self c.set_after.new.nodes c.args.heads.now c.set_after.new.heads
    c.args.tails.now c.args.list c.args.node c.args.value
    c.requires.sound (rw c.requires.count c.requires.list) none u c.insert_at.ensures.others
    c.set_after.ensures.arena
    (rw (b, c.to.ensures) at c.set_after.ensures.links) (c.set_after.ensures.used ∙ c.insert_at.ensures.counts.0)
    (rw (b, c.to.ensures) at c.set_after.ensures.heads))
