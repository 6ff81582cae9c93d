-- Records that are removed one by one.
use Rattle.std.proofs.Common.{◌≡◌, ◌∙◌, ◌++◌, ◌∷◌, [], Option, Some, None, append-nil, false, inl, inr, refl, sym, true, true≢false}
use Rattle.std.specs.Prelude.{IsSomeAnd}
use Rattle.std.specs.Global.{Vec}
use Rattle.foyer_policy.specs.declared.types.Event.{Event}
use Rattle.foyer_core.specs.declared.hold.Hold.{Hold as Name}
use Rattle.foyer_core.specs.Core.{shard_at}
use Rattle.foyer_core.specs.Cores.{core_of}
use Rattle.foyer_core.specs.Holds.{NamesResident}
use Rattle.foyer_core.specs.Pieces.{is_in}
use Rattle.foyer_core.specs.State.{State}
use Rattle.foyer_core.specs.Values.{Answered, Gone, Rec}
use Rattle.luffapricot_c.specs.declared.cache.ByteCache.{ByteCache}
use Rattle.luffapricot_c.specs.declared.key.Key.{Key}
use Rattle.luffapricot_c.specs.declared.value.Value.{Value}
use Rattle.luffapricot_c.specs.Walks.{LeavesNext, TakesAny, TakesOne}

-- the list of what left, without its last record or with nothing in it
module _ (old : ByteCache) (rest : Vec (Event × Gone Key Value Answered)) where
  -- its last record is next
  pub next_left : (gone : Event × Gone Key Value Answered) (kept : Option (Event × Gone Key Value Answered)) →
      old.left.items ≡ rest.items ++ gone ∷ [] → LeavesNext gone old (record old { left = rest; last_shown = kept })
  next_left gone kept is =
      inl (is, refl, record { held = refl; fetches = refl; left = refl; listener = refl })

  module _ (none : old.left.items ≡ []) (same : old.left.items ≡ rest.items ++ []) (new : ByteCache) where
    stays : new.left.items ≡ rest.items → new.left.items ≡ old.left.items
    stays left = left ∙ sym (same ∙ append-nil rest.items)

    -- a record that is taken out is next
    pub next_taken : (gone : Event × Gone Key Value Answered) (kept : Option (Event × Gone Key Value Answered)) →
        TakesOne gone (record old { left = rest }) new → LeavesNext gone old (record new { last_shown = kept })
    next_taken gone kept takes = inr (
      none,
      record {
        hash = takes.hash;
        id = takes.id;
        event = takes.event;
        takes = takes.takes;
        rest = record {
          held = takes.rest.held;
          fetches = takes.rest.fetches;
          left = stays takes.rest.left;
          listener = takes.rest.listener;
        };
      },
    )

    -- or there is none
    pub next_none : TakesAny None (record old { left = rest }) new → TakesAny None old new
    next_none takes = (
      takes.0,
      takes.1,
      record {
        held = takes.2.held;
        fetches = takes.2.fetches;
        left = stays takes.2.left;
        listener = takes.2.listener;
      },
    )

-- a resident record that is named doesn't stay
pub leaves : {A : Type 0} (name : Name) (c : ByteCache) →
    IsSomeAnd (shard_at (core_of c.core) name.hash) (λ s. NamesResident s name) →
    IsSomeAnd (shard_at (core_of c.core) name.hash) (λ s. false ≡ is_in (s.records name.id)) → A
leaves {A} name c is stays = at_shard (shard_at (core_of c.core) name.hash) is stays where
  at_record : (o : Option (Rec Key Value Answered)) →
      IsSomeAnd o (λ r. (r.resident ≡ true) × (r.kept.hash ≡ name.hash)) → false ≡ is_in o → A
  at_record None is stays = absurd is
  at_record (Some r) is stays = absurd (true≢false (sym is.0 ∙ sym stays))

  at_shard : {View : Type 0} (o : Option (State Key Value Answered View)) → IsSomeAnd o (λ s. NamesResident s name) →
      IsSomeAnd o (λ s. false ≡ is_in (s.records name.id)) → A
  at_shard None is stays = absurd is
  at_shard (Some s) is stays = at_record (s.records name.id) is stays
