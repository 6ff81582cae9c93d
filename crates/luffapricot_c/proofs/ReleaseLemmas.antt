-- What a number names once its entry has ended.
use Rattle.std.proofs.Common.{◌≡◌, ◌∙◌, ℕ, Bool, true, false, Option, Some, None, if◌then◌else◌, is_some, refl, subst, sym}
use Rattle.slab.specs.Slab.{Slab, Updates, get}
use Rattle.foyer_policy.specs.declared.types.Event.{Event}
use Rattle.foyer_core.specs.Cores.{core_of, meaning_of_core}
use Rattle.foyer_core.specs.Values.{Answered, Gone as GoneOf}
use Rattle.luffapricot_c.specs.declared.cache.ByteCache.{ByteCache}
use Rattle.luffapricot_c.specs.declared.hold.Held.TheVariants.{Entry, Gone}
use Rattle.luffapricot_c.specs.declared.hold.Hold.{Hold}
use Rattle.luffapricot_c.specs.declared.key.Key.{Key}
use Rattle.luffapricot_c.specs.declared.value.Value.{Value}
use Rattle.luffapricot_c.specs.Frames.{Frames}
use Rattle.luffapricot_c.specs.Named.{Named}
use Rattle.luffapricot_c.specs.Releases.{EndsNamed, Releases, ReleasesHeld, last_of}

abbrev Last : Type 0
Last = Event × GoneOf Key Value Answered

-- what a number names after its entry has ended, and the status
abbrev pub Names : Bool → Option Last → ℕ → ℕ → Slab Hold → Slab Hold → Type 0
Names has_listener leave number status old new = Updates old new number (last_of has_listener leave)
    × (status ≡ (if is_some (last_of has_listener leave) then 104 else 0))

-- nobody is told
pub untold : (has_listener : Bool) (leave : Option Last) (number : ℕ) (old new : Slab Hold) → has_listener ≡ false →
    Updates old new number None → Names has_listener leave number 0 old new
untold true leave number old new is u = absurd cc
untold false leave number old new is u = (u, refl)

-- nothing left
pub none_left : (has_listener : Bool) (leave : Option Last) (number : ℕ) (old new : Slab Hold) → leave ≡ None →
    Updates old new number None → Names has_listener leave number 0 old new
none_left true None number old new is u = (u, refl)
none_left false None number old new is u = (u, refl)
none_left true (Some g) number old new is u = absurd cc
none_left false (Some g) number old new is u = absurd cc

-- a record left
pub one_left : (has_listener : Bool) (leave : Option Last) (gone : Last) (number : ℕ) (old new : Slab Hold) →
    has_listener ≡ true → leave ≡ Some gone → Updates old new number (Some (record { held = Gone gone })) →
    Names has_listener leave number 104 old new
one_left true leave gone number old new is what u = subst (λ l. Names true l number 104 old new) (sym what) (u, refl)
one_left false leave gone number old new is what u = absurd cc

-- a number that was taken out is given again
pub again : (old mid new : Slab Hold) (number key : ℕ) (was slot : Option Hold) → key ≡ number →
    Updates old mid number was → Updates mid new key slot → Updates old new number slot
again old mid new number key was slot is out back = record {
  changed = subst (λ k. get new k ≡ slot) is back.changed;
  others = λ other apart. back.others other (λ same. apart (same ∙ is)) ∙ out.others other apart;
}

-- a number that names an entry is released
pub releases : (named : Option Hold) (hold : Hold) (entry : Named) (leave : Option Last)
    (number status : ℕ) (old new : ByteCache) → named ≡ Some hold → hold.held ≡ Entry entry →
    EndsNamed (meaning_of_core old.core) entry leave (core_of old.core) (core_of new.core) →
    Names old.has_listener leave number status old.holds new.holds → new.left ≡ old.left →
    Frames (record old { holds = new.holds }) new → Releases named number status old new
releases named hold entry leave number status old new is held ends names left rest =
    subst (λ n. Releases n number status old new) (sym is) (
      subst (λ h. ReleasesHeld h number status old new) (sym held)
          (record { leave = leave; ends = ends; names = names.0; status_is = names.1 }),
      left,
      rest,
    )
