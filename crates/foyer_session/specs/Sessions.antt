-- A session's struct as a state.
use Rattle.std.specs.declared.cmp.PartialEq.{Ghosts as EqGhosts}
use Rattle.std.specs.declared.hash.Hash.{Ghosts as HashGhosts}
use Rattle.std.specs.declared.clone.Clone.{Ghosts as CloneGhosts}
use Rattle.std.specs.declared.default.Default.{Ghosts as DefaultGhosts}
use Rattle.foyer_policy.specs.declared.eviction.Eviction.{Ghosts as EvictionGhosts}
use Rattle.foyer_policy.specs.declared.properties.Properties.{Ghosts as PropertiesGhosts}
use Rattle.foyer_policy.specs.declared.hash.HashBuilder.{Ghosts as HashBuilderGhosts}
use Rattle.foyer_core.specs.declared.weighter.Weighter.{Ghosts as WeighterGhosts}
use Rattle.foyer_core.specs.declared.filter.Filter.{Ghosts as FilterGhosts}
use Rattle.foyer_core.specs.declared.finder.Finder.{Ghosts as FinderGhosts}
use Rattle.std.specs.Prelude.{ℕ, ◌+◌, vec_len}
use Rattle.foyer_core.specs.Cores.{core_of, fetches_of, meaning_of_core}
use Rattle.foyer_core.specs.State.{Meaning, coming_in}
use Rattle.foyer_session.specs.declared.session.Session.{Session}
use Rattle.foyer_session.specs.Step.{SessionState}
use Rattle.foyer_session.specs.Terms.{Terms}

module _ {E K V P S W A I C : Type 0} {e : EvictionGhosts E C}
    {q : EqGhosts K} {h : HashGhosts K} {c : CloneGhosts K} {p : PropertiesGhosts P} {d : DefaultGhosts P}
    {b : HashBuilderGhosts S} {w : WeighterGhosts W K V} {f : FilterGhosts A K V} {i : FinderGhosts I K} where
  -- what contracts see of a session
  abbrev pub session_of : Session E K V P S W A I C e q h c p d b w f i → SessionState K V P e.View S W A
  session_of s =
      record { core = core_of s.core; fetches = fetches_of s.core; handles = s.handles.items; pieces = s.pieces.items }

  -- how many handles there are, and who waits for one
  abbrev pub taken : Session E K V P S W A I C e q h c p d b w f i → ℕ
  taken s = vec_len s.handles + s.waiting

  -- when keys are equal, what the policy does, and what properties answer
  abbrev pub meaning_of_session : Session E K V P S W A I C e q h c p d b w f i → Meaning K P e.View C
  meaning_of_session s = meaning_of_core s.core

  -- what a session is over
  abbrev pub terms_of : Session E K V P S W A I C e q h c p d b w f i → Terms K V P e.View C S W A
  terms_of s = record {
    meaning = meaning_of_session s;
    hash = λ builder key. b.hash_of builder (h.hash_input key);
    weighs = w.weighs;
    admits = f.admits;
    incoming = coming_in p.location_of p.with_phantom_of;
  }
