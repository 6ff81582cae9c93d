-- What a program prints for a line.
use Rattle.std.specs.Prelude.{◌≡◌, ℕ, Bool, true, false, List, [], ◌++◌, ◌⊎◌, Option, Some, None, codes}
use Rattle.foyer_policy.specs.declared.types.Event.{Event}
use Rattle.foyer_policy.specs.declared.types.Hint.TheVariants.{Normal}
use Rattle.foyer_policy.specs.declared.eviction_config.EvictionConfig.{EvictionConfig}
use Rattle.foyer_policy.specs.declared.eviction_config.EvictionConfig.TheVariants.{Lru}
use Rattle.foyer_policy.specs.declared.types.Source.TheVariants.{Outer}
use Rattle.foyer_core.specs.Values.{Gone, Answered}
use Rattle.foyer_core.specs.State.{Meaning, coming_in}
use Rattle.foyer_core.specs.Core.{usage_of_core, entries_of_core}
use Rattle.foyer_session.specs.declared.command.Answer.{Answer}
use Rattle.foyer_session.specs.declared.command.Command.{Command}
use Rattle.foyer_session.specs.declared.command.Command.TheVariants.{Insert, Get, Contains, Touch, Remove, Drop, GetOrFetch, Complete, Cancel, Clear, EvictAll, Resize, Reconfigure}
use Rattle.foyer_session.specs.declared.command.End.TheVariants.{Value}
use Rattle.foyer_session.specs.declared.sim.tell.Asked.{Asked}
use Rattle.foyer_session.specs.declared.sim.tell.Asked.TheVariants.{Nothing, NoLine, Moment, Carry}
use Rattle.foyer_session.specs.declared.sim.value.SimValue.{SimValue}
use Rattle.foyer_session.specs.declared.text.Line.{Line}
use Rattle.foyer_session.specs.declared.text.Line.TheVariants.{Blank, Insert as InsertLine, Phantom as PhantomLine, Get as GetLine, Contains as ContainsLine, Touch as TouchLine, Remove as RemoveLine, Drop as DropLine, Clear as ClearLine, Evict as EvictLine, Resize as ResizeLine, High as HighLine, Fetch as FetchLine, At as AtLine, Done as DoneLine, Cancel as CancelLine, Bad}
use Rattle.foyer_session.specs.declared.predicate.NoPredicate.{NoPredicate}
use Rattle.foyer_session.specs.Printed.{answer_text, refusal_text, rest_text}
use Rattle.foyer_session.specs.Step.{SessionState, Step}
use Rattle.foyer_session.specs.Terms.{Terms}

-- a record weighs what its value says
abbrev pub sim_weighs : {W : Type 0} → W → ℕ → SimValue → ℕ → Type 0
sim_weighs weighter key value weight = weight ≡ value.weight

-- each record is admitted
abbrev pub sim_admits : {A : Type 0} → A → ℕ → SimValue → Bool → Type 0
sim_admits filter key value admitted = admitted ≡ true

-- what a session of a program is over: its records are to be nowhere, and come in with their own properties where
-- they are admitted
abbrev pub sim_terms : {View C S W A : Type 0} → Meaning ℕ Answered View C → (S → ℕ → ℕ) →
    Terms ℕ SimValue Answered View C S W A
sim_terms m hash =
    record {
      meaning = m;
      hash = hash;
      weighs = sim_weighs;
      admits = sim_admits;
      incoming =
          coming_in (λ p. None) (λ p b. record p { phantom = Some b });
    }

-- a program's commands have no predicate that picks
abbrev pub no_picks : NoPredicate → ℕ → SimValue → Bool → Type 0
no_picks predicate key value answer = answer ≡ false

-- the properties of a program's records, which may expire
abbrev pub plain : Option ℕ → Answered
plain expires = record { phantom = None; hint = Normal; expires = expires }

-- those of its phantom records
abbrev pub phantom : Answered
phantom = record { phantom = Some true; hint = Normal; expires = None }

-- a program's session, and the moment at which it carries out its lines
pub record SimState (View S W A : Type 0) : Type 0 where
  pub now : ℕ
  pub session : SessionState ℕ SimValue Answered View S W A

module _ {View S W A : Type 0} (m : Meaning ℕ Answered View EvictionConfig) where
  -- a printed line: the answer, what left, and usage and entries then
  abbrev pub line_text : List ℕ → List (Event × Gone ℕ SimValue Answered) →
      SessionState ℕ SimValue Answered View S W A → List ℕ
  line_text answer leaves s = answer ++ rest_text leaves (usage_of_core m s.core) (entries_of_core m s.core)

-- what a line asks for at a moment
abbrev pub asked_by : ℕ → Line → Asked
asked_by now Blank = Nothing
asked_by now Bad = NoLine
asked_by now (InsertLine key value weight expires) = Carry
    (Insert now key (record { value = value; weight = weight }) (plain expires))
asked_by now (PhantomLine key value weight) = Carry
    (Insert now key (record { value = value; weight = weight }) phantom)
asked_by now (GetLine key) = Carry (Get now key)
asked_by now (ContainsLine key) = Carry (Contains now key)
asked_by now (TouchLine key) = Carry (Touch now key)
asked_by now (RemoveLine key) = Carry (Remove key)
asked_by now (DropLine number) = Carry (Drop number)
asked_by now ClearLine = Carry Clear
asked_by now EvictLine = Carry (EvictAll now)
asked_by now (ResizeLine capacity) = Carry (Resize now capacity)
asked_by now (HighLine ratio) = Carry (Reconfigure (Lru (record { high_priority_pool_ratio = ratio })))
asked_by now (AtLine moment) = Moment moment
asked_by now (FetchLine key) = Carry (GetOrFetch now key None)
asked_by now (DoneLine key fetch value) = Carry
    (Complete now key fetch (Value (record { value = value; weight = 1 }) (plain None) Outer))
asked_by now (CancelLine key fetch) = Carry (Cancel key fetch)

-- `hash` is what a hash builder gives a key.
module _ {View S W A : Type 0} (m : Meaning ℕ Answered View EvictionConfig) (hash : S → ℕ → ℕ) where
  -- a command is a step, or is refused for want of memory before it is made
  abbrev pub CommandTold : SessionState ℕ SimValue Answered View S W A →
      Command ℕ SimValue Answered NoPredicate EvictionConfig → List ℕ →
      SessionState ℕ SimValue Answered View S W A → Type 0
  CommandTold old command text new =
      ((answer : Answer ℕ SimValue Answered) × (leaves : List (Event × Gone ℕ SimValue Answered))
      × Step (sim_terms m hash) no_picks old command answer leaves new
      × (text ≡ line_text m (answer_text answer) leaves new))
      ⊎ ((text ≡ line_text m (refusal_text 7) [] new) × (new ≡ old))

  -- what a line asks for is told
  abbrev pub AskedTold : SimState View S W A → Asked → List ℕ → SimState View S W A → Type 0
  AskedTold old Nothing text new = (text ≡ []) × (new ≡ old)
  AskedTold old NoLine text new = (text ≡ line_text m (codes "bad line") [] new.session) × (new ≡ old)
  AskedTold old (Moment moment) text new = (text ≡ line_text m (codes "ok") [] new.session)
      × (new ≡ record old { now = moment })
  AskedTold old (Carry command) text new = CommandTold old.session command text new.session × (new.now ≡ old.now)

  -- the text of a line, and the session and the moment then
  abbrev pub LineTold : SimState View S W A → Line → List ℕ → SimState View S W A → Type 0
  LineTold old line text new = AskedTold old (asked_by old.now line) text new
