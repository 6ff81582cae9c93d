-- What requests come to when they are served in order: their outcomes, and how many of a kind there are.
use Rattle.std.specs.Prelude.{◌≡◌, ℕ, zero, suc, ◌+◌, List, [], ◌∷◌, drop}
use Rattle.foyer_replay.specs.declared.request.Outcome.{Outcome}
use Rattle.foyer_replay.specs.declared.request.Outcome.TheVariants.{Hit, Miss, Done}
use Rattle.foyer_replay.specs.declared.request.Request.{Request}

-- how many of these are hits
abbrev pub hits_in : List Outcome → ℕ
hits_in [] = 0
hits_in (Hit ∷ outcomes) = 1 + hits_in outcomes
hits_in (Miss ∷ outcomes) = hits_in outcomes
hits_in (Done ∷ outcomes) = hits_in outcomes

-- how many of these are misses
abbrev pub misses_in : List Outcome → ℕ
misses_in [] = 0
misses_in (Hit ∷ outcomes) = misses_in outcomes
misses_in (Miss ∷ outcomes) = 1 + misses_in outcomes
misses_in (Done ∷ outcomes) = misses_in outcomes

-- so many requests, from a place on
unfoldable pub listed : (ℕ → Request) → ℕ → ℕ → List Request
listed nth place zero = []
listed nth place (suc more) = nth place ∷ listed nth (place + 1) more

module _ {State : Type 0} (serves : Request → Outcome → State → State → Type 0) where
  -- each request has its outcome, and is served by the state that the requests before it left
  abbrev pub Replays : State → List Request → List Outcome → State → Type 0
  Replays old [] [] new = new ≡ old
  Replays old (r ∷ requests) (outcome ∷ outcomes) new =
      (mid : State) × serves r outcome old mid × Replays mid requests outcomes new
  Replays old [] (outcome ∷ outcomes) new = ⊥
  Replays old (r ∷ requests) [] new = ⊥

  -- all requests are served, and of those after the first few so many hit and so many miss
  pub record Counted (skipped : ℕ) (requests : List Request) (hits misses : ℕ) (old new : State) : Type 0 where
    pub outcomes : List Outcome
    pub replayed : Replays old requests outcomes new
    pub hits_are : hits ≡ hits_in (drop skipped outcomes)
    pub misses_are : misses ≡ misses_in (drop skipped outcomes)
