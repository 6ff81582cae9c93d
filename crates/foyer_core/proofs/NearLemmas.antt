-- Slots of ids: what naming one and taking one away make of them, and what stays once there are more places.
use Rattle.std.proofs.Common.{◌≡◌, ◌≢◌, ℕ, zero, suc, ◌+◌, ◌-◌, ◌*◌, ◌/◌, ◌%◌, ◌^◌, ◌<◌, ◌≤◌, ◌⊎◌, List, [], ◌∷◌, ◌++◌, Option, Some, None, true, false, length, refl, sym, ◌∙◌, ap, subst, inl, inr, arith}
use Rattle.std.specs.Prelude.{IsSome, slice_index_or, nat_eq, slice_get, slice_set}
use Rattle.std.specs.Map.{update}
use Rattle.std.proofs.lemmas.Bool.Decides.{eqb_tells, leb_tells}
use Rattle.std.proofs.lemmas.List.{length-set}
use Rattle.std.proofs.lemmas.Map.{update_here, update_apart}
use Rattle.std.proofs.Math.Bool.{true≢false}
use Rattle.std.proofs.Math.Nat.{pow-zero, pow-suc}
use Rattle.std.proofs.Math.Pow.{mod-mod-pow}
use Rattle.std.proofs.lemmas.Option.{none-some, slice_get-get_or}
use Rattle.std.proofs.lemmas.Nat.{div-add-mod', mod-mul-add, mod_below, pow_pos}
use Rattle.foyer_core.specs.Near.{slot_at, slot_near, or_slot, is_recent, AreApart}
use Rattle.foyer_core.specs.declared.records.ids.Standing.{Standing}
use Rattle.foyer_core.proofs.CoreLemmas.{set_here, set_apart}
use Rattle.foyer_core.proofs.StoredLemmas.{none_not}

-- numbers that are less than so many apart, and not equal, have other rests
pub rests_apart : (m a b : ℕ) → a < b → b < a + m → a % m ≢ b % m
rests_apart m a b less near e =
    let whole : a / m * m + a % m ≡ a = div-add-mod' a m in
    let low : a % m < m = mod_below a m (omega (arith, less, near)) in
    elim (leb_tells m (a % m + (b - a))) [
      | inl over ↦
          (let is : b ≡ (a / m + 1) * m + (a % m + (b - a) - m) = omega (arith, whole, less, over.1) in
          let rest : b % m ≡ a % m + (b - a) - m =
          ap (λ (n : ℕ). n % m) is ∙ mod-mul-add (a / m + 1) m (a % m + (b - a) - m) (omega (arith, low, near, over.1)) in
          omega (arith, e, rest, less, near, over.1))
      | inr under ↦
          (let is : b ≡ a / m * m + (a % m + (b - a)) = omega (arith, whole, less) in
          let rest : b % m ≡ a % m + (b - a) = ap (λ (n : ℕ). n % m) is ∙ mod-mul-add (a / m) m (a % m + (b - a)) under.1 in
          omega (arith, e, rest, less))
    ]

-- whether an id is one of the last
pub recent_tells : (many end id : ℕ) → ((is_recent many end id ≡ true) × ((id < end) × (end ≤ id + many)))
    ⊎ ((is_recent many end id ≡ false) × (id < end → id + many < end))
recent_tells many end id = elim (leb_tells (suc id) end) [
  | inl before ↦ elim (leb_tells (end - id) many) [
    | inl few ↦ inl (rw (before.0, few.0) refl, (before.1, omega (arith, before.1, few.1)))
    | inr more ↦ inr (rw (before.0, more.0) refl, λ _. omega (arith, before.1, more.1))
  ]
  | inr behind ↦ inr (rw behind.0 refl, λ less. absurd (omega (arith, less, behind.1)))
]

-- what the places have for an id that is one of the last
pub near_recent : (near : List Standing) (end id many : ℕ) → length near ≡ many → is_recent many end id ≡ true →
    slot_near end near id ≡ slot_at (slice_get near (id % many))
near_recent near end id many long is = rw long (rw is refl)

-- and for another
pub near_past : (near : List Standing) (end id many : ℕ) → length near ≡ many → is_recent many end id ≡ false →
    slot_near end near id ≡ None
near_past near end id many long is = rw long (rw is refl)

-- an id that has a slot by the places is one of the last
pub recent_some : (near : List Standing) (end id : ℕ) → IsSome (slot_near end near id)
    → is_recent (length near) end id ≡ true
recent_some near end id is = elim (recent_tells (length near) end id) [
  | inl r ↦ r.0
  | inr r ↦ absurd (none_not (slot_near end near id) is (near_past near end id (length near) refl r.0))
]

-- of which there are some
pub some_recent : (many end id : ℕ) → is_recent many end id ≡ true → 0 < many
some_recent many end id is = elim (recent_tells many end id) [
  | inl r ↦ omega (arith, r.1)
  | inr r ↦ absurd (true≢false (sym is ∙ r.0))
]

-- none of both is none of the second
pub not_far : (o other : Option ℕ) → or_slot o other ≡ None → other ≡ None
not_far None other is = is
not_far (Some n) other is = absurd (none-some n (sym is))

-- the rest of the number that is so many behind
rest_next : (m a b : ℕ) → 0 < m → a + m ≡ b → a % m ≡ b % m
rest_next m a b some is =
    let whole : a / m * m + a % m ≡ a = div-add-mod' a m in
    let next : b ≡ (a / m + 1) * m + a % m = omega (arith, whole, is) in
    sym (ap (λ (n : ℕ). n % m) next ∙ mod-mul-add (a / m + 1) m (a % m) (mod_below a m some))

-- the next id is named at its place, where an older one may have stood
module _ (near : List Standing) (far : ℕ → Option ℕ) (end place slot : ℕ) (n older : Standing) (some : 0 < length near)
    (at : place ≡ end % length near) (stood : slice_get near place ≡ Some older) (to : slot_at (Some n) ≡ Some slot)
  where
    abbrev many : ℕ
    many = length near

    -- the places then
    abbrev pub places_then : List Standing
    places_then = slice_set near place n

    -- what an id had by both
    abbrev pub had : ℕ → Option ℕ
    had q = or_slot (slot_near end near q) (far q)

    as_many : length places_then ≡ many
    as_many = length-set near place n

    -- of the last that stay, each has what it had
    stays : (q : ℕ) → q ≢ end → is_recent many (end + 1) q ≡ true → (q < end + 1) × (end + 1 ≤ q + many) →
        slot_near (end + 1) places_then q ≡ slot_near end near q
    stays q apart is within =
        let less : q < end = omega (arith, apart, within.0) in
        let other : q % many ≢ place = λ e. rests_apart many q end less (omega (arith, within.1)) (e ∙ at) in
        let was : is_recent many end q ≡ true = elim (recent_tells many end q) [
          | inl r ↦ r.0
          | inr r ↦ absurd (let x = r.1 less in omega (arith, x, within.1))
        ] in
        near_recent places_then (end + 1) q many as_many is ∙ ap slot_at (set_apart near place (q % many) n other)
        ∙ sym (near_recent near end q many refl was)

    -- where the older one, and no other, is far by now
    module _ (far' : ℕ → Option ℕ) (went : (q : ℕ) → q + many ≡ end → far' q ≡ or_slot (slot_at (Some older)) (far q))
        (rest : (q : ℕ) → q + many ≢ end → far' q ≡ far q) where
      pub named : (q : ℕ) → or_slot (slot_near (end + 1) places_then q) (far' q) ≡ update nat_eq had end (Some slot) q
      named q = elim (eqb_tells q end) [
        | inl e ↦ subst (λ (x : ℕ). or_slot (slot_near (end + 1) places_then x) (far' x)
            ≡ update nat_eq had end (Some slot) x) (sym e.1)
            (ap (λ (o : Option ℕ). or_slot o (far' end))
            (near_recent places_then (end + 1) end many as_many is_last
            ∙ ap slot_at (ap (slice_get places_then) (sym at) ∙ set_here near place older n stood) ∙ to)
            ∙ sym (update_here had end (Some slot)))
        | inr e ↦ (elsewhere q e.1 ∙ sym (update_apart had end (Some slot) q e.1))
      ] where
        is_last : is_recent many (end + 1) end ≡ true
        is_last = elim (recent_tells many (end + 1) end) [
          | inl r ↦ r.0
          | inr r ↦ absurd (let x = r.1 (omega arith) in omega (arith, x, some))
        ]

        elsewhere : (q : ℕ) → q ≢ end → or_slot (slot_near (end + 1) places_then q) (far' q) ≡ had q
        elsewhere q apart = elim (recent_tells many (end + 1) q) [
          | inl r ↦ (ap (λ (o : Option ℕ). or_slot o (far' q)) (stays q apart r.0 r.1)
              ∙ ap (or_slot (slot_near end near q)) (rest q (λ e. omega (arith, e, r.1.1))))
          | inr r ↦ (ap (λ (o : Option ℕ). or_slot o (far' q)) (near_past places_then (end + 1) q many as_many r.0)
              ∙ elim (recent_tells many end q) [
                | inl o ↦ (let is : q + many ≡ end = (let x = r.1 (omega (arith, o.1.0)) in omega (arith, x, o.1.1)) in
                    went q is ∙ ap (λ (o : Option Standing). or_slot (slot_at o) (far q))
                    (sym (ap (slice_get near) (rest_next many q end some is ∙ sym at) ∙ stood))
                    ∙ ap (λ (o : Option ℕ). or_slot o (far q)) (sym (near_recent near end q many refl o.0)))
                | inr o ↦ (rest q (λ e. (let x = o.1 (omega (arith, e, some)) in omega (arith, x, e)))
                    ∙ ap (λ (o : Option ℕ). or_slot o (far q)) (sym (near_past near end q many refl o.0)))
              ])
        ]

      pub apart-named : AreApart (slot_near end near) far → had end ≡ None → AreApart (slot_near (end + 1) places_then) far'
      apart-named apart new q is = elim (eqb_tells q end) [
        | inl e ↦ (ap far' e.1 ∙ rest end (λ x. omega (arith, x, some))
            ∙ not_far (slot_near end near end) (far end) new)
        | inr e ↦ elim (recent_tells many (end + 1) q) [
          | inl r ↦ (rest q (λ x. omega (arith, x, r.1.1))
              ∙ apart q (subst (λ (o : Option ℕ). IsSome o) (stays q e.1 r.0 r.1) is))
          | inr r ↦ absurd (none_not (slot_near (end + 1) places_then q) is
              (near_past places_then (end + 1) q many as_many r.0))
        ]
      ]

-- another slot, or none, at the place of an id that is one of the last
module _ (near : List Standing) (far : ℕ → Option ℕ) (end id place : ℕ) (s n : Standing)
    (at : place ≡ id % length near) (there : slice_get near place ≡ Some s)
    (recent : is_recent (length near) end id ≡ true) where
  abbrev had_by : ℕ → Option ℕ
  had_by q = or_slot (slot_near end near q) (far q)

  as_long : length (slice_set near place n) ≡ length near
  as_long = length-set near place n

  within : (id < end) × (end ≤ id + length near)
  within = elim (recent_tells (length near) end id) [
    | inl r ↦ r.1
    | inr r ↦ absurd (true≢false (sym recent ∙ r.0))
  ]

  other : (q : ℕ) → q ≢ id → slot_near end (slice_set near place n) q ≡ slot_near end near q
  other q apart = elim (recent_tells (length near) end q) [
    | inl r ↦ (let elsewhere : q % length near ≢ place = λ e. elim (leb_tells q id) [
      | inl less ↦ rests_apart (length near) q id (omega (arith, less.1, apart)) (omega (arith, within, r.1)) (e ∙ at)
      | inr more ↦ rests_apart (length near) id q more.1 (omega (arith, within, r.1)) (sym (e ∙ at))
    ] in
        near_recent (slice_set near place n) end q (length near) as_long r.0
        ∙ ap slot_at (set_apart near place (q % length near) n elsewhere)
        ∙ sym (near_recent near end q (length near) refl r.0))
    | inr r ↦ (near_past (slice_set near place n) end q (length near) as_long r.0
        ∙ sym (near_past near end q (length near) refl r.0))
  ]

  pub written : (q : ℕ) → or_slot (slot_near end (slice_set near place n) q) (far q)
      ≡ update nat_eq (λ q. or_slot (slot_near end near q) (far q)) id (or_slot (slot_at (Some n)) (far id)) q
  written q = elim (eqb_tells q id) [
    | inl e ↦ subst (λ (x : ℕ). or_slot (slot_near end (slice_set near place n) x) (far x)
        ≡ update nat_eq had_by id (or_slot (slot_at (Some n)) (far id)) x) (sym e.1)
        (ap (λ (o : Option ℕ). or_slot o (far id))
        (near_recent (slice_set near place n) end id (length near) as_long recent
        ∙ ap slot_at (ap (slice_get (slice_set near place n)) (sym at) ∙ set_here near place s n there))
        ∙ sym (update_here had_by id (or_slot (slot_at (Some n)) (far id))))
    | inr e ↦ (ap (λ (o : Option ℕ). or_slot o (far q)) (other q e.1)
        ∙ sym (update_apart had_by id (or_slot (slot_at (Some n)) (far id)) q e.1))
  ]

  pub apart-written : AreApart (slot_near end near) far → far id ≡ None
      → AreApart (slot_near end (slice_set near place n)) far
  apart-written apart free q is = elim (eqb_tells q id) [
    | inl e ↦ (ap far e.1 ∙ free)
    | inr e ↦ apart q (subst (λ (o : Option ℕ). IsSome o) (other q e.1) is)
  ]

-- how many ids there are between one of the last and the end
pub between : (many end id : ℕ) → id < end → end ≤ id + many →
    (end % many + (many - 1 - id % many)) % many ≡ end - 1 - id
between many end id less near =
    let whole : id / many * many + id % many ≡ id = div-add-mod' id many in
    let low : id % many < many = mod_below id many (omega (arith, less, near)) in
    elim (leb_tells many (id % many + (end - id))) [
      | inl over ↦
          (let is : end ≡ (id / many + 1) * many + (id % many + (end - id) - many) = omega (arith, whole, less, over.1)
          in let rest : end % many ≡ id % many + (end - id) - many =
          ap (λ (n : ℕ). n % many) is
          ∙ mod-mul-add (id / many + 1) many (id % many + (end - id) - many) (omega (arith, low, near, over.1)) in
          let sum : end % many + (many - 1 - id % many) ≡ 0 * many + (end - 1 - id) =
          omega (arith, rest, low, less, over.1) in
          ap (λ (n : ℕ). n % many) sum ∙ mod-mul-add 0 many (end - 1 - id) (omega (arith, less, near)))
      | inr under ↦
          (let is : end ≡ id / many * many + (id % many + (end - id)) = omega (arith, whole, less) in
          let rest : end % many ≡ id % many + (end - id) =
          ap (λ (n : ℕ). n % many) is ∙ mod-mul-add (id / many) many (id % many + (end - id)) under.1 in
          let sum : end % many + (many - 1 - id % many) ≡ 1 * many + (end - 1 - id) =
          omega (arith, rest, low, less, under.1) in
          ap (λ (n : ℕ). n % many) sum ∙ mod-mul-add 1 many (end - 1 - id) (omega (arith, less, near)))
    ]

-- half of a power of two
pub half_power : (n bits : ℕ) → 0 < n → n * 2 ≡ 2 ^ bits → (0 < bits) × (n ≡ 2 ^ (bits - 1))
half_power n zero some is = absurd (omega (arith, is, some, pow-zero 2))
half_power n (suc bits) some is =
    let less : bits ≡ suc bits - 1 = omega arith in
    (omega arith, subst (λ (b : ℕ). n ≡ 2 ^ b) less (omega (arith, is, pow-suc 2 bits)))

module _ (near : List Standing) (end bits place behind : ℕ)
    (half : 0 < length near → length near * 2 ≡ 2 ^ bits)
    (is : behind ≡ (end % 2 ^ bits + (2 ^ bits - 1 - place)) % 2 ^ bits)
    (id : ℕ) (at : id % 2 ^ bits ≡ place) (recent : is_recent (2 ^ bits) end id ≡ true) where
  from_end : behind ≡ end - 1 - id
  from_end = elim (recent_tells (2 ^ bits) end id) [
    | inl r ↦ (is ∙ ap (λ (p : ℕ). (end % 2 ^ bits + (2 ^ bits - 1 - p)) % 2 ^ bits) (sym at)
        ∙ between (2 ^ bits) end id r.1.0 r.1.1)
    | inr r ↦ absurd (true≢false (sym recent ∙ r.0))
  ]

  before_end : id < end
  before_end = elim (recent_tells (2 ^ bits) end id) [
    | inl r ↦ r.1.0
    | inr r ↦ absurd (true≢false (sym recent ∙ r.0))
  ]

  -- an id that is not one of the last yet has no place
  pub stays-none : (n : Standing) → length near ≤ behind → slot_at (Some n) ≡ None
      → slot_at (Some n) ≡ slot_near end near id
  stays-none n far none = elim (recent_tells (length near) end id) [
    | inl r ↦ absurd (omega (arith, r.1, far, from_end))
    | inr r ↦ (none ∙ sym (near_past near end id (length near) refl r.0))
  ]

  -- what stands at an id's place is its own
  pub stays-there : (from : ℕ) (d : Standing) → behind < length near
      → from < length near → ((b : ℕ) → length near ≡ 2 ^ b → from ≡ place % length near)
      → slot_at (Some (slice_index_or near from d)) ≡ slot_near end near id
  stays-there from d within below low =
      let power = half_power (length near) bits (omega (arith, within)) (half (omega (arith, within))) in
      let here : from ≡ id % length near = low (bits - 1) power.1 ∙ ap (λ (p : ℕ). p % length near) (sym at)
      ∙ subst (λ (n : ℕ). id % 2 ^ bits % n ≡ id % n) (sym power.1) (lower power.0) in
      elim (recent_tells (length near) end id) [
        | inl r ↦ (ap slot_at (sym (slice_get-get_or near from d below) ∙ ap (slice_get near) here)
            ∙ sym (near_recent near end id (length near) refl r.0))
        | inr r ↦ absurd (let x = r.1 before_end in omega (arith, x, within, from_end))
      ] where
        lower : 0 < bits → id % 2 ^ bits % 2 ^ (bits - 1) ≡ id % 2 ^ (bits - 1)
        lower more = ap (λ (b : ℕ). id % 2 ^ b % 2 ^ (bits - 1)) (omega (arith, more)) ∙ mod-mod-pow id 1 (bits - 1)

get_left : {A : Type 0} (xs ys : List A) (i : ℕ) → i < length xs → slice_get (xs ++ ys) i ≡ slice_get xs i
get_left [] ys i within = absurd (omega arith)
get_left (x ∷ xs) ys zero within = refl
get_left (x ∷ xs) ys (suc i) within = get_left xs ys i (omega arith)

get_last : {A : Type 0} (xs : List A) (x : A) → slice_get (xs ++ x ∷ []) (length xs) ≡ Some x
get_last [] x = refl
get_last (y ∷ xs) x = get_last xs x

-- the ids whose places are so many have what they had
abbrev pub AreSpread : List Standing → List Standing → ℕ → ℕ → ℕ → Type 0
AreSpread near wider end bits places = (id : ℕ) → id % 2 ^ bits < places → is_recent (2 ^ bits) end id ≡ true
    → slot_at (slice_get wider (id % 2 ^ bits)) ≡ slot_near end near id

module _ (near wider : List Standing) (end bits : ℕ) where
  -- one more place
  pub spread_more : (place : ℕ) (n : Standing) → length wider ≡ place → AreSpread near wider end bits place
      → ((id : ℕ) → id % 2 ^ bits ≡ place → is_recent (2 ^ bits) end id ≡ true → slot_at (Some n) ≡ slot_near end near id)
      → AreSpread near (wider ++ n ∷ []) end bits (place + 1)
  spread_more place n many before here id within recent = elim (leb_tells place (id % 2 ^ bits)) [
    | inl e ↦ (let at : id % 2 ^ bits ≡ place = omega (arith, e.1, within) in
        ap (λ (p : ℕ). slot_at (slice_get (wider ++ n ∷ []) p)) (at ∙ sym many)
        ∙ ap slot_at (get_last wider n) ∙ here id at recent)
    | inr e ↦ (let inside : id % 2 ^ bits < length wider = omega (arith, e.1, many) in
        ap slot_at (get_left wider (n ∷ []) (id % 2 ^ bits) inside) ∙ before id e.1 recent)
  ]

  -- all places
  pub spread_all : length wider ≡ 2 ^ bits → (0 < length near → length near * 2 ≡ 2 ^ bits)
      → AreSpread near wider end bits (2 ^ bits) → (id : ℕ) → slot_near end wider id ≡ slot_near end near id
  spread_all many half named id = elim (recent_tells (2 ^ bits) end id) [
    | inl r ↦ (near_recent wider end id (2 ^ bits) many r.0
        ∙ named id (mod_below id (2 ^ bits) (pow_pos bits)) r.0)
    | inr r ↦ (near_past wider end id (2 ^ bits) many r.0 ∙ elim (recent_tells (length near) end id) [
      | inl o ↦ absurd (let x = r.1 o.1.0 in let y = half (omega (arith, o.1)) in omega (arith, x, y, o.1))
      | inr o ↦ sym (near_past near end id (length near) refl o.0)
    ])
  ]
