-- Nodes of an arena: what the calls leave of a block.
use Rattle.std.proofs.Common.{◌≡◌, ◌≢◌, ℕ, ◌+◌, ◌<◌, List, [], ◌∷◌, Option, Some, None, is_some, cond, IsSome, length, get_or, set, refl, sym, ap, subst, ◌∙◌, arith, ◌⊎◌, inl, inr, length-set, replicate, rules}
use Rattle.std.proofs.lemmas.List.{get_or-set_same, get_or-set_other}
use Rattle.std.proofs.lemmas.List.Sums.{sum_by-cons}
use Rattle.foyer_policy.specs.declared.lists.arena.Links.{Links}
use Rattle.foyer_policy.specs.declared.lists.arena.Arena.{Arena}
use Rattle.foyer_policy.specs.declared.lists.block.Nodes.{Nodes}
use Rattle.foyer_policy.specs.BlockLends.{with_values}
use Rattle.foyer_policy.specs.Lists.{drop_place}
use Rattle.foyer_policy.specs.Nodes.{Node, node_with}
use Rattle.foyer_policy.specs.Free.{free_nodes, free_from, free_links, used_of, leads_back, rewritten, put_free, joined, first_beside, HasNeighbours}
use Rattle.foyer_policy.specs.Arena.{get, IsArena, node_of, node_at, links_of, relinked, IsMarked, IsLinkedBlock}
use Rattle.foyer_policy.specs.Chain.{after_set, before_set}
use Rattle.foyer_policy.proofs.ListsLemmas.{same_or_not}
use Rattle.foyer_policy.proofs.FreeLemmas.{filled_within, used-set, length-rewritten, free_if_filled, marked-rewritten, marked-back, has_neighbours, marked-left, length-left, node-left, AreFree-again, AreFree-same, AreFree-put, AreFree-taken}

module _ {T : Type 0} (n : ℕ) where
  pub marked-set : (ls : List (Option Links)) (vs : List (Option T)) (len p : ℕ) (l : Option Links) (o : Option T) →
      length ls ≡ len → length vs ≡ len
      → ((q : ℕ) → q < len → IsMarked n (get_or ls q None) (get_or vs q None)) → p < len → IsMarked n l o
      → (q : ℕ) → q < len → IsMarked n (get_or (set ls p l) q None) (get_or (set vs p o) q None)
  marked-set ls vs len p l o ll lv old lt new q less = go (same_or_not q p) where
    go : (q ≡ p) ⊎ (q ≢ p) → IsMarked n (get_or (set ls p l) q None) (get_or (set vs p o) q None)
    go (inl e) = rw (e, get_or-set_same ls p l None (omega arith), get_or-set_same vs p o None (omega arith)) new
    go (inr ne) = rw (get_or-set_other ls p q l None ne, get_or-set_other vs p q o None ne) (old q less)

  pub block-none : (ls : List (Option Links)) (vs : List (Option T)) → ls ≡ [] → vs ≡ [] → IsLinkedBlock n ls vs 0 None
  block-none ls vs e h = rw (e, h) record {
    links_len = refl;
    values_len = refl;
    small = omega arith;
    marked = λ q less. absurd (omega (arith, less));
    vacant = record {
      first = refl;
      chain = tt;
      once = tt;
      every = λ q le lt none. absurd (omega (arith, lt));
      count = refl;
    };
  }

  -- what the calls leave of a block
  module _ (ls : List (Option Links)) (vs : List (Option T)) (len : ℕ) (free : Option ℕ)
      (b : IsLinkedBlock n ls vs len free) where
    module _ (p : ℕ) (v : T) (h : get_or vs p None ≡ Some v) where
      filled : p < length vs
      filled = filled_within vs p v h

      in_block : p < len
      in_block = omega (arith, filled, b.values_len)

      -- the links, once the first free node leads back to it
      abbrev behind : List (Option Links)
      behind = rewritten (leads_back (Some p)) free ls

      long : length behind ≡ len
      long = length-rewritten (leads_back (Some p)) free ls ∙ b.links_len

      unlisted : free_nodes ls vs p ≡ None
      unlisted = free_if_filled (get_or ls p None) (get_or vs p None) v h

      fewer : used_of (set vs p None) + 1 ≡ used_of vs
      fewer = (let s = used-set vs p None filled in let t = rw h at s in omega (arith, t))

      pub block-freed : IsLinkedBlock n (put_free n p free ls) (set vs p None) len (Some p)
      block-freed = record {
        links_len = length-set behind p (Some (free_links n free)) ∙ long;
        values_len = length-set vs p None ∙ b.values_len;
        small = b.small;
        marked = marked-set behind vs len p (Some (free_links n free)) None long b.values_len
            (λ q less. marked-rewritten n (leads_back (Some p)) free ls vs q refl (marked-back n (Some p))
            (b.marked q less)) in_block refl;
        vacant = AreFree-again n (put_free n p free ls) (set vs p None) (Some p) 0 len
            ((p, tt) ∷ free_from ls vs len free) (length-set vs p None ∙ b.values_len)
            (AreFree-put n ls vs (set vs p None) free p 0 0 (free_from ls vs len free) b.vacant
            (omega (arith, in_block, b.links_len)) unlisted (get_or-set_same vs p None None filled)
            (λ q ne. get_or-set_other vs p q None None ne) (λ q le ne. le) (length-set vs p None)
            (omega (arith, fewer)));
      }

    module _ (p : ℕ) (lt : p < len) (none : get_or vs p None ≡ None) where
      abbrev fs : List (ℕ × Unit {0})
      fs = free_from ls vs len free

      within : p < length vs
      within = omega (arith, lt, b.values_len)

      pub block-neighbours : HasNeighbours ls (get_or ls p None)
      block-neighbours = has_neighbours n ls vs free p fs b.vacant within none

      pub block-taken : (l : Links) (v : T) → l.list < n
          → IsLinkedBlock n (set (joined (get_or ls p None) ls) p (Some l)) (set vs p (Some v)) len
          (first_beside (get_or ls p None) free)
      block-taken l v small = record {
        links_len = length-set (joined (get_or ls p None) ls) p (Some l) ∙ long;
        values_len = length-set vs p (Some v) ∙ b.values_len;
        small = b.small;
        marked = marked-set (joined (get_or ls p None) ls) vs len p (Some l) (Some v) long b.values_len
            (λ q less. marked-left n ls vs free p fs b.vacant within none q (b.marked q less)) lt small;
        vacant = AreFree-again n (set (joined (get_or ls p None) ls) p (Some l)) (set vs p (Some v))
            (first_beside (get_or ls p None) free) 0 len (drop_place p fs) (length-set vs p (Some v) ∙ b.values_len)
            (AreFree-taken n ls vs free p fs b.vacant within none l v);
      } where
        long : length (joined (get_or ls p None) ls) ≡ len
        long = length-left n ls vs free p fs b.vacant within none ∙ b.links_len

      pub node-beside : (q : ℕ) → node_at (joined (get_or ls p None) ls) vs q ≡ node_at ls vs q
      node-beside = node-left n ls vs free p fs b.vacant within none

    pub block-relinked : (p : ℕ) (l : Links) (v : T) → get_or vs p None ≡ Some v → l.list < n
        → IsLinkedBlock n (set ls p (Some l)) vs len free
    block-relinked p l v h small = record {
      links_len = length-set ls p (Some l) ∙ b.links_len;
      values_len = b.values_len;
      small = b.small;
      marked = λ q less. marks q less (same_or_not q p);
      vacant = AreFree-again n (set ls p (Some l)) vs free 0 len (free_from ls vs len free) b.values_len
          (AreFree-same n ls (set ls p (Some l)) vs vs free 0 0 (free_from ls vs len free) b.vacant
          (λ q. same q (same_or_not q p)) (λ q le less none. (le, none)) refl refl);
    } where
      lt : p < length ls
      lt = omega (arith, filled_within vs p v h, b.values_len, b.links_len)

      marks : (q : ℕ) → q < len → (q ≡ p) ⊎ (q ≢ p) → IsMarked n (get_or (set ls p (Some l)) q None) (get_or vs q None)
      marks q less (inl e) = rw (e, get_or-set_same ls p (Some l) None lt, h) small
      marks q less (inr ne) = rw (get_or-set_other ls p q (Some l) None ne) (b.marked q less)

      same : (q : ℕ) → (q ≡ p) ⊎ (q ≢ p) → free_nodes (set ls p (Some l)) vs q ≡ free_nodes ls vs q
      same q (inl e) = rw e (free_if_filled (get_or (set ls p (Some l)) p None) (get_or vs p None) v h
          ∙ sym (free_if_filled (get_or ls p None) (get_or vs p None) v h))
      same q (inr ne) = rw (get_or-set_other ls p q (Some l) None ne) refl

    pub block-written : (p : ℕ) (v w : T) → get_or vs p None ≡ Some v → IsLinkedBlock n ls (set vs p (Some w)) len free
    block-written p v w h = record {
      links_len = b.links_len;
      values_len = length-set vs p (Some w) ∙ b.values_len;
      small = b.small;
      marked = λ q less. marks q less (same_or_not q p);
      vacant = AreFree-again n ls (set vs p (Some w)) free 0 len (free_from ls vs len free)
          (length-set vs p (Some w) ∙ b.values_len)
          (AreFree-same n ls ls vs (set vs p (Some w)) free 0 0 (free_from ls vs len free) b.vacant
          (λ q. same q (same_or_not q p)) (λ q le less none. (le, vacant q none (same_or_not q p)))
          (length-set vs p (Some w))
          (let s = used-set vs p (Some w) within in let t = rw h at s in omega (arith, t)));
    } where
      within : p < length vs
      within = filled_within vs p v h

      now : get_or (set vs p (Some w)) p None ≡ Some w
      now = get_or-set_same vs p (Some w) None within

      kind : (l : Option Links) (x y : T) → IsMarked n l (Some x) → IsMarked n l (Some y)
      kind None x y m = m
      kind (Some l) x y m = m

      marks : (q : ℕ) → q < len → (q ≡ p) ⊎ (q ≢ p) → IsMarked n (get_or ls q None) (get_or (set vs p (Some w)) q None)
      marks q less (inl e) =
          let m = b.marked q less in let m' = rw (e, h) at m in rw (e, now) (kind (get_or ls p None) v w m')
      marks q less (inr ne) = rw (get_or-set_other vs p q (Some w) None ne) (b.marked q less)

      same : (q : ℕ) → (q ≡ p) ⊎ (q ≢ p) → free_nodes ls (set vs p (Some w)) q ≡ free_nodes ls vs q
      same q (inl e) = rw e (free_if_filled (get_or ls p None) (get_or (set vs p (Some w)) p None) w now
          ∙ sym (free_if_filled (get_or ls p None) (get_or vs p None) v h))
      same q (inr ne) = rw (get_or-set_other vs p q (Some w) None ne) refl

      vacant : (q : ℕ) → get_or (set vs p (Some w)) q None ≡ None → (q ≡ p) ⊎ (q ≢ p) → get_or vs q None ≡ None
      vacant q none (inl e) =
          let none' : get_or (set vs p (Some w)) p None ≡ None =
          subst (λ (k : ℕ). get_or (set vs p (Some w)) k None ≡ None) e none in
          absurd (let y : Some w ≡ None = sym now ∙ none' in cc)
      vacant q none (inr ne) = sym (get_or-set_other vs p q (Some w) None ne) ∙ none

-- a node has links and a value
pub parts_of : {T : Type 0} (l : Option Links) (o : Option T) (node : Node T) → node_of l o ≡ Some node →
    (l ≡ Some (record { list = node.list; before = node.before; after = node.after })) × (o ≡ Some node.value)
parts_of None o node e = absurd cc
parts_of (Some l) None node e = absurd cc
parts_of (Some l) (Some v) node e = let same : node_with l v ≡ node = cc in
    (ap (λ m. Some (record { list = m.list; before = m.before; after = m.after })) same, ap (λ m. Some m.value) same)

pub some_node : {X : Type 0} (o : Option X) → IsSome o → (x : X) × (o ≡ Some x)
some_node None h = absurd (search rules)
some_node (Some x) h = (x, refl)

-- the node of such links
pub node_of_links : {T : Type 0} (o : Option (Node T)) (l : Links) → links_of o ≡ Some l → (v : T)
    × (o ≡ Some (node_with l v))
node_of_links None l e = absurd cc
node_of_links (Some node) l e = (
  node.value,
  (let same : record { list = node.list; before = node.before; after = node.after } ≡ l = cc in
      ap (λ m. Some (node_with m node.value)) same),
)

pub relinked-after : {T : Type 0} (o : Option (Node T)) (l : Links) (to : Option ℕ) → links_of o ≡ Some l →
    relinked (record { list = l.list; before = l.before; after = to }) o ≡ after_set to o
relinked-after None l to e = refl
relinked-after (Some node) l to e = let same : record { list = node.list; before = node.before; after = node.after }
    ≡ l = cc in ap (λ m. Some (node_with (record { list = m.list; before = m.before; after = to }) node.value))
    (sym same)

pub relinked-before : {T : Type 0} (o : Option (Node T)) (l : Links) (to : Option ℕ) → links_of o ≡ Some l →
    relinked (record { list = l.list; before = to; after = l.after }) o ≡ before_set to o
relinked-before None l to e = refl
relinked-before (Some node) l to e = let same : record { list = node.list; before = node.before; after = node.after }
    ≡ l = cc in ap (λ m. Some (node_with (record { list = m.list; before = to; after = m.after }) node.value))
    (sym same)

vacant_if_none : {T : Type 0} (n : ℕ) (l : Option Links) (o : Option T) → IsMarked n l o → node_of l o ≡ None → o ≡ None
vacant_if_none n None o m e = absurd m
vacant_if_none n (Some l) None m e = refl
vacant_if_none n (Some l) (Some v) m e = absurd cc

-- what is no node with a value, but in the block, is free
pub arena-vacant : {T : Type 0} {n : ℕ} (a : Arena T n) (p : ℕ) → IsArena a → p < a.len → get a p ≡ None →
    get_or a.nodes.values p None ≡ None
arena-vacant {T} {n} a p h lt e = vacant_if_none n (get_or a.nodes.links p None) (get_or a.nodes.values p None)
    (h.nodes.marked p lt) e

-- a node with a value is in a list, and lies in the block
pub arena-node : {T : Type 0} {n : ℕ} (a : Arena T n) (p : ℕ) (node : Node T) → IsArena a → get a p ≡ Some node →
    (node.list < n) × (p < a.len)
arena-node {T} {n} a p node h e =
    let parts = parts_of (get_or a.nodes.links p None) (get_or a.nodes.values p None) node e in
    let lt : p < a.len = omega (arith, filled_within a.nodes.links p _ parts.0, h.nodes.links_len) in
    let mark : IsMarked n (get_or a.nodes.links p None) (get_or a.nodes.values p None) = h.nodes.marked p lt in
    let m = rw (parts.0, parts.1) at mark in (m, lt)

-- the arena with other nodes in its block
pub IsArena-with : {T : Type 0} {n : ℕ} (a : Arena T n) (ns : Nodes Links T) (used : ℕ) (free : Option ℕ) → IsArena a
    → ns.at ≡ a.nodes.at → IsLinkedBlock n ns.links ns.values a.len free → used_of ns.values ≡ used
    → IsArena {T = T} {n = n}
    (record { base = a.base; len = a.len; used = used; free = free; nodes = ns; deed = a.deed; alloc = a.alloc })
IsArena-with a ns used free h at block count =
    record { block = (at ∙ h.block.0, h.block.1, h.block.2, h.block.3); nodes = block; used = count }

-- no node has a value
pub none_used : {X : Type 0} (vs : List (Option X)) → used_of vs ≡ 0 → vs ≡ replicate (length vs) None
none_used [] e = refl
none_used (None ∷ vs) e = ap (λ r. None ∷ r)
    (none_used vs (omega (arith, e, sum_by-cons (λ o. cond (is_some o) 1 0) None vs)))
none_used (Some x ∷ vs) e = absurd (omega (arith, e, sum_by-cons (λ o. cond (is_some o) 1 0) (Some x) vs))

module _ {T : Type 0} {n : ℕ} (a : Arena T n) (p : ℕ) (v w : T) (node : Node T) where
  -- the arena with another value in a node
  abbrev pub written : Arena T n
  written =
      record {
        base = a.base;
        len = a.len;
        used = a.used;
        free = a.free;
        nodes =
            with_values a.nodes (set a.nodes.values p (Some w));
        deed = a.deed;
        alloc = a.alloc;
      }

  pub IsArena-written : IsArena a → get_or a.nodes.values p None ≡ Some v → IsArena written
  IsArena-written h here = record {
    block = h.block;
    nodes = block-written n a.nodes.links a.nodes.values a.len a.free h.nodes p v w here;
    used = (let counted = used-set a.nodes.values p (Some w) (filled_within a.nodes.values p v here) in let was =
        rw here at counted in omega (arith, was, h.used));
  }

  pub get-written_same : get a p ≡ Some node → get_or a.nodes.values p None ≡ Some v → get written p
      ≡ Some (record { value = w; list = node.list; before = node.before; after = node.after })
  get-written_same e here =
      let parts = parts_of (get_or a.nodes.links p None) (get_or a.nodes.values p None) node e in
      rw (get_or-set_same a.nodes.values p (Some w) None (filled_within a.nodes.values p v here), parts.0) refl

  pub get-written_other : (q : ℕ) → q ≢ p → get written q ≡ get a q
  get-written_other q ne = rw (get_or-set_other a.nodes.values p q (Some w) None ne) refl
