-- Slots of a lane table and the lateral group: a slot of a lane of the group leads to one, and marks that hold a lane and are closed under
-- slots hold its group. Assumes nothing.
use Rattle.std.specs.Prelude.{Option, None, Some}
use mathlib.Core.Path.{◌≡◌, refl, sym, ap, ◌∙◌}
use Prim.Native.Nat.{ℕ, suc, ◌+◌, ◌*◌, ◌<◌, ◌≤◌}
use native.Mathlib.Omega.{arith}
use mathlib.Core.Bool.{Bool, true, false, not, ◌&&◌, ◌||◌, cond, true≢false}
use mathlib.Core.List.{List, [], map}
use mathlib.Core.Logic.{◌⊎◌, inl, inr, ⊎_elim}
use lib.Dec.{eqb}
use lib.Ieee.{Float}
use lib.ListN.{length, get_or, drop}
use lib.Seq.{drop-drop, get_or-drop}
use borrow.Author.Tests.{eq-eqb, ne_eqb, eqb-true}
use Rattle.lists.specs.Rows.{row_with}
use Rattle.lists.specs.Select.{keep, any, has}
use Rattle.lists.proofs.Booleans.{and_both, and-fst, and-snd, or_right, or_left}
use Rattle.lists.proofs.Rows.{length-reads, get_d_reads, length-keys, key-at, row-at}
use Rattle.entities.specs.Records.{Lane, Map}
use Rattle.entities.specs.Types.{same, opposing}
use Rattle.rules.specs.Map.{lane_ids, names, beside, lateral_group}
use Rattle.tables.specs.View.{Tables, word, slot_at, rows, lane_of, view}
use Rattle.row_tests.specs.Returned.{searchable, lane_at}
use Rattle.row_tests.proofs.Lanes.{found_within, word_at, id-at, lanes-ascend}
use Rattle.row_tests.proofs.Relations.{keys-reads}
use Rattle.group.specs.Walk.{lane_map, ids_of, group_at, slot_row}
use Rattle.group.proofs.Laws.{or_elim, any_at, any_somewhere, any-reads, has-at, found-key, found_none}
use Rattle.group.proofs.Closed.{group-least, group-start, group-part, group-next, group-same}

-- ---- a map's lanes and a table's rows

lane-key : (c : List Float) (r : List ℕ) → (lane_of c r).id ≡ get_or r 0 0
unfolding lane_of
lane-key c r = refl

ids-rows : (c : List Float) (t : List ℕ) → map (λ (l : Lane). l.id) (rows 52 (lane_of c) t) ≡ ids_of t
unfolding rows
ids-rows c t = keys-reads 52 (lane_of c) (λ l. l.id) (lane-key c) (word 0 t) (drop 1 t)

near-rows : (c d : List Float) (t ids : List ℕ) (y : ℕ)
    → any (λ l. has l.id ids && beside l y) (rows 52 (lane_of c) t) ≡ any (λ l. has l.id ids && beside l y) (rows 52 (lane_of d) t)
unfolding rows lane_of
near-rows c d t ids y =
    any-reads 52 (lane_of c) (λ l. has l.id ids && beside l y) (word 0 t) (drop 1 t)
    ∙ sym (any-reads 52 (lane_of d) (λ l. has l.id ids && beside l y) (word 0 t) (drop 1 t))

-- a map whose lanes are a table's has the groups that the table has
pub group-of-rows : (m : Map) (c : List Float) (t : List ℕ) → m.lanes ≡ rows 52 (lane_of c) t → (i : ℕ) → lateral_group m i ≡ lateral_group (lane_map t) i
unfolding lane_map
group-of-rows m c t e i =
    group-same m (lane_map t)
    (ap (map (λ (l : Lane). l.id)) e ∙ ids-rows c t ∙ sym (ids-rows [] t))
    (λ ids y. ap (any (λ l. has l.id ids && beside l y)) e ∙ near-rows c [] t ids y)
    i

pub group-of-view : (t : Tables) (i : ℕ) → lateral_group (view t) i ≡ lateral_group (lane_map t.lanes) i
unfolding view
group-of-view t i = group-of-rows (view t) t.coordinates t.lanes refl i

-- ---- slots by words

abbrev slot_names : ℕ → List ℕ → ℕ → Bool
slot_names k w y = not (eqb (word k w) 0) && eqb (word (suc k) w) y

names-slot : (k : ℕ) (w : List ℕ) (y : ℕ) → names (slot_at k w) y ≡ slot_names k w y
names-slot k w y = go (eqb (word k w) 0) (eqb (word k w) 1) (word (suc k) w)
  where
    go : (a b : Bool) (v : ℕ) → names (cond a None (cond b (Some (same v)) (Some (opposing v)))) y ≡ (not a && eqb v y)
    go true b v = refl
    go false true v = refl
    go false false v = refl

beside-slots : (c : List Float) (w : List ℕ) (y : ℕ) → beside (lane_of c w) y ≡ (slot_names 14 w y || slot_names 16 w y)
unfolding lane_of
beside-slots c w y = rw (names-slot 14 w y, names-slot 16 w y)

-- the mark of a row that was found
abbrev mark_of : List Bool → Option ℕ → Bool
mark_of s None = false
mark_of s (Some r) = get_or s r false

-- the slots of a row lead to marked rows
abbrev pub Shut : List ℕ → List Bool → ℕ → Type 0
Shut t s r = (k x : ℕ) → (k ≡ 14) ⊎ (k ≡ 16) → slot_row t k r ≡ Some x → get_or s x false ≡ true

-- the slot at k of row j as it is read: empty, or its lane is searched for
module _ (t : List ℕ) (k j : ℕ) (h : k + 2 ≤ 52) where
  pub slot-empty : get_or t (1 + j * 52 + k) 0 ≡ 0 → None ≡ slot_row t k j
  unfolding slot_row
  slot-empty e =
      let m : word k (lane_at t j) ≡ 0 = sym (word_at t j k (omega arith)) ∙ e in
      rw (eq-eqb (word k (lane_at t j)) 0 m)

  pub slot-search : (get_or t (1 + j * 52 + k) 0 ≡ 0 → ⊥) → (r : Option ℕ) → row_with (get_or t (1 + j * 52 + k + 1) 0) (ids_of t) ≡ r → r ≡ slot_row t k j
  unfolding slot_row
  slot-search n r e =
      let m : word k (lane_at t j) ≡ 0 → ⊥ = (λ z. n (word_at t j k (omega arith) ∙ z)) in
      let q : 1 + j * 52 + k + 1 ≡ 1 + j * 52 + suc k = omega arith in
      let v : get_or t (1 + j * 52 + k + 1) 0 ≡ word (suc k) (lane_at t j) = ap (λ (x : ℕ). get_or t x 0) q ∙ word_at t j (suc k) (omega arith) in
      rw (ne_eqb (word k (lane_at t j)) 0 m, ← v) (sym e)

-- ---- the table's groups

module _ (t : List ℕ) (h : searchable t ≡ true) where
  ids-length : length (ids_of t) ≡ word 0 t
  ids-length = length-keys 52 (word 0 t) (drop 1 t)

  pub id-of : (j : ℕ) → j < word 0 t → get_or (ids_of t) j 0 ≡ word 0 (lane_at t j)
  id-of j l = key-at 52 (word 0 t) j (drop 1 t) (omega arith) l ∙ get_or-drop 1 t (j * 52) 0 ∙ id-at t j

  row_of : (j : ℕ) → j < word 0 t → row_with (word 0 (lane_at t j)) (ids_of t) ≡ Some j
  row_of j l = row-at (word 0 (lane_at t j)) j (ids_of t) (lanes-ascend t h) (omega (arith, ids-length)) (id-of j l)

  -- the row that a search for an id finds holds it, so that a map's group of an id is that of the row found
  pub found-id : (x j : ℕ) → row_with x (ids_of t) ≡ Some j → word 0 (lane_at t j) ≡ x
  found-id x j e = sym (id-of j (omega (arith, found_within x (ids_of t) j e, ids-length))) ∙ found-key x (ids_of t) j e

  pub group-of-found : (m : Map) (c : List Float) → m.lanes ≡ rows 52 (lane_of c) t → (x j : ℕ) → row_with x (ids_of t) ≡ Some j → group_at t j ≡ lateral_group m x
  unfolding group_at
  group-of-found m c q x j e = ap (lateral_group (lane_map t)) (found-id x j e) ∙ sym (group-of-rows m c t q x)

  has-id : (j : ℕ) → j < word 0 t → has (word 0 (lane_at t j)) (ids_of t) ≡ true
  has-id j l = has-at (ids_of t) j (word 0 (lane_at t j)) (omega (arith, ids-length)) (id-of j l)

  map-ids : lane_ids (lane_map t) ≡ ids_of t
  unfolding lane_map
  map-ids = ids-rows [] t

  -- what a slot leads to is one of the rows, and the slot names its id
  pub slot-leads : (k j x : ℕ) → slot_row t k j ≡ Some x → (x < word 0 t) × (slot_names k (lane_at t j) (word 0 (lane_at t x)) ≡ true)
  unfolding slot_row
  slot-leads k j x e = go (eqb (word k (lane_at t j)) 0) refl e
    where
      go : (b : Bool) → eqb (word k (lane_at t j)) 0 ≡ b → cond b None (row_with (word (suc k) (lane_at t j)) (ids_of t)) ≡ Some x
          → (x < word 0 t) × (slot_names k (lane_at t j) (word 0 (lane_at t x)) ≡ true)
      go true q f = let z : ◌≡◌ {A = ℕ} 0 1 = cc in absurd (omega arith)
      go false q f =
          let v = word (suc k) (lane_at t j) in
          let l : x < word 0 t = omega (arith, found_within v (ids_of t) x f, ids-length) in
          let g : v ≡ word 0 (lane_at t x) = sym (found-key v (ids_of t) x f) ∙ id-of x l in
          (l, rw (q, eq-eqb v (word 0 (lane_at t x)) g))

  -- a present lane that a slot names is what it leads to
  slot-finds : (C : Type 0) (k j y : ℕ) → slot_names k (lane_at t j) y ≡ true → has y (ids_of t) ≡ true
      → ((x : ℕ) → x < word 0 t → slot_row t k j ≡ Some x → word 0 (lane_at t x) ≡ y → C) → C
  unfolding slot_row
  slot-finds C k j y e p f = go (eqb (word k (lane_at t j)) 0) refl (row_with (word (suc k) (lane_at t j)) (ids_of t)) refl
    where
      go : (b : Bool) → eqb (word k (lane_at t j)) 0 ≡ b → (r : Option ℕ) → row_with (word (suc k) (lane_at t j)) (ids_of t) ≡ r → C
      go true q r s = absurd (true≢false (sym e ∙ rw q))
      go false q None s =
          let g : word (suc k) (lane_at t j) ≡ y = eqb-true (word (suc k) (lane_at t j)) y (rw q at e) in
          absurd (true≢false (sym p ∙ found_none y (ids_of t) (rw g at s)))
      go false q (Some x) s =
          let v = word (suc k) (lane_at t j) in
          let g : v ≡ y = eqb-true v y (rw q at e) in
          let l : x < word 0 t = omega (arith, found_within v (ids_of t) x s, ids-length) in
          f x l (rw q s) (sym (id-of x l) ∙ found-key v (ids_of t) x s ∙ g)

  -- row j among the lanes
  lane_in : (j : ℕ) → j < word 0 t → (d : Lane) → get_or (rows 52 (lane_of []) t) j d ≡ lane_of [] (lane_at t j)
  unfolding rows
  lane_in j l d = get_d_reads 52 (lane_of []) (word 0 t) j (drop 1 t) d l ∙ rw drop-drop

  lanes-length : length (rows 52 (lane_of []) t) ≡ word 0 t
  unfolding rows
  lanes-length = length-reads 52 (lane_of []) (word 0 t) (drop 1 t)

  -- a row that passes and has a lane beside it, among the lanes
  near-row : (P : ℕ → Bool) (j y : ℕ) → j < word 0 t → P (word 0 (lane_at t j)) ≡ true → beside (lane_of [] (lane_at t j)) y ≡ true
      → any (λ l. P l.id && beside l y) (lane_map t).lanes ≡ true
  unfolding lane_map
  near-row P j y l p b =
      let f : Lane → Bool = λ l. P l.id && beside l y in
      let w = lane_at t j in
      let q : P (lane_of [] w).id ≡ true = ap P (lane-key [] w) ∙ p in
      any_at f (rows 52 (lane_of []) t) j (lane_of [] []) (omega (arith, lanes-length)) (ap f (lane_in j l (lane_of [] [])) ∙ and_both (P (lane_of [] w).id) (beside (lane_of [] w) y) q b)

  near-row-of : (C : Type 0) (P : ℕ → Bool) (y : ℕ) → any (λ l. P l.id && beside l y) (lane_map t).lanes ≡ true
      → ((j : ℕ) → j < word 0 t → P (word 0 (lane_at t j)) ≡ true → beside (lane_of [] (lane_at t j)) y ≡ true → C) → C
  unfolding lane_map
  near-row-of C P y a g =
      let f : Lane → Bool = λ l. P l.id && beside l y in
      any_somewhere f C (rows 52 (lane_of []) t) (lane_of [] []) a
      (λ j k e.
      let l : j < word 0 t = omega (arith, lanes-length) in
      let w = lane_at t j in
      let q : (P (lane_of [] w).id && beside (lane_of [] w) y) ≡ true = ap f (sym (lane_in j l (lane_of [] []))) ∙ e in
      g j l (ap P (sym (lane-key [] w)) ∙ and-fst (P (lane_of [] w).id) (beside (lane_of [] w) y) q) (and-snd (P (lane_of [] w).id) (beside (lane_of [] w) y) q))

  mark-of-row : (s : List Bool) (r : ℕ) → r < word 0 t → mark_of s (row_with (word 0 (lane_at t r)) (ids_of t)) ≡ get_or s r false
  mark-of-row s r l = ap (mark_of s) (row_of r l)

  module _ (i : ℕ) (l : i < word 0 t) where
    present : has (word 0 (lane_at t i)) (lane_ids (lane_map t)) ≡ true
    present = rw map-ids (has-id i l)

    pub group-has-own : has (word 0 (lane_at t i)) (group_at t i) ≡ true
    unfolding group_at
    group-has-own = group-start (lane_map t) (word 0 (lane_at t i)) present

    pub group_in_order : group_at t i ≡ keep (λ y. has y (group_at t i)) (ids_of t)
    unfolding group_at
    group_in_order =
        group-part (lane_map t) (word 0 (lane_at t i)) present ∙ ap (keep (λ y. has y (lateral_group (lane_map t) (word 0 (lane_at t i))))) map-ids

    -- a slot of a lane of the group leads into the group
    pub group-leads : (k j x : ℕ) → (k ≡ 14) ⊎ (k ≡ 16) → j < word 0 t → has (word 0 (lane_at t j)) (group_at t i) ≡ true → slot_row t k j ≡ Some x
        → (x < word 0 t) × (has (word 0 (lane_at t x)) (group_at t i) ≡ true)
    unfolding group_at
    group-leads k j x c b g e =
        let a = slot-leads k j x e in
        let y = word 0 (lane_at t x) in
        let w = lane_at t j in
        let s : beside (lane_of [] w) y ≡ true =
        beside-slots [] w y
        ∙ ⊎_elim (λ q. or_left (slot_names 14 w y) (slot_names 16 w y) (rw q at a.1)) (λ q. or_right (slot_names 14 w y) (slot_names 16 w y) (rw q at a.1)) c in
        (a.0, group-next (lane_map t) (word 0 (lane_at t i)) present y (rw map-ids (has-id x a.0)) (near-row (λ z. has z (lateral_group (lane_map t) (word 0 (lane_at t i)))) j y b g s))

    -- marks that hold the lane and are closed under slots hold its group
    pub marks-hold : (s : List Bool) → get_or s i false ≡ true → ((r : ℕ) → r < word 0 t → get_or s r false ≡ true → Shut t s r)
        → (r : ℕ) → r < word 0 t → has (word 0 (lane_at t r)) (group_at t i) ≡ true → get_or s r false ≡ true
    unfolding group_at
    marks-hold s own shut r b g =
        let P : ℕ → Bool = λ y. mark_of s (row_with y (ids_of t)) in
        sym (mark-of-row s r b)
        ∙ group-least (lane_map t) P
        (λ y p a.
        near-row-of (P y ≡ true) P y a
        (λ j c q e.
        let m : Shut t s j = shut j c (sym (mark-of-row s j c) ∙ q) in
        let leads : (k : ℕ) → (k ≡ 14) ⊎ (k ≡ 16) → slot_names k (lane_at t j) y ≡ true → P y ≡ true =
        (λ k d n. slot-finds (P y ≡ true) k j y n (rw (← map-ids) p) (λ x f u v. ap P (sym v) ∙ mark-of-row s x f ∙ m k x d u)) in
        or_elim (slot_names 14 (lane_at t j) y) (slot_names 16 (lane_at t j) y) (P y) (leads 14 (inl refl)) (leads 16 (inr refl)) (sym (beside-slots [] (lane_at t j) y) ∙ e)))
        (word 0 (lane_at t i)) (mark-of-row s i l ∙ own) (word 0 (lane_at t r)) g
