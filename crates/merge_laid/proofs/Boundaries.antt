-- The table of boundaries that a merge leaves is the merged map's boundaries written over it, each with where its line starts. Assumes nothing.
use Rattle.std.specs.Prelude.{Option, None, Some}
use mathlib.Core.Path.{◌≡◌, refl, sym, ap, ◌∙◌}
use Prim.Native.Nat.{ℕ, ◌+◌, ◌*◌, ◌≤◌}
use native.Mathlib.Omega.{arith}
use mathlib.Core.Bool.{Bool, true, false, not, cond}
use mathlib.Core.List.{List, [], ◌∷◌, ◌++◌, map, map-append, reverse}
use lib.Dec.{eqb}
use lib.Ieee.{Float}
use lib.ListN.{length, take, drop, length-map, length-drop, length-reverse}
use lib.Seq.{drop-cons}
use Rattle.lists.specs.Every.{all}
use Rattle.lists.specs.Rows.{over, keys}
use Rattle.lists.specs.Select.{keep, find, has}
use Rattle.lists.proofs.Rows.{take-before-over, drop-over, get_d_over-before}
use Rattle.lists.proofs.Select.{all_map, map-twice, map-itself}
use Rattle.entities.specs.declared.BoundaryRef.{BoundaryRef}
use Rattle.entities.specs.Records.{Lane, Boundary, Map}
use Rattle.rules.specs.Map.{boundary}
use Rattle.rules.specs.Merge.{SidePlan, kept, in_place, fresh, plan_ids, plan_joins, plan_line, redrawn, joined_boundary, new_boundary}
use Rattle.tables.specs.View.{word, rows, boundary_of}
use Rattle.apart.proofs.Marks.{counted-facts}
use Rattle.tables.specs.Formed.{span_at, counted, stored}
use Rattle.store.specs.Store.{writes, store_rows}
use Rattle.store.specs.Laid.{boundary_laid}
use Rattle.store.specs.Rows.{on_rows, kept_rows, appended_rows}
use Rattle.store.proofs.Rows.{rows_stay, rows-twice, rows-length, table-agree}
use Rattle.store.proofs.Packing.{every-row, kept-passing, kept-room, kept-length}
use Rattle.store.proofs.Growing.{store-grown, appended-none, appended_then}
use Rattle.store.proofs.LaidRows.{boundary-laid-length}
use Rattle.store.proofs.LaidTables.{rows-any}
use Rattle.laws.proofs.Links.{eqb_swap}
use Rattle.laws.proofs.Merge.{joined-id, new_ones}
use Rattle.laws.proofs.MergePlans.{Planned, drawn, new-one, plan_new, new-ids, both_new, ids-made}
use Rattle.layout.proofs.Standing.{boundary-stands}
use Rattle.lookup.specs.Lookup.{row_at, place_of}
use Rattle.lookup.proofs.Laws.{find_at, find_none}
use Rattle.sound_facts.proofs.Stored.{rows-room}
use Rattle.merge_plan.specs.Deciding as D
use Rattle.merge_draw.specs.Redrawing.{pointed_row, boundary_row, as_given}
use Rattle.merge_draw.proofs.Boundaries.{point-length}
use Rattle.merge_draw.proofs.Drawn.{boundary-redrawn, boundary-new}
use Rattle.merge_redraw.specs.declared.Redrawn.{Redrawn}
use Rattle.merge_laid.proofs.Lanes.{changed-records}
use Rattle.merge_redraw.specs.Relaying.{row_found, pointed_by, added_by, side_pointed, side_added, boundaries_redrawn}

-- ---- general

all_yes : {A : Type 0} (xs : List A) → all (λ x. true) xs ≡ true
unfolding all
all_yes [] = refl
all_yes (x ∷ xs) = all_yes xs

-- one list over another of the same length
over-twice : (w : List ℕ) (k : ℕ) (l m : List ℕ) → length l ≡ length m → k + length m ≤ length w → over (over w k l) k m ≡ over w k m
over-twice w k l m e h =
    let i : k ≤ length w = omega arith in
    let j : k + length l ≤ length w = omega arith in
    let d : drop (k + length m) (over w k l) ≡ drop (k + length m) w = ap (λ n. drop (k + n) (over w k l)) (sym e) ∙ (drop-over w k l j ∙ ap (λ n. drop (k + n) w) e) in
    whole (over w k l) w (take-before-over w k l i) d
  where
    whole : (u v : List ℕ) → take k u ≡ take k v → drop (k + length m) u ≡ drop (k + length m) v → over u k m ≡ over v k m
    whole u v p q = unfold over in ap (λ z. z ++ (m ++ drop (k + length m) u)) p ∙ ap (λ z. take k v ++ (m ++ z)) q

-- ---- rows that point to their lines

-- a side's change of a row
abbrev point_by : SidePlan → ℕ → ℕ → List ℕ → List ℕ
point_by kept b start w = w
point_by (in_place l) b start w = pointed_row b start (length l) w
point_by (fresh l) b start w = w

point-is : (p : SidePlan) (r : BoundaryRef) (start : ℕ) (w : List ℕ) → point_by p r.boundary start w ≡ cond (plan_joins p r (word 0 w)) (over w 2 (start ∷ length (plan_line p r) ∷ [])) w
point-is kept r start w = refl
point-is (in_place l) r start w = ap (λ z. cond z (over w 2 (start ∷ length l ∷ [])) w) (eqb_swap (word 0 w) r.boundary) ∙ ap (λ n. cond (eqb r.boundary (word 0 w)) (over w 2 (start ∷ n ∷ [])) w) (go r.reversed)
  where
    go : (b : Bool) → length l ≡ length (cond b (reverse l) l)
    go true = sym (length-reverse l)
    go false = refl
point-is (fresh l) r start w = refl

point-long : (p : SidePlan) (b start : ℕ) (w : List ℕ) → length w ≡ 5 → length (point_by p b start w) ≡ 5
point-long kept b start w h = h
point-long (in_place l) b start w h = point-length w b start (length l) h
point-long (fresh l) b start w h = h

-- a boundary after a merge, with where its line starts; the right side's line stands where both join it
abbrev pub boundary_after : ℕ → ℕ → Lane → SidePlan → SidePlan → ℕ × Boundary → ℕ × Boundary
boundary_after left right a pl pr r =
    (cond (plan_joins pr a.right r.1.id) right (cond (plan_joins pl a.left r.1.id) left r.0), joined_boundary pl pr a r.1)

module _ (left right : ℕ) (c : List Float) (a : Lane) (pl pr : SidePlan) where
  row-pointed : (w : List ℕ) → length w ≡ 5 → stored c (span_at 2 w) ≡ true
      → boundary_laid w (boundary_after left right a pl pr (word 2 w, boundary_of c w)) ≡ point_by pr a.right.boundary right (point_by pl a.left.boundary left w)
  unfolding boundary_of
  row-pointed w h s =
      go (plan_joins pr a.right (word 0 w)) (plan_joins pl a.left (word 0 w)) refl refl
      ∙ sym (ap (point_by pr a.right.boundary right) (point-is pl a.left left w) ∙ (point-is pr a.right right (once (plan_joins pl a.left (word 0 w))) ∙ ap (λ i. cond (plan_joins pr a.right i) (over (once (plan_joins pl a.left (word 0 w))) 2 (right ∷ length (plan_line pr a.right) ∷ [])) (once (plan_joins pl a.left (word 0 w)))) (own (plan_joins pl a.left (word 0 w)))))
    where
      once : Bool → List ℕ
      once y = cond y (over w 2 (left ∷ length (plan_line pl a.left) ∷ [])) w

      own : (y : Bool) → word 0 (once y) ≡ word 0 w
      own true = get_d_over-before w 2 (left ∷ length (plan_line pl a.left) ∷ []) 0 0 (omega arith) (omega arith)
      own false = refl

      go : (x y : Bool) → plan_joins pr a.right (word 0 w) ≡ x → plan_joins pl a.left (word 0 w) ≡ y
          → boundary_laid w (cond x right (cond y left (word 2 w)), cond x (redrawn (plan_line pr a.right) (boundary_of c w)) (cond y (redrawn (plan_line pl a.left) (boundary_of c w)) (boundary_of c w)))
          ≡ cond x (over (once y) 2 (right ∷ length (plan_line pr a.right) ∷ [])) (once y)
      go true true p q = boundary-redrawn c w h right (plan_line pr a.right) ∙ sym (over-twice w 2 (left ∷ length (plan_line pl a.left) ∷ []) (right ∷ length (plan_line pr a.right) ∷ []) refl (omega arith))
      go true false p q = boundary-redrawn c w h right (plan_line pr a.right)
      go false true p q = boundary-redrawn c w h left (plan_line pl a.left)
      go false false p q = boundary-stands c w h s

-- ---- every row of a table

-- a change that leaves every row
on_none : (s : ℕ) (t : List ℕ) → 1 ≤ length t → word 0 t * s ≤ length (drop 1 t) → on_rows s (λ w. w) t ≡ t
unfolding on_rows
on_none s t held room =
    let e : t ≡ word 0 t ∷ drop 1 t = drop-cons t 0 0 held in
    ap (λ z. word 0 t ∷ z) (rows_stay s (λ r. true) (λ w. w) (λ r l g. refl) (word 0 t) (drop 1 t) room (every-row s (word 0 t) (drop 1 t))) ∙ sym e

-- one change after another
on-twice : (s : ℕ) (t : List ℕ) → word 0 t * s ≤ length (drop 1 t) → (g h : List ℕ → List ℕ) → ((w : List ℕ) → length w ≡ s → length (g w) ≡ s) → on_rows s h (on_rows s g t) ≡ on_rows s (λ w. h (g w)) t
unfolding on_rows
on-twice s t room g h long = ap (λ z. word 0 t ∷ z) (rows-twice s (λ r. true) g h (λ r l e. long r l) (word 0 t) (drop 1 t) room (every-row s (word 0 t) (drop 1 t)))

module _ (t : List ℕ) (held : 1 ≤ length t) (room : word 0 t * 5 ≤ length (drop 1 t)) where
  pointed-once : (p : SidePlan) (b start : ℕ) → pointed_by (D.counted p) b start t ≡ on_rows 5 (point_by p b start) t
  pointed-once kept b start = sym (on_none 5 t held room)
  pointed-once (in_place l) b start = refl
  pointed-once (fresh l) b start = sym (on_none 5 t held room)

  -- what both sides do to the rows
  pointed-both : (pl pr : SidePlan) (bl left br right : ℕ) → pointed_by (D.counted pr) br right (pointed_by (D.counted pl) bl left t) ≡ on_rows 5 (λ w. point_by pr br right (point_by pl bl left w)) t
  pointed-both pl kept bl left br right = pointed-once pl bl left
  pointed-both pl (in_place l) bl left br right =
      ap (on_rows 5 (pointed_row br right (length l))) (pointed-once pl bl left) ∙ on-twice 5 t room (point_by pl bl left) (pointed_row br right (length l)) (point-long pl bl left)
  pointed-both pl (fresh l) bl left br right = pointed-once pl bl left

-- ---- new rows

-- records that are written as they are, whatever lay there
written-given : {R : Type 0} (s : ℕ) (onto : List ℕ → R → List ℕ) (g : R → List ℕ) → ((w : List ℕ) (r : R) → onto w r ≡ g r) → (w : List ℕ) (rs : List R) → writes s onto w rs ≡ writes s as_given w (map g rs)
unfolding writes
written-given s onto g same w [] = refl
written-given s onto g same w (r ∷ rs) = rw (same (take s w) r, written-given s onto g same (drop s w) rs)

appended-given : {R : Type 0} (s : ℕ) (onto : List ℕ → R → List ℕ) (g : R → List ℕ) → ((w : List ℕ) (r : R) → onto w r ≡ g r) → (rs : List R) (t : List ℕ)
    → appended_rows s onto rs t ≡ appended_rows s as_given (map g rs) t
unfolding appended_rows
appended-given s onto g same rs t =
    let n = word 0 t in
    let w = drop 1 t in
    ap (λ z. (n + z) ∷ take (n * s) w ++ writes s onto (drop (n * s) w) rs) (sym (length-map rs g)) ∙ ap (λ z. (n + length (map g rs)) ∷ take (n * s) w ++ z) (written-given s onto g same (drop (n * s) w) rs)

-- what a side does, of a boundary b that it may join or take after
abbrev pub redrawn_by : List ℕ → SidePlan → ℕ → ℕ → ℕ → Redrawn
redrawn_by t p b id start =
    let w = row_found t (place_of 5 t b) in
    record { plan = D.counted p; boundary = b; id = id; kind = word 1 w; attributes = word 4 w; start = start }

-- a side's new boundary, with where its line starts
abbrev pub new_start : Map → SidePlan → ℕ → BoundaryRef → ℕ → List (ℕ × Boundary)
new_start m p id r start = map (λ b. (start, b)) (new_boundary m p id r)

module _ (c : List Float) (m : Map) (t : List ℕ) (eb : m.boundaries ≡ rows 5 (boundary_of c) t) where
  -- the boundary that is found, in words
  found-words : (i : ℕ) (x : Boundary) → boundary m i ≡ Some x → (x.kind ≡ word 1 (row_found t (place_of 5 t i))) × (x.attributes ≡ word 4 (row_found t (place_of 5 t i)))
  unfolding boundary boundary_of
  found-words i x e = go (place_of 5 t i) refl
    where
      there : find (λ b. eqb b.id i) (rows 5 (boundary_of c) t) ≡ Some x
      there = ap (find (λ b. eqb b.id i)) (sym eb) ∙ e

      go : (f : Option ℕ) → place_of 5 t i ≡ f → (x.kind ≡ word 1 (row_found t f)) × (x.attributes ≡ word 4 (row_found t f))
      go (Some j) p =
          let f : ◌≡◌ {A = Option Boundary} (Some x) (Some (boundary_of c (row_at 5 t j))) = sym there ∙ find_at 5 (boundary_of c) (λ b. b.id) (λ w. refl) t i j p in
          let y : x ≡ boundary_of c (row_at 5 t j) = cc in
          (ap (λ b. b.kind) y, ap (λ b. b.attributes) y)
      go None p =
          let f : ◌≡◌ {A = Option Boundary} (Some x) None = sym there ∙ find_none 5 (boundary_of c) (λ b. b.id) (λ w. refl) t i p in
          let z : ◌≡◌ {A = ℕ} 0 1 = cc in
          absurd (omega arith)

  -- a side's new row
  added_is : (p : SidePlan) (id start : ℕ) (r : BoundaryRef) → Planned m r.boundary p → (v : List ℕ) → 1 ≤ length v
      → appended_rows 5 boundary_laid (new_start m p id r start) v ≡ added_by (D.counted p) (redrawn_by t p r.boundary id start) v
  added_is kept id start r f v held = appended-none 5 boundary_laid v held
  added_is (in_place l) id start r f v held = appended-none 5 boundary_laid v held
  added_is (fresh l) id start r f v held =
      let x = f.1.0 in
      let e : boundary m r.boundary ≡ Some x = f.1.1 in
      let w = row_found t (place_of 5 t r.boundary) in
      let k = found-words r.boundary x e in
      ap (λ z. appended_rows 5 boundary_laid (map (λ b. (start, b)) z) v) (new-one m id r l x e)
      ∙ (appended-given 5 boundary_laid (λ (n : ℕ × Boundary). boundary_row n.1.id n.1.kind n.0 (length n.1.geometry) n.1.attributes) (λ w n. boundary-new w n.0 n.1) ((start, drawn id l x) ∷ []) v
      ∙ (ap (λ z. appended_rows 5 as_given (boundary_row id z start (length l) x.attributes ∷ []) v) k.0 ∙ ap (λ z. appended_rows 5 as_given (boundary_row id (word 1 w) start (length l) z ∷ []) v) k.1))

-- as many new boundaries as ids
new-count : (m : Map) (p : SidePlan) (id : ℕ) (r : BoundaryRef) (start : ℕ) → Planned m r.boundary p → length (new_start m p id r start) ≡ plan_ids p
new-count m p id r start f =
    length-map (new_boundary m p id r) (λ b. (start, b)) ∙ (sym (length-map (new_boundary m p id r) (λ x. x.id)) ∙ (ap length (new-ids m p id r f) ∙ go p))
  where
    go : (p : SidePlan) → length (plan_new p id) ≡ plan_ids p
    go kept = refl
    go (in_place l) = refl
    go (fresh l) = refl

-- ---- the table

-- the boundaries that stay and the new ones, with where their lines start
abbrev pub boundary_starts : List Float → Map → List ℕ → Lane → SidePlan → SidePlan → ℕ → ℕ → ℕ → List ℕ → List (ℕ × Boundary)
boundary_starts c m t a pl pr next left right gone =
    map (boundary_after left right a pl pr) (keep (λ r. not (has r.1.id gone)) (rows 5 (λ w. (word 2 w, boundary_of c w)) t)) ++ (new_start m pl next a.left left ++ new_start m pr (next + plan_ids pl) a.right right)

module _ (c : List Float) (m : Map) (t : List ℕ) (eb : m.boundaries ≡ rows 5 (boundary_of c) t) (h : counted 4096 5 t ≡ true) (fine : all (λ b. b) (rows 5 (λ w. stored c (span_at 2 w)) t) ≡ true)
    (a : Lane) (pl pr : SidePlan) (next left right : ℕ) (gone : List ℕ) (fl : Planned m a.left.boundary pl) (fr : Planned m a.right.boundary pr)
    (new : all (λ i. not (has i (keys 5 (word 0 t) (drop 1 t)))) (both_new pl pr next) ≡ true)
    (room : 1 + (word 0 (kept_rows 5 (λ i. not (has i gone)) t) + (plan_ids pl + plan_ids pr)) * 5 ≤ length t) where
  abbrev stays : ℕ → Bool
  stays i = not (has i gone)

  abbrev news : List (ℕ × Boundary)
  news = new_start m pl next a.left left ++ new_start m pr (next + plan_ids pl) a.right right

  abbrev starts : List (ℕ × Boundary)
  starts = boundary_starts c m t a pl pr next left right gone

  abbrev one : Redrawn
  one = redrawn_by t pl a.left.boundary next left

  abbrev two : Redrawn
  two = redrawn_by t pr a.right.boundary (next + plan_ids pl) right

  -- the rows that stay
  abbrev left_over : List ℕ
  left_over = kept_rows 5 stays t

  old-room : word 0 t * 5 ≤ length (drop 1 t)
  old-room = rows-room 4096 5 t h

  kept-held : word 0 left_over * 5 ≤ length (drop 1 left_over)
  kept-held = kept-room 5 stays t old-room

  kept-some : 1 ≤ length left_over
  unfolding kept_rows
  kept-some = omega arith

  abbrev pointed : List ℕ
  pointed = on_rows 5 (λ w. boundary_laid w (boundary_after left right a pl pr (word 2 w, boundary_of c w))) left_over

  pointed-is : pointed ≡ side_pointed two (side_pointed one left_over)
  pointed-is =
      table-agree 5 (λ w. stored c (span_at 2 w)) (λ w. boundary_laid w (boundary_after left right a pl pr (word 2 w, boundary_of c w))) (λ w. point_by pr a.right.boundary right (point_by pl a.left.boundary left w))
      (row-pointed left right c a pl pr) left_over kept-held (unfold rows in kept-passing 5 stays t old-room (λ w. stored c (span_at 2 w)) fine)
      ∙ sym (pointed-both left_over kept-some kept-held pl pr a.left.boundary left a.right.boundary right)

  pointed-count : word 0 pointed ≡ word 0 left_over
  unfolding on_rows
  pointed-count = refl

  pointed-long : length (drop 1 pointed) ≡ length (drop 1 t)
  unfolding on_rows
  pointed-long =
      rows-length 5 (λ r. true) (λ w. boundary_laid w (boundary_after left right a pl pr (word 2 w, boundary_of c w))) (λ w l g. boundary-laid-length w _ _) (word 0 left_over) (drop 1 left_over) kept-held
      (every-row 5 (word 0 left_over) (drop 1 left_over))
      ∙ omega (arith, length-drop 1 left_over, length-drop 1 t, kept-length 5 stays t old-room (counted-facts 4096 5 t h).0)

  news-read : map (λ r. r.1) news ≡ new_ones next m a pl pr
  news-read =
      map-append (λ r. r.1) (new_start m pl next a.left left) (new_start m pr (next + plan_ids pl) a.right right)
      ∙ (ap (λ z. z ++ map (λ r. r.1) (new_start m pr (next + plan_ids pl) a.right right)) (read left (new_boundary m pl next a.left))
      ∙ ap (λ z. new_boundary m pl next a.left ++ z) (read right (new_boundary m pr (next + plan_ids pl) a.right)))
    where
      read : (at : ℕ) (bs : List Boundary) → map (λ (r : ℕ × Boundary). r.1) (map (λ b. (at, b)) bs) ≡ bs
      read at bs = map-twice (λ b. (at, b)) (λ (r : ℕ × Boundary). r.1) bs ∙ map-itself bs

  news-fresh : all (λ r. not (has r.1.id (keys 5 (word 0 t) (drop 1 t)))) news ≡ true
  news-fresh =
      let ks = keys 5 (word 0 t) (drop 1 t) in
      sym (all_map (λ (b : Boundary). not (has b.id ks)) (λ (r : ℕ × Boundary). r.1) news)
      ∙ (ap (all (λ b. not (has b.id ks))) news-read
      ∙ (sym (all_map (λ i. not (has i ks)) (λ (b : Boundary). b.id) (new_ones next m a pl pr)) ∙ (ap (all (λ i. not (has i ks))) (ids-made m next a pl pr fl fr) ∙ new)))

  grown : store_rows 5 boundary_laid (λ r. r.1.id) t starts ≡ appended_rows 5 boundary_laid news pointed
  unfolding boundary_of
  grown =
      store-grown 5 boundary_laid (λ r. r.1.id) (λ w. (word 2 w, boundary_of c w)) t old-room (λ w. stored c (span_at 2 w)) stays (boundary_after left right a pl pr) news (λ w. refl) (λ r. joined-id pl pr a r.1)
      (λ w l g. boundary-laid-length w _ _) fine news-fresh

  added : appended_rows 5 boundary_laid news pointed ≡ side_added two (side_added one pointed)
  added =
      let nl = new_start m pl next a.left left in
      let nr = new_start m pr (next + plan_ids pl) a.right right in
      let k = new-count m pl next a.left left fl in
      let r : (word 0 pointed + length nl) * 5 ≤ length (drop 1 pointed) = rw (pointed-count, k) (omega (arith, pointed-long, length-drop 1 t)) in
      appended_then 5 boundary_laid (λ w r. ◌≡◌ {A = Bool} true true) (λ w l r e. boundary-laid-length w r.0 r.1) pointed nl r (rows-any 5 (λ r. true) (drop (word 0 pointed * 5) (drop 1 pointed)) nl (all_yes nl)) nr
      ∙ (added_is c m t eb pr (next + plan_ids pl) right a.right fr (appended_rows 5 boundary_laid nl pointed) (some-appended nl)
      ∙ ap (side_added two) (added_is c m t eb pl next left a.left fl pointed some-pointed))
    where
      some-pointed : 1 ≤ length pointed
      some-pointed = unfold on_rows in omega arith

      some-appended : (rs : List (ℕ × Boundary)) → 1 ≤ length (appended_rows 5 boundary_laid rs pointed)
      some-appended rs = unfold appended_rows in omega arith

  -- THE LAW of the table of boundaries
  pub boundaries-redrawn : store_rows 5 boundary_laid (λ r. r.1.id) t starts ≡ boundaries_redrawn gone one two t
  unfolding boundaries_redrawn
  boundaries-redrawn = grown ∙ (added ∙ ap (λ z. side_added two (side_added one z)) pointed-is)

  -- the records are those of the merged map
  pub boundaries-read : map (λ r. r.1) starts ≡ map (joined_boundary pl pr a) (keep (λ x. stays x.id) (rows 5 (boundary_of c) t)) ++ new_ones next m a pl pr
  boundaries-read =
      let k = map (boundary_after left right a pl pr) (keep (λ r. stays r.1.id) (rows 5 (λ w. (word 2 w, boundary_of c w)) t)) in
      map-append (λ r. r.1) k news
      ∙ (ap (λ z. z ++ map (λ r. r.1) news) (changed-records 5 (word 2) (boundary_of c) (λ b. b.id) (boundary_after left right a pl pr) (joined_boundary pl pr a) (λ r. refl) stays t)
      ∙ ap (λ z. map (joined_boundary pl pr a) (keep (λ x. stays x.id) (rows 5 (boundary_of c) t)) ++ z) news-read)
