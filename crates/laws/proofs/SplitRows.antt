-- split_lane: the rows that are not in modified are as they were. Assumes nothing.
use Rattle.std.specs.Prelude.{Option, None, Some}
use mathlib.Core.Path.{◌≡◌, refl, sym, ap, ◌∙◌}
use mathlib.Core.Bool.{Bool, true, false, not, ◌&&◌, ◌||◌, true≢false}
use mathlib.Core.List.{List, [], ◌∷◌, ◌++◌, map, append-nil}
use Prim.Native.Nat.{ℕ, ◌≤◌, ◌<◌}
use native.Mathlib.Omega.{arith}
use lib.Dec.{eqb, ltb, leb}
use borrow.Author.Tests.{eqb-true, ne_eqb, ltb-true, leb-true}
use Rattle.lists.specs.Every.{all}
use Rattle.lists.specs.Select.{keep, any, find, each, has, ascending, same_numbers, insert_after, with_second}
use Rattle.lists.proofs.Booleans.{and_both, and-fst, and-snd, neither}
use Rattle.lists.proofs.Select.{all_map, all-has, all-numbers, keep_all, keep-none, on_found, second-lacks}
use Rattle.entities.specs.Records.{Lane, Boundary, Road, Junction, Rule, Map}
use Rattle.rules.specs.Map.{lane, lane_ids, leads_to}
use Rattle.rules.specs.Sound.{links_reciprocal}
use Rattle.rules.specs.Edit.{with_links}
use Rattle.rules.specs.Lane.{road_lanes, junction_lanes, rule_lanes}
use Rattle.rules.specs.Split.{LanePlan, Piece, halves, came_from, uncut, piece_for, cut_boundary, new_pieces, rule_differs}
use Rattle.rules.proofs.Relations.{comes-found}
use Rattle.rules.proofs.Reciprocal.{links-agree}
use Rattle.laws.proofs.Links.{found-any, found-passes, lane-id}
use Rattle.laws.proofs.Exact.{found_map, changed_by, has_key, any-weaken}
use Rattle.laws.proofs.KeptRows.{has-found}
use Rattle.laws.proofs.Find.{or_else, find-append, find_none}
use Rattle.laws.proofs.SplitLanes.{Numbered, Cutting, found_by_first, by_second, cut_lanes, second_above, lane_at, lane-at}
use Rattle.laws.proofs.SplitBook.{cut-first}
use Rattle.laws.proofs.SplitTests.{cut_boundaries, drawn_by, drawn-id}

-- ---- general

refuted : (b : Bool) → (b ≡ true → ⊥) → b ≡ false
refuted true h = absurd (h refl)
refuted false h = refl

pub same-numbers : (xs ys : List ℕ) → same_numbers xs ys ≡ true → xs ≡ ys
unfolding same_numbers
same-numbers [] [] h = refl
same-numbers [] (y ∷ ys) h = absurd (true≢false (sym h))
same-numbers (x ∷ xs) [] h = absurd (true≢false (sym h))
same-numbers (x ∷ xs) (y ∷ ys) h =
    ap (λ i. i ∷ xs) (eqb-true x y (and-fst (eqb x y) (same_numbers xs ys) h)) ∙ ap (λ is. y ∷ is) (same-numbers xs ys (and-snd (eqb x y) (same_numbers xs ys) h))

-- ---- lists of lanes

module _ (hs : List (ℕ × ℕ)) where
  abbrev pub firsts : List ℕ
  firsts = map (λ (h : ℕ × ℕ). h.0) hs

  -- a list that names no cut lane
  pub insert-still : (ids : List ℕ) → any (λ i. has i (map (λ (h : ℕ × ℕ). h.0) hs)) ids ≡ false → insert_after hs ids ≡ ids
  unfolding insert_after each any
  insert-still [] h = refl
  insert-still (i ∷ ids) h =
      let (a, b) = neither (has i firsts) (any (λ i. has i firsts) ids) h in
      ap (λ is. is ++ each (with_second hs) ids) (second-lacks i hs a) ∙ ap (λ is. i ∷ is) (insert-still ids b)

  pub came-still : (ids : List ℕ) → all (λ i. not (has i (map (λ (h : ℕ × ℕ). h.0) hs))) ids ≡ true → came_from hs ids ≡ ids
  unfolding came_from
  came-still ids h =
      ap (λ is. is ++ map (λ h. h.1) (keep (λ h. has h.0 ids) hs)) (keep_all (λ i. not (has i firsts)) ids h)
      ∙ (ap (λ ks. ids ++ map (λ (h : ℕ × ℕ). h.1) ks) (keep-none (λ h. has h.0 ids) hs
      (sym (all_map (λ i. not (has i ids)) (λ (h : ℕ × ℕ). h.0) hs) ∙ all-numbers (λ i. not (has i ids)) firsts apart)) ∙ append-nil ids)
    where
      apart : (i : ℕ) → has i firsts ≡ true → not (has i ids) ≡ true
      apart i t = ap not (refuted (has i ids) (λ u. true≢false (sym (all-has (λ j. not (has j firsts)) i ids h u) ∙ ap not t)))

  pub road_still : (r : Road) → any (λ i. has i (map (λ (h : ℕ × ℕ). h.0) hs)) r.lanes ≡ false → road_lanes (insert_after hs) r ≡ r
  road_still r t = ap (λ xs. road_lanes (λ ys. xs) r) (insert-still r.lanes t)

  pub junction_still : (j : Junction) → any (λ i. has i (map (λ (h : ℕ × ℕ). h.0) hs)) j.lanes ≡ false → junction_lanes (insert_after hs) j ≡ j
  junction_still j t = ap (λ xs. junction_lanes (λ ys. xs) j) (insert-still j.lanes t)

-- a rule whose three lists are the same
abbrev with_lists : Rule → List ℕ → List ℕ → List ℕ → Rule
with_lists r xs ys zs =
    record {
      id = r.id;
      kind = r.kind;
      content = r.content;
      attributes = r.attributes;
      crosswalk = r.crosswalk;
      lanes = xs;
      controlled_crosswalks = r.controlled_crosswalks;
      stop_lines = r.stop_lines;
      priority = ys;
      yielding = zs;
    }

pub rule-still : (f g : List ℕ → List ℕ) (r : Rule) → rule_differs r (rule_lanes f g r) ≡ false → rule_lanes f g r ≡ r
rule-still f g r h =
    let same = twice-not (same_numbers r.lanes (f r.lanes) && same_numbers r.priority (g r.priority) && same_numbers r.yielding (g r.yielding)) h in
    let two = and-fst (same_numbers r.lanes (f r.lanes) && same_numbers r.priority (g r.priority)) (same_numbers r.yielding (g r.yielding)) same in
    sym
    (ap (λ xs. with_lists r xs r.priority r.yielding) (same-numbers r.lanes (f r.lanes)
    (and-fst (same_numbers r.lanes (f r.lanes)) (same_numbers r.priority (g r.priority)) two))
    ∙ (ap (λ xs. with_lists r (f r.lanes) xs r.yielding) (same-numbers r.priority (g r.priority)
    (and-snd (same_numbers r.lanes (f r.lanes)) (same_numbers r.priority (g r.priority)) two))
    ∙ ap (λ xs. with_lists r (f r.lanes) (g r.priority) xs)
    (same-numbers r.yielding (g r.yielding) (and-snd (same_numbers r.lanes (f r.lanes) && same_numbers r.priority (g r.priority))
    (same_numbers r.yielding (g r.yielding)) same))))
  where
    twice-not : (b : Bool) → not b ≡ false → b ≡ true
    twice-not true t = refl
    twice-not false t = absurd (true≢false t)

-- ---- lanes

-- a lane that is cut, or that a cut lane leads to
abbrev pub lane_test : Map → List ℕ → Lane → Bool
lane_test m group l = has l.id group || any (λ g. has g.id group && has l.id g.successors) m.lanes

module _ (m : Map) (ps : List LanePlan) (next : ℕ) (c : Cutting m ps next) where
  abbrev cut_ids : List ℕ
  cut_ids = map (λ (h : ℕ × ℕ). h.0) (halves next ps)

  uncut-still : links_reciprocal m ≡ true → (i : ℕ) (l : Lane) → lane m i ≡ Some l → any (λ g. has g.id cut_ids && has l.id g.successors) m.lanes ≡ false
      → uncut (halves next ps) l ≡ l
  unfolding leads_to
  uncut-still recip i l e h =
      ap (λ is. with_links is l.successors l) (came-still (halves next ps) l.predecessors
      (all-numbers (λ j. not (has j cut_ids)) l.predecessors (λ j t. ap not (refuted (has j cut_ids) (λ u. true≢false (sym (reached j t u) ∙ h))))))
    where
      reached : (j : ℕ) → has j l.predecessors ≡ true → has j cut_ids ≡ true → any (λ g. has g.id cut_ids && has l.id g.successors) m.lanes ≡ true
      reached j t u =
          any-weaken (λ g. eqb g.id j && has l.id g.successors) (λ g. has g.id cut_ids && has l.id g.successors) m.lanes
          (λ g v.
          and_both (has g.id cut_ids) (has l.id g.successors) (ap (λ k. has k cut_ids) (eqb-true g.id j (and-fst (eqb g.id j) (has l.id g.successors) v)) ∙ u)
          (and-snd (eqb g.id j) (has l.id g.successors) v))
          (links-agree m recip j l.id ∙ (comes-found m j l.id c.choice.up
          ∙ (ap (λ k. on_found (λ k. has j k.predecessors) (lane m k)) (lane-id m i l e) ∙ (ap (on_found (λ k. has j k.predecessors)) e ∙ t))))

  pub lane-same : links_reciprocal m ≡ true → (xs : List Piece) (i : ℕ) → has i (lane_ids m) ≡ true → has i (map (λ l. l.id) (keep (lane_test m cut_ids) m.lanes)) ≡ false
      → find (λ l. eqb l.id i) m.lanes ≡ find (λ l. eqb l.id i) (cut_lanes m ps xs next)
  unfolding lane
  lane-same recip xs i t h = sym (lane-at m ps next c.choice xs i ∙ go (lane m i) (found_by_first ps next i) (by_second ps next i) refl refl refl)
    where
      go : (o : Option Lane) (a b : Option Numbered) → lane m i ≡ o → found_by_first ps next i ≡ a → by_second ps next i ≡ b → lane_at m ps next c.choice xs i o a b ≡ o
      go o a (Some z) eo ea eb =
          let u = ltb-true i next (all-has (λ j. ltb j next) i (lane_ids m) c.fresh t) in
          let v = second_above m ps next c.choice i z eb in
          absurd (nothing u v)
        where
          nothing : i < next → next ≤ i → ⊥
          nothing u v = omega arith
      go None a None eo ea eb = refl
      go (Some l) None None eo ea eb =
          let (own, led) = neither (has l.id cut_ids) (any (λ g. has g.id cut_ids && has l.id g.successors) m.lanes)
          (sym (has-found (λ l. l.id) (lane_test m cut_ids) i m.lanes c.choice.up ∙ ap (on_found (lane_test m cut_ids)) eo) ∙ h) in
          ap Some (uncut-still recip i l eo led)
      go (Some l) (Some z) None eo ea eb =
          let (own, led) = neither (has l.id cut_ids) (any (λ g. has g.id cut_ids && has l.id g.successors) m.lanes)
          (sym (has-found (λ l. l.id) (lane_test m cut_ids) i m.lanes c.choice.up ∙ ap (on_found (lane_test m cut_ids)) eo) ∙ h) in
          absurd (true≢false (sym (has_key (λ (h : ℕ × ℕ). h.0) i (halves next ps) ∙ (cut-first m ps next c.choice i ∙ ap (on_found (λ (z : Numbered). true)) ea))
          ∙ (ap (λ k. has k cut_ids) (sym (lane-id m i l eo)) ∙ own)))

-- ---- boundaries

-- a boundary that is redrawn
abbrev pub boundary_test : List Piece → Boundary → Bool
boundary_test xs b = any (λ x. x.alone && eqb x.of.id b.id) xs

drawn-still : (xs : List Piece) (b : Boundary) → boundary_test xs b ≡ false → cut_boundary xs b ≡ b
drawn-still xs b h = go (piece_for xs b.id) refl
  where
    which : (x : Piece) → piece_for xs b.id ≡ Some x → (k : Bool) → x.alone ≡ k → drawn_by b (Some x) ≡ b
    which x e true q =
        absurd (true≢false (sym (found-any (λ y. eqb y.of.id b.id) xs x e (λ y. y.alone && eqb y.of.id b.id)
        (and_both x.alone (eqb x.of.id b.id) q (found-passes (λ y. eqb y.of.id b.id) xs x e))) ∙ h))
    which x e false q = rw q

    go : (o : Option Piece) → piece_for xs b.id ≡ o → drawn_by b o ≡ b
    go None e = refl
    go (Some x) e = which x e x.alone refl

pub boundary-same : (m : Map) (xs : List Piece) (start : ℕ) → ascending (map (λ b. b.id) m.boundaries) ≡ true
    → all (λ i. ltb i start) (map (λ b. b.id) m.boundaries) ≡ true
    → all (λ b. leb start b.id) (each new_pieces xs) ≡ true → (i : ℕ) → has i (map (λ b. b.id) m.boundaries) ≡ true
    → has i (map (λ b. b.id) (keep (boundary_test xs) m.boundaries)) ≡ false
    → find (λ b. eqb b.id i) m.boundaries ≡ find (λ b. eqb b.id i) (cut_boundaries m xs)
boundary-same m xs start up fresh new i t h =
    sym
    (find-append (λ b. eqb b.id i) (map (cut_boundary xs) m.boundaries) (each new_pieces xs)
    ∙ (ap (λ o. or_else (find (λ b. eqb b.id i) (map (cut_boundary xs) m.boundaries)) o) none-new
    ∙ (ap (λ o. or_else o None) (found_map (λ b. b.id) (cut_boundary xs) (drawn-id xs) i m.boundaries) ∙ go (find (λ b. eqb b.id i) m.boundaries) refl)))
  where
    none-new : find (λ b. eqb b.id i) (each new_pieces xs) ≡ None
    none-new =
        find_none (λ b. eqb b.id i) (λ b. leb start b.id) (each new_pieces xs) new
        (λ b k.
        let u = ltb-true i start (all-has (λ j. ltb j start) i (map (λ b. b.id) m.boundaries) fresh t) in
        let v = leb-true start b.id k in
        ne_eqb b.id i (λ q. omega arith))

    go : (o : Option Boundary) → find (λ b. eqb b.id i) m.boundaries ≡ o → or_else (changed_by (cut_boundary xs) o) None ≡ o
    go None e = refl
    go (Some b) e = ap Some (drawn-still xs b (sym (has-found (λ b. b.id) (boundary_test xs) i m.boundaries up ∙ ap (on_found (boundary_test xs)) e) ∙ h))
