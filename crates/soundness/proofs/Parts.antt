-- Table by table: the test of every row is what the clauses of soundness ask of the table.
use mathlib.Core.Path.{◌≡◌, sym, ◌∙◌}
use mathlib.Core.Bool.{Bool, true, ◌&&◌}
use mathlib.Core.List.{List, ◌∷◌}
use Prim.Native.Nat.{ℕ, ◌+◌, ◌*◌, ◌≤◌}
use lib.Dec.{leb, ltb}
use lib.ListN.{length}
use lib.Ieee.{Float}
use borrow.Author.Tests.{leb-true}
use Rattle.lists.specs.Every.{all}
use Rattle.lists.specs.Select.{ascending, distinct}
use Rattle.lists.proofs.Booleans.{and_both, and-fst, and-snd, same_test}
use Rattle.geometry.specs.Point.{in_reach}
use Rattle.rules.specs.Sound.{handle_width, optional_line, speed_legal, lane_names, rule_names, rule_legal}
use Rattle.tables.specs.View.{word, ids_at, option_at, option_line_at, rows, lane_of, boundary_of, road_of, junction_of, rule_of, stop_line_of, crosswalk_of}
use Rattle.tables.specs.Formed.{center_span, stored, counted, lane_formed, rule_formed}
use Rattle.row_tests.specs.Good.{all_rows, lane_good, boundary_good, road_good, junction_good, rule_good, stop_line_good, crosswalk_good}
use Rattle.soundness.proofs.Rows.{every_row, rows-three, rows_four, rows-five, rows-six, rows-weaken}
use Rattle.soundness.proofs.Pointwise.{ok, and3, and4, and5, lane_asked, lane-same}
use Rattle.soundness.proofs.Others.{line_asked, boundary_asked, boundary-same, stop_line_asked, stop-line-same, crosswalk_asked, crosswalk-same, road_asked, road_same, junction_asked, junction_same}
use Rattle.soundness.proofs.Rules.{rule_asked, rule-same}

-- the words of a table that holds its rows
pub record Held (limit s : ℕ) (t : List ℕ) : Type 0 where
  pub count : counted limit s t ≡ true
  pub words : all ok t ≡ true

pub room : (limit s : ℕ) (t : List ℕ) → Held limit s t → 1 + word 0 t * s ≤ length t
room limit s t h =
    let (a, b, c) = and3 (leb 1 (length t)) (leb (word 0 t) limit) (leb (1 + word 0 t * s) (length t)) h.count in
    leb-true (1 + word 0 t * s) (length t) c

-- two tests that agree on rows agree on the table
rows_same : (limit s : ℕ) (p q : List ℕ → Bool) (t : List ℕ) → Held limit s t → ((w : List ℕ) → length w ≡ s → all ok w ≡ true → p w ≡ q w) → all_rows s p t ≡ all_rows s q t
rows_same limit s p q t held h =
    same_test (all_rows s p t) (all_rows s q t)
    (rows-weaken s p q ok (λ w n o u. sym (h w n o) ∙ u) t (room limit s t held) held.words)
    (rows-weaken s q p ok (λ w n o u. h w n o ∙ u) t (room limit s t held) held.words)

-- what is asked of a lane's explicit centreline
abbrev center_asked : List Float → List ℕ → Bool
center_asked c w = all (stored c) (center_span w) && all (λ x. leb (length x) 256) (optional_line (option_line_at c 6 w)) && all (all in_reach) (optional_line (option_line_at c 6 w))

-- ---- lanes

module _ (most : ℕ) (c : List Float) (t : List ℕ) where
  pub record LaneParts : Type 0 where
    pub formed : all_rows 52 lane_formed t ≡ true
    pub kinds : all (λ l. leb l.kind 7 && leb l.turn_direction 3) (rows 52 (lane_of c) t) ≡ true
    pub handles : all (λ l. ltb l.attributes handle_width && speed_legal l.speed_limit) (rows 52 (lane_of c) t) ≡ true
    pub named : all (λ l. all (λ i. leb i most) (lane_names l)) (rows 52 (lane_of c) t) ≡ true
    pub ascend : all (λ l. ascending l.predecessors && ascending l.successors) (rows 52 (lane_of c) t) ≡ true
    pub store : all_rows 52 (λ w. all (stored c) (center_span w)) t ≡ true
    pub short : all (λ l. all (λ x. leb (length x) 256) (optional_line l.centerline)) (rows 52 (lane_of c) t) ≡ true
    pub near : all (λ l. all (all in_reach) (optional_line l.centerline)) (rows 52 (lane_of c) t) ≡ true

  pub lane-parts : Held 1024 52 t → all_rows 52 (lane_good most c) t ≡ true → LaneParts
  unfolding lane_of
  lane-parts held g =
      let a = sym (rows_same 1024 52 (lane_good most c) (lane_asked most c) t held (λ w n o. lane-same most c w o)) ∙ g in
      let six = sym (rows-six 52 lane_formed (λ w. leb (word 1 w) 7 && leb (word 12 w) 3) (λ w. ltb (word 13 w) handle_width && speed_legal (option_at 9 w))
      (λ w. all (λ i. leb i most) (lane_names (lane_of c w))) (λ w. ascending (ids_at 18 w) && ascending (ids_at 35 w)) (center_asked c) t) ∙ a in
      let (h1, h2, h3, h4, h5) = and5 (all_rows 52 lane_formed t) (all_rows 52 (λ w. leb (word 1 w) 7 && leb (word 12 w) 3) t)
      (all_rows 52 (λ w. ltb (word 13 w) handle_width && speed_legal (option_at 9 w)) t) (all_rows 52 (λ w. all (λ i. leb i most) (lane_names (lane_of c w))) t)
      (all_rows 52 (λ w. ascending (ids_at 18 w) && ascending (ids_at 35 w)) t) (and-fst (first_five) (all_rows 52 (center_asked c) t) six) in
      let h6 = sym (rows-three 52 (λ w. all (stored c) (center_span w)) (λ w. all (λ x. leb (length x) 256) (optional_line (option_line_at c 6 w)))
      (λ w. all (all in_reach) (optional_line (option_line_at c 6 w))) t) ∙ and-snd first_five (all_rows 52 (center_asked c) t) six in
      let (h7, h8, h9) = and3 (all_rows 52 (λ w. all (stored c) (center_span w)) t) (all_rows 52 (λ w. all (λ x. leb (length x) 256) (optional_line (option_line_at c 6 w))) t)
      (all_rows 52 (λ w. all (all in_reach) (optional_line (option_line_at c 6 w))) t) h6 in
      record {
        formed = h1;
        kinds = every_row 52 (lane_of c) (λ l. leb l.kind 7 && leb l.turn_direction 3) t ∙ h2;
        handles = every_row 52 (lane_of c) (λ l. ltb l.attributes handle_width && speed_legal l.speed_limit) t ∙ h3;
        named = every_row 52 (lane_of c) (λ l. all (λ i. leb i most) (lane_names l)) t ∙ h4;
        ascend = every_row 52 (lane_of c) (λ l. ascending l.predecessors && ascending l.successors) t ∙ h5;
        store = h7;
        short = every_row 52 (lane_of c) (λ l. all (λ x. leb (length x) 256) (optional_line l.centerline)) t ∙ h8;
        near = every_row 52 (lane_of c) (λ l. all (all in_reach) (optional_line l.centerline)) t ∙ h9;
      }
    where
      first_five : Bool
      first_five =
          all_rows 52 lane_formed t && all_rows 52 (λ w. leb (word 1 w) 7 && leb (word 12 w) 3) t && all_rows 52 (λ w. ltb (word 13 w) handle_width && speed_legal (option_at 9 w)) t
          && all_rows 52 (λ w. all (λ i. leb i most) (lane_names (lane_of c w))) t && all_rows 52 (λ w. ascending (ids_at 18 w) && ascending (ids_at 35 w)) t

  pub parts-lane : Held 1024 52 t → LaneParts → all_rows 52 (lane_good most c) t ≡ true
  unfolding lane_of
  parts-lane held l =
      rows_same 1024 52 (lane_good most c) (lane_asked most c) t held (λ w n o. lane-same most c w o)
      ∙ (rows-six 52 lane_formed (λ w. leb (word 1 w) 7 && leb (word 12 w) 3) (λ w. ltb (word 13 w) handle_width && speed_legal (option_at 9 w))
      (λ w. all (λ i. leb i most) (lane_names (lane_of c w))) (λ w. ascending (ids_at 18 w) && ascending (ids_at 35 w)) (center_asked c) t
      ∙ rw (
        l.formed,
        sym (every_row 52 (lane_of c) (λ l. leb l.kind 7 && leb l.turn_direction 3) t) ∙ l.kinds,
        sym (every_row 52 (lane_of c) (λ l. ltb l.attributes handle_width && speed_legal l.speed_limit) t) ∙ l.handles,
        sym (every_row 52 (lane_of c) (λ l. all (λ i. leb i most) (lane_names l)) t) ∙ l.named,
        sym (every_row 52 (lane_of c) (λ l. ascending l.predecessors && ascending l.successors) t) ∙ l.ascend,
      )
      (rows-three 52 (λ w. all (stored c) (center_span w)) (λ w. all (λ x. leb (length x) 256) (optional_line (option_line_at c 6 w)))
      (λ w. all (all in_reach) (optional_line (option_line_at c 6 w))) t
      ∙ rw (
        l.store,
        sym (every_row 52 (lane_of c) (λ l. all (λ x. leb (length x) 256) (optional_line l.centerline)) t) ∙ l.short,
        sym (every_row 52 (lane_of c) (λ l. all (all in_reach) (optional_line l.centerline)) t) ∙ l.near,
      )))

-- ---- boundaries

module _ (most : ℕ) (c : List Float) (t : List ℕ) where
  pub record BoundaryParts : Type 0 where
    pub kinds : all (λ b. leb b.kind 13) (rows 5 (boundary_of c) t) ≡ true
    pub handles : all (λ b. ltb b.attributes handle_width) (rows 5 (boundary_of c) t) ≡ true
    pub named : all (λ b. leb b.id most) (rows 5 (boundary_of c) t) ≡ true
    pub lines : all_rows 5 (line_asked c 2) t ≡ true

  pub boundary-parts : Held 4096 5 t → all_rows 5 (boundary_good most c) t ≡ true → BoundaryParts
  unfolding boundary_of
  boundary-parts held g =
      let a = sym (rows_same 4096 5 (boundary_good most c) (boundary_asked most c) t held (λ w n o. boundary-same most c w)) ∙ g in
      let b = sym (rows_four 5 (λ w. leb (word 1 w) 13) (λ w. ltb (word 4 w) handle_width) (λ w. leb (word 0 w) most) (line_asked c 2) t) ∙ a in
      let h4 = and-snd (all_rows 5 (λ w. leb (word 1 w) 13) t && all_rows 5 (λ w. ltb (word 4 w) handle_width) t && all_rows 5 (λ w. leb (word 0 w) most) t) (all_rows 5 (line_asked c 2) t) b in
      let l4 = and-fst (all_rows 5 (λ w. leb (word 1 w) 13) t && all_rows 5 (λ w. ltb (word 4 w) handle_width) t && all_rows 5 (λ w. leb (word 0 w) most) t) (all_rows 5 (line_asked c 2) t) b in
      let h3 = and-snd (all_rows 5 (λ w. leb (word 1 w) 13) t && all_rows 5 (λ w. ltb (word 4 w) handle_width) t) (all_rows 5 (λ w. leb (word 0 w) most) t) l4 in
      let l3 = and-fst (all_rows 5 (λ w. leb (word 1 w) 13) t && all_rows 5 (λ w. ltb (word 4 w) handle_width) t) (all_rows 5 (λ w. leb (word 0 w) most) t) l4 in
      let h2 = and-snd (all_rows 5 (λ w. leb (word 1 w) 13) t) (all_rows 5 (λ w. ltb (word 4 w) handle_width) t) l3 in
      let l2 = and-fst (all_rows 5 (λ w. leb (word 1 w) 13) t) (all_rows 5 (λ w. ltb (word 4 w) handle_width) t) l3 in
      record {
        kinds = every_row 5 (boundary_of c) (λ b. leb b.kind 13) t ∙ l2;
        handles = every_row 5 (boundary_of c) (λ b. ltb b.attributes handle_width) t ∙ h2;
        named = every_row 5 (boundary_of c) (λ b. leb b.id most) t ∙ h3;
        lines = h4;
      }

  pub parts-boundary : Held 4096 5 t → BoundaryParts → all_rows 5 (boundary_good most c) t ≡ true
  unfolding boundary_of
  parts-boundary held p =
      rows_same 4096 5 (boundary_good most c) (boundary_asked most c) t held (λ w n o. boundary-same most c w)
      ∙ (rows_four 5 (λ w. leb (word 1 w) 13) (λ w. ltb (word 4 w) handle_width) (λ w. leb (word 0 w) most) (line_asked c 2) t
      ∙ (and_both (all_rows 5 (λ w. leb (word 1 w) 13) t && all_rows 5 (λ w. ltb (word 4 w) handle_width) t && all_rows 5 (λ w. leb (word 0 w) most) t) (all_rows 5 (line_asked c 2) t) (and_both (all_rows 5 (λ w. leb (word 1 w) 13) t && all_rows 5 (λ w. ltb (word 4 w) handle_width) t) (all_rows 5 (λ w. leb (word 0 w) most) t) (and_both (all_rows 5 (λ w. leb (word 1 w) 13) t) (all_rows 5 (λ w. ltb (word 4 w) handle_width) t) (sym (every_row 5 (boundary_of c) (λ b. leb b.kind 13) t) ∙ p.kinds) (sym (every_row 5 (boundary_of c) (λ b. ltb b.attributes handle_width) t) ∙ p.handles)) (sym (every_row 5 (boundary_of c) (λ b. leb b.id most) t) ∙ p.named)) p.lines))

-- ---- stop lines

module _ (most : ℕ) (c : List Float) (t : List ℕ) where
  pub record StopLineParts : Type 0 where
    pub handles : all (λ x. ltb x.attributes handle_width) (rows 4 (stop_line_of c) t) ≡ true
    pub named : all (λ x. leb x.id most) (rows 4 (stop_line_of c) t) ≡ true
    pub lines : all_rows 4 (line_asked c 1) t ≡ true

  pub stop-line-parts : Held 512 4 t → all_rows 4 (stop_line_good most c) t ≡ true → StopLineParts
  unfolding stop_line_of
  stop-line-parts held g =
      let a = sym (rows_same 512 4 (stop_line_good most c) (stop_line_asked most c) t held (λ w n o. stop-line-same most c w)) ∙ g in
      let b = sym (rows-three 4 (λ w. ltb (word 3 w) handle_width) (λ w. leb (word 0 w) most) (line_asked c 1) t) ∙ a in
      let h3 = and-snd (all_rows 4 (λ w. ltb (word 3 w) handle_width) t && all_rows 4 (λ w. leb (word 0 w) most) t) (all_rows 4 (line_asked c 1) t) b in
      let l3 = and-fst (all_rows 4 (λ w. ltb (word 3 w) handle_width) t && all_rows 4 (λ w. leb (word 0 w) most) t) (all_rows 4 (line_asked c 1) t) b in
      let h2 = and-snd (all_rows 4 (λ w. ltb (word 3 w) handle_width) t) (all_rows 4 (λ w. leb (word 0 w) most) t) l3 in
      let l2 = and-fst (all_rows 4 (λ w. ltb (word 3 w) handle_width) t) (all_rows 4 (λ w. leb (word 0 w) most) t) l3 in
      record {
        handles = every_row 4 (stop_line_of c) (λ x. ltb x.attributes handle_width) t ∙ l2;
        named = every_row 4 (stop_line_of c) (λ x. leb x.id most) t ∙ h2;
        lines = h3;
      }

  pub parts-stop-line : Held 512 4 t → StopLineParts → all_rows 4 (stop_line_good most c) t ≡ true
  unfolding stop_line_of
  parts-stop-line held p =
      rows_same 512 4 (stop_line_good most c) (stop_line_asked most c) t held (λ w n o. stop-line-same most c w)
      ∙ (rows-three 4 (λ w. ltb (word 3 w) handle_width) (λ w. leb (word 0 w) most) (line_asked c 1) t
      ∙ (and_both (all_rows 4 (λ w. ltb (word 3 w) handle_width) t && all_rows 4 (λ w. leb (word 0 w) most) t) (all_rows 4 (line_asked c 1) t) (and_both (all_rows 4 (λ w. ltb (word 3 w) handle_width) t) (all_rows 4 (λ w. leb (word 0 w) most) t) (sym (every_row 4 (stop_line_of c) (λ x. ltb x.attributes handle_width) t) ∙ p.handles) (sym (every_row 4 (stop_line_of c) (λ x. leb x.id most) t) ∙ p.named)) p.lines))

-- ---- crosswalks

module _ (most : ℕ) (c : List Float) (t : List ℕ) where
  pub record CrosswalkParts : Type 0 where
    pub handles : all (λ x. ltb x.outline handle_width && ltb x.attributes handle_width) (rows 7 (crosswalk_of c) t) ≡ true
    pub named : all (λ x. leb x.id most) (rows 7 (crosswalk_of c) t) ≡ true
    pub left-lines : all_rows 7 (line_asked c 1) t ≡ true
    pub right-lines : all_rows 7 (line_asked c 3) t ≡ true

  pub crosswalk-parts : Held 128 7 t → all_rows 7 (crosswalk_good most c) t ≡ true → CrosswalkParts
  unfolding crosswalk_of
  crosswalk-parts held g =
      let a = sym (rows_same 128 7 (crosswalk_good most c) (crosswalk_asked most c) t held (λ w n o. crosswalk-same most c w)) ∙ g in
      let b = sym (rows_four 7 (λ w. ltb (word 5 w) handle_width && ltb (word 6 w) handle_width) (λ w. leb (word 0 w) most) (line_asked c 1) (line_asked c 3) t) ∙ a in
      let h4 = and-snd (all_rows 7 (λ w. ltb (word 5 w) handle_width && ltb (word 6 w) handle_width) t && all_rows 7 (λ w. leb (word 0 w) most) t && all_rows 7 (line_asked c 1) t) (all_rows 7 (line_asked c 3) t) b in
      let l4 = and-fst (all_rows 7 (λ w. ltb (word 5 w) handle_width && ltb (word 6 w) handle_width) t && all_rows 7 (λ w. leb (word 0 w) most) t && all_rows 7 (line_asked c 1) t) (all_rows 7 (line_asked c 3) t) b in
      let h3 = and-snd (all_rows 7 (λ w. ltb (word 5 w) handle_width && ltb (word 6 w) handle_width) t && all_rows 7 (λ w. leb (word 0 w) most) t) (all_rows 7 (line_asked c 1) t) l4 in
      let l3 = and-fst (all_rows 7 (λ w. ltb (word 5 w) handle_width && ltb (word 6 w) handle_width) t && all_rows 7 (λ w. leb (word 0 w) most) t) (all_rows 7 (line_asked c 1) t) l4 in
      let h2 = and-snd (all_rows 7 (λ w. ltb (word 5 w) handle_width && ltb (word 6 w) handle_width) t) (all_rows 7 (λ w. leb (word 0 w) most) t) l3 in
      let l2 = and-fst (all_rows 7 (λ w. ltb (word 5 w) handle_width && ltb (word 6 w) handle_width) t) (all_rows 7 (λ w. leb (word 0 w) most) t) l3 in
      record {
        handles = every_row 7 (crosswalk_of c) (λ x. ltb x.outline handle_width && ltb x.attributes handle_width) t ∙ l2;
        named = every_row 7 (crosswalk_of c) (λ x. leb x.id most) t ∙ h2;
        left-lines = h3;
        right-lines = h4;
      }

  pub parts-crosswalk : Held 128 7 t → CrosswalkParts → all_rows 7 (crosswalk_good most c) t ≡ true
  unfolding crosswalk_of
  parts-crosswalk held p =
      rows_same 128 7 (crosswalk_good most c) (crosswalk_asked most c) t held (λ w n o. crosswalk-same most c w)
      ∙ (rows_four 7 (λ w. ltb (word 5 w) handle_width && ltb (word 6 w) handle_width) (λ w. leb (word 0 w) most) (line_asked c 1) (line_asked c 3) t
      ∙ (and_both (all_rows 7 (λ w. ltb (word 5 w) handle_width && ltb (word 6 w) handle_width) t && all_rows 7 (λ w. leb (word 0 w) most) t && all_rows 7 (line_asked c 1) t) (all_rows 7 (line_asked c 3) t) (and_both (all_rows 7 (λ w. ltb (word 5 w) handle_width && ltb (word 6 w) handle_width) t && all_rows 7 (λ w. leb (word 0 w) most) t) (all_rows 7 (line_asked c 1) t) (and_both (all_rows 7 (λ w. ltb (word 5 w) handle_width && ltb (word 6 w) handle_width) t) (all_rows 7 (λ w. leb (word 0 w) most) t) (sym (every_row 7 (crosswalk_of c) (λ x. ltb x.outline handle_width && ltb x.attributes handle_width) t) ∙ p.handles) (sym (every_row 7 (crosswalk_of c) (λ x. leb x.id most) t) ∙ p.named)) p.left-lines) p.right-lines))

-- ---- roads

module _ (most : ℕ) (t : List ℕ) where
  pub record RoadParts : Type 0 where
    pub formed : all_rows 68 (λ w. leb (word 3 w) 64) t ≡ true
    pub handles : all (λ r. ltb r.name handle_width && ltb r.attributes handle_width) (rows 68 road_of t) ≡ true
    pub named : all (λ r. all (λ i. leb i most) (r.id ∷ r.lanes)) (rows 68 road_of t) ≡ true
    pub once : all (λ r. distinct r.lanes) (rows 68 road_of t) ≡ true

  pub road_parts : Held 256 68 t → all_rows 68 (road_good most) t ≡ true → RoadParts
  unfolding road_of
  road_parts held g =
      let a = sym (rows_same 256 68 (road_good most) (road_asked most) t held (λ w n o. road_same most w)) ∙ g in
      let (f, h, n, o) = and4 _ _ _ _ (sym (rows_four 68 (λ w. leb (word 3 w) 64) (λ w. ltb (word 1 w) handle_width && ltb (word 2 w) handle_width)
      (λ w. all (λ i. leb i most) (word 0 w ∷ ids_at 3 w)) (λ w. distinct (ids_at 3 w)) t) ∙ a) in
      record {
        formed = f;
        handles = every_row 68 road_of (λ r. ltb r.name handle_width && ltb r.attributes handle_width) t ∙ h;
        named = every_row 68 road_of (λ r. all (λ i. leb i most) (r.id ∷ r.lanes)) t ∙ n;
        once = every_row 68 road_of (λ r. distinct r.lanes) t ∙ o;
      }

  pub parts_road : Held 256 68 t → RoadParts → all_rows 68 (road_good most) t ≡ true
  unfolding road_of
  parts_road held p =
      rows_same 256 68 (road_good most) (road_asked most) t held (λ w n o. road_same most w)
      ∙ (rows_four 68 (λ w. leb (word 3 w) 64) (λ w. ltb (word 1 w) handle_width && ltb (word 2 w) handle_width)
      (λ w. all (λ i. leb i most) (word 0 w ∷ ids_at 3 w)) (λ w. distinct (ids_at 3 w)) t
      ∙ rw (
        p.formed,
        sym (every_row 68 road_of (λ r. ltb r.name handle_width && ltb r.attributes handle_width) t) ∙ p.handles,
        sym (every_row 68 road_of (λ r. all (λ i. leb i most) (r.id ∷ r.lanes)) t) ∙ p.named,
        sym (every_row 68 road_of (λ r. distinct r.lanes) t) ∙ p.once,
      ))

-- ---- junctions

module _ (most : ℕ) (t : List ℕ) where
  pub record JunctionParts : Type 0 where
    pub formed : all_rows 69 (λ w. leb (word 4 w) 64) t ≡ true
    pub handles : all (λ j. ltb j.name handle_width && ltb j.outline handle_width && ltb j.attributes handle_width) (rows 69 junction_of t) ≡ true
    pub named : all (λ j. all (λ i. leb i most) (j.id ∷ j.lanes)) (rows 69 junction_of t) ≡ true
    pub once : all (λ j. distinct j.lanes) (rows 69 junction_of t) ≡ true

  pub junction_parts : Held 256 69 t → all_rows 69 (junction_good most) t ≡ true → JunctionParts
  unfolding junction_of
  junction_parts held g =
      let a = sym (rows_same 256 69 (junction_good most) (junction_asked most) t held (λ w n o. junction_same most w)) ∙ g in
      let (f, h, n, o) = and4 _ _ _ _ (sym (rows_four 69 (λ w. leb (word 4 w) 64) (λ w. ltb (word 1 w) handle_width && ltb (word 2 w) handle_width && ltb (word 3 w) handle_width)
      (λ w. all (λ i. leb i most) (word 0 w ∷ ids_at 4 w)) (λ w. distinct (ids_at 4 w)) t) ∙ a) in
      record {
        formed = f;
        handles = every_row 69 junction_of (λ j. ltb j.name handle_width && ltb j.outline handle_width && ltb j.attributes handle_width) t ∙ h;
        named = every_row 69 junction_of (λ j. all (λ i. leb i most) (j.id ∷ j.lanes)) t ∙ n;
        once = every_row 69 junction_of (λ j. distinct j.lanes) t ∙ o;
      }

  pub parts_junction : Held 256 69 t → JunctionParts → all_rows 69 (junction_good most) t ≡ true
  unfolding junction_of
  parts_junction held p =
      rows_same 256 69 (junction_good most) (junction_asked most) t held (λ w n o. junction_same most w)
      ∙ (rows_four 69 (λ w. leb (word 4 w) 64) (λ w. ltb (word 1 w) handle_width && ltb (word 2 w) handle_width && ltb (word 3 w) handle_width)
      (λ w. all (λ i. leb i most) (word 0 w ∷ ids_at 4 w)) (λ w. distinct (ids_at 4 w)) t
      ∙ rw (
        p.formed,
        sym (every_row 69 junction_of (λ j. ltb j.name handle_width && ltb j.outline handle_width && ltb j.attributes handle_width) t) ∙ p.handles,
        sym (every_row 69 junction_of (λ j. all (λ i. leb i most) (j.id ∷ j.lanes)) t) ∙ p.named,
        sym (every_row 69 junction_of (λ j. distinct j.lanes) t) ∙ p.once,
      ))

-- ---- rules

module _ (most : ℕ) (t : List ℕ) where
  pub record RuleParts : Type 0 where
    pub formed : all_rows 330 rule_formed t ≡ true
    pub kinds : all rule_legal (rows 330 rule_of t) ≡ true
    pub handles : all (λ r. ltb r.content handle_width && ltb r.attributes handle_width) (rows 330 rule_of t) ≡ true
    pub named : all (λ r. all (λ i. leb i most) (rule_names r)) (rows 330 rule_of t) ≡ true
    pub once : all (λ r. distinct r.lanes && distinct r.priority && distinct r.yielding) (rows 330 rule_of t) ≡ true

  pub rule-parts : Held 512 330 t → all_rows 330 (rule_good most) t ≡ true → RuleParts
  unfolding rule_of
  rule-parts held g =
      let a = sym (rows_same 512 330 (rule_good most) (rule_asked most) t held (λ w n o. rule-same most w n)) ∙ g in
      let (f, k, h, n, o) = and5 _ _ _ _ _ (sym (rows-five 330 rule_formed (λ w. rule_legal (rule_of w)) (λ w. ltb (rule_of w).content handle_width && ltb (rule_of w).attributes handle_width)
      (λ w. all (λ i. leb i most) (rule_names (rule_of w))) (λ w. distinct (rule_of w).lanes && distinct (rule_of w).priority && distinct (rule_of w).yielding) t) ∙ a) in
      record {
        formed = f;
        kinds = every_row 330 rule_of rule_legal t ∙ k;
        handles = every_row 330 rule_of (λ r. ltb r.content handle_width && ltb r.attributes handle_width) t ∙ h;
        named = every_row 330 rule_of (λ r. all (λ i. leb i most) (rule_names r)) t ∙ n;
        once = every_row 330 rule_of (λ r. distinct r.lanes && distinct r.priority && distinct r.yielding) t ∙ o;
      }

  pub parts-rule : Held 512 330 t → RuleParts → all_rows 330 (rule_good most) t ≡ true
  unfolding rule_of
  parts-rule held p =
      rows_same 512 330 (rule_good most) (rule_asked most) t held (λ w n o. rule-same most w n)
      ∙ (rows-five 330 rule_formed (λ w. rule_legal (rule_of w)) (λ w. ltb (rule_of w).content handle_width && ltb (rule_of w).attributes handle_width)
      (λ w. all (λ i. leb i most) (rule_names (rule_of w))) (λ w. distinct (rule_of w).lanes && distinct (rule_of w).priority && distinct (rule_of w).yielding) t
      ∙ rw (
        p.formed,
        sym (every_row 330 rule_of rule_legal t) ∙ p.kinds,
        sym (every_row 330 rule_of (λ r. ltb r.content handle_width && ltb r.attributes handle_width) t) ∙ p.handles,
        sym (every_row 330 rule_of (λ r. all (λ i. leb i most) (rule_names r)) t) ∙ p.named,
        sym (every_row 330 rule_of (λ r. distinct r.lanes && distinct r.priority && distinct r.yielding) t) ∙ p.once,
      ))
