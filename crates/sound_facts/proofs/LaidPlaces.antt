-- Where the lines of a map start when they are laid out one after another, and what the room of lent memory says in words. Assumes nothing.
use mathlib.Core.Path.{◌≡◌, sym, ap, ◌∙◌}
use Prim.Native.Nat.{ℕ, ◌+◌, ◌-◌, ◌*◌, ◌/◌, ◌≤◌}
use native.Mathlib.Nat.{zero-add}
use native.Mathlib.Omega.{arith}
use mathlib.Core.Bool.{true, ◌&&◌}
use mathlib.Core.List.{List, ◌++◌, map}
use lib.Dec.{leb}
use lib.Ieee.{Float}
use lib.ListN.{length, drop, length-drop, length-map}
use borrow.Author.Tests.{leb-true}
use Rattle.lists.specs.Rows.{over}
use Rattle.lists.specs.Select.{each}
use Rattle.lists.proofs.Booleans.{and-fst, and-snd}
use Rattle.lists.proofs.Rows.{length_over}
use Rattle.polyline.specs.Polyline.{flat}
use Rattle.entities.specs.Records.{Line, Map}
use Rattle.rules.specs.Sound.{lines, point_count, within_limits, fits_room}
use Rattle.tables.specs.View.{Tables}
use Rattle.store.specs.Store.{room_of}
use Rattle.store.specs.Laid.{points_of}
use Rattle.store.proofs.LaidRows.{Held, held_cut, settled, length-lines}
use Rattle.store.proofs.LaidTables.{settled-append}
use Rattle.sound_facts.proofs.LaidLines.{center_of}

-- ---- where lines start

-- the lines of the five columns, and where each column starts
abbrev pub boundary_lines_of : Map → List Line
boundary_lines_of m = map (λ b. b.geometry) m.boundaries

abbrev pub center_lines_of : Map → List Line
center_lines_of m = each center_of m.lanes

abbrev pub stop_lines_of : Map → List Line
stop_lines_of m = map (λ s. s.geometry) m.stop_lines

abbrev pub left_edges_of : Map → List Line
left_edges_of m = map (λ c. c.left_edge) m.crosswalks

abbrev pub right_edges_of : Map → List Line
right_edges_of m = map (λ c. c.right_edge) m.crosswalks

abbrev pub centers_at : Map → ℕ
centers_at m = points_of (boundary_lines_of m)

abbrev pub stops_at : Map → ℕ
stops_at m = centers_at m + points_of (center_lines_of m)

abbrev pub lefts_at : Map → ℕ
lefts_at m = stops_at m + points_of (stop_lines_of m)

abbrev pub rights_at : Map → ℕ
rights_at m = lefts_at m + points_of (left_edges_of m)

abbrev pub new_coordinates : Tables → Map → List Float
new_coordinates t m = over t.coordinates 0 (flat (each (λ c. c) (lines m)))

-- every column lies in the new coordinates
pub record Lying (c : List Float) (m : Map) : Type 0 where
  pub boundaries : Held c 0 (boundary_lines_of m)
  pub centers : Held c (centers_at m) (center_lines_of m)
  pub stops : Held c (stops_at m) (stop_lines_of m)
  pub lefts : Held c (lefts_at m) (left_edges_of m)
  pub rights : Held c (rights_at m) (right_edges_of m)

pub lying : (c : List Float) (m : Map) → Held c 0 (lines m) → Lying c m
unfolding lines
lying c m h =
    let h0 = held_cut c 0 (boundary_lines_of m) (center_lines_of m ++ (stop_lines_of m ++ (left_edges_of m ++ right_edges_of m))) h in
    let b0 : Held c (centers_at m) (center_lines_of m ++ (stop_lines_of m ++ (left_edges_of m ++ right_edges_of m))) = rw (zero-add (centers_at m)) at h0.1 in
    let h1 = held_cut c (centers_at m) (center_lines_of m) (stop_lines_of m ++ (left_edges_of m ++ right_edges_of m)) b0 in
    let h2 = held_cut c (stops_at m) (stop_lines_of m) (left_edges_of m ++ right_edges_of m) h1.1 in
    let h3 = held_cut c (lefts_at m) (left_edges_of m) (right_edges_of m) h2.1 in
    record { boundaries = h0.0; centers = h1.0; stops = h2.0; lefts = h3.0; rights = h3.1 }

-- the lines of a map, one after another, column by column
pub settled-columns : (m : Map) → settled 0 (lines m)
    ≡ settled 0 (boundary_lines_of m)
    ++ (settled (centers_at m) (center_lines_of m) ++ (settled (stops_at m) (stop_lines_of m) ++ (settled (lefts_at m) (left_edges_of m) ++ settled (rights_at m) (right_edges_of m))))
unfolding lines
settled-columns m = cut (boundary_lines_of m) (center_lines_of m) (stop_lines_of m) (left_edges_of m) (right_edges_of m)
  where
    cut : (b c s l r : List Line) → settled 0 (b ++ (c ++ (s ++ (l ++ r))))
        ≡ settled 0 b
        ++ (settled (points_of b) c ++ (settled (points_of b + points_of c) s ++ (settled (points_of b + points_of c + points_of s) l ++ settled (points_of b + points_of c + points_of s + points_of l) r)))
    cut b c s l r =
        rw (
          settled-append 0 b (c ++ (s ++ (l ++ r))),
          zero-add (points_of b),
          settled-append (points_of b) c (s ++ (l ++ r)),
          settled-append (points_of b + points_of c) s (l ++ r),
          settled-append (points_of b + points_of c + points_of s) l r,
        )

-- ---- room

pub same_count : {A : Type 0} (key : A → ℕ) (xs ys : List A) → map key xs ≡ map key ys → length xs ≡ length ys
same_count key xs ys e = sym (length-map xs key) ∙ (ap length e ∙ length-map ys key)

pub record Roomy (t : Tables) (m : Map) : Type 0 where
  pub lanes : length m.lanes * 52 ≤ length (drop 1 t.lanes)
  pub boundaries : length m.boundaries * 5 ≤ length (drop 1 t.boundaries)
  pub points : point_count m ≤ length t.coordinates / 3

pub roomy : (t : Tables) (m : Map) → fits_room (room_of t) m ≡ true → Roomy t m
unfolding fits_room
roomy t m h =
    let a = within_limits m in
    let l = (length t.lanes - 1) / 52 in
    let b = (length t.boundaries - 1) / 5 in
    let n = length t.coordinates / 3 in
    let p = leb (length m.lanes) l in
    let q = leb (length m.boundaries) b in
    let r = leb (point_count m) n in
    let h3 = and-fst (a && p && q) r h in
    let i : length m.lanes ≤ l = leb-true (length m.lanes) l (and-snd a p (and-fst (a && p) q h3)) in
    let j : length m.boundaries ≤ b = leb-true (length m.boundaries) b (and-snd (a && p) q h3) in
    record {
      lanes = rw length-drop (omega (arith, i));
      boundaries = rw length-drop (omega (arith, j));
      points = leb-true (point_count m) n (and-snd (a && p && q) r h);
    }

-- the new coordinates are as many as the old
pub coordinates-long : (t : Tables) (m : Map) → point_count m ≤ length t.coordinates / 3 → length (new_coordinates t m) ≡ length t.coordinates
coordinates-long t m h =
    let e : length (flat (each (λ c. c) (lines m))) ≡ point_count m * 3 = length-lines (lines m) in
    length_over t.coordinates 0 (flat (each (λ c. c) (lines m))) (omega (arith, e))
