-- All points and all lines of a map by its tables: what boundaries and centrelines have, and the columns that stand. Assumes nothing.
use mathlib.Core.Path.{◌≡◌, refl, ap, ◌∙◌}
use Prim.Native.Nat.{ℕ, zero, suc, ◌+◌}
use native.Mathlib.Omega.{arith}
use mathlib.Core.Bool.{Bool, true, ◌&&◌, and-true}
use mathlib.Core.List.{List, ◌++◌, map}
use lib.Dec.{leb}
use lib.Ieee.{Float}
use lib.ListN.{length, take, drop}
use Rattle.lists.specs.Every.{all}
use Rattle.lists.specs.Rows.{reads}
use Rattle.lists.specs.Select.{each}
use Rattle.lists.proofs.Booleans.{and-fst, and-snd}
use Rattle.lists.proofs.Rows.{mapped-reads}
use Rattle.lists.proofs.Select.{map-twice}
use Rattle.entities.specs.Records.{Line, Map, StopLine, Crosswalk}
use Rattle.rules.specs.Sound.{total, lines, optional_line, point_count}
use Rattle.tables.specs.View.{word, line_at, rows, stop_line_of, crosswalk_of}
use Rattle.tables.specs.Formed.{span_at, stored}
use Rattle.store.specs.Laid.{points_of}
use Rattle.store.proofs.LaidRows.{points-append}
use Rattle.store.proofs.Rows.{passing}
use Rattle.layout.proofs.Standing.{line-long}
use Rattle.room.specs.Room.{column_points}
use Rattle.split_limits.proofs.Boundaries.{all_both}

-- what is read from rows that all pass a test
reads_on : (s : ℕ) (good : List ℕ → Bool) (f g : List ℕ → ℕ) → ((w : List ℕ) → good w ≡ true → f w ≡ g w) → (n : ℕ) (w : List ℕ) → passing s good n w → reads s f n w ≡ reads s g n w
unfolding reads all
reads_on s good f g same zero w h = refl
reads_on s good f g same (suc n) w h =
    let a = good (take s w) in
    let r = all (λ b. b) (reads s good n (drop s w)) in
    rw (same (take s w) (and-fst a r h), reads_on s good f g same n (drop s w) (and-snd a r h))

column-is : {R : Type 0} (s k : ℕ) (c : List Float) (dec : List ℕ → R) (line : R → Line) → ((w : List ℕ) → line (dec w) ≡ line_at c k w) → (t : List ℕ)
    → all (λ b. b) (rows s (λ w. stored c (span_at k w)) t) ≡ true → points_of (map line (rows s dec t)) ≡ column_points s (suc k) t
unfolding column_points rows
column-is s k c dec line own t h =
    ap total (map-twice line length (reads s dec (word 0 t) (drop 1 t))
    ∙ (mapped-reads s dec (λ x. length (line x)) (word 0 t) (drop 1 t)
    ∙ reads_on s (λ w. stored c (span_at k w)) (λ w. length (line (dec w))) (word (suc k)) (λ w e. ap length (own w) ∙ line-long c (span_at k w) e) (word 0 t) (drop 1 t) h))

module _ (n : Map) where
  abbrev bs : List Line
  bs = map (λ b. b.geometry) n.boundaries

  abbrev cs : List Line
  cs = each (λ l. optional_line l.centerline) n.lanes

  abbrev ss : List Line
  ss = map (λ s. s.geometry) n.stop_lines

  abbrev ls : List Line
  ls = map (λ x. x.left_edge) n.crosswalks

  abbrev rs : List Line
  rs = map (λ x. x.right_edge) n.crosswalks

  pub points-all : (c : List Float) (stops walks : List ℕ) (b l : ℕ) → points_of (map (λ b. b.geometry) n.boundaries) ≡ b → points_of (each (λ l. optional_line l.centerline) n.lanes) ≡ l
      → n.stop_lines ≡ rows 4 (stop_line_of c) stops → n.crosswalks ≡ rows 7 (crosswalk_of c) walks
      → all (λ b. b) (rows 4 (λ w. stored c (span_at 1 w)) stops) ≡ true → all (λ b. b) (rows 7 (λ w. stored c (span_at 1 w)) walks) ≡ true → all (λ b. b) (rows 7 (λ w. stored c (span_at 3 w)) walks) ≡ true
      → point_count n ≡ b + l + column_points 4 2 stops + (column_points 7 2 walks + column_points 7 4 walks)
  unfolding lines
  points-all c stops walks b l be le se we s1 w1 w3 =
      let s = ap (λ (xs : List StopLine). points_of (map (λ x. x.geometry) xs)) se ∙ column-is 4 1 c (stop_line_of c) (λ x. x.geometry) (λ w. unfold stop_line_of in refl) stops s1 in
      let p = ap (λ (xs : List Crosswalk). points_of (map (λ x. x.left_edge) xs)) we ∙ column-is 7 1 c (crosswalk_of c) (λ x. x.left_edge) (λ w. unfold crosswalk_of in refl) walks w1 in
      let q = ap (λ (xs : List Crosswalk). points_of (map (λ x. x.right_edge) xs)) we ∙ column-is 7 3 c (crosswalk_of c) (λ x. x.right_edge) (λ w. unfold crosswalk_of in refl) walks w3 in
      omega (arith, be, le, s, p, q, points-append bs (cs ++ (ss ++ (ls ++ rs))), points-append cs (ss ++ (ls ++ rs)), points-append ss (ls ++ rs), points-append ls rs)

  -- where the others are short, boundaries and centrelines decide
  pub lines-all : all (λ c. leb (length c) 256) (map (λ s. s.geometry) n.stop_lines) ≡ true → all (λ c. leb (length c) 256) (map (λ x. x.left_edge) n.crosswalks) ≡ true
      → all (λ c. leb (length c) 256) (map (λ x. x.right_edge) n.crosswalks) ≡ true
      → all (λ c. leb (length c) 256) (lines n) ≡ (all (λ c. leb (length c) 256) (map (λ b. b.geometry) n.boundaries) && all (λ c. leb (length c) 256) (each (λ l. optional_line l.centerline) n.lanes))
  unfolding lines
  lines-all s p q =
      let f : Line → Bool = λ c. leb (length c) 256 in
      let rest : all f (ss ++ (ls ++ rs)) ≡ true = all_both f ss (ls ++ rs) ∙ rw (s, all_both f ls rs, p, q) in
      all_both f bs (cs ++ (ss ++ (ls ++ rs))) ∙ ap (λ z. all f bs && z) (all_both f cs (ss ++ (ls ++ rs)) ∙ (ap (λ z. all f cs && z) rest ∙ and-true (all f cs)))
