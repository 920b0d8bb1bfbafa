-- The lines of the rows that are chosen, row by row: measured, and drawn. Assumes nothing.
use mathlib.Core.Path.{◌≡◌, refl, sym, ap, ◌∙◌}
use Prim.Native.Nat.{ℕ, suc, ◌+◌, ◌*◌, ◌≤◌, ◌<◌}
use native.Mathlib.Omega.{arith}
use mathlib.Core.Bool.{Bool, true, false}
use mathlib.Core.List.{List, [], ◌∷◌, ◌++◌, map, map-append, append-nil}
use lib.Dec.{leb}
use lib.Ieee.{Float}
use lib.ListN.{length, get_or, take, drop, length-append}
use lib.Seq.{take_all, get_or-take, get_or-drop, drop-drop}
use borrow.Author.Tests.{leb-true}
use Rattle.lists.specs.Rows.{over}
use Rattle.lists.specs.Select.{each}
use Rattle.lists.proofs.Booleans.{and-fst, and-snd}
use Rattle.lists.proofs.Rows.{length-reads, get_d_reads, over-nil, over-over}
use Rattle.lists.proofs.Select.{each_append}
use Rattle.polyline.specs.Polyline.{flat}
use Rattle.polyline.proofs.Points.{over-flat, over_none}
use Rattle.entities.specs.Records.{Line}
use Rattle.rules.specs.Names.{Point2}
use Rattle.tables.specs.View.{word, rows}
use Rattle.tables.specs.Formed.{stored, span_at}
use Rattle.row_tests.specs.Good.{all_rows}
use Rattle.row_tests.proofs.Tables.{table-some, table-few, row_room}
use Rattle.lookup.specs.Lookup.{row_at}
use Rattle.lookup.proofs.Laws.{row-passes}
use Rattle.order.specs.Order.{column_of}
use Rattle.order.proofs.Walk.{row_has_lem}
use Rattle.split_plan.specs.Placing.{picked}
use Rattle.split_plan.proofs.Marked.{picked_none, pick-one, pick-none, pick-rest}
use Rattle.split_lines.specs.declared.Sizes.{Sizes}
use Rattle.split_lines.specs.Cut.{first_line_of, second_line_of, both_lines, sizes_of, line_in, chosen_lines, measured, measure_row, drawn_pieces, row_line, RowStored, line_stored, Chosen}
use Rattle.split_lines.proofs.Pieces.{Measured}

-- ---- one line more

module _ (p : Point2) where
  drawn-none : drawn_pieces p [] ≡ []
  unfolding drawn_pieces each
  drawn-none = refl

  drawn-append : (ls ks : List Line) → drawn_pieces p (ls ++ ks) ≡ drawn_pieces p ls ++ drawn_pieces p ks
  unfolding drawn_pieces
  drawn-append ls ks = each_append (both_lines p) ls ks

  drawn-first : (l : Line) (ks : List Line) → drawn_pieces p (l ∷ ks) ≡ both_lines p l ++ drawn_pieces p ks
  unfolding drawn_pieces each
  drawn-first l ks = refl

  drawn-more : (ls : List Line) (l : Line) → drawn_pieces p (ls ++ (l ∷ [])) ≡ drawn_pieces p ls ++ both_lines p l
  drawn-more ls l = drawn-append ls (l ∷ []) ∙ ap (λ z. drawn_pieces p ls ++ z) (drawn-first l [] ∙ rw (drawn-none, append-nil))

  both-length : (l : Line) → length (both_lines p l) ≡ (sizes_of p l).first + (sizes_of p l).second
  both-length l = length-append (first_line_of p l) (second_line_of p l)

  length_more : (ls : List Line) (l : Line) → length (drawn_pieces p (ls ++ (l ∷ []))) ≡ length (drawn_pieces p ls) + length (both_lines p l)
  length_more ls l = ap length (drawn-more ls l) ∙ length-append (drawn_pieces p ls) (both_lines p l)

  measured-more : (at : ℕ) (ls : List Line) (l : Line) → measured p at (ls ++ (l ∷ [])) ≡ measured p at ls ++ measure_row (at + length (drawn_pieces p ls)) (sizes_of p l)
  unfolding measured
  measured-more at [] l = let e : at + length (drawn_pieces p []) ≡ at = rw drawn-none (omega arith) in rw e
  measured-more at (k ∷ ls) l =
      let e : at + length (both_lines p k) + length (drawn_pieces p ls) ≡ at + length (drawn_pieces p (k ∷ ls)) = omega (arith, ap length (drawn-first k ls), length-append (both_lines p k) (drawn_pieces p ls)) in
      ap (λ (z : List ℕ). at ∷ length (first_line_of p k) ∷ length (second_line_of p k) ∷ z) (measured-more (at + length (both_lines p k)) ls l ∙ rw e)

  measured-length : (at : ℕ) (ls : List Line) → length (measured p at ls) ≡ length ls * 3
  unfolding measured
  measured-length at [] = refl
  measured-length at (l ∷ ls) = let e = measured-length (at + length (both_lines p l)) ls in omega (arith, e)

-- ---- the rows of a table

module _ (c : List Float) (stride offset : ℕ) (marked : Bool) (chosen : List Bool) (t : List ℕ) where
  -- the lines of those before row i
  abbrev pub lines_to : ℕ → List Line
  lines_to i = map (line_in c (column_of stride offset marked)) (picked chosen (take i (rows stride (λ w. w) t)))

  -- measured up to row i, and drawn
  pub record Listed (p : Point2) (from : ℕ) (w : List ℕ) (i m at : ℕ) (v : List ℕ) : Type 0 where
    pub few : m ≤ i
    pub near : at ≤ from + i * 516
    pub same : length v ≡ length w
    pub counted : m ≡ length (lines_to i)
    pub behind : at ≡ from + length (drawn_pieces p (lines_to i))
    pub written : v ≡ over w 0 (measured p from (lines_to i))

  pub record Drawn (p : Point2) (from : ℕ) (w : List Float) (i at : ℕ) (v : List Float) : Type 0 where
    pub same : length v ≡ length w
    pub behind : at ≡ from + length (drawn_pieces p (lines_to i))
    pub written : v ≡ over w (from * 3) (flat (drawn_pieces p (lines_to i)))

  module _ (h : Chosen c stride offset marked chosen t) where
    pub table-there : 1 ≤ length t
    table-there = table-some 4096 stride t h.counts

    pub table-small : word 0 t ≤ 4096
    table-small = table-few 4096 stride t h.counts

    pub row_small : (i : ℕ) → i < word 0 t → 1 + i * stride + stride ≤ length t
    row_small i d = row_room 4096 stride t h.counts i d

    pub lines_none : lines_to 0 ≡ []
    lines_none = rw (picked_none chosen)

    rows-length : length (rows stride (λ (w : List ℕ). w) t) ≡ word 0 t
    unfolding rows
    rows-length = length-reads stride (λ (w : List ℕ). w) (word 0 t) (drop 1 t)

    pub lines-all : (i : ℕ) → word 0 t ≤ i → lines_to i ≡ chosen_lines c (column_of stride offset marked) chosen t
    lines-all i l = ap (λ z. map (line_in c (column_of stride offset marked)) (picked chosen z)) (take_all i (rows stride (λ w. w) t) (omega (arith, rows-length)))

    -- row i
    module _ (i : ℕ) (d : i < word 0 t) where
      abbrev row : ℕ
      row = 1 + i * stride

      row_is : get_or (rows stride (λ (w : List ℕ). w) t) i [] ≡ row_at stride t i
      unfolding rows
      row_is = get_d_reads stride (λ (w : List ℕ). w) (word 0 t) i (drop 1 t) [] d ∙ rw drop-drop

      word-is : (k : ℕ) → k < stride → word k (row_at stride t i) ≡ get_or t (row + k) 0
      word-is k l = get_or-take stride (drop row t) k 0 l ∙ get_or-drop row t k 0

      pub stored_here : RowStored c offset marked row t
      unfolding all_rows
      stored_here =
          record {
            words = omega (arith, h.line, row_small i d);
            row_words = omega (arith, h.row, row_small i d);
            lies =
                (λ f.
                let g = row-passes stride (line_stored c (column_of stride offset marked)) t h.lines i d in
                let e : row + suc offset ≡ suc (row + offset) = omega arith in
                let u = rw (row_has_lem stride row marked t h.row, f, word-is offset (omega (arith, h.line)), word-is (suc offset) (omega (arith, h.line)), e) at g in
                let s = stored c (span_at (row + offset) t) in
                let m = leb (word (suc (row + offset)) t) 256 in
                (and-fst s m u, leb-true (word (suc (row + offset)) t) 256 (and-snd s m u)));
          }

      line-is : line_in c (column_of stride offset marked) (get_or (rows stride (λ w. w) t) i []) ≡ row_line c offset marked row t
      line-is =
          let e : row + suc offset ≡ suc (row + offset) = omega arith in
          rw (row_is, row_has_lem stride row marked t h.row, word-is offset (omega (arith, h.line)), word-is (suc offset) (omega (arith, h.line)), e)

      within : i < length (rows stride (λ (w : List ℕ). w) t)
      within = omega (arith, rows-length)

      pub lines-skip : get_or chosen i false ≡ false → lines_to (i + 1) ≡ lines_to i
      lines-skip q = ap (map (line_in c (column_of stride offset marked))) (pick-none chosen (rows stride (λ w. w) t) i [] within (omega (arith, h.marks)) q)

      module _ (q : get_or chosen i false ≡ true) where
        abbrev here : Line
        here = row_line c offset marked row t

        pub lines_more : lines_to (i + 1) ≡ lines_to i ++ (here ∷ [])
        lines_more =
            let f = line_in c (column_of stride offset marked) in
            ap (map f) (pick-one chosen (rows stride (λ w. w) t) i [] within (omega (arith, h.marks)) q)
            ∙ map-append f (picked chosen (take i (rows stride (λ w. w) t))) (get_or (rows stride (λ w. w) t) i [] ∷ []) ∙ rw line-is

        -- those behind it
        abbrev behind : List Line
        behind = map (line_in c (column_of stride offset marked)) (picked (drop (i + 1) chosen) (drop (i + 1) (rows stride (λ w. w) t)))

        lines_rest : chosen_lines c (column_of stride offset marked) chosen t ≡ lines_to i ++ (here ∷ behind)
        lines_rest =
            let f = line_in c (column_of stride offset marked) in
            ap (map f) (pick-rest chosen (rows stride (λ w. w) t) i [] within (omega (arith, h.marks)) q)
            ∙ map-append f (picked chosen (take i (rows stride (λ w. w) t))) (get_or (rows stride (λ w. w) t) i [] ∷ picked (drop (i + 1) chosen) (drop (i + 1) (rows stride (λ w. w) t))) ∙ rw line-is

        pub lines-there : length (lines_to i) + 1 ≤ length (chosen_lines c (column_of stride offset marked) chosen t)
        lines-there = omega (arith, ap length lines_rest, length-append (lines_to i) (here ∷ behind))

        pub points-there : (p : Point2) → length (drawn_pieces p (lines_to i)) + length (both_lines p here) ≤ length (drawn_pieces p (chosen_lines c (column_of stride offset marked) chosen t))
        points-there p =
            omega (arith, ap (λ z. length (drawn_pieces p z)) lines_rest, ap length (drawn-append p (lines_to i) (here ∷ behind)), length-append (drawn_pieces p (lines_to i)) (drawn_pieces p (here ∷ behind)), ap length (drawn-first p here behind), length-append (both_lines p here) (drawn_pieces p behind))

    -- ---- measured

    module _ (p : Point2) (from : ℕ) (w : List ℕ) where
      pub list-begins : Listed p from w 0 0 from w
      list-begins =
          record {
            few = omega arith;
            near = omega arith;
            same = refl;
            counted = rw lines_none;
            behind = rw (lines_none, drawn-none p) (omega arith);
            written = rw lines_none (unfold measured in sym (over-nil w 0));
          }

      module _ (i m at : ℕ) (v : List ℕ) (g : Listed p from w i m at v) where
        pub list-skip : i < word 0 t → get_or chosen i false ≡ false → Listed p from w (i + 1) m at v
        list-skip d q =
            let e : lines_to i ≡ lines_to (i + 1) = sym (lines-skip i d q) in
            record {
              few = omega (arith, g.few);
              near = omega (arith, g.near);
              same = g.same;
              counted = g.counted ∙ ap length e;
              behind = g.behind ∙ ap (λ z. from + length (drawn_pieces p z)) e;
              written = g.written ∙ ap (λ z. over w 0 (measured p from z)) e;
            }

        module _ (d : i < word 0 t) (q : get_or chosen i false ≡ true) (room : length (chosen_lines c (column_of stride offset marked) chosen t) * 3 ≤ length w) where
          pub list-room : m * 3 + 3 ≤ length v
          list-room = omega (arith, g.same, g.counted, lines-there i d q)

          pub list-more : (s : Sizes) → Measured p (row_line c offset marked (1 + i * stride) t) s → (z : ℕ) (y : List ℕ) → (z ≡ at + (s.first + s.second)) × (y ≡ over v (m * 3) (measure_row at s)) → length y ≡ length v
              → Listed p from w (i + 1) (m + 1) z y
          list-more s k z y r e =
              let l = row_line c offset marked (1 + i * stride) t in
              let x : s.first + s.second ≡ length (both_lines p l) = ap (λ u. u.first + u.second) k.0 ∙ sym (both-length p l) in
              record {
                few = omega (arith, g.few);
                near = omega (arith, g.near, r.0, k.1);
                same = e ∙ g.same;
                counted = rw (lines_more i d q, length-append) (omega (arith, g.counted));
                behind = rw (lines_more i d q) (omega (arith, r.0, x, g.behind, length_more p (lines_to i) l));
                written =
                    r.1 ∙ ap (λ z. over z (m * 3) (measure_row at s)) g.written
                    ∙ over-over w 0 (m * 3) (measured p from (lines_to i)) (measure_row at s) (omega (arith, measured-length p from (lines_to i), g.counted)) (omega (arith, g.counted, lines-there i d q))
                    ∙ ap (over w 0) (rw (k.0, g.behind) (sym (ap (measured p from) (lines_more i d q) ∙ measured-more p from (lines_to i) l)));
              }

        pub list-ends : word 0 t ≤ i → i ≤ word 0 t → (at ≡ from + length (drawn_pieces p (chosen_lines c (column_of stride offset marked) chosen t))) × ((v ≡ over w 0 (measured p from (chosen_lines c (column_of stride offset marked) chosen t))) × (at ≤ from + 2113536))
        list-ends l k =
            let e = lines-all i l in
            (g.behind ∙ ap (λ z. from + length (drawn_pieces p z)) e, (g.written ∙ ap (λ z. over w 0 (measured p from z)) e, omega (arith, g.near, table-small)))

    -- ---- drawn

    module _ (p : Point2) (from : ℕ) (w : List Float) where
      pub draw_begins : Drawn p from w 0 from w
      draw_begins = record { same = refl; behind = rw (lines_none, drawn-none p) (omega arith); written = rw (lines_none, drawn-none p) (sym (over_none w from)) }

      module _ (i at : ℕ) (v : List Float) (g : Drawn p from w i at v) where
        pub draw_skip : i < word 0 t → get_or chosen i false ≡ false → Drawn p from w (i + 1) at v
        draw_skip d q =
            let e : lines_to i ≡ lines_to (i + 1) = sym (lines-skip i d q) in
            record { same = g.same; behind = g.behind ∙ ap (λ z. from + length (drawn_pieces p z)) e; written = g.written ∙ ap (λ z. over w (from * 3) (flat (drawn_pieces p z))) e }

        module _ (d : i < word 0 t) (q : get_or chosen i false ≡ true) (room : (from + length (drawn_pieces p (chosen_lines c (column_of stride offset marked) chosen t))) * 3 ≤ length w) where
          pub draw_room : (at + length (both_lines p (row_line c offset marked (1 + i * stride) t))) * 3 ≤ length v
          draw_room = omega (arith, g.same, g.behind, points-there i d q p)

          pub draw_more : (z : ℕ) (y : List Float)
              → (z ≡ at + length (both_lines p (row_line c offset marked (1 + i * stride) t))) × (y ≡ over v (at * 3) (flat (both_lines p (row_line c offset marked (1 + i * stride) t)))) → length y ≡ length v → Drawn p from w (i + 1) z y
          draw_more z y r e =
              let l = row_line c offset marked (1 + i * stride) t in
              record {
                same = e ∙ g.same;
                behind = rw (lines_more i d q) (omega (arith, r.0, g.behind, length_more p (lines_to i) l));
                written =
                    r.1 ∙ ap (λ z. over z (at * 3) (flat (both_lines p l))) g.written ∙ over-flat w from at (drawn_pieces p (lines_to i)) (both_lines p l) (sym g.behind) (omega (arith, g.behind, points-there i d q p))
                    ∙ ap (λ z. over w (from * 3) (flat z)) (sym (ap (drawn_pieces p) (lines_more i d q) ∙ drawn-more p (lines_to i) l));
              }

        pub draw_ends : word 0 t ≤ i
            → (at ≡ from + length (drawn_pieces p (chosen_lines c (column_of stride offset marked) chosen t))) × (v ≡ over w (from * 3) (flat (drawn_pieces p (chosen_lines c (column_of stride offset marked) chosen t))))
        draw_ends l =
            let e = lines-all i l in
            (g.behind ∙ ap (λ z. from + length (drawn_pieces p z)) e, g.written ∙ ap (λ z. over w (from * 3) (flat (drawn_pieces p z))) e)
