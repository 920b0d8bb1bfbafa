-- The tables with lines after a merge, put together from what each step leaves. Assumes nothing.
use mathlib.Core.Path.{◌≡◌, ap, ◌∙◌}
use mathlib.Core.Bool.{true}
use mathlib.Core.List.{List}
use Prim.Native.Nat.{ℕ, ◌+◌, ◌^◌, ◌<◌}
use native.Mathlib.Omega.{arith}
use lib.Ieee.{Float}
use lib.ListN.{length}
use Rattle.rules.specs.Names.{Left, Right}
use Rattle.tables.specs.View.{Tables, word, ids_at}
use Rattle.layout.specs.Layout.{line_tables, sourced, gathered, Gatherable}
use Rattle.lookup.specs.Lookup.{row_at, sorted_table}
use Rattle.merge_plan.specs.declared.Plan.{Plan}
use Rattle.merge_draw.specs.declared.Taken.{Taken}
use Rattle.merge_draw.specs.Redrawing.{LanesLinked}
use Rattle.merge_redraw.specs.Relaying.{side_points, side_ids, right_at, center_at, drawn_lines, redrawn_of, boundaries_redrawn, Redrawable, taken_of, lanes_redrawn, redrawn_tables, relaid, work_floats, Drawing, Relayable}
use Rattle.merge_redraw.specs.declared.Redrawn.{Redrawn}

module _ (join : Float) (p : Plan) (next reach : ℕ) (gone : List ℕ) (i j : ℕ) (lanes boundaries stops crosswalks : List ℕ) (c work : List Float)
    (h : Relayable join p next reach gone i j (line_tables lanes boundaries stops crosswalks c)) (room : length work ≡ work_floats) where
  -- ---- what the steps ask

  pub draw_asks : Drawing c lanes boundaries i j p work
  draw_asks = h.drawing work room

  pub taken-asks : (next + side_ids p.left < 2 ^ 64) × (center_at p reach < 2 ^ 64)
  taken-asks = (h.ids, omega (arith, h.near, draw_asks.left_few, draw_asks.right_few))

  pub id-fits : (m : ℕ) → m ≡ side_ids p.left → next + m < 2 ^ 64
  id-fits m e = omega (arith, h.ids, e)

  pub right-fits : (n : ℕ) → n ≡ side_points p.left → reach + n < 2 ^ 64
  right-fits n e = omega (arith, h.near, draw_asks.left_few)

  pub side-asks : (sorted_table 1024 52 lanes ≡ true) × ((i < word 0 lanes) × (sorted_table 4096 5 boundaries ≡ true))
  side-asks = (draw_asks.drawable.lanes_are_sorted, (draw_asks.first, draw_asks.drawable.boundaries_are_sorted))

  pub lanes_ask : (LanesLinked lanes) × ((sorted_table 1024 52 lanes ≡ true) × ((i < word 0 lanes) × (j < word 0 lanes)))
  lanes_ask = (h.linked, (draw_asks.drawable.lanes_are_sorted, (draw_asks.first, draw_asks.second)))

  -- ---- what they leave

  module _ (taken : Taken) (te : taken ≡ taken_of p next reach) (n m : ℕ) (ne : n ≡ side_points p.left) (me : m ≡ side_ids p.left)
      (one two : Redrawn) (e1 : one ≡ redrawn_of lanes i Left boundaries p.left next reach) (e2 : two ≡ redrawn_of lanes i Right boundaries p.right (next + m) (reach + n)) where
    two_is : two ≡ redrawn_of lanes i Right boundaries p.right (next + side_ids p.left) (right_at p reach)
    two_is = e2 ∙ (ap (λ k. redrawn_of lanes i Right boundaries p.right (next + k) (reach + n)) me ∙ ap (λ k. redrawn_of lanes i Right boundaries p.right (next + side_ids p.left) (reach + k)) ne)

    pub redraw_asks : Redrawable gone one two boundaries
    redraw_asks = rw (e1, two_is) h.redrawable

    module _ (w : List Float) (we : w ≡ drawn_lines join c lanes boundaries i j p work) (b : List ℕ) (be : b ≡ boundaries_redrawn gone one two boundaries)
        (l : List ℕ) (le : l ≡ lanes_redrawn (word 0 (row_at 52 lanes i)) (word 0 (row_at 52 lanes j)) taken (ids_at 35 (row_at 52 lanes j)) lanes) where
      tables-are : line_tables l b stops crosswalks c ≡ redrawn_tables p next reach gone i j (line_tables lanes boundaries stops crosswalks c)
      unfolding redrawn_tables
      tables-are = rw (le, be, e1, two_is, te)

      pub gather-asks : Gatherable (sourced reach c w) (line_tables l b stops crosswalks c)
      gather-asks = rw (we, tables-are) (h.gatherable work room)

      pub all-relaid : (x : Tables) → x ≡ gathered (sourced reach c w) (line_tables l b stops crosswalks c) → x ≡ relaid join p next reach gone i j work (line_tables lanes boundaries stops crosswalks c)
      unfolding relaid
      all-relaid x e = e ∙ (ap (λ z. gathered (sourced reach c z) (line_tables l b stops crosswalks c)) we ∙ ap (gathered (sourced reach c (drawn_lines join c lanes boundaries i j p work))) tables-are)
