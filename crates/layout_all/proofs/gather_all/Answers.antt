-- `layout_all::gather_all` meets its contract: column by column, what is left before each. Assumes nothing.
use mathlib.Core.Path.{◌≡◌}
use mathlib.Core.Bool.{true}
use mathlib.Core.List.{List, ◌++◌}
use native.Mathlib.Omega.{arith}
use Prim.Native.Nat.{ℕ, ◌+◌, ◌*◌}
use lib.Ieee.{Float}
use Rattle.lent.specs.declared.Lines.{Lines}
use Rattle.lent.specs.Lent.{lines_tables}
use Rattle.lists.specs.Rows.{over}
use Rattle.tables.specs.Formed.{Span, spans, counted}
use Rattle.layout.specs.Layout.{Gatherable, sourced, centerlines, column_lines, laid_from, line_floats, points_in, boundary_lines_of, stop_lines_of, left_edges_of, right_edges_of}
use Rattle.layout.proofs.Stages.{Stage, lefts-on, stops-on, centers-on, counts, stage-start, stage-fits, stage-room, stage-step, all-gathered, rights-ready, right-needs, right-last}
use Rattle.layout_all.proofs.gather_all.Goals as goal

-- what a column's call leaves: the point behind its lines, and the coordinates
abbrev Laid : List Float → ℕ → List Float → List Span → ℕ → List Float → Type 0
Laid w at c ss at₁ c₁ = (at₁ ≡ at + points_in ss) × (c₁ ≡ over c (at * 3) (line_floats w ss))

module _ (w : List Float) (m : Lines) (h : Gatherable w (lines_tables m)) where
  -- what is left before each column: boundaries, centrelines, stop lines, left edges, right edges
  abbrev Before : List Float → ℕ → List Span → Type 0
  Before c at rest = Stage w m.coordinates.now (spans (lines_tables m)) c at rest

  start : Before m.coordinates.now 0 (column_lines boundary_lines_of m.boundaries.now ++ centers-on m.lanes.now m.stop_lines.now m.crosswalks.now)
  start = stage-start w (lines_tables m) h

  module _ (n₁ : ℕ) (c₁ : List Float) (e₁ : Laid w 0 m.coordinates.now (column_lines boundary_lines_of m.boundaries.now) n₁ c₁) where
    centers : Before c₁ n₁ (centers-on m.lanes.now m.stop_lines.now m.crosswalks.now)
    centers = stage-step w m.coordinates.now (spans (lines_tables m)) m.coordinates.now 0 (column_lines boundary_lines_of m.boundaries.now) (centers-on m.lanes.now m.stop_lines.now m.crosswalks.now) start c₁ n₁ e₁.0 e₁.1

    module _ (n₂ : ℕ) (c₂ : List Float) (e₂ : Laid w n₁ c₁ (column_lines centerlines m.lanes.now) n₂ c₂) where
      stops : Before c₂ n₂ (stops-on m.stop_lines.now m.crosswalks.now)
      stops = stage-step w m.coordinates.now (spans (lines_tables m)) c₁ n₁ (column_lines centerlines m.lanes.now) (stops-on m.stop_lines.now m.crosswalks.now) centers c₂ n₂ e₂.0 e₂.1

      module _ (n₃ : ℕ) (c₃ : List Float) (e₃ : Laid w n₂ c₂ (column_lines stop_lines_of m.stop_lines.now) n₃ c₃) where
        lefts : Before c₃ n₃ (lefts-on m.crosswalks.now)
        lefts = stage-step w m.coordinates.now (spans (lines_tables m)) c₂ n₂ (column_lines stop_lines_of m.stop_lines.now) (lefts-on m.crosswalks.now) stops c₃ n₃ e₃.0 e₃.1

        module _ (n₄ : ℕ) (c₄ : List Float) (e₄ : Laid w n₃ c₃ (column_lines left_edges_of m.crosswalks.now) n₄ c₄) where
          rights : Before c₄ n₄ (column_lines right_edges_of m.crosswalks.now)
          rights = stage-step w m.coordinates.now (spans (lines_tables m)) c₃ n₃ (column_lines left_edges_of m.crosswalks.now) (column_lines right_edges_of m.crosswalks.now) lefts c₄ n₄ e₄.0 e₄.1

  -- the crosswalks with their left edges laid out
  edges : (at : ℕ) (x : List ℕ) → x ≡ laid_from at left_edges_of m.crosswalks.now → (counted 4096 7 x ≡ true) × (column_lines right_edges_of x ≡ column_lines right_edges_of m.crosswalks.now)
  edges at x e = rights-ready at m.crosswalks.now x e (counts (lines_tables m) h.counts).1.1.1

pub gather-centers-requires : goal.gather-centers-requires
gather-centers-requires c =
    let w = sourced c.args.reach c.args.work.now c.args.drawn.now in
    let m = c.args.lines.now in
    let a = column_lines boundary_lines_of m.boundaries.now in
    let r = centers-on m.lanes.now m.stop_lines.now m.crosswalks.now in
    let p = start w m c.requires.1 in
    (c.requires.0, (omega arith, (omega arith, ((counts (lines_tables m) c.requires.1.counts).1.0, (stage-fits w m.coordinates.now (spans (lines_tables m)) m.coordinates.now 0 a r p, stage-room w m.coordinates.now (spans (lines_tables m)) m.coordinates.now 0 a r p)))))

pub gather_centers-stops-requires : goal.gather_centers-stops-requires
gather_centers-stops-requires c =
    let w = sourced c.args.reach c.args.work.now c.args.drawn.now in
    let m = c.args.lines.now in
    let g = c.gather-centers in
    let a = column_lines centerlines m.lanes.now in
    let r = stops-on m.stop_lines.now m.crosswalks.now in
    let p = centers w m c.requires.1 g.result g.new.coordinates (g.ensures.0, g.ensures.1.1) in
    (c.requires.0, ((counts (lines_tables m) c.requires.1.counts).0, (stage-fits w m.coordinates.now (spans (lines_tables m)) g.new.coordinates g.result a r p, stage-room w m.coordinates.now (spans (lines_tables m)) g.new.coordinates g.result a r p)))

pub gather-lefts-requires : goal.gather-lefts-requires
gather-lefts-requires c =
    let w = sourced c.args.reach c.args.work.now c.args.drawn.now in
    let m = c.args.lines.now in
    let g₁ = c.gather-centers in
    let g = c.gather_centers-stops in
    let a = column_lines stop_lines_of m.stop_lines.now in
    let r = lefts-on m.crosswalks.now in
    let p = stops w m c.requires.1 g₁.result g₁.new.coordinates (g₁.ensures.0, g₁.ensures.1.1) g.result g.new.coordinates (g.ensures.0, g.ensures.1.1) in
    (c.requires.0, (omega arith, (omega arith, ((counts (lines_tables m) c.requires.1.counts).1.1.0, (stage-fits w m.coordinates.now (spans (lines_tables m)) g.new.coordinates g.result a r p, stage-room w m.coordinates.now (spans (lines_tables m)) g.new.coordinates g.result a r p)))))

pub gather-rights-requires : goal.gather-rights-requires
gather-rights-requires c =
    let w = sourced c.args.reach c.args.work.now c.args.drawn.now in
    let m = c.args.lines.now in
    let g₁ = c.gather-centers in
    let g₂ = c.gather_centers-stops in
    let g = c.gather-lefts in
    let a = column_lines left_edges_of m.crosswalks.now in
    let r = column_lines right_edges_of m.crosswalks.now in
    let p = lefts w m c.requires.1 g₁.result g₁.new.coordinates (g₁.ensures.0, g₁.ensures.1.1) g₂.result g₂.new.coordinates (g₂.ensures.0, g₂.ensures.1.1) g.result g.new.coordinates (g.ensures.0, g.ensures.1.1) in
    (c.requires.0, (omega arith, (omega arith, ((counts (lines_tables m) c.requires.1.counts).1.1.1, (stage-fits w m.coordinates.now (spans (lines_tables m)) g.new.coordinates g.result a r p, stage-room w m.coordinates.now (spans (lines_tables m)) g.new.coordinates g.result a r p)))))

pub gather-requires : goal.gather-requires
gather-requires c =
    let w = sourced c.args.reach c.args.work.now c.args.drawn.now in
    let m = c.args.lines.now in
    let g₁ = c.gather-centers in
    let g₂ = c.gather_centers-stops in
    let g₃ = c.gather-lefts in
    let g = c.gather-rights in
    let e = edges w m c.requires.1 g₃.result g.new.rows g.ensures.1.0 in
    let p = rights w m c.requires.1 g₁.result g₁.new.coordinates (g₁.ensures.0, g₁.ensures.1.1) g₂.result g₂.new.coordinates (g₂.ensures.0, g₂.ensures.1.1) g₃.result g₃.new.coordinates (g₃.ensures.0, g₃.ensures.1.1) g.result g.new.coordinates (g.ensures.0, g.ensures.1.1) in
    (c.requires.0, (omega arith, (omega arith, (e.0, right-needs w m.coordinates.now (spans (lines_tables m)) g.new.coordinates g.result m.crosswalks.now g.new.rows e.1 p))))

pub returns-clause-made : goal.returns-clause-made
returns-clause-made c =
    let w = sourced c.args.reach c.args.work.now c.args.drawn.now in
    let m = c.args.lines.now in
    let g₁ = c.gather-centers in
    let g₂ = c.gather_centers-stops in
    let g₃ = c.gather-lefts in
    let g₄ = c.gather-rights in
    let g₅ = c.gather in
    let e = edges w m c.requires.1 g₃.result g₄.new.rows g₄.ensures.1.0 in
    let p = rights w m c.requires.1 g₁.result g₁.new.coordinates (g₁.ensures.0, g₁.ensures.1.1) g₂.result g₂.new.coordinates (g₂.ensures.0, g₂.ensures.1.1) g₃.result g₃.new.coordinates (g₃.ensures.0, g₃.ensures.1.1) g₄.result g₄.new.coordinates (g₄.ensures.0, g₄.ensures.1.1) in
    all-gathered w m.lanes.now m.boundaries.now m.stop_lines.now m.crosswalks.now g₂.new.lanes g₁.new.rows g₃.new.rows g₄.new.rows g₅.new.rows m.coordinates.now g₅.new.coordinates
    g₁.result g₂.result g₃.result g₄.result g₁.ensures.0 g₁.ensures.1.0 g₂.ensures.0 g₂.ensures.1.0 g₃.ensures.0 g₃.ensures.1.0 g₄.ensures.0 g₄.ensures.1.0 g₅.ensures.1.0
    (right-last w m.coordinates.now (spans (lines_tables m)) g₄.new.coordinates g₄.result m.crosswalks.now g₄.new.rows e.1 p g₅.new.coordinates g₅.ensures.1.1)
