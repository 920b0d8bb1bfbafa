-- `lane_lines::oriented_end` meets its contract: the boundary that is found is one of the rows; the first point of a line backwards is its last, and its
-- last the first. Assumes nothing.
use Rattle.std.specs.Prelude.{◌≡◌, Bool, true, false, cond, Option, None, Some, List, reverse}
use mathlib.Core.Path.{◌∙◌, sym, ap}
use mathlib.Core.Bool.{beq}
use Rattle.polyline.specs.Polyline.{points, first, last}
use Rattle.rules.specs.Names.{Point3}
use Rattle.rules.specs.Map.{first_of, last_of}
use Rattle.lookup.specs.Lookup.{row_at}
use Rattle.lookup.proofs.Laws.{place-within, oriented-absent, oriented-there, first-reverse, last-reverse}
use Rattle.lane_lines.proofs.oriented_end.Goals as goal

-- an end of no line; where the wanted end and the direction agree, the last point of the line as it is stored; where they differ, the first
end-absent : (f : Bool) (r s : Option _) → r ≡ None → s ≡ None → r ≡ cond f (first_of s) (last_of s)
end-absent true r s e g = e ∙ sym (ap first_of g)
end-absent false r s e g = e ∙ sym (ap last_of g)

module _ (ps : List Point3) (s : Option (List Point3)) where
  end-last : (f v : Bool) → s ≡ Some (cond v (reverse ps) ps) → beq f v ≡ true → last ps ≡ cond f (first_of s) (last_of s)
  end-last true true e q = sym (first-reverse ps) ∙ sym (ap first_of e)
  end-last false false e q = sym (ap last_of e)
  end-last true false e q = cc
  end-last false true e q = cc

  end-first : (f v : Bool) → s ≡ Some (cond v (reverse ps) ps) → beq f v ≡ false → first ps ≡ cond f (first_of s) (last_of s)
  end-first true true e q = cc
  end-first false false e q = cc
  end-first true false e q = sym (ap first_of e)
  end-first false true e q = sym (last-reverse ps) ∙ sym (ap last_of e)

pub returns-in_err-j : goal.returns-in_err-j
returns-in_err-j c = end-absent c.args.first c.from_residual.result _ c.from_residual.ensures (oriented-absent c.args.coordinates.now c.args.boundaries.now (row_at 52 c.args.lanes.now c.args.i) c.args.side c.boundary_ref-r.result c.boundary_ref-r.ensures (sym c.boundary.ensures ∙ c.in_err-j.was))

pub boundary_line-line-requires : goal.boundary_line-line-requires
boundary_line-line-requires c = (c.requires.1.1.0, (place-within 5 c.args.boundaries.now c.boundary_ref-r.result.boundary c.in_ok-j.j (sym c.boundary.ensures ∙ c.in_ok-j.was), c.requires.1.1.1))

pub returns-then-first-r : goal.returns-then-first-r
returns-then-first-r c = c.last.ensures ∙ end-last (points c.boundary_line-line.result.now) _ c.args.first c.boundary_ref-r.result.reversed (oriented-there c.args.coordinates.now c.args.boundaries.now (row_at 52 c.args.lanes.now c.args.i) c.args.side c.boundary_ref-r.result c.boundary_ref-r.ensures c.in_ok-j.j (sym c.boundary.ensures ∙ c.in_ok-j.was) c.boundary_line-line.result.now c.boundary_line-line.ensures) c.if-first-r.true

pub returns : goal.returns
returns c = c.first.ensures ∙ end-first (points c.boundary_line-line.result.now) _ c.args.first c.boundary_ref-r.result.reversed (oriented-there c.args.coordinates.now c.args.boundaries.now (row_at 52 c.args.lanes.now c.args.i) c.args.side c.boundary_ref-r.result c.boundary_ref-r.ensures c.in_ok-j.j (sym c.boundary.ensures ∙ c.in_ok-j.was) c.boundary_line-line.result.now c.boundary_line-line.ensures) c.if-first-r.false
