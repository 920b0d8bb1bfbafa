-- `anchors::stop_anchor` meets its contract: the stop line that is found is one of the rows. Assumes nothing.
use mathlib.Core.Path.{◌∙◌, sym}
use native.Mathlib.Omega.{arith}
use Rattle.lookup.proofs.Laws.{sorted-row, place-within, line-may}
use Rattle.anchors.proofs.Anchor.{stop-absent, stop-there}
use Rattle.anchors.proofs.stop_anchor.Goals as goal

pub returns-in_err-j : goal.returns-in_err-j
returns-in_err-j c = c.from_residual.ensures ∙ stop-absent c.args.coordinates.now c.args.stops.now c.args.id (sym c.stop_line.ensures ∙ c.in_err-j.was)

pub overflow_mul-j : goal.overflow_mul-j
overflow_mul-j c = omega (arith, sorted-row 512 4 c.args.stops.now c.requires.0 c.in_ok-j.j (place-within 4 c.args.stops.now c.args.id c.in_ok-j.j (sym c.stop_line.ensures ∙ c.in_ok-j.was)))

pub overflow_add-j : goal.overflow_add-j
overflow_add-j c = omega (arith, sorted-row 512 4 c.args.stops.now c.requires.0 c.in_ok-j.j (place-within 4 c.args.stops.now c.args.id c.in_ok-j.j (sym c.stop_line.ensures ∙ c.in_ok-j.was)))

pub overflow_add-j-2 : goal.overflow_add-j-2
overflow_add-j-2 c = omega (arith, sorted-row 512 4 c.args.stops.now c.requires.0 c.in_ok-j.j (place-within 4 c.args.stops.now c.args.id c.in_ok-j.j (sym c.stop_line.ensures ∙ c.in_ok-j.was)))

pub line_of-requires : goal.line_of-requires
line_of-requires c = line-may 512 4 1 c.args.coordinates.now c.args.stops.now c.requires.0 c.requires.1 c.in_ok-j.j (place-within 4 c.args.stops.now c.args.id c.in_ok-j.j (sym c.stop_line.ensures ∙ c.in_ok-j.was)) (omega arith)

pub returns : goal.returns
returns c = stop-there c.args.coordinates.now c.args.stops.now c.args.id c.in_ok-j.j (sym c.stop_line.ensures ∙ c.in_ok-j.was) c.line_of.result.now c.line_of.ensures c.mid.result c.mid.ensures
