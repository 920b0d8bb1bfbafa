-- `anchors::crosswalk_anchor` meets its contract: the crosswalk that is found is one of the rows. Assumes nothing.
use mathlib.Core.Path.{◌∙◌, sym}
use native.Mathlib.Omega.{arith}
use Rattle.lookup.proofs.Laws.{sorted-row, place-within, line-may}
use Rattle.anchors.proofs.Anchor.{cross-absent, cross-there}
use Rattle.anchors.proofs.crosswalk_anchor.Goals as goal

pub returns-in_err-j : goal.returns-in_err-j
returns-in_err-j c = c.from_residual.ensures ∙ cross-absent c.args.coordinates.now c.args.crosswalks.now c.args.id (sym c.crosswalk.ensures ∙ c.in_err-j.was)

pub overflow_mul-at : goal.overflow_mul-at
overflow_mul-at c = omega (arith, sorted-row 128 7 c.args.crosswalks.now c.requires.0 c.in_ok-j.j (place-within 7 c.args.crosswalks.now c.args.id c.in_ok-j.j (sym c.crosswalk.ensures ∙ c.in_ok-j.was)))

pub overflow_add-at : goal.overflow_add-at
overflow_add-at c = omega (arith, sorted-row 128 7 c.args.crosswalks.now c.requires.0 c.in_ok-j.j (place-within 7 c.args.crosswalks.now c.args.id c.in_ok-j.j (sym c.crosswalk.ensures ∙ c.in_ok-j.was)))

pub overflow_add-at-2 : goal.overflow_add-at-2
overflow_add-at-2 c = omega (arith, sorted-row 128 7 c.args.crosswalks.now c.requires.0 c.in_ok-j.j (place-within 7 c.args.crosswalks.now c.args.id c.in_ok-j.j (sym c.crosswalk.ensures ∙ c.in_ok-j.was)))

pub line_of-requires : goal.line_of-requires
line_of-requires c = line-may 128 7 1 c.args.coordinates.now c.args.crosswalks.now c.requires.0 c.requires.1.0 c.in_ok-j.j (place-within 7 c.args.crosswalks.now c.args.id c.in_ok-j.j (sym c.crosswalk.ensures ∙ c.in_ok-j.was)) (omega arith)

pub overflow_add-at-3 : goal.overflow_add-at-3
overflow_add-at-3 c = omega (arith, sorted-row 128 7 c.args.crosswalks.now c.requires.0 c.in_ok-j.j (place-within 7 c.args.crosswalks.now c.args.id c.in_ok-j.j (sym c.crosswalk.ensures ∙ c.in_ok-j.was)))

pub line_of-requires-2 : goal.line_of-requires-2
line_of-requires-2 c = line-may 128 7 3 c.args.coordinates.now c.args.crosswalks.now c.requires.0 c.requires.1.1 c.in_ok-j.j (place-within 7 c.args.crosswalks.now c.args.id c.in_ok-j.j (sym c.crosswalk.ensures ∙ c.in_ok-j.was)) (omega arith)

pub returns : goal.returns
returns c = cross-there c.args.coordinates.now c.args.crosswalks.now c.args.id c.in_ok-j.j (sym c.crosswalk.ensures ∙ c.in_ok-j.was) c.line_of.result.now c.line_of-2.result.now c.line_of.ensures c.line_of-2.ensures c.mid-left.result c.mid-right.result c.half_way.result c.mid-left.ensures c.mid-right.ensures c.half_way.ensures
