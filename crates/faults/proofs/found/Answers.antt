-- `faults::found` meets its contract. The three ends, each by its law; where the counts and rows pass, lines and links may be looked at. Assumes nothing.
use mathlib.Core.Path.{sym, ◌∙◌}
use Prim.Native.Nat.{◌≤◌}
use native.Mathlib.Omega.{arith}
use Rattle.lists.proofs.Booleans.{and-fst}
use Rattle.rules.specs.Sound.{last_counter}
use Rattle.tables.specs.View.{tables_of}
use Rattle.row_tests.specs.Good.{largest_id}
use Rattle.soundness.specs.Parts.{all_good, all_ascend}
use Rattle.soundness.proofs.Ends.{words_of, may-take, may-search}
use Rattle.faults.proofs.Laws.{is-none}
use Rattle.faults.proofs.Sound.{none-counted, rows-found}
use Rattle.faults.proofs.Whole.{rowed, at-counts, at_rows, at-ties}
use Rattle.faults.proofs.found.Goals as goal

pub returns-then-is_some : goal.returns-then-is_some
returns-then-is_some c = at-counts c.args.counter (tables_of c.args.lanes.now c.args.boundaries.now c.args.roads.now c.args.junctions.now c.args.rules.now c.args.stop_lines.now c.args.crosswalks.now c.args.coordinates.now) c.counts_fault-counts.result c.counts_fault-counts.ensures (sym c.is_some.ensures ∙ c.if-is_some.true)

pub form_faults-rows-requires : goal.form_faults-rows-requires
form_faults-rows-requires c =
    let t = (tables_of c.args.lanes.now c.args.boundaries.now c.args.roads.now c.args.junctions.now c.args.rules.now c.args.stop_lines.now c.args.crosswalks.now c.args.coordinates.now) in
    (none-counted t (sym c.counts_fault-counts.ensures ∙ is-none c.counts_fault-counts.result (sym c.is_some.ensures ∙ c.if-is_some.false)))

pub returns-then-is_some-2 : goal.returns-then-is_some-2
returns-then-is_some-2 c =
    let t = (tables_of c.args.lanes.now c.args.boundaries.now c.args.roads.now c.args.junctions.now c.args.rules.now c.args.stop_lines.now c.args.crosswalks.now c.args.coordinates.now) in
    let k = c.args.counter in
    at_rows k t c.counts_fault-counts.result c.form_faults-rows.result c.counts_fault-counts.ensures (sym c.is_some.ensures ∙ c.if-is_some.false) (rowed k t c.largest_id.result c.form_faults-rows.result c.largest_id.ensures c.form_faults-rows.ensures) (sym c.is_some-2.ensures ∙ c.if-is_some-2.true)

pub points_fault-points-requires : goal.points_fault-points-requires
points_fault-points-requires c =
    let t = (tables_of c.args.lanes.now c.args.boundaries.now c.args.roads.now c.args.junctions.now c.args.rules.now c.args.stop_lines.now c.args.crosswalks.now c.args.coordinates.now) in
    let k = c.args.counter in
    let small : k ≤ last_counter = omega (arith, c.well_formed.0.1) in
    let w = words_of t c.shared_slice_known-1.given c.shared_slice_known-2-1.given c.shared_slice_known-3-1.given c.shared_slice_known-4-1.given c.shared_slice_known-5-1.given c.shared_slice_known-6-1.given c.shared_slice_known-7-1.given in
    may-take k t small w (none-counted t (sym c.counts_fault-counts.ensures ∙ is-none c.counts_fault-counts.result (sym c.is_some.ensures ∙ c.if-is_some.false))) (and-fst (all_good (largest_id k) t) (all_ascend t) (rows-found t (largest_id k) (sym (rowed k t c.largest_id.result c.form_faults-rows.result c.largest_id.ensures c.form_faults-rows.ensures) ∙ is-none c.form_faults-rows.result (sym c.is_some-2.ensures ∙ c.if-is_some-2.false))))

pub back_fault-links-requires : goal.back_fault-links-requires
back_fault-links-requires c =
    let t = (tables_of c.args.lanes.now c.args.boundaries.now c.args.roads.now c.args.junctions.now c.args.rules.now c.args.stop_lines.now c.args.crosswalks.now c.args.coordinates.now) in
    let k = c.args.counter in
    let small : k ≤ last_counter = omega (arith, c.well_formed.0.1) in
    let w = words_of t c.shared_slice_known-1.given c.shared_slice_known-2-1.given c.shared_slice_known-3-1.given c.shared_slice_known-4-1.given c.shared_slice_known-5-1.given c.shared_slice_known-6-1.given c.shared_slice_known-7-1.given in
    may-search k t small w (none-counted t (sym c.counts_fault-counts.ensures ∙ is-none c.counts_fault-counts.result (sym c.is_some.ensures ∙ c.if-is_some.false))) (rows-found t (largest_id k) (sym (rowed k t c.largest_id.result c.form_faults-rows.result c.largest_id.ensures c.form_faults-rows.ensures) ∙ is-none c.form_faults-rows.result (sym c.is_some-2.ensures ∙ c.if-is_some-2.false)))

pub back_fault-requires : goal.back_fault-requires
back_fault-requires c =
    let t = (tables_of c.args.lanes.now c.args.boundaries.now c.args.roads.now c.args.junctions.now c.args.rules.now c.args.stop_lines.now c.args.crosswalks.now c.args.coordinates.now) in
    let k = c.args.counter in
    let small : k ≤ last_counter = omega (arith, c.well_formed.0.1) in
    let w = words_of t c.shared_slice_known-1.given c.shared_slice_known-2-1.given c.shared_slice_known-3-1.given c.shared_slice_known-4-1.given c.shared_slice_known-5-1.given c.shared_slice_known-6-1.given c.shared_slice_known-7-1.given in
    may-search k t small w (none-counted t (sym c.counts_fault-counts.ensures ∙ is-none c.counts_fault-counts.result (sym c.is_some.ensures ∙ c.if-is_some.false))) (rows-found t (largest_id k) (sym (rowed k t c.largest_id.result c.form_faults-rows.result c.largest_id.ensures c.form_faults-rows.ensures) ∙ is-none c.form_faults-rows.result (sym c.is_some-2.ensures ∙ c.if-is_some-2.false)))

pub returns : goal.returns
returns c =
    let t = (tables_of c.args.lanes.now c.args.boundaries.now c.args.roads.now c.args.junctions.now c.args.rules.now c.args.stop_lines.now c.args.crosswalks.now c.args.coordinates.now) in
    let k = c.args.counter in
    at-ties k t c.counts_fault-counts.result c.form_faults-rows.result c.points_fault-points.result c.back_fault-links.result c.back_fault.result c.or.result c.or-2.result c.counts_fault-counts.ensures (sym c.is_some.ensures ∙ c.if-is_some.false) (rowed k t c.largest_id.result c.form_faults-rows.result c.largest_id.ensures c.form_faults-rows.ensures) (sym c.is_some-2.ensures ∙ c.if-is_some-2.false) c.points_fault-points.ensures c.back_fault-links.ensures c.back_fault.ensures c.or.ensures c.or-2.ensures
