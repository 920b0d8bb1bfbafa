-- `sound_map::sound` meets its contract: each end by its law of Ends.antt, over the tables that were lent. Assumes nothing.
use borrow.Author.Rules.{rules}
use Rattle.sound_map.proofs.Linked.{may-follow}
use mathlib.Core.Path.{sym, ap, ◌∙◌}
use Prim.Native.Nat.{◌≤◌}
use native.Mathlib.Omega.{arith}
use Rattle.rules.specs.Sound.{last_counter}
use Rattle.lists.proofs.Booleans.{and-fst}
use Rattle.row_tests.specs.Good.{largest_id}
use Rattle.apart.proofs.Stored.{spans-lines}
use Rattle.tables.specs.Formed.{all_clear}
use Rattle.tables.specs.View.{tables_of}
use Rattle.soundness.specs.Parts.{all_good, all_ascend}
use Rattle.soundness.proofs.Ends.{words_of, may-take, may-search, end-tied, end_touching, end-bad, end-uncounted}
use Rattle.sound_map.proofs.sound.Goals as goal

pub rows_sound-requires : goal.rows_sound-requires
rows_sound-requires c = sym c.all_counted.ensures ∙ c.if-all_counted.true

pub lines_clear-requires : goal.lines_clear-requires
lines_clear-requires c =
    let t = tables_of c.args.lanes.now c.args.boundaries.now c.args.roads.now c.args.junctions.now c.args.rules.now c.args.stop_lines.now c.args.crosswalks.now c.args.coordinates.now in
    let k = c.args.counter in
    let small : k ≤ last_counter = omega (arith, c.well_formed.0.1) in
    let w = words_of t c.shared_slice_known-1.given c.shared_slice_known-2-1.given c.shared_slice_known-3-1.given c.shared_slice_known-4-1.given c.shared_slice_known-5-1.given c.shared_slice_known-6-1.given c.shared_slice_known-7-1.given in
    may-take k t small w (sym c.all_counted.ensures ∙ c.if-all_counted.true) (and-fst (all_good (largest_id k) t) (all_ascend t) (sym c.rows_sound.ensures ∙ c.if-rows_sound.true))

pub all_returned-returned-requires : goal.all_returned-returned-requires
all_returned-returned-requires c =
    let t = tables_of c.args.lanes.now c.args.boundaries.now c.args.roads.now c.args.junctions.now c.args.rules.now c.args.stop_lines.now c.args.crosswalks.now c.args.coordinates.now in
    let k = c.args.counter in
    let small : k ≤ last_counter = omega (arith, c.well_formed.0.1) in
    let w = words_of t c.shared_slice_known-1.given c.shared_slice_known-2-1.given c.shared_slice_known-3-1.given c.shared_slice_known-4-1.given c.shared_slice_known-5-1.given c.shared_slice_known-6-1.given c.shared_slice_known-7-1.given in
    (may-search k t small w (sym c.all_counted.ensures ∙ c.if-all_counted.true) (sym c.rows_sound.ensures ∙ c.if-rows_sound.true), may-follow k t (sym c.rows_sound.ensures ∙ c.if-rows_sound.true))

pub returns-then-lines_clear : goal.returns-then-lines_clear
returns-then-lines_clear c =
    let t = tables_of c.args.lanes.now c.args.boundaries.now c.args.roads.now c.args.junctions.now c.args.rules.now c.args.stop_lines.now c.args.crosswalks.now c.args.coordinates.now in
    let k = c.args.counter in
    let small : k ≤ last_counter = omega (arith, c.well_formed.0.1) in
    let w = words_of t c.shared_slice_known-1.given c.shared_slice_known-2-1.given c.shared_slice_known-3-1.given c.shared_slice_known-4-1.given c.shared_slice_known-5-1.given c.shared_slice_known-6-1.given c.shared_slice_known-7-1.given in
    c.all_returned-returned.ensures ∙ end-tied k t small w (sym c.all_counted.ensures ∙ c.if-all_counted.true) (sym c.rows_sound.ensures ∙ c.if-rows_sound.true) (ap all_clear (spans-lines t) ∙ (sym c.lines_clear.ensures ∙ c.if-lines_clear.true))

pub returns-else-lines_clear : goal.returns-else-lines_clear
returns-else-lines_clear c =
    let t = tables_of c.args.lanes.now c.args.boundaries.now c.args.roads.now c.args.junctions.now c.args.rules.now c.args.stop_lines.now c.args.crosswalks.now c.args.coordinates.now in
    let k = c.args.counter in
    let small : k ≤ last_counter = omega (arith, c.well_formed.0.1) in
    let w = words_of t c.shared_slice_known-1.given c.shared_slice_known-2-1.given c.shared_slice_known-3-1.given c.shared_slice_known-4-1.given c.shared_slice_known-5-1.given c.shared_slice_known-6-1.given c.shared_slice_known-7-1.given in
    end_touching k t small w (ap all_clear (spans-lines t) ∙ (sym c.lines_clear.ensures ∙ c.if-lines_clear.false))

pub returns-else-rows_sound : goal.returns-else-rows_sound
returns-else-rows_sound c =
    let t = tables_of c.args.lanes.now c.args.boundaries.now c.args.roads.now c.args.junctions.now c.args.rules.now c.args.stop_lines.now c.args.crosswalks.now c.args.coordinates.now in
    let k = c.args.counter in
    let small : k ≤ last_counter = omega (arith, c.well_formed.0.1) in
    let w = words_of t c.shared_slice_known-1.given c.shared_slice_known-2-1.given c.shared_slice_known-3-1.given c.shared_slice_known-4-1.given c.shared_slice_known-5-1.given c.shared_slice_known-6-1.given c.shared_slice_known-7-1.given in
    end-bad k t small w (sym c.all_counted.ensures ∙ c.if-all_counted.true) (sym c.rows_sound.ensures ∙ c.if-rows_sound.false)

pub returns-else-all_counted : goal.returns-else-all_counted
returns-else-all_counted c =
    let t = tables_of c.args.lanes.now c.args.boundaries.now c.args.roads.now c.args.junctions.now c.args.rules.now c.args.stop_lines.now c.args.crosswalks.now c.args.coordinates.now in
    let k = c.args.counter in
    let small : k ≤ last_counter = omega (arith, c.well_formed.0.1) in
    let w = words_of t c.shared_slice_known-1.given c.shared_slice_known-2-1.given c.shared_slice_known-3-1.given c.shared_slice_known-4-1.given c.shared_slice_known-5-1.given c.shared_slice_known-6-1.given c.shared_slice_known-7-1.given in
    end-uncounted k t small w (sym c.all_counted.ensures ∙ c.if-all_counted.false)
