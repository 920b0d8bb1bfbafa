use Rattle.step.specs.Step.{given}
use native.Mathlib.Omega.{arith}
use Rattle.lent.specs.Lent.{map_tables}
use mathlib.Core.Path.{sym, ap, ◌∙◌, subst}
use Prim.Native.Nat.{◌+◌, ◌*◌}
use lib.ListN.{length, get_or}
use Rattle.merge_gone.specs.Leaving.{Countable, fits_after}
use Rattle.merge_lists.specs.Changes.{Formed, warnings_of}
use Rattle.tables.specs.View.{Tables}
use Rattle.merge_made.specs.Parts.{lists, lists_written, counts_of, Listable}
use Rattle.rules.specs.Sound.{next_id}
use Rattle.lookup.proofs.Laws.{sorted-row}
use Rattle.merge_made.proofs.Parts.{no-map-room, no-list-room, lists-ask, write-asks, merge-made, seen-fit}
use Rattle.merge_made.proofs.merge_with.Goals as goal

-- the view holds the tables of the map: what is read and tested of it is the map's
pub overflow_mul-second : goal.overflow_mul-second
overflow_mul-second c = omega (arith, sorted-row 1024 52 c.args.map.now.lanes.now c.requires.looked.0 c.args.j c.requires.looked.1.1)

pub overflow_add-second : goal.overflow_add-second
overflow_add-second c = omega (arith, sorted-row 1024 52 c.args.map.now.lanes.now c.requires.looked.0 c.args.j c.requires.looked.1.1)

pub offset_bounds-view-j : goal.offset_bounds-view-j
offset_bounds-view-j c = omega (arith, sorted-row 1024 52 c.args.map.now.lanes.now c.requires.looked.0 c.args.j c.requires.looked.1.1, ap (λ (t : Tables). length t.lanes) c.view-view.ensures)

pub bounds-view-j : goal.bounds-view-j
bounds-view-j c = omega (arith, sorted-row 1024 52 c.args.map.now.lanes.now c.requires.looked.0 c.args.j c.requires.looked.1.1, ap (λ (t : Tables). length t.lanes) c.view-view.ensures)

pub fits-requires : goal.fits-requires
fits-requires c = subst (λ (t : Tables). Countable t.lanes c.args.i c.args.j t.boundaries t.stop_lines t.crosswalks c.args.plan c.args.gone.now) (sym c.view-view.ensures) c.requires.countable

pub returns-then-not-fits-clause-made : goal.returns-then-not-fits-clause-made
returns-then-not-fits-clause-made c =
    let fit = c.fits.ensures ∙ ap (λ (t : Tables). fits_after t.lanes c.args.i c.args.j t.boundaries t.stop_lines t.crosswalks t.coordinates c.args.plan c.args.gone.now) c.view-view.ensures in
    no-map-room c.args.join c.args.i c.args.j c.args.plan c.args.gone.now c.args.joined.now (given c.args.counter c.args.map.now c.args.lists.now) c.fits.result fit c.if-not-fits.true

pub count-counts-requires : goal.count-counts-requires
count-counts-requires c = (subst (λ (t : Tables). Formed t.lanes t.roads t.junctions t.rules) (sym c.view-view.ensures) c.requires.formed, (c.requires.joined_few, c.requires.gone_few))

pub returns-then-not-lists_fit-clause-made : goal.returns-then-not-lists_fit-clause-made
returns-then-not-lists_fit-clause-made c =
    let fit = c.fits.ensures ∙ ap (λ (t : Tables). fits_after t.lanes c.args.i c.args.j t.boundaries t.stop_lines t.crosswalks t.coordinates c.args.plan c.args.gone.now) c.view-view.ensures in
    let second = get_or c.view-view.result.lanes.now (1 + c.args.j * 52) 0 in
    let read = ap (λ (t : Tables). get_or t.lanes (1 + c.args.j * 52) 0) c.view-view.ensures in
    let noted = c.notices_of-notices.ensures ∙ (ap (λ (t : Tables). warnings_of t.lanes c.args.i c.args.j c.args.plan.left c.args.plan.right c.next_id-next.result) c.view-view.ensures ∙ ap (warnings_of c.args.map.now.lanes.now c.args.i c.args.j c.args.plan.left c.args.plan.right) c.next_id-next.ensures) in
    let counts = c.count-counts.ensures ∙ ap (λ (t : Tables). counts_of second c.args.plan (length c.args.gone.now) c.args.joined.now c.count_notices-warnings.result t.lanes t.roads t.junctions t.rules) c.view-view.ensures in
    let places = c.lists_fit.ensures ∙ seen-fit c.count-counts.result c.args.lists.now c.view-seen.result c.view-seen.ensures in
    no-list-room c.args.join c.args.i c.args.j c.args.plan c.args.gone.now c.args.joined.now (given c.args.counter c.args.map.now c.args.lists.now) c.fits.result fit c.if-not-fits.false second read c.notices_of-notices.result noted c.count_notices-warnings.result c.count_notices-warnings.ensures c.count-counts.result counts c.lists_fit.result places c.if-not-lists_fit.true

pub write_lists-requires : goal.write_lists-requires
write_lists-requires c =
    let fit = c.fits.ensures ∙ ap (λ (t : Tables). fits_after t.lanes c.args.i c.args.j t.boundaries t.stop_lines t.crosswalks t.coordinates c.args.plan c.args.gone.now) c.view-view.ensures in
    let second = get_or c.view-view.result.lanes.now (1 + c.args.j * 52) 0 in
    let read = ap (λ (t : Tables). get_or t.lanes (1 + c.args.j * 52) 0) c.view-view.ensures in
    let noted = c.notices_of-notices.ensures ∙ (ap (λ (t : Tables). warnings_of t.lanes c.args.i c.args.j c.args.plan.left c.args.plan.right c.next_id-next.result) c.view-view.ensures ∙ ap (warnings_of c.args.map.now.lanes.now c.args.i c.args.j c.args.plan.left c.args.plan.right) c.next_id-next.ensures) in
    let counts = c.count-counts.ensures ∙ ap (λ (t : Tables). counts_of second c.args.plan (length c.args.gone.now) c.args.joined.now c.count_notices-warnings.result t.lanes t.roads t.junctions t.rules) c.view-view.ensures in
    let places = c.lists_fit.ensures ∙ seen-fit c.count-counts.result c.args.lists.now c.view-seen.result c.view-seen.ensures in
    subst (λ (t : Tables). Listable second c.next_id-next.result c.count-counts.result.created c.args.gone.now c.args.joined.now c.notices_of-notices.result t.lanes t.roads t.junctions t.rules c.args.lists.now.created.now c.args.lists.now.modified.now c.args.lists.now.deleted.now c.args.lists.now.warnings.now) (sym c.view-view.ensures)
    (lists-ask c.args.join c.args.i c.args.j c.args.plan c.args.gone.now c.args.joined.now (given c.args.counter c.args.map.now c.args.lists.now) c.fits.result fit c.if-not-fits.false second read c.notices_of-notices.result noted c.count_notices-warnings.result c.count_notices-warnings.ensures c.count-counts.result counts c.lists_fit.result places c.if-not-lists_fit.false c.requires.formed c.next_id-next.result c.next_id-next.ensures c.requires.ids_are_left)

pub write-requires : goal.write-requires
write-requires c =
    let fit = c.fits.ensures ∙ ap (λ (t : Tables). fits_after t.lanes c.args.i c.args.j t.boundaries t.stop_lines t.crosswalks t.coordinates c.args.plan c.args.gone.now) c.view-view.ensures in
    write-asks c.args.join c.args.plan c.next_id-next.result (next_id c.args.counter) c.args.gone.now c.args.i c.args.j (map_tables c.args.map.now) c.next_id-next.ensures (c.requires.writable (sym fit ∙ c.if-not-fits.false))

pub returns-clause-made : goal.returns-clause-made
returns-clause-made c =
    let fit = c.fits.ensures ∙ ap (λ (t : Tables). fits_after t.lanes c.args.i c.args.j t.boundaries t.stop_lines t.crosswalks t.coordinates c.args.plan c.args.gone.now) c.view-view.ensures in
    let second = get_or c.view-view.result.lanes.now (1 + c.args.j * 52) 0 in
    let read = ap (λ (t : Tables). get_or t.lanes (1 + c.args.j * 52) 0) c.view-view.ensures in
    let noted = c.notices_of-notices.ensures ∙ (ap (λ (t : Tables). warnings_of t.lanes c.args.i c.args.j c.args.plan.left c.args.plan.right c.next_id-next.result) c.view-view.ensures ∙ ap (warnings_of c.args.map.now.lanes.now c.args.i c.args.j c.args.plan.left c.args.plan.right) c.next_id-next.ensures) in
    let counts = c.count-counts.ensures ∙ ap (λ (t : Tables). counts_of second c.args.plan (length c.args.gone.now) c.args.joined.now c.count_notices-warnings.result t.lanes t.roads t.junctions t.rules) c.view-view.ensures in
    let places = c.lists_fit.ensures ∙ seen-fit c.count-counts.result c.args.lists.now c.view-seen.result c.view-seen.ensures in
    let told = c.write_lists.ensures.made ∙ ap (λ (t : Tables). lists_written second c.next_id-next.result c.count-counts.result.created c.args.gone.now c.args.joined.now c.notices_of-notices.result t.lanes t.roads t.junctions t.rules (lists c.args.lists.now.created.now c.args.lists.now.modified.now c.args.lists.now.deleted.now c.args.lists.now.warnings.now)) c.view-view.ensures in
    merge-made c.args.join c.args.i c.args.j c.args.plan c.args.gone.now c.args.joined.now (given c.args.counter c.args.map.now c.args.lists.now) c.fits.result fit c.if-not-fits.false second read c.notices_of-notices.result noted c.count_notices-warnings.result c.count_notices-warnings.ensures c.count-counts.result counts c.lists_fit.result places c.if-not-lists_fit.false c.next_id-next.result c.next_id-next.ensures (map_tables c.write.new.map) c.write.ensures.made c.write_lists.new.lists.created.now c.write_lists.new.lists.modified.now c.write_lists.new.lists.deleted.now c.write_lists.new.lists.warnings.now told
