use mathlib.Core.Bool.{not}
use mathlib.Core.Path.{sym, ap, ◌∙◌, subst}
use Rattle.tables.specs.View.{Tables}
use Rattle.lent.specs.Lent.{map_tables}
use Rattle.split_relay.specs.Given.{cutting_by}
use Rattle.split_made.specs.Made.{Listable, Notable, counts_of, lists_written, noted}
use Rattle.split_made.proofs.Parts.{off, on, no-list-room, lists-ask, split-made}
use Rattle.split_made.proofs.make.Goals as goal

-- the view holds the tables of the map: what is counted and listed of it is the map's
pub count-counts-requires : goal.count-counts-requires
count-counts-requires c = subst (Notable c.args.drawn.first c.args.drawn.ids (cutting_by c.args.cuts) c.args.anchored.now c.args.past.now) (sym c.view-view.ensures) c.requires.notable

pub returns-then-not-lists_fit-clause-made : goal.returns-then-not-lists_fit-clause-made
returns-then-not-lists_fit-clause-made c =
    let counts = c.count-counts.ensures ∙ ap (counts_of c.args.drawn.ids (cutting_by c.args.cuts) c.args.anchored.now c.args.past.now) c.view-view.ensures in
    no-list-room c.args.drawn (cutting_by c.args.cuts) c.args.anchored.now c.args.past.now (map_tables c.args.map.now) c.args.lists.now.created.now c.args.lists.now.modified.now c.args.lists.now.deleted.now c.args.lists.now.warnings.now c.count-counts.result counts c.lists_fit.result c.lists_fit.ensures (off c.lists_fit.result (ap not c.if-not-lists_fit.true))

pub write_lists-requires : goal.write_lists-requires
write_lists-requires c =
    let counts = c.count-counts.ensures ∙ ap (counts_of c.args.drawn.ids (cutting_by c.args.cuts) c.args.anchored.now c.args.past.now) c.view-view.ensures in
    subst (λ (t : Tables). Listable c.args.drawn.first c.args.drawn.ids (cutting_by c.args.cuts) c.args.anchored.now c.args.past.now t (noted c.args.lists.now.created.now c.args.lists.now.modified.now c.args.lists.now.warnings.now)) (sym c.view-view.ensures)
    (lists-ask c.args.drawn (cutting_by c.args.cuts) c.args.anchored.now c.args.past.now (map_tables c.args.map.now) c.args.lists.now.created.now c.args.lists.now.modified.now c.args.lists.now.deleted.now c.args.lists.now.warnings.now c.count-counts.result counts c.lists_fit.result c.lists_fit.ensures (on c.lists_fit.result (ap not c.if-not-lists_fit.false)) c.requires.notable)

pub returns-clause-made : goal.returns-clause-made
returns-clause-made c =
    let counts = c.count-counts.ensures ∙ ap (counts_of c.args.drawn.ids (cutting_by c.args.cuts) c.args.anchored.now c.args.past.now) c.view-view.ensures in
    let told = c.write_lists.ensures ∙ ap (λ (t : Tables). lists_written c.args.drawn.first c.args.drawn.ids (cutting_by c.args.cuts) c.args.anchored.now c.args.past.now t (noted c.args.lists.now.created.now c.args.lists.now.modified.now c.args.lists.now.warnings.now)) c.view-view.ensures in
    split-made c.args.drawn (cutting_by c.args.cuts) c.args.anchored.now c.args.past.now (map_tables c.args.map.now) c.args.lists.now.created.now c.args.lists.now.modified.now c.args.lists.now.deleted.now c.args.lists.now.warnings.now c.count-counts.result counts c.lists_fit.result c.lists_fit.ensures (on c.lists_fit.result (ap not c.if-not-lists_fit.false)) (map_tables c.write.new.map) c.write.ensures.made c.write_lists.new.created c.write_lists.new.modified c.write_lists.new.warnings told c.answer.result c.answer.ensures
