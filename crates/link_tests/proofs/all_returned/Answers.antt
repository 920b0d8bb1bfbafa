-- `link_tests::all_returned` meets its contract: the ids are those of the table. Assumes nothing.
use mathlib.Core.Path.{refl, ◌∙◌}
use native.Mathlib.Omega.{arith}
use Rattle.row_ids.proofs.Laws.{spare-all}
use Rattle.row_tests.proofs.Lanes.{lanes-some, lanes-few, search-may}
use Rattle.link_tests.proofs.Steps.{indexed}
use Rattle.link_tests.proofs.all_returned.Goals as goal

pub bounds-t-0 : goal.bounds-t-0
bounds-t-0 c = omega (arith, lanes-some c.args.t.now c.requires.0)

pub slice_bounds-list_ids-count : goal.slice_bounds-list_ids-count
slice_bounds-list_ids-count c = lanes-some c.args.t.now c.requires.0

pub slice_bounds-list_ids-start : goal.slice_bounds-list_ids-start
slice_bounds-list_ids-start c = lanes-some c.args.t.now c.requires.0

pub list_ids-requires : goal.list_ids-requires
list_ids-requires c =
    let b = c in
    let m = search-may b.args.t.now b.requires.0 in
    (m.0, (m.1.0, (lanes-few b.args.t.now b.requires.0, (refl, spare-all 1024))))

pub links_returned-requires : goal.links_returned-requires
links_returned-requires c =
    let b = c in
    let l = c.list_ids in
    (indexed b.args.t.now l.new.ids b.requires.0 l.auto.ids l.ensures, b.requires.1)

pub neighbors_returned-requires : goal.neighbors_returned-requires
neighbors_returned-requires c =
    let b = c in
    let l = c.list_ids in
    indexed b.args.t.now l.new.ids b.requires.0 l.auto.ids l.ensures

pub returns : goal.returns
returns c = c.both.ensures ∙ rw (c.links_returned.ensures, c.neighbors_returned.ensures)
