-- `merge_tables::add_boundary` meets its contract: a store a word. Assumes nothing.
use Rattle.merge_draw.proofs.Boundaries.{id-room, kind-room, start-room, size_room, attributes-room, added}
use Rattle.merge_tables.proofs.add_boundary.Goals as goal

pub bounds-t-at : goal.bounds-t-at
bounds-t-at c = id-room c.args.t.now c.requires c.args.id c.args.kind c.args.start c.args.size c.args.attributes

pub bounds-t-at-2 : goal.bounds-t-at-2
bounds-t-at-2 c = kind-room c.args.t.now c.requires c.args.id c.args.kind c.args.start c.args.size c.args.attributes

pub bounds-t-at-3 : goal.bounds-t-at-3
bounds-t-at-3 c = start-room c.args.t.now c.requires c.args.id c.args.kind c.args.start c.args.size c.args.attributes

pub bounds-t-at-4 : goal.bounds-t-at-4
bounds-t-at-4 c = size_room c.args.t.now c.requires c.args.id c.args.kind c.args.start c.args.size c.args.attributes

pub bounds-t-at-5 : goal.bounds-t-at-5
bounds-t-at-5 c = attributes-room c.args.t.now c.requires c.args.id c.args.kind c.args.start c.args.size c.args.attributes

pub returns : goal.returns
returns c = added c.args.t.now c.requires c.args.id c.args.kind c.args.start c.args.size c.args.attributes
