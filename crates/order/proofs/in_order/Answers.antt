-- `order::in_order` meets its contract: column by column. Assumes nothing.
use mathlib.Core.List.{[]}
use native.Mathlib.Omega.{arith}
use Rattle.tables.specs.View.{Tables}
use Rattle.layout.specs.Layout.{line_tables}
use Rattle.layout.proofs.Stages.{counts}
use Rattle.layout.proofs.Reach.{columns-within}
use Rattle.apart.proofs.Marks.{counted-more}
use Rattle.order.proofs.Behind.{columns-behind}
use Rattle.order.proofs.in_order.Goals as goal
use Rattle.order.proofs.in_order.Lts as lts
use Rattle.order.proofs.in_order.Reads as reads
use Rattle.order.proofs.in_order.Tie as tie

abbrev AtStart : Type 0
AtStart = lts.Start tie.the-claims reads.Pre reads.Post

abbrev tables : AtStart → Tables
tables s = line_tables s.args.lanes.now s.args.boundaries.now s.args.stop_lines.now s.args.crosswalks.now []

pub column_behind-centers-requires : goal.column_behind-centers-requires
column_behind-centers-requires c = let s = c.before.before.before.before.before in (omega arith, (omega arith, (omega arith, (s.requires.0, ((counts (tables c.before.before.before.before.before) s.requires.1.0).1.0, (columns-within (tables c.before.before.before.before.before) 131072 s.requires.1.1).0)))))

pub column_behind-stops-requires : goal.column_behind-stops-requires
column_behind-stops-requires c = let s = c.before.before.before.before.before.before in (omega arith, (omega arith, (omega arith, (s.requires.0, (counted-more 1024 4096 52 s.args.lanes.now (omega arith) (counts (tables c.before.before.before.before.before.before) s.requires.1.0).0, (columns-within (tables c.before.before.before.before.before.before) 131072 s.requires.1.1).1.0)))))

pub column_behind-lefts-requires : goal.column_behind-lefts-requires
column_behind-lefts-requires c = let s = c.before.before.before.before.before.before.before in (omega arith, (omega arith, (omega arith, (s.requires.0, ((counts (tables c.before.before.before.before.before.before.before) s.requires.1.0).1.1.0, (columns-within (tables c.before.before.before.before.before.before.before) 131072 s.requires.1.1).1.1.0)))))

pub column_behind-rights-requires : goal.column_behind-rights-requires
column_behind-rights-requires c = let s = c.before.before.before.before.before.before.before.before in (omega arith, (omega arith, (omega arith, (s.requires.0, ((counts (tables c.before.before.before.before.before.before.before.before) s.requires.1.0).1.1.1, (columns-within (tables c.before.before.before.before.before.before.before.before) 131072 s.requires.1.1).1.1.1.0)))))

pub column_behind-last-requires : goal.column_behind-last-requires
column_behind-last-requires c = let s = c.before.before.before.before.before.before.before.before.before in (omega arith, (omega arith, (omega arith, (s.requires.0, ((counts (tables c.before.before.before.before.before.before.before.before.before) s.requires.1.0).1.1.1, (columns-within (tables c.before.before.before.before.before.before.before.before.before) 131072 s.requires.1.1).1.1.1.1)))))

pub returns : goal.returns
returns c =
    let s = c in
    let a = c.column_behind-centers in
    let b = c.column_behind-stops in
    let d = c.column_behind-lefts in
    let e = c.column_behind-rights in
    let f = c.column_behind-last in
    columns-behind (tables c.before.before.before.before.before.before.before.before.before.before) s.args.reach a.result b.result d.result e.result f.result a.ensures b.ensures d.ensures e.ensures f.ensures
