-- `reach::lines_reach` meets its contract: column by column. Assumes nothing.
use mathlib.Core.List.{[]}
use native.Mathlib.Omega.{arith}
use Rattle.tables.specs.View.{Tables}
use Rattle.layout.specs.Layout.{line_tables}
use Rattle.layout.proofs.Stages.{counts}
use Rattle.layout.proofs.Reach.{columns-within, columns-reach}
use Rattle.reach.proofs.lines_reach.Goals as goal
use Rattle.reach.proofs.lines_reach.Lts as lts
use Rattle.reach.proofs.lines_reach.Reads as reads
use Rattle.reach.proofs.lines_reach.Tie as tie

abbrev AtStart : Type 0
AtStart = lts.Start tie.the-claims reads.Pre reads.Post

abbrev tables : AtStart → Tables
tables s = line_tables s.args.lanes.now s.args.boundaries.now s.args.stop_lines.now s.args.crosswalks.now []

pub column_reach-centers-requires : goal.column_reach-centers-requires
column_reach-centers-requires c = let s = c.before.before.before.before.before in (omega arith, (omega arith, ((counts (tables s) s.requires.0).1.0, (columns-within (tables s) 65536 s.requires.1).0)))

pub centers_reach-stops-requires : goal.centers_reach-stops-requires
centers_reach-stops-requires c = let s = c.before.before.before.before.before.before in ((counts (tables s) s.requires.0).0, (columns-within (tables s) 65536 s.requires.1).1.0)

pub column_reach-lefts-requires : goal.column_reach-lefts-requires
column_reach-lefts-requires c = let s = c.before.before.before.before.before.before.before in (omega arith, (omega arith, ((counts (tables s) s.requires.0).1.1.0, (columns-within (tables s) 65536 s.requires.1).1.1.0)))

pub column_reach-rights-requires : goal.column_reach-rights-requires
column_reach-rights-requires c = let s = c.before.before.before.before.before.before.before.before in (omega arith, (omega arith, ((counts (tables s) s.requires.0).1.1.1, (columns-within (tables s) 65536 s.requires.1).1.1.1.0)))

pub column_reach-requires : goal.column_reach-requires
column_reach-requires c = let s = c.before.before.before.before.before.before.before.before.before in (omega arith, (omega arith, ((counts (tables s) s.requires.0).1.1.1, (columns-within (tables s) 65536 s.requires.1).1.1.1.1)))

pub returns : goal.returns
returns c =
    let s = c in
    let a = c.column_reach-centers in
    let b = c.centers_reach-stops in
    let d = c.column_reach-lefts in
    let e = c.column_reach-rights in
    let f = c.column_reach in
    columns-reach (line_tables s.args.lanes.now s.args.boundaries.now s.args.stop_lines.now s.args.crosswalks.now []) a.result b.result d.result e.result f.result a.ensures b.ensures d.ensures e.ensures f.ensures
