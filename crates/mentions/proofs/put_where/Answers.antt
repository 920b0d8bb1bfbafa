-- `naming::put_where` meets its contract: two stores in a row, or none. Assumes nothing.
use borrow.Author.Rules.{rules}
use native.Mathlib.Omega.{arith}
use lib.ListN.{length-set}
use Rattle.mentions.proofs.Turns.{put-room, put_on, put-off}
use Rattle.mentions.proofs.put_where.Goals as goal

pub bounds-out-at : goal.bounds-out-at
bounds-out-at c =
    let a = c.args in
    omega (arith, put-room a.out.now a.at a.kind a.id a.on c.requires c.if-on.true)

pub bounds-out-at-then-on : goal.bounds-out-at-then-on
bounds-out-at-then-on c =
    let a = c.args in
    simp length-set (omega (arith, put-room a.out.now a.at a.kind a.id a.on c.requires c.if-on.true))

pub returns-then-on : goal.returns-then-on
returns-then-on c =
    let a = c.args in
    put_on a.out.now a.at a.kind a.id a.on c.requires c.if-on.true

pub returns : goal.returns
returns c =
    let a = c.args in
    put-off a.out.now a.at a.kind a.id a.on c.requires c.if-on.false
