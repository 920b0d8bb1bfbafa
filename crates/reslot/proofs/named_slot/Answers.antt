-- `slots::named_slot` meets its contract. Assumes nothing.
use borrow.Author.Rules.{rules}
use native.Mathlib.Omega.{arith}
use Rattle.report.proofs.Laws.{named-front}
use Rattle.reslot.proofs.Reslot.{none_named, one-named}
use Rattle.reslot.proofs.named_slot.Goals as goal

pub returns-in_default : goal.returns-in_default
returns-in_default c =
    let s = c in
    none_named s.args.slot s.args.ids.now s.args.n c.in_default.is (omega (arith, s.requires.0))

pub returns : goal.returns
returns c =
    let a = c.args in
    let h = c.requires in
    let m = c.named in
    one-named a.slot c.in-Some.s a.ids.now m.new.ids a.n m.result c.in-Some.is (named-front a.ids.now a.n c.in-Some.s.lane h.0 m.new.ids m.result h.1 m.ensures)
