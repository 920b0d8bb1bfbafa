-- `notices::fits` meets its contract. Assumes nothing.
use borrow.Author.Rules.{rules}
use native.Mathlib.Omega.{arith}
use Rattle.report.proofs.Warnings.{few, fits-counted}
use Rattle.notices.proofs.fits.Goals as goal

pub overflow_add-ws : goal.overflow_add-ws
overflow_add-ws c =
    let a = c.args in
    omega (arith, few a.first, few a.second)

pub returns : goal.returns
returns c =
    let a = c.args in
    let m = c.notice_count in
    let k = c.notice_count-2 in
    fits-counted a.ids m.result k.result a.first a.second a.modified.now a.warnings.now c.both.result m.ensures k.ensures c.both.ensures
