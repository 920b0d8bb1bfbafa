-- `notices::report` meets its contract: the second notice stands behind the first. Assumes nothing.
use borrow.Author.Rules.{rules}
use mathlib.Core.Path.{◌≡◌, ap, ◌∙◌}
use mathlib.Core.List.{◌++◌}
use Prim.Native.Nat.{ℕ, ◌+◌, ◌*◌, ◌≤◌}
use native.Mathlib.Omega.{arith}
use lib.ListN.{length, length-append}
use Rattle.report.specs.declared.Counts.{Counts}
use Rattle.report.specs.Report.{issues, listed}
use Rattle.report.proofs.Warnings.{fits-room, notices_room, notices_put}
use Rattle.notices.proofs.report.Goals as goal
use Rattle.notices.proofs.report.Lts as lts
use Rattle.notices.proofs.report.Reads as reads
use Rattle.notices.proofs.report.Tie as tie

abbrev AtStart : Type 0
AtStart = lts.Start tie.the-claims reads.Pre reads.Post

lanes_fit : (c : AtStart) → length c.args.ids.now * 2 ≤ length c.args.modified.now
lanes_fit c =
    let a = c.args in
    (fits-room (length a.ids.now) (length (issues a.first ++ issues a.second)) a.modified.now a.warnings.now c.requires).0

both-fit : (c : AtStart) → (length (issues c.args.first) + length (issues c.args.second)) * 10 ≤ length c.args.warnings.now
both-fit c =
    let a = c.args in
    notices_room a.first a.second (length a.warnings.now) (fits-room (length a.ids.now) (length (issues a.first ++ issues a.second)) a.modified.now a.warnings.now c.requires).1

pub list_ids-listed-requires : goal.list_ids-listed-requires
list_ids-listed-requires c = omega (arith, lanes_fit c.before.before.before.before.before)

pub note-n-requires : goal.note-n-requires
note-n-requires c = omega (arith, both-fit c.before.before.before.before.before.before.before.before.before)

pub note-noted-requires : goal.note-noted-requires
note-noted-requires c = omega (arith, both-fit c.before.before.before.before.before.before.before.before.before.before.before.before.before, c.note-n.ensures.0)

pub returns : goal.returns
unfolding listed
returns c =
    let start = c in
    let a = start.args in
    let f = issues a.first in
    let s = issues a.second in
    let ids = c.list_ids-listed in
    let one = c.note-n in
    let two = c.note-noted in
    let m : ids.result ≡ length a.ids.now = omega (arith, ids.ensures.0) in
    let n : two.result ≡ length (f ++ s) = omega (arith, length-append f s, one.ensures.0, two.ensures.0) in
    let h : length f * 10 ≤ length a.warnings.now = omega (arith, both-fit c.before.before.before.before.before.before.before.before.before.before.before.before.before.before.before.before) in
    let counted =
    ap {B = Counts} (λ (z : ℕ). record { created = 0; modified = z; deleted = 0; warnings = two.result }) m
    ∙ ap {B = Counts} (λ (z : ℕ). record { created = 0; modified = length a.ids.now; deleted = 0; warnings = z }) n in
    let put = notices_put a.warnings.now one.new.warnings two.new.warnings one.result a.first a.second h one.ensures.0 one.ensures.1 two.ensures.1 in
    (counted, (ids.ensures.1, put))
