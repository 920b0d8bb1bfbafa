use mathlib.Core.Bool.{not}
use mathlib.Core.Path.{sym, ◌∙◌, ap}
use borrow.Author.Tests.{not-true, not-false}
use Rattle.lent.specs.Lent.{view_rows}
use Rattle.job_decided.proofs.Decide.{done-sorted, ends-made, ends-refused, ends-short}
use Rattle.job_decided.proofs.decided.Goals as goal

pub net_lists-n-requires : goal.net_lists-n-requires
net_lists-n-requires c = let h = done-sorted (view_rows c.args.map) (view_rows c.args.old) c.args.ran c.in-Ok.done.counter c.in-Ok.done.warnings c.in-Ok.is c.requires.0 in (h.0, (h.1, c.requires.1))

pub returns-then-not-lists_fit-clause-made : goal.returns-then-not-lists_fit-clause-made
returns-then-not-lists_fit-clause-made c = ends-short c.args.counter (view_rows c.args.map) (view_rows c.args.old) c.args.marks.now c.args.net.now.created.now c.args.net.now.modified.now c.args.net.now.deleted.now c.args.lists.created.now c.args.lists.modified.now c.args.lists.deleted.now c.args.lists.warnings.now c.args.ran c.in-Ok.done.counter c.in-Ok.done.warnings c.in-Ok.is c.net_lists-n.result c.net_lists-n.new.net.created.now c.net_lists-n.new.net.modified.now c.net_lists-n.new.net.deleted.now c.net_lists-n.ensures.made (sym c.lists_fit.ensures ∙ not-true c.lists_fit.result (ap not c.if-not-lists_fit.true))

pub returns-in-Err-clause-made : goal.returns-in-Err-clause-made
returns-in-Err-clause-made c = ends-refused c.args.counter (view_rows c.args.map) (view_rows c.args.old) c.args.marks.now c.args.net.now.created.now c.args.net.now.modified.now c.args.net.now.deleted.now c.args.lists.created.now c.args.lists.modified.now c.args.lists.deleted.now c.args.lists.warnings.now c.args.ran c.in-Err.stopped.place c.in-Err.stopped.refusal c.args.net.now.created.now c.args.net.now.modified.now c.args.net.now.deleted.now c.in-Err.is

pub returns-else-not-lists_fit-clause-made : goal.returns-else-not-lists_fit-clause-made
returns-else-not-lists_fit-clause-made c = ends-made c.args.counter (view_rows c.args.map) (view_rows c.args.old) c.args.marks.now c.args.net.now.created.now c.args.net.now.modified.now c.args.net.now.deleted.now c.args.lists.created.now c.args.lists.modified.now c.args.lists.deleted.now c.args.lists.warnings.now c.args.ran c.in-Ok.done.counter c.in-Ok.done.warnings c.in-Ok.is c.net_lists-n.result c.net_lists-n.new.net.created.now c.net_lists-n.new.net.modified.now c.net_lists-n.new.net.deleted.now c.net_lists-n.ensures.made (sym c.lists_fit.ensures ∙ not-false c.lists_fit.result (ap not c.if-not-lists_fit.false))
