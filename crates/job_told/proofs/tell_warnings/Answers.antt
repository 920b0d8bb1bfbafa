use native.Mathlib.Omega.{arith}
use mathlib.Core.Path.{sym}
use Prim.Native.Nat.{◌*◌}
use lib.Seq.{length-take-le}
use Rattle.lent.specs.Lent.{map_tables, view_tables}
use Rattle.jobs.specs.Job.{commands}
use Rattle.job_step.specs.Job.{table_edits}
use Rattle.job_told.proofs.Ends.{kept-told}
use Rattle.job_told.proofs.tell_warnings.Goals as goal

pub overflow_mul-n : goal.overflow_mul-n
overflow_mul-n c = let l = c.if-n-le-KEPT.true in omega (arith, l)

pub slice_bounds-copy-end : goal.slice_bounds-copy-end
slice_bounds-copy-end c =
    let l = c.if-n-le-KEPT.true in
    let k = c.requires.1.1.1.1.1.0 in
    sym (length-take-le (c.args.n * 10) c.args.kept.now (omega (arith, l, k)))

pub copy-requires : goal.copy-requires
copy-requires c =
    let l = c.if-n-le-KEPT.true in
    let k = c.requires.1.1.1.1.1.0 in
    let w = c.requires.1.1.1.1.0 in
    let e = length-take-le (c.args.n * 10) c.args.kept.now (omega (arith, l, k)) in
    omega (arith, e, w)

pub returns-then-n-le-KEPT-clause-made : goal.returns-then-n-le-KEPT-clause-made
returns-then-n-le-KEPT-clause-made c = kept-told (map_tables c.args.map.now) c.args.n (table_edits c.args.tolerance 1 (commands c.args.job) (record { counter = c.args.counter; tables = view_tables c.args.old })) c.args.kept.now c.args.warnings.now c.copy.new.to c.requires.1.1.0 c.requires.1.1.1.0 c.if-n-le-KEPT.true c.requires.1.1.1.1.0 c.copy.ensures

pub tell_again-requires : goal.tell_again-requires
tell_again-requires c = let h = c.requires.1.1 in (c.requires.0, (c.requires.1.0, (h.0, (h.1.1.0, h.1.1.1.1))))

pub returns-clause-made : goal.returns-clause-made
returns-clause-made c = c.tell_again.ensures.made
