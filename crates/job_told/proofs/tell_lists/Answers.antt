use native.Mathlib.Omega.{arith}
use mathlib.Core.Path.{sym}
use lib.Seq.{length-take-le}
use Prim.Native.Nat.{◌*◌}
use Rattle.job_told.proofs.tell_lists.Goals as goal

pub slice_bounds-copy-end : goal.slice_bounds-copy-end
slice_bounds-copy-end c = sym (length-take-le (c.args.n.created * 2) c.args.own.created.now c.requires.0.0)

pub copy-requires : goal.copy-requires
copy-requires c = let e = length-take-le (c.args.n.created * 2) c.args.own.created.now c.requires.0.0 in let f = c.requires.1.0 in omega (arith, e, f)

pub slice_bounds-copy-end-2 : goal.slice_bounds-copy-end-2
slice_bounds-copy-end-2 c = sym (length-take-le (c.args.n.modified * 2) c.args.own.modified.now c.requires.0.1.0)

pub copy-requires-2 : goal.copy-requires-2
copy-requires-2 c = let e = length-take-le (c.args.n.modified * 2) c.args.own.modified.now c.requires.0.1.0 in let f = c.requires.1.1.0 in omega (arith, e, f)

pub slice_bounds-copy-end-3 : goal.slice_bounds-copy-end-3
slice_bounds-copy-end-3 c = sym (length-take-le (c.args.n.deleted * 2) c.args.own.deleted.now c.requires.0.1.1)

pub copy-requires-3 : goal.copy-requires-3
copy-requires-3 c = let e = length-take-le (c.args.n.deleted * 2) c.args.own.deleted.now c.requires.0.1.1 in let f = c.requires.1.1.1 in omega (arith, e, f)

pub returns-clause-made : goal.returns-clause-made
returns-clause-made c = (c.copy.ensures, (c.copy-2.ensures, c.copy-3.ensures))
