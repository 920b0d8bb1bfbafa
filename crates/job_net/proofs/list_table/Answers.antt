-- `job_net::list_table` meets its contract: what is lent of the marks are those of the table. Assumes nothing.
use mathlib.Core.Path.{◌≡◌}
use mathlib.Core.List.{List}
use Prim.Native.Nat.{ℕ, ◌-◌}
use native.Mathlib.Omega.{arith}
use lib.ListN.{length, take, drop, length-drop}
use lib.Seq.{take_all}
use Rattle.job_net.proofs.list_table.Goals as goal

-- the part that is lent
lent : (ms : List ℕ) (first : ℕ) → take (length ms - first) (drop first ms) ≡ drop first ms
lent ms first = take_all (length ms - first) (drop first ms) (rw length-drop (omega arith))

pub list_ids-requires : goal.list_ids-requires
list_ids-requires c =
    let ms = c.args.marks.now in
    let first = c.args.of.marks in
    let r = c.requires in
    (r.0, (r.1.0, (r.1.1.0, (rw (lent ms first, length-drop) (omega (arith, r.1.1.1.0)), r.1.1.1.1))))

pub returns : goal.returns
returns c = rw (lent c.args.marks.now c.args.of.marks) at c.list_ids.ensures
