use mathlib.Core.Path.{◌≡◌}
use Prim.Native.Nat.{◌-◌, ◌≤◌}
use mathlib.Core.List.{◌++◌}
use lib.ListN.{length, take}
use Rattle.stream.specs.Numbers.{read_by, behind_all}
use Rattle.stream.proofs.fill.Given as goal

abbrev pub invariant-loop-place : goal.invariant-loop-place
invariant-loop-place g l =
    let f = g.T.Item.of_word in
    let i = l.place-index in
    let n = length l.fn.table in
    (i ≤ n) × ((length l.place-items ≡ n)
    × ((take i l.place-items ++ read_by f (n - i) l.s l.at ≡ read_by f n l.s l.from) × (behind_all (n - i) l.s l.at ≡ behind_all n l.s l.from)))
