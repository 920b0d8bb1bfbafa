use mathlib.Core.Path.{◌≡◌}
use Prim.Native.Nat.{◌*◌, ◌≤◌}
use lib.ListN.{length}
use Rattle.stream.proofs.Texts.{Left}
use Rattle.stream.proofs.text.row.Given as goal

abbrev pub invariant-loop-n : goal.invariant-loop-n
invariant-loop-n l = (l.n-index ≤ length l.numbers) × ((length l.out ≡ length l.initial.out) × ((l.at ≤ l.n-index * 21) × Left l.numbers l.out l.at l.initial.out l.n-index))
