-- `root::known` meets its contract. Assumes nothing.
use Rattle.std.proofs.Common.{◌^◌, ◌≤◌, refl, arith}
use Rattle.root.proofs.known.Goals as goal

pub returns : goal.returns
returns c = record { known = λ h. refl; begun = λ (h : 2 ^ 52 ≤ 0). absurd (omega arith) }
