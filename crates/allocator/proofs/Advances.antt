-- The end of a call whose counter is advanced behind it. Assumes nothing.
use Rattle.report.specs.Report.{Answer}
use mathlib.Core.Path.{◌≡◌, ◌∙◌}
use Prim.Native.Nat.{ℕ}
use Rattle.step.specs.Step.{Lent, Ended, ended}
use Rattle.step.proofs.Counter.{with_counter}

-- the counter and the answer that are kept are those of the end
pub advances : (after : Lent) (a b : Answer) (n : ℕ) (e : Ended) → n ≡ after.counter → b ≡ a → ended after a ≡ e → ended (with_counter n after) b ≡ e
advances after a b n e p q f = (λ i. ended (with_counter (p i) after) (q i)) ∙ f
