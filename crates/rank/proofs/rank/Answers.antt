use native.Mathlib.Omega.{arith}
use Rattle.rank.proofs.Ends.{none-there, before-first, behind-last}
use Rattle.rank.proofs.rank.Goals as goal

-- src/lib.rt:15:9
pub returns-then-n-eq0 : goal.returns-then-n-eq0
returns-then-n-eq0 c = none-there c.args.ids.now c.args.id c.if-n-eq0.true

-- src/lib.rt:18:9
pub returns-then-id-ids : goal.returns-then-id-ids
returns-then-id-ids c = before-first c.args.ids.now c.args.id c.requires (omega (arith, c.if-n-eq0.false)) c.if-id-ids.true

-- src/lib.rt:21:9
pub returns-then-ids-n : goal.returns-then-ids-n
returns-then-ids-n c = behind-last c.args.ids.now c.args.id c.requires (omega (arith, c.if-n-eq0.false)) c.if-ids-n.true
