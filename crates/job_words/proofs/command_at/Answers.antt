use borrow.Author.Rules.{rules}
use mathlib.Core.Path.{ap, ◌∙◌}
use Rattle.words.specs.Words.{command_of}
use native.Mathlib.Omega.{arith}
use Prim.Native.Nat.{◌*◌, ◌≤◌}
use lib.ListN.{length}
use Rattle.job_words.proofs.Reading.{past_end, rest_of}
use Rattle.job_words.proofs.command_at.Goals as goal

-- src/lib.rt:39:9
pub returns-then-from-rows : goal.returns-then-from-rows
returns-then-from-rows c = let h : c.args.i * 5 ≤ length c.args.rows.now = omega arith in c.command_of.ensures ∙ ap command_of (rest_of (c.args.i * 5) c.args.rows.now h)

-- src/lib.rt:33:1
pub returns : goal.returns
returns c = let h : length c.args.rows.now ≤ c.args.i * 5 = omega arith in c.command_of-2.ensures ∙ ap command_of (past_end (c.args.i * 5) c.args.rows.now h)
