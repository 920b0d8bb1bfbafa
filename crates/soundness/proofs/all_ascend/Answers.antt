-- `soundness::all_ascend` meets its contract. Each table's count is given, and its ids are a callee's. Assumes nothing.
use native.Mathlib.Omega.{arith}
use borrow.Author.Rules.{rules}
use Rattle.soundness.specs.Parts.{all_ascend}
use Rattle.soundness.proofs.Counts.{counts}
use Rattle.soundness.proofs.all_ascend.Goals as goal

pub ascends-requires : goal.ascends-requires
ascends-requires c = (omega arith, (counts _ c.requires).lanes)

pub ascends-requires-2 : goal.ascends-requires-2
ascends-requires-2 c = (omega arith, (counts _ c.requires).boundaries)

pub ascends-requires-3 : goal.ascends-requires-3
ascends-requires-3 c = (omega arith, (counts _ c.requires).roads)

pub ascends-requires-4 : goal.ascends-requires-4
ascends-requires-4 c = (omega arith, (counts _ c.requires).junctions)

pub ascends-requires-5 : goal.ascends-requires-5
ascends-requires-5 c = (omega arith, (counts _ c.requires).rules)

pub ascends-requires-6 : goal.ascends-requires-6
ascends-requires-6 c = (omega arith, (counts _ c.requires).stop_lines)

pub ascends-requires-7 : goal.ascends-requires-7
ascends-requires-7 c = (omega arith, (counts _ c.requires).crosswalks)

pub returns : goal.returns
unfolding all_ascend
returns c = rw (c.both-3.ensures, c.ascends-7.ensures, c.both-2.ensures, c.ascends-6.ensures, c.both-c.ensures, c.ascends-5.ensures, c.both-b.ensures, c.ascends-4.ensures, c.both.ensures, c.ascends-3.ensures, c.both-a.ensures, c.ascends-2.ensures, c.ascends.ensures)
