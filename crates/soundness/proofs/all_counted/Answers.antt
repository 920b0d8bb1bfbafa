-- `soundness::all_counted` meets its contract. Each count is a callee's. Assumes nothing.
use borrow.Author.Rules.{rules}
use Rattle.soundness.specs.Parts.{all_counted}
use Rattle.soundness.proofs.all_counted.Goals as goal

pub returns : goal.returns
unfolding all_counted
returns c = rw (c.both-3.ensures, c.counted-7.ensures, c.both-2.ensures, c.counted-6.ensures, c.both-c.ensures, c.counted-5.ensures, c.both-b.ensures, c.counted-4.ensures, c.both.ensures, c.counted-3.ensures, c.both-a.ensures, c.counted-2.ensures, c.counted.ensures)
