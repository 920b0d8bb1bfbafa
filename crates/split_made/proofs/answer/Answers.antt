use Rattle.std.specs.Prelude.{None, Some}
use Rattle.split_made.proofs.Parts.{cut-asks, second_fits, answered}
use Rattle.split_made.proofs.answer.Goals as goal

-- src/lib.rt:260:9
pub find_row-found-requires : goal.find_row-found-requires
find_row-found-requires c = let s = c in cut-asks s.args.cut.now s.requires.0

-- src/lib.rt:262:47
pub overflow_add-result : goal.overflow_add-result
overflow_add-result c = let s = c in record { fits = second_fits s.args.cut.now s.args.next s.args.own c.find_row-found.result c.find_row-found.ensures s.requires.1 c.in-Some.r c.in-Some.is }

-- src/lib.rt:256:1
pub returns-in-Some : goal.returns-in-Some
returns-in-Some c = let s = c in answered s.args.cut.now s.args.next s.args.own c.find_row-found.result c.find_row-found.ensures s.args.counts (Some c.in-Some.r) c.in-Some.is

-- src/lib.rt:256:1
pub returns-in-None : goal.returns-in-None
returns-in-None c = let s = c in answered s.args.cut.now s.args.next s.args.own c.find_row-found.result c.find_row-found.ensures s.args.counts None c.in-None.is
