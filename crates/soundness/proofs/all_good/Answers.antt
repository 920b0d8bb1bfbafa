-- `soundness::all_good` meets its contract. Each table's count is given, and its rows are a callee's. Assumes nothing.
use borrow.Author.Rules.{rules}
use Rattle.soundness.specs.Parts.{all_good}
use Rattle.soundness.proofs.Counts.{counts}
use Rattle.soundness.proofs.all_good.Goals as goal

pub lanes_good-requires : goal.lanes_good-requires
lanes_good-requires c = (counts _ c.requires).lanes

pub boundaries_good-requires : goal.boundaries_good-requires
boundaries_good-requires c = (counts _ c.requires).boundaries

pub roads_good-requires : goal.roads_good-requires
roads_good-requires c = (counts _ c.requires).roads

pub junctions_good-requires : goal.junctions_good-requires
junctions_good-requires c = (counts _ c.requires).junctions

pub rules_good-requires : goal.rules_good-requires
rules_good-requires c = (counts _ c.requires).rules

pub stop_lines_good-requires : goal.stop_lines_good-requires
stop_lines_good-requires c = (counts _ c.requires).stop_lines

pub crosswalks_good-requires : goal.crosswalks_good-requires
crosswalks_good-requires c = (counts _ c.requires).crosswalks

pub returns : goal.returns
unfolding all_good
returns c = rw (c.both-3.ensures, c.crosswalks_good.ensures, c.both-2.ensures, c.stop_lines_good.ensures, c.both-c.ensures, c.rules_good.ensures, c.both-b.ensures, c.junctions_good.ensures, c.both.ensures, c.roads_good.ensures, c.both-a.ensures, c.boundaries_good.ensures, c.lanes_good.ensures)
