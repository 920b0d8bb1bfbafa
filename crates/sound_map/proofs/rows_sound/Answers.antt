-- `sound_map::rows_sound` meets its contract: the three answers as one. Assumes nothing.
use borrow.Author.Rules.{rules}
use mathlib.Core.Path.{sym}
use Rattle.lent.specs.Lent.{view_tables}
use Rattle.soundness.proofs.Ends.{both_found}
use Rattle.sound_map.proofs.rows_sound.Goals as goal

pub all_good-requires : goal.all_good-requires
all_good-requires c = c.requires

pub all_ascend-requires : goal.all_ascend-requires
all_ascend-requires c = c.requires

pub returns : goal.returns
returns c = sym (both_found c.args.counter _ (view_tables c.args.map) _ _ _ c.largest_id-most.ensures c.all_good.ensures c.all_ascend.ensures c.both.ensures)
