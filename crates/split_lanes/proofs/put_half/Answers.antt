-- `split_lanes::put_half` meets its contract: the lane's row is copied first, since it lies in the same table. Assumes nothing.
use borrow.Author.Rules.{rules}
use lib.ListN.{replicate}
use mathlib.Core.Path.{refl, ap, ◌∙◌}
use Rattle.tables.specs.Formed.{lane_formed}
use Rattle.split_rows.specs.Halves.{second_row}
use Rattle.split_tables.proofs.Halving.{old_row, old-long, onto-long, half-put}
use Rattle.split_lanes.proofs.put_half.Goals as goal

pub second_half-requires : goal.second_half-requires
second_half-requires c = let a = c.args in (c.requires.0, (c.requires.1.0, (onto-long a.t.now a.i a.at c.requires.1.1.0 c.requires.1.1.1.0 (replicate 52 0) c.copy.new.to refl c.copy.ensures, (old-long a.t.now a.i a.at c.requires.1.1.0 c.requires.1.1.1.0 (replicate 52 0) c.copy.new.to refl c.copy.ensures, ap lane_formed (old_row a.t.now a.i a.at c.requires.1.1.0 c.requires.1.1.1.0 (replicate 52 0) c.copy.new.to refl c.copy.ensures) ∙ c.requires.1.1.1.1))))

pub returns : goal.returns
returns c = let a = c.args in half-put a.t.now a.i a.at c.requires.1.1.0 c.requires.1.1.1.0 (replicate 52 0) c.copy.new.to refl c.copy.ensures (λ v w. second_row a.pieces.now a.m a.cut.now a.next a.centers.now a.rank v w) c.second_half.new.row c.second_half.auto.row c.second_half.ensures
