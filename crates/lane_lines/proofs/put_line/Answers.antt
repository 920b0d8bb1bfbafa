-- `lane_lines::put_line` meets its contract: by the way the line is written. Assumes nothing.
use Rattle.lane_lines.proofs.put_line.Goals as goal

pub returns-then-back : goal.returns-then-back
returns-then-back c = rw c.if-back.true c.reversed.ensures

pub returns : goal.returns
returns c = rw c.if-back.false c.copied.ensures
