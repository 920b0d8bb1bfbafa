-- What a split has decided, as the functions are given it: one value.
use Rattle.split_relay.specs.Relaying.{Cutting, cutting}
use Rattle.split_relay.specs.declared.Cuts.{Cuts}

abbrev pub cutting_by : Cuts → Cutting
cutting_by c = cutting c.point c.reach c.seen.now c.cut.now c.next c.marks.now c.pieces.now c.many c.lines.now c.centers.now
