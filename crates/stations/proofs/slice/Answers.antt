-- `stations::slice` meets its contract: the length and the two ends are what `put_slice` asks. Assumes nothing.
use Rattle.stations.proofs.slice.Goals as goal

pub put_slice-requires : goal.put_slice-requires
put_slice-requires c = (c.length-len.ensures, (rw (← c.clamp.ensures) c.point_at-start.ensures, (rw (← c.clamp-2.ensures) c.point_at-end.ensures, c.requires)))
