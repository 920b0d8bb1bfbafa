-- `merge_room::sides_of` meets its contract. Assumes nothing.
use Rattle.merge_room.proofs.sides_of.Goals as goal

pub returns : goal.returns
returns c = rw (c.boundary_ref.ensures, c.boundary_ref-2.ensures)
