-- The command that an edit of lanes alone makes.
use Rattle.rules.specs.Ops as O
use Rattle.dispatch.specs.declared.Relink.{Relink}
use Rattle.dispatch.specs.declared.Relink.TheVariants.{Connect, Disconnect, SetNeighbor}

abbrev pub command_of : Relink → O.Command
command_of (Connect a b) = O.ConnectLanes a b
command_of (Disconnect a b) = O.DisconnectLanes a b
command_of (SetNeighbor a side n) = O.SetNeighbor a side n
