-- `uses::used_besides` meets its contract: of two lanes that are one. Assumes nothing.
use mathlib.Core.Path.{◌∙◌}
use Rattle.lookup.proofs.Laws.{outside-one}
use Rattle.uses.proofs.used_besides.Goals as goal

pub returns : goal.returns
returns c = c.used_outside.ensures ∙ outside-one c.args.lanes.now c.args.boundary c.args.lane
