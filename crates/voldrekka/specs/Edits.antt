-- What a host gets of a call: all that it lent, and the answer's numbers by value (document 01: "Each returns its number and one entity").
use Rattle.entities.specs.Types.{preset}
use Rattle.rules.specs.Ops as O
use Rattle.words.specs.Words.{told}
use Rattle.words.specs.declared.Told.{Told}
use Rattle.step.specs.Step.{Lent, step}

pub record Called : Type 0 where
  pub lent : Lent
  pub told : Told

abbrev pub called : Lent → Told → Called
called l t = record { lent = l; told = t }

-- One call with document 01's tolerances.
unfoldable pub calling : O.Command → Lent → Called
calling c l = let e = step preset c l in called e.lent (told l.counter e.answer)
