-- Where an id of a list that grows is moved to.
use Rattle.std.specs.Prelude.{ℕ, ◌-◌, List, cond, eqb, length}
use Rattle.grow.specs.declared.Moved.{Moved}

-- ids put into the slots that end before `to`: the first of them, and how many were written, where the first id stood at place i
abbrev pub moved_to : ℕ → ℕ → List ℕ → Moved
moved_to i to ids = record { to = to - length ids; written = cond (eqb (to - length ids) i) (length ids - 1) (length ids) }
