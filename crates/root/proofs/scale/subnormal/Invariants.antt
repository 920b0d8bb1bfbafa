-- `root::scale::subnormal` meets its contract. The invariant: the value stays, and each place moved is a digit more, so that
-- at most 52 are moved. The measure is what is left of the places. Assumes nothing.
use Rattle.std.proofs.Common.{◌≡◌, ℕ, ◌-◌, ◌*◌, ◌^◌, ◌<◌, ◌≤◌, refl, subst, arith}
use Rattle.root.specs.Steps.{Scaled}
use Rattle.root.proofs.Numbers.{doubled}
use Rattle.root.proofs.Places.{fewer, moved}
use Rattle.root.proofs.scale.subnormal.Given as goal

abbrev pub invariant-loop-m : goal.invariant-loop-m
invariant-loop-m l = (l.m * 2 ^ l.places ≡ l.digits * 2 ^ 1074) × ((2 ^ (1074 - l.places) ≤ l.m) × ((l.m < 2 ^ 53) × ((1022 ≤ l.places) × (l.places ≤ 1074))))

abbrev pub decreases-loop-m : goal.decreases-loop-m
decreases-loop-m l = l.places
