-- remove_lane obeys the law of one accepted call. Assumes nothing.
use Rattle.std.specs.Prelude.{None, Some, Ok}
use mathlib.Core.Path.{◌≡◌, ap, subst}
use Prim.Native.Nat.{ℕ}
use Rattle.entities.specs.declared.Tolerance.{Tolerance}
use Rattle.entities.specs.declared.Refusal.TheVariants as R
use Rattle.entities.specs.Records.{Lane, Map}
use Rattle.rules.specs.Map.{lane}
use Rattle.rules.specs.Edit.{◌>>=◌, require, Edited}
use Rattle.rules.specs.Lane.{remove_lane}
use Rattle.rules.specs.Ops.{RemoveLane, edit}
use Rattle.laws.proofs.Law.{Law, Lawful}
use Rattle.laws.proofs.Lawful.{yields, required}
use Rattle.laws.proofs.Remove.{removed, remove-sound, remove-leads}
use Rattle.laws.proofs.RemoveExact.{removal, remove-exact}

-- what remove-lane yields, once the lane is found
abbrev pub removing : ℕ → Lane → Map → Edited
removing a gone m = record { result = removed a gone m; ids = 0; second = None; changes = removal a gone m }

-- The definition yields exactly that.
pub remove-yields : (m : Map) (a : ℕ) (gone : Lane) → lane m a ≡ Some gone → remove_lane a m ≡ Ok (removing a gone m)
unfolding remove_lane
remove-yields m a gone e = ap (λ o. require o (R.LaneAbsent a) >>= (λ l. Ok (removing a l m))) e

module _ (tol : Tolerance) (a : ℕ) where
  pub remove-lawful : Lawful tol (RemoveLane a)
  unfolding edit remove_lane
  remove-lawful s sane e h =
      let m = s.map in
      let (gone, found, h1) = required m a (λ gone. Ok (removing a gone m)) e h in
      subst (λ x. Law (RemoveLane a) s x) (yields h1)
      (record {
        stays_sound = λ ids limits. remove-sound s.counter m a gone found sane;
        books = remove-leads m a gone;
        lists-exact = λ ids. remove-exact s.counter m sane a gone found;
      })
