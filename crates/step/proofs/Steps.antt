-- One call, by how it ends: not sound, refused by the edit, without ids, without room, or written. Assumes nothing.
use Rattle.std.specs.Prelude.{Err, Ok}
use mathlib.Core.Path.{◌≡◌, refl}
use mathlib.Core.Bool.{Bool, true, false, cond, ◌&&◌}
use lib.Dec.{leb}
use Rattle.rules.specs.Names.{Tolerance, Refusal, Unsound, NoRoom, NoIds}
use Rattle.rules.specs.Sound.{fits_room, last_counter}
use Rattle.rules.specs.Edit as E
use Rattle.rules.specs.Edit.{◌>>=◌}
use Rattle.rules.specs.Ops as O
use Rattle.tables.specs.Formed.{sound_tables}
use Rattle.store.specs.Store.{room_of}
use Rattle.sound_facts.proofs.Found.{sound-map}
use Rattle.step.specs.Step.{Lent, Ended, step, state_of, lists_of, refusing, changing, closing}

module _ (tol : Tolerance) (c : O.Command) (l : Lent) where
  pub step_unsound : sound_tables l.counter l.tables ≡ false → refusing l Unsound ≡ step tol c l
  unfolding step
  step_unsound h = rw h

  module _ (h : sound_tables l.counter l.tables ≡ true) where
    pub step-refused : (r : Refusal) → O.edit tol c (state_of l) ≡ Err r → refusing l r ≡ step tol c l
    unfolding step O.step_map
    step-refused r e = rw (h, sound-map l.counter l.tables h, e)

    -- an edit that yields: 11, then the 10 of the map, then the 10 of the lists
    module _ (e : E.Edited) (y : O.edit tol c (state_of l) ≡ Ok e) where
      pub step_exhausted : leb (O.counter_after l.counter e.ids) last_counter ≡ false → refusing l NoIds ≡ step tol c l
      unfolding step O.step_map
      step_exhausted i = rw (h, sound-map l.counter l.tables h, y, i)

      abbrev after : O.State
      after = record { map = e.result; counter = O.counter_after l.counter e.ids }

      pub step-decided : leb (O.counter_after l.counter e.ids) last_counter ≡ true
          → step tol c l
          ≡ cond (fits_room (room_of l.tables) e.result && O.fits_lists (lists_of l) e.changes) (changing c l after e.changes e.second) (refusing l NoRoom)
      unfolding step O.step_map
      step-decided i =
          rw (h, sound-map l.counter l.tables h, y, i) (settles (fits_room (room_of l.tables) e.result))
        where
          told : O.Outcome → Ended
          told o = closing c l o.state o.answer

          lists : (q : Bool) → told (O.outcome_of (state_of l) (E.check q NoRoom >>= (λ _. Ok e))) ≡ cond q (changing c l after e.changes e.second) (refusing l NoRoom)
          lists true = refl
          lists false = refl

          settles : (p : Bool) → told (O.outcome_of (state_of l) (O.listable (lists_of l) (E.check p NoRoom >>= (λ _. Ok e))))
              ≡ cond (p && O.fits_lists (lists_of l) e.changes) (changing c l after e.changes e.second) (refusing l NoRoom)
          settles true = lists (O.fits_lists (lists_of l) e.changes)
          settles false = refl
