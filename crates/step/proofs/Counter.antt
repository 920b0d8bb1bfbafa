-- What the counter becomes follows from the answer, on any memory that is lent. Assumes nothing.
use Rattle.std.specs.Prelude.{Option, None, Some, Err, Ok}
use mathlib.Core.Path.{◌≡◌, refl, sym, ap, ◌∙◌, subst}
use Prim.Native.Nat.{ℕ, ◌≤◌, ◌<◌, ◌^◌}
use mathlib.Core.Bool.{Bool, true, false, cond, ◌&&◌}
use native.Mathlib.Omega.{arith}
use lib.Dec.{leb}
use lib.ListN.{length}
use borrow.Author.Tests.{leb-true}
use Rattle.entities.specs.Records.{ChangeSet}
use Rattle.rules.specs.Names.{Tolerance, Refusal, Unsound, NoRoom, NoIds}
use Rattle.rules.specs.Sound.{fits_room, last_counter}
use Rattle.rules.specs.Edit as E
use Rattle.rules.specs.Ops as O
use Rattle.laws.proofs.Allocated.{allocated}
use Rattle.tables.specs.Formed.{sound_tables}
use Rattle.store.specs.Store.{room_of}
use Rattle.report.specs.Report.{counter_behind, accepting, Answer}
use Rattle.step.specs.Step.{Lent, Ended, step, state_of, lists_of, refusing, changing, ended}
use Rattle.step.proofs.Steps.{step_unsound, step-refused, step_exhausted, step-decided}

-- the state that an edit leaves
abbrev pub state_after : Lent → E.Edited → O.State
state_after l e = record { map = e.result; counter = O.counter_after l.counter e.ids }

-- ---- what holds of every refusal, and of every edit that has its ids, holds of every call

module _ (P : Ended → Type 0) (tol : Tolerance) (c : O.Command) (l : Lent) (no : (r : Refusal) → P (refusing l r))
    (yes : (e : E.Edited) → O.edit tol c (state_of l) ≡ Ok e → leb (O.counter_after l.counter e.ids) last_counter ≡ true
    → P (changing c l (state_after l e) e.changes e.second)) where
  by_tests : (e : E.Edited) → P (changing c l (state_after l e) e.changes e.second) → (fits : Bool)
      → P (cond fits (changing c l (state_after l e) e.changes e.second) (refusing l NoRoom))
  by_tests e t true = t
  by_tests e t false = no NoRoom

  by-edit : sound_tables l.counter l.tables ≡ true → (r : E.Res E.Edited) → O.edit tol c (state_of l) ≡ r → P (step tol c l)
  by-edit h (Err r) y = subst P (step-refused tol c l h r y) (no r)
  by-edit h (Ok e) y = ids (leb (O.counter_after l.counter e.ids) last_counter) refl
    where
      ids : (b : Bool) → leb (O.counter_after l.counter e.ids) last_counter ≡ b → P (step tol c l)
      ids false i = subst P (step_exhausted tol c l h e y i) (no NoIds)
      ids true i =
          subst P (sym (step-decided tol c l h e y i)) (by_tests e (yes e y i) (fits_room (room_of l.tables) e.result && O.fits_lists (lists_of l) e.changes))

  pub step-cases : P (step tol c l)
  step-cases = sane (sound_tables l.counter l.tables) refl
    where
      sane : (b : Bool) → sound_tables l.counter l.tables ≡ b → P (step tol c l)
      sane false h = subst P (step_unsound tol c l h) (no Unsound)
      sane true h = by-edit h (O.edit tol c (state_of l)) refl

-- ---- the counter

-- an accepted answer has as many entities as were created
behind : (k : ℕ) (cs : ChangeSet) (second : Option ℕ) → O.counter_after k (length cs.created) ≡ counter_behind k (accepting cs second)
behind k cs None = refl
behind k cs (Some second) = refl

module _ (tol : Tolerance) (c : O.Command) (l : Lent) where
  pub step-counter : (step tol c l).lent.counter ≡ counter_behind l.counter (step tol c l).answer
  step-counter =
      step-cases (λ n. n.lent.counter ≡ counter_behind l.counter n.answer) tol c l (λ r. refl) (λ e y i.
      ap (O.counter_after l.counter) (sym (allocated tol c (state_of l) e y)) ∙ behind l.counter e.changes e.second)

  pub step-counter-fits : l.counter ≤ last_counter → (step tol c l).lent.counter ≤ last_counter
  step-counter-fits k = step-cases (λ n. n.lent.counter ≤ last_counter) tol c l (λ r. k) (λ e y i. leb-true (O.counter_after l.counter e.ids) last_counter i)

  -- ---- for callers

  pub counted-on : (after : Lent) (a : Answer) → ended after a ≡ step tol c l → after.counter ≡ counter_behind l.counter a
  counted-on after a e = subst (λ n. n.lent.counter ≡ counter_behind l.counter n.answer) (sym e) step-counter

  -- the counter behind a call is a word
  pub counter-word : (after : Lent) (a : Answer) → ended after a ≡ step tol c l → l.counter < 2 ^ 64 → counter_behind l.counter a < 2 ^ 64
  counter-word after a e fits =
      let k = step-counter in
      let m = step-counter-fits (omega arith) in
      subst (λ n. counter_behind l.counter n.answer < 2 ^ 64) (sym e) (omega (arith, k, m))

-- the same lent memory with another counter
abbrev pub with_counter : ℕ → Lent → Lent
with_counter k l =
    record { counter = k; tables = l.tables; created = l.created; modified = l.modified; deleted = l.deleted; warnings = l.warnings }

-- What a call leaves, told with the counter that follows from its answer, whatever counter it was told with.
pub counter-told : (tol : Tolerance) (c : O.Command) (l after : Lent) (a : Answer) → ended after a ≡ step tol c l → ended (with_counter (counter_behind l.counter a) after) a ≡ step tol c l
counter-told tol c l after a e = ap (λ k. ended (with_counter k after) a) (sym (counted-on tol c l after a e)) ∙ e
