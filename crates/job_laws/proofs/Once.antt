-- One edit of a job, as a call that is lent lists of its own: refused or accepted as the call is, and what an accepted one keeps. Assumes nothing.
use Rattle.std.specs.Prelude.{Err, Ok}
use mathlib.Core.Path.{◌≡◌, ap, ◌∙◌, subst}
use mathlib.Core.Bool.{true}
use lib.Dec.{leb}
use lib.ListN.{length}
use borrow.Author.Tests.{le-leb}
use native.Mathlib.Omega.{arith}
use Prim.Native.Nat.{ℕ}
use Rattle.entities.specs.declared.Tolerance.{Tolerance}
use Rattle.entities.specs.declared.Refusal.{Refusal}
use Rattle.entities.specs.declared.Refusal.TheVariants as R
use Rattle.entities.specs.Records.{ChangeSet}
use Rattle.rules.specs.Sound.{sound, Room, Lists, fits_room, last_counter}
use Rattle.rules.specs.Edit.{◌>>=◌, check, Edited}
use Rattle.rules.specs.Ops.{Command, State, Call, edit, counter_after, fits_lists, refused_as, accepted_as, listable, outcome_of, step_map}
use Rattle.rules.specs.Demand.{Exact}
use Rattle.laws.proofs.Law.{Kept, step_kept}
use Rattle.laws.proofs.Lawful.{yields, checked}
use Rattle.laws.proofs.SplitPlans.{bound}
use Rattle.laws.proofs.Claim.{lawful}
use Rattle.jobs.specs.Job.{edit_once}
use Rattle.job_laws.specs.Deeds.{lengths}

-- lists that are as long as they need be
own-fit : (cs : ChangeSet) → fits_lists (lengths cs) cs ≡ true
own-fit cs = rw (fits (length cs.created), fits (length cs.modified), fits (length cs.deleted), fits (length cs.warnings))
  where
    fits : (n : ℕ) → leb n n ≡ true
    fits n = le-leb n n (omega arith)

abbrev pub calling : Command → Lists → Call
calling c ls = record { command = c; lists = ls }

-- what an accepted edit keeps
pub record OnceKept (tol : Tolerance) (c : Command) (s : State) (e : Edited) : Type 0 where
  pub edited : edit tol c s ≡ Ok e
  pub ids_are_left : leb (counter_after s.counter e.ids) last_counter ≡ true
  pub sound-left : sound (accepted_as s e).state.counter (accepted_as s e).state.map ≡ true
  pub exact : Exact s.map e.changes e.result

module _ (tol : Tolerance) (room : Room) (c : Command) (s : State) (sane : sound s.counter s.map ≡ true) where
  pub once-refused : (ls : Lists) (r : Refusal) → edit_once tol room c s ≡ Err r → step_map tol room (calling c ls) s ≡ refused_as s r
  unfolding edit_once step_map
  once-refused ls r h = rw sane (ap (λ x. outcome_of s (listable ls x)) h)

  -- with any lists in which its own have room
  pub once-listed : (ls : Lists) (e : Edited) → edit_once tol room c s ≡ Ok e → fits_lists ls e.changes ≡ true → step_map tol room (calling c ls) s ≡ accepted_as s e
  unfolding edit_once step_map
  once-listed ls e h fits = rw sane (ap (λ x. outcome_of s (listable ls x)) h ∙ ap (λ b. outcome_of s (check b R.NoRoom >>= (λ _. Ok e))) fits)

  pub once_call : (e : Edited) → edit_once tol room c s ≡ Ok e → step_map tol room (calling c (lengths e.changes)) s ≡ accepted_as s e
  once_call e h = once-listed (lengths e.changes) e h (own-fit e.changes)

  once-edited : (e : Edited) → edit_once tol room c s ≡ Ok e → (edit tol c s ≡ Ok e) × (leb (counter_after s.counter e.ids) last_counter ≡ true)
  unfolding edit_once
  once-edited e h =
      let (x, e1, h1) = bound (edit tol c s) _ e h in
      let (ids, h2) = checked (leb (counter_after s.counter x.ids) last_counter) R.NoIds _ e h1 in
      let (fits, h3) = checked (fits_room room x.result) R.NoRoom _ e h2 in
      subst (λ y. (edit tol c s ≡ Ok y) × (leb (counter_after s.counter y.ids) last_counter ≡ true)) (yields h3) (e1, ids)

  pub once-kept : (e : Edited) → edit_once tol room c s ≡ Ok e → OnceKept tol c s e
  once-kept e h =
      let call = calling c (lengths e.changes) in
      let k = subst (Kept tol room call s) (once_call e h) (step_kept tol room call s sane (lawful tol c)) in
      let (edited, ids) = once-edited e h in
      record { edited = edited; ids_are_left = ids; sound-left = k.sound-left; exact = k.told }
