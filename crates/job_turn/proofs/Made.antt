-- One edit of a job by what it comes to, and what it came to by how it ended. Assumes nothing.
use Rattle.jobs.specs.declared.Done.{Done}
use Rattle.std.specs.Prelude.{Err, Ok}
use mathlib.Core.Path.{◌≡◌, refl, ap}
use mathlib.Core.List.{List}
use Prim.Native.Nat.{ℕ}
use native.Mathlib.Omega.{arith}
use lib.ListN.{length}
use Rattle.entities.specs.declared.Refusal.{Refusal}
use Rattle.rules.specs.Names.{Tolerance}
use Rattle.rules.specs.Edit.{Res, Edited}
use Rattle.rules.specs.Ops.{Command}
use Rattle.tables.specs.View.{Tables}
use Rattle.store.specs.Store.{room_of}
use Rattle.report.specs.Report.{warned_at}
use Rattle.step.specs.Run.{Held, map_in}
use Rattle.jobs.specs.Job.{edit_once}
use Rattle.job_step.specs.Job.{written}
use Rattle.job_marks.specs.Marks.{mark_all}
use Rattle.job_turn.specs.Turn.{pairs_of, tables_behind, marks_behind, warnings_behind, turn_of, turn_ends, made}

-- what the edit comes to
abbrev pub once : Tolerance → Command → Held → Res Edited
once tol c h = edit_once tol (room_of h.tables) c (map_in h)

-- what an accepted edit answers
abbrev pub done_as : Command → Held → Edited → Res Done
done_as c h e = Ok (record { counter = (written c h e).counter; warnings = (length e.changes.warnings) })

module _ (tol : Tolerance) (c : Command) (h : Held) where
  -- ---- by what it comes to

  pub made-refused : (r : Refusal) → once tol c h ≡ Err r → (old : Tables) (ms : List ℕ) (at : ℕ) (w : List ℕ)
      → made tol old c h ms at w ≡ turn_ends h.tables ms w (Err r)
  unfolding made
  made-refused r y old ms at w = ap (λ x. turn_ends (tables_behind c h x) (marks_behind old ms x) (warnings_behind at w x) (turn_of c h x)) y

  pub made_yields : (e : Edited) → once tol c h ≡ Ok e → (old : Tables) (ms : List ℕ) (at : ℕ) (w : List ℕ)
      → made tol old c h ms at w
      ≡ turn_ends (written c h e).tables (mark_all old (pairs_of e.changes.modified) ms) (warned_at at w e.changes.warnings) (done_as c h e)
  unfolding made
  made_yields e y old ms at w = ap (λ x. turn_ends (tables_behind c h x) (marks_behind old ms x) (warnings_behind at w x) (turn_of c h x)) y

  -- ---- by how it ended

  -- the edit behind an answer
  pub record Made (k n : ℕ) : Type 0 where
    pub edited : Edited
    pub yields : once tol c h ≡ Ok edited
    pub counter-is : k ≡ (written c h edited).counter
    pub warnings-are : n ≡ length edited.changes.warnings

  stopped_by : (x : Res Edited) → once tol c h ≡ x → (r : Refusal) → turn_of c h x ≡ Err r
      → once tol c h ≡ Err r
  stopped_by (Err s) y r e = cc
  stopped_by (Ok s) y r e = let z : ◌≡◌ {A = ℕ} 0 1 = cc in absurd (omega arith)

  made_by : (x : Res Edited) → once tol c h ≡ x → (k n : ℕ) → turn_of c h x ≡ Ok (record { counter = k; warnings = n }) → Made k n
  made_by (Err s) y k n e = let z : ◌≡◌ {A = ℕ} 0 1 = cc in absurd (omega arith)
  made_by (Ok s) y k n e =
      let f : ◌≡◌ {A = Done} (record { counter = k; warnings = n }) (record { counter = (written c h s).counter; warnings = length s.changes.warnings }) = cc in
      record { edited = s; yields = y; counter-is = ap (λ (d : Done). d.counter) f; warnings-are = ap (λ (d : Done). d.warnings) f }

  module _ (old : Tables) (ms : List ℕ) (at : ℕ) (w : List ℕ) (t : Tables) (ms' w' : List ℕ) (turn : Res Done)
      (ends : turn_ends t ms' w' turn ≡ made tol old c h ms at w) where
    turn_is : turn ≡ turn_of c h (once tol c h)
    unfolding made
    turn_is = ap (λ z. z.turn) ends

    pub made-stopped : (r : Refusal) → turn ≡ Err r → once tol c h ≡ Err r
    made-stopped r e = let f = turn_is in stopped_by (once tol c h) refl r (cc (e, f))

    pub made-done : (k n : ℕ) → turn ≡ Ok (record { counter = k; warnings = n }) → Made k n
    made-done k n e = let f = turn_is in made_by (once tol c h) refl k n (cc (e, f))
