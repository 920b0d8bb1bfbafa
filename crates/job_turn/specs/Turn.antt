-- One edit of a job on lent memory. Nothing that a host calls rests on this page; `table_edits` (crate `job_step`) is the edits one after the other.
use Rattle.jobs.specs.declared.Done.{Done}
use Rattle.std.specs.Prelude.{ℕ, List, map, length, Err, Ok}
use Rattle.entities.specs.Types.{kind_number}
use Rattle.rules.specs.Names.{Tolerance, EntityRef}
use Rattle.rules.specs.Edit.{Res, Edited}
use Rattle.rules.specs.Ops.{Command}
use Rattle.tables.specs.View.{Tables}
use Rattle.store.specs.Store.{room_of}
use Rattle.report.specs.Report.{warned_at, counter_behind, Answer}
use Rattle.step.specs.Run.{Held, map_in}
use Rattle.jobs.specs.Job.{edit_once}
use Rattle.job_step.specs.Job.{written}
use Rattle.job_marks.specs.Marks.{mark_all}

-- a list of entities as a kind's number and an id each
abbrev pub pairs_of : List EntityRef → List (ℕ × ℕ)
pairs_of es = map (λ e. (kind_number e.kind, e.id)) es

-- what an edit answers: its refusal, or the counter behind it and how many warnings it has
abbrev pub turn_of : Command → Held → Res Edited → Res Done
turn_of c h (Err r) = Err r
turn_of c h (Ok e) = Ok (record { counter = (written c h e).counter; warnings = (length e.changes.warnings) })

abbrev pub tables_behind : Command → Held → Res Edited → Tables
tables_behind c h (Err r) = h.tables
tables_behind c h (Ok e) = (written c h e).tables

-- the same read off the answer of a call
abbrev pub answered : ℕ → Answer → Res Done
answered counter (Ok change) = Ok (record { counter = (counter_behind counter (Ok change)); warnings = change.counts.warnings })
answered counter (Err r) = Err r

-- ---- what the edit leaves

pub record Turned : Type 0 where
  pub tables : Tables
  pub marks : List ℕ
  pub warnings : List ℕ
  pub turn : Res Done

abbrev pub turn_ends : Tables → List ℕ → List ℕ → Res Done → Turned
turn_ends t ms w r = record { tables = t; marks = ms; warnings = w; turn = r }

-- what it lists as modified is marked by the rows of the old tables
abbrev pub marks_behind : Tables → List ℕ → Res Edited → List ℕ
marks_behind old ms (Err r) = ms
marks_behind old ms (Ok e) = mark_all old (pairs_of e.changes.modified) ms

-- its warnings are written from row `at` on
abbrev pub warnings_behind : ℕ → List ℕ → Res Edited → List ℕ
warnings_behind at w (Err r) = w
warnings_behind at w (Ok e) = warned_at at w e.changes.warnings

unfoldable pub made : Tolerance → Tables → Command → Held → List ℕ → ℕ → List ℕ → Turned
made tol old c h ms at w =
    let r = edit_once tol (room_of h.tables) c (map_in h) in
    record { tables = tables_behind c h r; marks = marks_behind old ms r; warnings = warnings_behind at w r; turn = turn_of c h r }

-- how many warnings an edit has
abbrev pub warning_count : Tolerance → Command → Held → ℕ
warning_count tol c h = elim (edit_once tol (room_of h.tables) c (map_in h)) [ Err r ↦ 0 | Ok e ↦ length e.changes.warnings ]
