-- Document 02 (a) on lent memory: a job of several edits, and all that it leaves.
use Rattle.jobs.specs.Answers.{JobAnswer}
use Rattle.std.specs.Prelude.{ℕ, suc, cond, List, [], ◌∷◌, leb, Err, Ok}
use Rattle.entities.specs.Records.{ChangeSet}
use Rattle.rules.specs.Names.{Tolerance}
use Rattle.rules.specs.Edit.{Edited}
use Rattle.rules.specs.Ops.{Command, counter_after, fits_lists}
use Rattle.tables.specs.View.{Tables, view}
use Rattle.tables.specs.Formed.{sound_tables}
use Rattle.store.specs.Store.{room_of}
use Rattle.report.specs.Report.{listed, warned, counts}
use Rattle.step.specs.Step.{Lent, writing, lists_of}
use Rattle.step.specs.Run.{Held, held_in, map_in}
use Rattle.jobs.specs.declared.Job.{Job}
use Rattle.jobs.specs.declared.JobRefusal.TheVariants.{TooManyEdits, Unsound, NoRoom, EditRefused}
use Rattle.jobs.specs.Job.{Run, done, stopped, preceded, max_edits, commands, edit_once, net}
use Rattle.area.specs.Area.{area_fits, copied}

-- ---- what is lent, and what a job leaves

-- the counter, the map's slices and the lists, as every call has them, and the second area
pub record JobLent : Type 0 where
  pub lent : Lent
  pub area : Tables

pub record JobEnded : Type 0 where
  pub lent : Lent
  pub area : Tables
  pub answer : JobAnswer

-- ---- its edits

-- lent memory with an edit's result written
abbrev pub written : Command → Held → Edited → Held
written c h e = record { counter = counter_after h.counter e.ids; tables = writing c h.tables e.result }

-- each on the tables and the counter as the last one left them
unfoldable pub table_edits : Tolerance → ℕ → List Command → Held → Run Held
table_edits tol place [] h = done h []
table_edits tol place (c ∷ cs) h =
    elim (edit_once tol (room_of h.tables) c (map_in h)) [ Err r ↦ stopped place r | Ok e ↦ preceded e.changes (table_edits tol (suc place) cs (written c h e)) ]

-- ---- one call of a job

-- a job that is refused leaves what is lent, but for an area that is long enough
abbrev pub refusing : Lent → Tables → JobAnswer → JobEnded
refusing l area a = record { lent = l; area = area; answer = a }

abbrev pub making : Lent → Tables → Held → ChangeSet → JobEnded
making l area h cs =
    record {
      lent =
          record {
            counter = h.counter;
            tables = h.tables;
            created = listed l.created cs.created;
            modified = listed l.modified cs.modified;
            deleted = listed l.deleted cs.deleted;
            warnings = warned l.warnings cs.warnings;
          };
      area = area;
      answer = Ok (counts cs);
    }

-- "a net list or the warnings too long for their slice is 10 at the end"
abbrev pub ending : Lent → Tables → Run Held → JobEnded
ending l area (stopped place r) = refusing l area (Err (EditRefused place r))
ending l area (done h css) =
    let cs = net (view l.tables) (view h.tables) css in
    cond (fits_lists (lists_of l) cs) (making l area h cs) (refusing l area (Err NoRoom))

-- "Checks: more than 64 edits is 13, before all else, an area with a slice shorter than the map's is 10 after 9", then the edits and the lists. Past its own 10 the
-- area "begins with the old map's slices as they came, made or not".
unfoldable pub job_step : Tolerance → Job → JobLent → JobEnded
job_step tol j l =
    cond (leb j.count max_edits)
    (cond (sound_tables l.lent.counter l.lent.tables)
    (cond (area_fits l.lent.tables l.area)
    (ending l.lent (copied l.lent.tables l.area) (table_edits tol 1 (commands j) (held_in l.lent)))
    (refusing l.lent l.area (Err NoRoom)))
    (refusing l.lent l.area (Err Unsound)))
    (refusing l.lent l.area (Err TooManyEdits))

-- ---- slices as what is lent

abbrev pub job_lent : Lent → Tables → JobLent
job_lent l area = record { lent = l; area = area }

abbrev pub job_ended : Lent → Tables → JobAnswer → JobEnded
job_ended l area a = record { lent = l; area = area; answer = a }
