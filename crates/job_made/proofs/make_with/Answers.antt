-- `job_made::make_with` meets its contract: the edits, what they come to, and then the lists or the way back. Assumes nothing.
use native.Mathlib.Omega.{arith}
use mathlib.Core.Path.{◌≡◌, sym, ap, ◌∙◌, subst}
use mathlib.Core.Bool.{true}
use mathlib.Core.Logic.{inl}
use mathlib.Core.List.{List}
use Prim.Native.Nat.{ℕ, ◌*◌, ◌≤◌}
use Rattle.std.specs.Prelude.{Ok}
use lib.ListN.{length, length-replicate}
use Rattle.tables.specs.View.{Tables}
use Rattle.tables.specs.Formed.{sound_tables}
use Rattle.lent.specs.declared.ListsView.{ListsView}
use Rattle.lent.specs.Lent.{map_tables, view_tables, SeenAs}
use Rattle.report.specs.declared.Counts.{Counts}
use Rattle.step.specs.Step.{Lent}
use Rattle.step.specs.Run.{Held, lengths_of}
use Rattle.jobs.specs.Job.{Run, commands}
use Rattle.job_step.specs.Job.{ending, job_ended, table_edits}
use Rattle.job_marks.specs.Marks.{all_marks, sorted_tables}
use Rattle.job_net.proofs.Lists.{bare}
use Rattle.job_run.specs.Runs.{RanAs}
use Rattle.job_run.proofs.Same.{same-trans}
use Rattle.job_decided.specs.declared.JobEnd.{JobEnd}
use Rattle.job_decided.specs.Decided.{DecidedAs, Sorted}
use Rattle.job_told.specs.Told.{Kept, ToldAs, kept_rows}
use Rattle.job_told.proofs.Sorted.{sound-sorted}
use Rattle.job_told.proofs.Ends.{put-back-same, same-fits}
use Rattle.job_made.specs.Made.{kept_from, unmarked}
use Rattle.job_made.proofs.Keeping.{began}
use Rattle.job_made.proofs.Ends.{Ready, decided-ready, decided-refused, ran-lengths, ran-sorted, ready-ends, ready-long, ready-told}
use Rattle.job_made.proofs.make_with.Goals as goal
use Rattle.job_made.proofs.make_with.Goals.{After-make_edits-ran}

-- behind the edits: what was lent, the old tables, and the run on them
abbrev old_of : After-make_edits-ran → Tables
old_of m = view_tables m.args.old

abbrev runOn : After-make_edits-ran → Tables → Run Held
runOn m z = table_edits m.args.tolerance 1 (commands m.args.job) (record { counter = m.args.counter; tables = z })

abbrev lentOn : After-make_edits-ran → Tables → Lent
lentOn m z =
    record {
      counter = m.args.counter;
      tables = z;
      created = m.args.lists.now.created.now;
      modified = m.args.lists.now.modified.now;
      deleted = m.args.lists.now.deleted.now;
      warnings = m.args.lists.now.warnings.now;
    }

old-sound : (m : After-make_edits-ran) → sound_tables m.args.counter (old_of m) ≡ true
old-sound m = ap (sound_tables m.args.counter) m.requires.1.1.0 ∙ m.requires.0

old-sorted : (m : After-make_edits-ran) → sorted_tables (bare (old_of m)) ≡ true
old-sorted m = sound-sorted m.args.counter (old_of m) (old-sound m)

marks-long : (ms : List ℕ) → ms ≡ unmarked → length ms ≡ 6784
marks-long ms e = ap length e ∙ length-replicate {A = ℕ} all_marks 0

kept-long : (v w : List ℕ) → v ≡ kept_from w → length v ≡ 25600
kept-long v w e = ap length e ∙ began w

-- what they left
abbrev left_by : After-make_edits-ran → Tables
left_by m = map_tables m.make_edits-ran.new.map

abbrev marks_by : After-make_edits-ran → List ℕ
marks_by m = m.make_edits-ran.new.marks

abbrev keptBy : After-make_edits-ran → List ℕ
keptBy m = m.make_edits-ran.new.lists.warnings.now

ran : (m : After-make_edits-ran)
    → RanAs (bare (old_of m)) m.args.marks.now kept_rows m.args.own.now.warnings.now (old_of m) (runOn m (old_of m)) m.make_edits-ran.result (left_by m) (marks_by m)
    (keptBy m)
ran m =
    subst (λ (z : Tables).
    RanAs (bare (old_of m)) m.args.marks.now kept_rows m.args.own.now.warnings.now z (runOn m z) m.make_edits-ran.result (left_by m) (marks_by m) (keptBy m))
    (sym m.requires.1.1.0) m.make_edits-ran.ensures.made

long : (m : After-make_edits-ran) → lengths_of (left_by m) ≡ lengths_of (old_of m)
long m =
    ran-lengths m.args.tolerance m.args.job m.args.counter (old_of m) (left_by m) (old-sound m) m.args.marks.now m.args.own.now.warnings.now (marks_by m) (keptBy m)
    m.make_edits-ran.result (ran m)

-- behind the decision, which looks at the map that they left
module _ (m : After-make_edits-ran) (t : Tables) (seen : t ≡ left_by m) where
  sorted : Sorted m.make_edits-ran.result (bare t) (bare (old_of m))
  sorted =
      subst (λ (z : Tables). Sorted m.make_edits-ran.result (bare z) (bare (old_of m))) (sym seen)
      (ran-sorted m.args.tolerance m.args.job m.args.counter (old_of m) (left_by m) (old-sound m) m.args.marks.now m.args.own.now.warnings.now (marks_by m) (keptBy m) m.make_edits-ran.result (ran m))

  module _ (v : ListsView) (looked : SeenAs m.args.lists.now v) (e : JobEnd) (created modified deleted : List ℕ)
      (ends : DecidedAs m.args.counter (bare t) (bare (old_of m)) (marks_by m) m.make_edits-ran.new.lists.created.now m.make_edits-ran.new.lists.modified.now m.make_edits-ran.new.lists.deleted.now m.make_edits-ran.result v.created.now v.modified.now v.deleted.now v.warnings.now e created modified deleted) where
    decided : DecidedAs m.args.counter (bare (left_by m)) (bare (old_of m)) (marks_by m) m.make_edits-ran.new.lists.created.now m.make_edits-ran.new.lists.modified.now m.make_edits-ran.new.lists.deleted.now m.make_edits-ran.result m.args.lists.now.created.now m.args.lists.now.modified.now m.args.lists.now.deleted.now m.args.lists.now.warnings.now e created modified deleted
    decided =
        subst (λ (z : Tables).
        DecidedAs m.args.counter (bare z) (bare (old_of m)) (marks_by m) m.make_edits-ran.new.lists.created.now m.make_edits-ran.new.lists.modified.now m.make_edits-ran.new.lists.deleted.now m.make_edits-ran.result m.args.lists.now.created.now m.args.lists.now.modified.now m.args.lists.now.deleted.now m.args.lists.now.warnings.now e created modified deleted)
        seen (rw (looked.created, looked.modified, looked.deleted, looked.warnings) at ends)

    ready : (n : Counts) → e.answer ≡ Ok n → Ready (lentOn m (old_of m)) (runOn m (old_of m)) e.counter (left_by m) n created modified deleted (keptBy m)
    ready n is =
        (decided-ready (lentOn m (old_of m)) (left_by m) m.args.marks.now m.args.own.now.warnings.now (marks_by m) (keptBy m) m.make_edits-ran.result m.make_edits-ran.new.lists.created.now m.make_edits-ran.new.lists.modified.now m.make_edits-ran.new.lists.deleted.now e created modified deleted (old-sorted m) m.requires.1.1.1.0 m.requires.1.1.1.1.0 n is (runOn m (old_of m)) (ran m) decided)

    refused : ((n : Counts) → e.answer ≡ Ok n → ⊥)
        → job_ended (record { counter = e.counter; tables = old_of m; created = m.args.lists.now.created.now; modified = m.args.lists.now.modified.now; deleted = m.args.lists.now.deleted.now; warnings = m.args.lists.now.warnings.now }) (old_of m) e.answer
        ≡ ending (lentOn m (old_of m)) (old_of m) (runOn m (old_of m))
    refused never =
        decided-refused (lentOn m (old_of m)) (left_by m) m.args.marks.now m.args.own.now.warnings.now (marks_by m) (keptBy m) m.make_edits-ran.result m.make_edits-ran.new.lists.created.now m.make_edits-ran.new.lists.modified.now m.make_edits-ran.new.lists.deleted.now e created modified deleted (old-sorted m) m.requires.1.1.1.0 never (runOn m (old_of m)) (ran m) decided

pub make_edits-ran-requires : goal.make_edits-ran-requires
make_edits-ran-requires c =
    let sane : sound_tables c.args.counter (view_tables c.args.old) ≡ true = ap (sound_tables c.args.counter) c.requires.1.1.0 ∙ c.requires.0 in
    let e = kept-long c.args.own.now.warnings.now c.args.lists.now.warnings.now c.requires.1.1.1.1.0 in
    (c.requires.0, (c.requires.1.0, (sound-sorted c.args.counter (view_tables c.args.old) sane, (marks-long c.args.marks.now c.requires.1.1.1.0, (inl (omega (arith, e)), c.requires.1.1.1.1.1)))))

pub decided-end-requires : goal.decided-end-requires
decided-end-requires c =
    let m = (goal.at.decided-end-requires c).After-make_edits-ran in
    let same = c.make_edits-ran.ensures.same_lists in
    (sorted m (view_tables c.view.result) c.view.ensures, (c.make_edits-ran.auto.marks ∙ marks-long c.args.marks.now c.requires.1.1.1.0, (same.created_length ∙ c.requires.1.1.1.1.1.0, (same.modified_length ∙ c.requires.1.1.1.1.1.1.0, same.deleted_length ∙ c.requires.1.1.1.1.1.1.1))))

pub tell_net-requires : goal.tell_net-requires
tell_net-requires c =
    let m = (goal.at.tell_net-requires c).After-make_edits-ran in
    let own = c.decided-end.new.net in
    ready-long (lentOn m (old_of m)) c.decided-end.result.counter (left_by m) c.in-Ok.n own.created.now own.modified.now own.deleted.now (keptBy m) (runOn m (old_of m)) (ready m (view_tables c.view.result) c.view.ensures c.view-2.result c.view-2.ensures c.decided-end.result own.created.now own.modified.now own.deleted.now c.decided-end.ensures.made c.in-Ok.n c.in-Ok.is)

pub tell_warnings-requires : goal.tell_warnings-requires
tell_warnings-requires c =
    let m = (goal.at.tell_warnings-requires c).After-make_edits-ran in
    let own = c.decided-end.new.net in
    let first = c.make_edits-ran.ensures.same_lists in
    let then = c.decided-end.ensures.same in
    let kept = first.warnings_length ∙ kept-long c.args.own.now.warnings.now c.args.lists.now.warnings.now c.requires.1.1.1.1.0 in
    let t = ready-told (lentOn m (old_of m)) c.decided-end.result.counter (left_by m) c.in-Ok.n own.created.now own.modified.now own.deleted.now (keptBy m) kept (runOn m (old_of m)) (ready m (view_tables c.view.result) c.view.ensures c.view-2.result c.view-2.ensures c.decided-end.result own.created.now own.modified.now own.deleted.now c.decided-end.ensures.made c.in-Ok.n c.in-Ok.is) in
    let w = c.tell_net.ensures.rest in
    (old-sound m, (c.requires.1.0, (t.0, (subst (Kept (runOn m (old_of m)) (keptBy m)) (sym w) t.1.0, (subst (λ (z : List ℕ). c.in-Ok.n.warnings * 10 ≤ length z) (sym w) t.1.1, (kept, (c.make_edits-ran.auto.marks ∙ marks-long c.args.marks.now c.requires.1.1.1.0, (then.created_length ∙ (first.created_length ∙ c.requires.1.1.1.1.1.0), (then.modified_length ∙ (first.modified_length ∙ c.requires.1.1.1.1.1.1.0), then.deleted_length ∙ (first.deleted_length ∙ c.requires.1.1.1.1.1.1.1))))))))))

pub returns-in-Ok-clause-made : goal.returns-in-Ok-clause-made
returns-in-Ok-clause-made c =
    let m = (goal.at.returns-in-Ok-clause-made c).After-make_edits-ran in
    let own = c.decided-end.new.net in
    let t = map_tables c.tell_warnings.new.map in
    let l = c.tell_net.new.lists in
    let told = subst (λ (z : List ℕ). ToldAs z (runOn m (old_of m)) t c.tell_warnings.new.warnings) c.tell_net.ensures.rest c.tell_warnings.ensures.made in
    ap (λ a. job_ended (record { counter = c.decided-end.result.counter; tables = t; created = l.created.now; modified = l.modified.now; deleted = l.deleted.now; warnings = c.tell_warnings.new.warnings }) (old_of m) a) c.in-Ok.is
    ∙ (ready-ends (lentOn m (old_of m)) c.decided-end.result.counter (left_by m) c.in-Ok.n own.created.now own.modified.now own.deleted.now (keptBy m) (runOn m (old_of m)) (ready m (view_tables c.view.result) c.view.ensures c.view-2.result c.view-2.ensures c.decided-end.result own.created.now own.modified.now own.deleted.now c.decided-end.ensures.made c.in-Ok.n c.in-Ok.is) t l.created.now l.modified.now l.deleted.now c.tell_warnings.new.warnings told c.tell_net.ensures.made
    ∙ ap (λ (z : Tables). ending (lentOn m z) (old_of m) (runOn m z)) c.requires.1.1.0)

pub returns-in-Ok-clause-same : goal.returns-in-Ok-clause-same
returns-in-Ok-clause-same c = same-trans c.make_edits-ran.ensures.same c.tell_warnings.ensures.same

pub put_back-requires : goal.put_back-requires
put_back-requires c =
    let m = (goal.at.put_back-requires c).After-make_edits-ran in
    same-fits (left_by m) (old_of m) (long m)

pub returns-clause-made : goal.returns-clause-made
returns-clause-made c =
    let m = (goal.at.returns-clause-made c).After-make_edits-ran in
    let own = c.decided-end.new.net in
    let l = c.args.lists.now in
    ap (λ (z : Tables). job_ended (record { counter = c.decided-end.result.counter; tables = z; created = l.created.now; modified = l.modified.now; deleted = l.deleted.now; warnings = l.warnings.now }) (old_of m) c.decided-end.result.answer) (c.put_back.ensures.made ∙ put-back-same (left_by m) (old_of m) (long m))
    ∙ (refused m (view_tables c.view.result) c.view.ensures c.view-2.result c.view-2.ensures c.decided-end.result own.created.now own.modified.now own.deleted.now c.decided-end.ensures.made c.in_default.not-Ok
    ∙ ap (λ (z : Tables). ending (lentOn m z) (old_of m) (runOn m z)) c.requires.1.1.0)

pub returns-clause-same : goal.returns-clause-same
returns-clause-same c = same-trans c.make_edits-ran.ensures.same c.put_back.ensures.same
