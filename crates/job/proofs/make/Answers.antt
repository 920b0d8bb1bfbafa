-- `job::make` meets its contract: the tests, the copy, and the edits on the copy's front. Assumes nothing.
use mathlib.Core.Path.{◌≡◌, refl, sym, ap, ◌∙◌, subst}
use mathlib.Core.Bool.{true}
use borrow.Author.Tests.{leb-true}
use Rattle.tables.specs.View.{Tables}
use Rattle.lent.specs.Lent.{map_tables, view_tables}
use Rattle.step.specs.Step.{Lent, given}
use Rattle.step.specs.Run.{Held}
use Rattle.jobs.specs.Job.{commands, Run}
use Rattle.area.specs.Area.{area_fits, copied, put_back}
use Rattle.job_step.specs.Job.{ending, job_lent, table_edits}
use Rattle.job_step.proofs.Area.{copied-fits, copied-front}
use Rattle.job_step.proofs.Ends.{job-runs}
use Rattle.job.specs.First.{first_tests}
use Rattle.job.proofs.Ends.{other-area, tests-passed, tests-refused}
use Rattle.job.proofs.make.Goals as goal
use Rattle.job.proofs.make.Goals.{After-first_tests-first}

-- what is lent
abbrev lent : After-first_tests-first → Lent
lent s = given s.args.counter s.args.map.now s.args.lists.now

abbrev held : After-first_tests-first → Tables
held s = map_tables s.args.map.now

abbrev area : After-first_tests-first → Tables
area s = map_tables s.args.area.now

abbrev runOn : After-first_tests-first → Run Held
runOn s = table_edits s.args.tolerance 1 (commands s.args.job) (record { counter = s.args.counter; tables = held s })

-- the tests are of what is lent
tested : (s : After-first_tests-first) → s.first_tests-first.result ≡ first_tests s.args.counter (held s) s.args.job.count (area s)
tested s =
    s.first_tests-first.ensures
    ∙ (ap (λ (z : Tables). first_tests s.args.counter z s.args.job.count (view_tables s.view-2.result)) s.view.ensures
    ∙ ap (λ (z : Tables). first_tests s.args.counter (held s) s.args.job.count z) s.view-2.ensures)

-- the copy is of what is lent, and its front is that
module _ (s : After-first_tests-first) (t u b : Tables) (seen : t ≡ held s) (left : u ≡ held s) where
  copy : b ≡ copied t (area s) → b ≡ copied (held s) (area s)
  copy e = e ∙ ap (λ (z : Tables). copied z (area s)) seen

  front-may : area_fits (held s) (area s) ≡ true → b ≡ copied t (area s) → (a : Tables) → a ≡ b → area_fits u a ≡ true
  front-may h e a f =
      subst (λ (z : Tables). area_fits z a ≡ true) (sym left)
      (subst (λ (z : Tables). area_fits (held s) z ≡ true) (sym (f ∙ copy e)) (copied-fits (held s) (area s) (held s) refl h))

  front-same : b ≡ copied t (area s) → (a o : Tables) → a ≡ b → o ≡ put_back u a → o ≡ held s
  front-same e a o f g = g ∙ (ap (λ (z : Tables). put_back z a) left ∙ (ap (put_back (held s)) (f ∙ copy e) ∙ copied-front (held s) (area s)))

pub returns-in-Err-clause-made : goal.returns-in-Err-clause-made
returns-in-Err-clause-made c =
    let s = (goal.at.returns-in-Err-clause-made c).After-first_tests-first in
    sym (tests-refused (job_lent (lent s) (area s)) c.args.job c.args.tolerance c.first_tests-first.result c.in-Err.refusal (tested s) c.in-Err.is)

pub keep_copy-requires : goal.keep_copy-requires
keep_copy-requires c =
    let s = (goal.at.keep_copy-requires c).After-first_tests-first in
    let p = tests-passed (job_lent (lent s) (area s)) c.args.job c.first_tests-first.result (tested s) c.in_default.is in
    subst (λ (z : Tables). area_fits z (area s) ≡ true) (sym c.view-3.ensures) p.1.1

pub front-old-requires : goal.front-old-requires
front-old-requires c =
    let s = (goal.at.front-old-requires c).After-first_tests-first in
    let p = tests-passed (job_lent (lent s) (area s)) c.args.job c.first_tests-first.result (tested s) c.in_default.is in
    front-may s (view_tables c.view-3.result) (view_tables c.view-4.result) (map_tables c.keep_copy.new.old) c.view-3.ensures c.view-4.ensures p.1.1 c.keep_copy.ensures.made (view_tables c.view-5.result) c.view-5.ensures

pub make-requires : goal.make-requires
make-requires c =
    let s = (goal.at.make-requires c).After-first_tests-first in
    let p = tests-passed (job_lent (lent s) (area s)) c.args.job c.first_tests-first.result (tested s) c.in_default.is in
    (p.1.0, (leb-true c.args.job.count 64 p.0, front-same s (view_tables c.view-3.result) (view_tables c.view-4.result) (map_tables c.keep_copy.new.old) c.view-3.ensures c.view-4.ensures c.keep_copy.ensures.made (view_tables c.view-5.result) (view_tables c.front-old.result) c.view-5.ensures c.front-old.ensures))

pub returns-clause-made : goal.returns-clause-made
returns-clause-made c =
    let s = (goal.at.returns-clause-made c).After-first_tests-first in
    let p = tests-passed (job_lent (lent s) (area s)) c.args.job c.first_tests-first.result (tested s) c.in_default.is in
    let b = map_tables c.keep_copy.new.old in
    other-area (lent s) (given c.make.result.counter c.make.new.map c.make.new.lists) (view_tables c.front-old.result) b (runOn s) c.make.result.answer c.make.ensures.made
    ∙ (ap (λ (z : Tables). ending (lent s) z (runOn s)) (copy s (view_tables c.view-3.result) (view_tables c.view-4.result) b c.view-3.ensures c.view-4.ensures c.keep_copy.ensures.made)
    ∙ sym (job-runs c.args.tolerance c.args.job (job_lent (lent s) (area s)) p.0 p.1.0 p.1.1))
