-- The net lists that are read off the tables of a run's two ends are those of the definition. Assumes nothing.
use mathlib.Core.Path.{◌≡◌, refl, sym, ap, ◌∙◌}
use mathlib.Core.Bool.{true, ◌&&◌, ◌||◌}
use mathlib.Core.List.{List, [], ◌∷◌}
use Prim.Native.Nat.{ℕ}
use lib.ListN.{length, length-replicate}
use Rattle.lists.specs.Select.{each, any, keep}
use Rattle.lists.proofs.Select.{keep_same}
use Rattle.entities.specs.Records.{ChangeSet}
use Rattle.rules.specs.Names.{EntityRef}
use Rattle.rules.specs.Demand.{entities, among, appeared, vanished}
use Rattle.laws.proofs.Entities.{among-append}
use Rattle.tables.specs.View.{Tables, view}
use Rattle.report.specs.Report.{counts}
use Rattle.step.specs.Run.{Held}
use Rattle.jobs.specs.Job.{listed_by, net}
use Rattle.job_marks.specs.Marks.{all_marks, mark_all, sorted_tables}
use Rattle.job_marks.proofs.Marked.{no-marks}
use Rattle.job_net.specs.Net.{marked_both, net_counts, only_in}
use Rattle.job_net.proofs.Lists.{bare, both-listed, only-appeared}
use Rattle.job_turn.specs.Turn.{pairs_of}
use Rattle.job_run.specs.Runs.{all_modified, all_warnings}
use Rattle.job_made.specs.Made.{unmarked}

-- an entity that is in one of several lists is in one of them joined
any-each : (e : EntityRef) (css : List ChangeSet) → listed_by css e ≡ among e (all_modified css)
unfolding listed_by any each among
any-each e [] = refl
any-each e (cs ∷ css) = ap (λ b. among e cs.modified || b) (any-each e css) ∙ sym (among-append e cs.modified (all_modified css))

module _ (old t : Tables) (q : Held) (css : List ChangeSet) (ms : List ℕ) (up : sorted_tables (bare old) ≡ true) (here : t ≡ q.tables)
    (marked : ms ≡ mark_all (bare old) (pairs_of (all_modified css)) unmarked) where
  abbrev cs : ChangeSet
  cs = net (view old) (view q.tables) css

  pub appears : only_in (bare t) (bare old) ≡ cs.created
  unfolding net
  appears = only-appeared t old ∙ ap (λ z. appeared (view old) (view z)) here

  pub vanishes : only_in (bare old) (bare t) ≡ cs.deleted
  unfolding net vanished
  vanishes = only-appeared old t ∙ ap (λ z. vanished (view old) (view z)) here

  pub changes : marked_both (bare old) (bare t) ms ≡ cs.modified
  unfolding net
  changes =
      ap (marked_both (bare old) (bare t)) marked
      ∙ (both-listed old t up (all_modified css) unmarked (length-replicate {A = ℕ} all_marks 0) (no-marks all_marks)
      ∙ (ap (λ z. keep (λ e. among e (entities (view z)) && among e (all_modified css)) (entities (view old))) here
      ∙ keep_same (λ e. among e (entities (view q.tables)) && among e (all_modified css)) (λ e. among e (entities (view q.tables)) && listed_by css e) (entities (view old))
      (λ e. ap (λ b. among e (entities (view q.tables)) && b) (sym (any-each e css)))))

  pub net-counted : net_counts (bare t) (bare old) ms (length (all_warnings css)) ≡ counts cs
  unfolding net
  net-counted = rw (appears, vanishes, changes)
