use mathlib.Core.Path.{◌≡◌, sym, ap, ◌∙◌, subst}
use mathlib.Core.Logic.{inr}
use mathlib.Core.List.{List}
use Prim.Native.Nat.{ℕ}
use lib.ListN.{length}
use Rattle.tables.specs.View.{Tables}
use Rattle.lent.specs.Lent.{map_tables, view_tables, view_rows}
use Rattle.tables.specs.Formed.{sound_tables}
use Rattle.step.specs.Run.{Held, lengths_of}
use Rattle.jobs.specs.Job.{Run, commands}
use Rattle.job_step.specs.Job.{table_edits}
use Rattle.job_run.specs.Runs.{WarningRoom}
use Rattle.job_told.specs.Told.{ToldAs}
use Rattle.job_told.proofs.Sorted.{sound-sorted}
use Rattle.job_told.proofs.Ends.{made-lengths, made-within, put-back-same, ran-told, same-fits}
use Rattle.job_told.proofs.tell_again.Goals as goal
use Rattle.job_told.proofs.tell_again.Goals.{Start}

-- what is lent, and the old map
abbrev mapOf : Start → Tables
mapOf s = map_tables s.args.map.now

abbrev old_of : Start → Tables
old_of s = view_tables s.args.old

abbrev bareOf : Start → Tables
bareOf s = view_rows s.args.old

abbrev runOn : Start → Tables → Run Held
runOn s z = table_edits s.args.tolerance 1 (commands s.args.job) (record { counter = s.args.counter; tables = z })

-- the tables that the edits left are as long as the old ones
long : (s : Start) → lengths_of (mapOf s) ≡ lengths_of (old_of s)
long s = made-lengths s.args.tolerance s.args.job s.args.counter (old_of s) s.requires.0 (mapOf s) s.args.n s.requires.1.1.0

pub put_back-requires : goal.put_back-requires
put_back-requires c = same-fits (mapOf (goal.at.put_back-requires c).Start) (old_of (goal.at.put_back-requires c).Start) (long (goal.at.put_back-requires c).Start)

pub make_edits-requires : goal.make_edits-requires
make_edits-requires c =
    let e = (c.put_back.ensures.made ∙ put-back-same (mapOf (goal.at.make_edits-requires c).Start) (old_of (goal.at.make_edits-requires c).Start) (long (goal.at.make_edits-requires c).Start)) in
    (ap (sound_tables c.args.counter) e ∙ c.requires.0, (c.requires.1.0, (sound-sorted c.args.counter (old_of (goal.at.make_edits-requires c).Start) c.requires.0, (c.requires.1.1.1.1.0, (subst (λ (z : Tables). WarningRoom (runOn (goal.at.make_edits-requires c).Start z) c.args.n (length c.args.warnings.now)) (sym e) (inr (made-within (mapOf (goal.at.make_edits-requires c).Start) c.args.n (runOn (goal.at.make_edits-requires c).Start (old_of (goal.at.make_edits-requires c).Start)) c.requires.1.1.0, c.requires.1.1.1.0)), c.requires.1.1.1.1.1)))))

pub returns-clause-made : goal.returns-clause-made
returns-clause-made c =
    let p = c.warnings-1.given.1.1 (sym c.make_edits.ensures.same_lists.warnings) in
    let e : c.make_edits.new.lists.warnings.now ≡ c.warnings-1.given.0 = cc in
    subst (λ (z : List ℕ). ToldAs c.args.warnings.now (runOn (goal.at.returns-clause-made c).Start (old_of (goal.at.returns-clause-made c).Start)) (map_tables c.make_edits.new.map) z) e
    (ran-told (mapOf (goal.at.returns-clause-made c).Start) c.args.n (bareOf (goal.at.returns-clause-made c).Start) (map_tables c.put_back.new.map) (map_tables c.make_edits.new.map) c.args.marks.now c.make_edits.new.marks c.args.warnings.now c.make_edits.new.lists.warnings.now c.make_edits.result (runOn (goal.at.returns-clause-made c).Start) (old_of (goal.at.returns-clause-made c).Start) (map_tables c.put_back.new.map) (c.put_back.ensures.made ∙ put-back-same (mapOf (goal.at.returns-clause-made c).Start) (old_of (goal.at.returns-clause-made c).Start) (long (goal.at.returns-clause-made c).Start)) c.requires.1.1.0 c.make_edits.ensures.made)
