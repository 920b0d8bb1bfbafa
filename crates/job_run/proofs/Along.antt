-- A job's edits one by one: those made so far, and those left on the memory as it is now, give the whole run. Assumes nothing.
use Rattle.std.specs.Prelude.{Err, Ok}
use mathlib.Core.Path.{◌≡◌, refl, sym, ap, ◌∙◌}
use mathlib.Core.Bool.{true, false}
use mathlib.Core.List.{List, [], ◌∷◌, ◌++◌, map, append-nil}
use Prim.Native.Nat.{ℕ, suc, ◌+◌, ◌≤◌, ◌<◌}
use native.Mathlib.Numerals.{add-one}
use native.Mathlib.Omega.{arith}
use lib.Ieee.{nan}
use lib.ListN.{length, get_or, take, drop, length-append, length-map, drop_of_length-le, get_or-map}
use lib.Seq.{drop-cons, get_or-take, length-take-le}
use Rattle.lists.specs.Select.{each}
use Rattle.lists.proofs.Select.{each_append}
use Rattle.entities.specs.Records.{ChangeSet}
use Rattle.rules.specs.Names.{Tolerance, Refusal}
use Rattle.rules.specs.Edit.{Edited}
use Rattle.rules.specs.Ops.{Command}
use Rattle.entities.specs.declared.Command.TheVariants.{SplitLane}
use Rattle.entities.specs.declared.SplitAt.TheVariants.{Fraction}
use Rattle.tables.specs.View.{Tables}
use Rattle.tables.specs.Formed.{sound_tables}
use Rattle.step.specs.Step.{Lent}
use Rattle.step.specs.Run.{Held, lengths_of}
use Rattle.jobs.specs.declared.Job.{Job}
use Rattle.jobs.specs.declared.Edit.{Edit}
use Rattle.jobs.specs.contracts.Edit as edit-row
use Rattle.jobs.specs.Job.{done, stopped, commands}
use Rattle.job_step.specs.Job.{written, table_edits}
use Rattle.job_step.proofs.Edits.{edits-refused, edits-yield}
use Rattle.job_step.proofs.Prefix.{preceded_by, preceded-last, preceded-done, preceded-stopped}
use Rattle.job_step.proofs.Turn.{turn-keeps, few-warnings}
use Rattle.job_turn.proofs.Made.{once, Made}
use Rattle.job_run.specs.Runs.{all_warnings}

-- ---- what one edit more adds

pub last-of : {B : Type 0} (f : ChangeSet → List B) (css : List ChangeSet) (cs : ChangeSet) → each f (css ++ (cs ∷ [])) ≡ each f css ++ f cs
last-of f css cs = each_append f css (cs ∷ []) ∙ ap (λ l. each f css ++ l) (unfold each in append-nil (f cs))

pub warnings-count : (css : List ChangeSet) (cs : ChangeSet) → length (all_warnings (css ++ (cs ∷ []))) ≡ length (all_warnings css) + length cs.warnings
warnings-count css cs = ap length (last-of (λ x. x.warnings) css cs) ∙ length-append (all_warnings css) cs.warnings

-- ---- all of them

-- an array of edits, as it is lent, has them all
pub all_listed : (j : Job) → j.count ≤ 64 → length (map (edit-row.the_field).into j.edits) ≡ 64 → j.count ≤ length j.edits
all_listed j few e = let n = length-map j.edits (edit-row.the_field).into in omega (arith, few, e, n)

-- what a read past an array's end has
abbrev pub no-edit : Edit
no-edit = record { command = SplitLane 0 (Fraction nan) false }

pub record Along (tol : Tolerance) (j : Job) (h₀ : Held) (made : List ChangeSet) (h : Held) (i : ℕ) : Type 0 where
  pub upto : i ≤ j.count
  pub whole : table_edits tol 1 (commands j) h₀ ≡ preceded_by made (table_edits tol (suc i) (drop i (commands j)) h)
  pub sane : sound_tables h.counter h.tables ≡ true
  pub long : lengths_of h.tables ≡ lengths_of h₀.tables

-- memory that an edit left, read off its answer and the tables
pub held_as : (tol : Tolerance) (c : Command) (h : Held) (k n : ℕ) (m : Made tol c h k n) (t : Tables) → t ≡ (written c h m.edited).tables
    → record { counter = k; tables = t } ≡ written c h m.edited
held_as tol c h k n m t e = rw (m.counter-is, e)

-- no edit has more warnings
pub warnings-few : (tol : Tolerance) (c : Command) (h : Held) → sound_tables h.counter h.tables ≡ true → (e : Edited)
    → once tol c h ≡ Ok e → length e.changes.warnings ≤ 2048
warnings-few tol c h sane e y =
    let l : Lent = record { counter = h.counter; tables = h.tables; created = []; modified = []; deleted = []; warnings = [] } in
    few-warnings tol c l sane e y

module _ (tol : Tolerance) (j : Job) (h₀ : Held) where
  pub along-begins : sound_tables h₀.counter h₀.tables ≡ true → Along tol j h₀ [] h₀ 0
  unfolding preceded_by
  along-begins sane = record { upto = omega arith; whole = refl; sane = sane; long = refl }

  module _ (made : List ChangeSet) (h : Held) (i : ℕ) (a : Along tol j h₀ made h i) where
    -- behind the last edit
    pub along-ends : j.count ≤ length j.edits → j.count ≤ i → table_edits tol 1 (commands j) h₀ ≡ done h made
    along-ends room past =
        let n : length (commands j) ≡ j.count = length-map (take j.count j.edits) (λ e. e.command) ∙ length-take-le j.count j.edits room in
        let none : drop i (commands j) ≡ [] = drop_of_length-le (commands j) {i = i} (omega arith) in
        let behind : table_edits tol (suc i) [] h ≡ done h [] = unfold table_edits in refl in
        a.whole ∙ (ap (λ cs. preceded_by made (table_edits tol (suc i) cs h)) none ∙ (ap (preceded_by made) behind ∙ (preceded-done made h [] ∙ ap (done h) (append-nil made))))

    module _ (room : j.count ≤ length j.edits) (left : i < j.count) where
      abbrev next : Command
      next = (get_or j.edits i no-edit).command

      -- the edits left begin with the one at i
      next-first : drop i (commands j) ≡ next ∷ drop (suc i) (commands j)
      next-first =
          let n : length (commands j) ≡ j.count = length-map (take j.count j.edits) (λ e. e.command) ∙ length-take-le j.count j.edits room in
          let f : Edit → Command = λ e. e.command in
          drop-cons (commands j) i no-edit.command (omega arith)
          ∙ ap (λ c. c ∷ drop (suc i) (commands j)) (get_or-map f (take j.count j.edits) i no-edit ∙ ap f (get_or-take j.count j.edits i no-edit left))

      on-next : table_edits tol 1 (commands j) h₀ ≡ preceded_by made (table_edits tol (suc i) (next ∷ drop (suc i) (commands j)) h)
      on-next = a.whole ∙ ap (λ cs. preceded_by made (table_edits tol (suc i) cs h)) next-first

      pub along-refused : (r : Refusal) → once tol next h ≡ Err r → table_edits tol 1 (commands j) h₀ ≡ stopped (i + 1) r
      along-refused r y =
          on-next
          ∙ (ap (preceded_by made) (edits-refused tol (suc i) next (drop (suc i) (commands j)) h r y)
          ∙ (preceded-stopped made (suc i) r ∙ ap (λ n. stopped n r) (sym (add-one i))))

      module _ (e : Edited) (y : once tol next h ≡ Ok e) where
        pub along-turns : (k : Held) → k ≡ written next h e → Along tol j h₀ (made ++ (e.changes ∷ [])) k (i + 1)
        along-turns k w =
            let t = turn-keeps tol next h a.sane e y in
            let behind = table_edits tol (suc (suc i)) (drop (suc i) (commands j)) (written next h e) in
            let all : table_edits tol 1 (commands j) h₀ ≡ preceded_by (made ++ (e.changes ∷ [])) behind =
            on-next ∙ (ap (preceded_by made) (edits-yield tol (suc i) next (drop (suc i) (commands j)) h e y) ∙ sym (preceded-last made e.changes behind)) in
            record { upto = omega arith; whole = rw (w, add-one i) all; sane = rw w t.stays_sound; long = rw w (t.lengths_left ∙ a.long) }
