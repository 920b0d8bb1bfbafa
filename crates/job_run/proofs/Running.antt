-- The run, edit by edit. Assumes nothing.
use Rattle.jobs.specs.declared.Done.{Done}
use Rattle.std.specs.Prelude.{Err, Ok}
use mathlib.Core.Path.{◌≡◌, refl, sym, ap, ◌∙◌, subst}
use mathlib.Core.Bool.{Bool, true, false, cond}
use mathlib.Core.List.{List, [], ◌∷◌, ◌++◌}
use mathlib.Core.Logic.{⊎_elim}
use Prim.Native.Nat.{ℕ, ◌+◌, ◌*◌, ◌≤◌, ◌<◌}
use native.Mathlib.Omega.{arith}
use lib.Dec.{ltb}
use lib.ListN.{length, get_or, length-append}
use borrow.Author.Tests.{ltb-true, ltb-false}
use Rattle.lists.specs.Every.{all}
use Rattle.lists.specs.Select.{each}
use Rattle.lists.proofs.Every.{all_append}
use Rattle.lists.proofs.Select.{each_append}
use Rattle.entities.specs.Types.{kind_number}
use Rattle.entities.specs.Records.{ChangeSet}
use Rattle.rules.specs.Names.{Tolerance, Refusal, EntityRef}
use Rattle.rules.specs.Edit.{Res, Edited}
use Rattle.rules.specs.Ops.{Command}
use Rattle.tables.specs.View.{Tables}
use Rattle.tables.specs.Formed.{sound_tables}
use Rattle.store.specs.Store.{writes}
use Rattle.report.specs.Report.{warned, warned_at}
use Rattle.report.proofs.Warnings.{short, warned-behind}
use Rattle.step.specs.Run.{Held, lengths_of}
use Rattle.jobs.specs.declared.Job.{Job}
use Rattle.jobs.specs.Job.{Run, done, stopped, commands}
use Rattle.job_step.specs.Job.{written, table_edits}
use Rattle.job_step.proofs.Prefix.{preceded_by, preceded-done, preceded-stopped}
use Rattle.job_marks.specs.Marks.{mark_all}
use Rattle.job_marks.proofs.Turns.{all_append as marks-append, length-all}
use Rattle.job_turn.specs.Turn.{pairs_of, made as madeBy, turn_ends, Turned, warning_count}
use Rattle.job_turn.proofs.Made.{once, Made, made-done, made-stopped, made-refused, made_yields}
use Rattle.job_run.specs.Runs.{all_warnings, all_modified, row_for, AllWithin, WarningRoom, RanAs}
use Rattle.job_run.proofs.Short.{short-at}
use Rattle.job_run.proofs.Along.{Along, no-edit, held_as, last-of, warnings-count, warnings-few, along-begins, along-ends, along-refused, along-turns}

-- ---- the marks of one edit more

pairs-append : (xs ys : List EntityRef) → pairs_of (xs ++ ys) ≡ pairs_of xs ++ pairs_of ys
pairs-append [] ys = refl
pairs-append (x ∷ xs) ys = ap (λ l. (kind_number x.kind, x.id) ∷ l) (pairs-append xs ys)

marks-last : (old : Tables) (css : List ChangeSet) (cs : ChangeSet) (ms : List ℕ)
    → mark_all old (pairs_of (all_modified (css ++ (cs ∷ [])))) ms ≡ mark_all old (pairs_of cs.modified) (mark_all old (pairs_of (all_modified css)) ms)
marks-last old css cs ms =
    ap (λ l. mark_all old (pairs_of l) ms) (last-of (λ x. x.modified) css cs)
    ∙ (ap (λ l. mark_all old l ms) (pairs-append (all_modified css) cs.modified) ∙ marks-append old (pairs_of (all_modified css)) (pairs_of cs.modified) ms)

-- ---- the row that warnings begin at

record Row (told rows at : ℕ) : Type 0 where
  pub within : at ≤ rows
  pub not-past : at ≤ told
  pub behind : told ≤ rows → at ≡ told

row-at : (told rows at : ℕ) → at ≡ row_for told rows → Row told rows at
row-at told rows at e = go (ltb told rows) refl
  where
    go : (b : Bool) → ltb told rows ≡ b → Row told rows at
    go true y =
        let l = ltb-true told rows y in
        let f : at ≡ told = e ∙ ap (λ b. cond b told rows) y in
        record { within = omega (arith, l, f); not-past = omega (arith, f); behind = λ h. f }
    go false y =
        let l = ltb-false told rows y in
        let f : at ≡ rows = e ∙ ap (λ b. cond b told rows) y in
        record { within = omega (arith, f); not-past = omega (arith, l, f); behind = λ h. omega (arith, l, f, h) }

-- edits that are all made: those made so far have no more warnings than all
made-few : (rows : ℕ) (made : List ChangeSet) (rest run : Run Held) → run ≡ preceded_by made rest → AllWithin rows run → length (all_warnings made) ≤ rows
made-few rows made (stopped p x) run e all = absurd (subst (AllWithin rows) (e ∙ preceded-stopped made p x) all)
made-few rows made (done k css) run e all =
    let n : length (all_warnings (made ++ css)) ≡ length (all_warnings made) + length (all_warnings css) =
    ap length (each_append (λ cs. cs.warnings) made css) ∙ length-append (all_warnings made) (all_warnings css) in
    let m : length (all_warnings (made ++ css)) ≤ rows = subst (AllWithin rows) (e ∙ preceded-done made k css) all in
    omega (arith, n, m)

-- ---- the run

pub record Running (tol : Tolerance) (old : Tables) (j : Job) (h₀ : Held) (ms₀ : List ℕ) (rows : ℕ) (w₀ : List ℕ) (h : Held) (ms w : List ℕ) (told i : ℕ) : Type 0 where
  pub made : List ChangeSet
  pub along : Along tol j h₀ made h i
  pub marked : ms ≡ mark_all old (pairs_of (all_modified made)) ms₀
  pub counted : told ≡ length (all_warnings made)
  pub few : told ≤ i * 2048
  pub long : length w ≡ length w₀
  pub kept : told ≤ rows → (all short (all_warnings made) ≡ true) × (w ≡ warned w₀ (all_warnings made))

module _ (tol : Tolerance) (old : Tables) (j : Job) (h₀ : Held) (ms₀ : List ℕ) (rows : ℕ) (w₀ : List ℕ) where
  pub running-begins : sound_tables h₀.counter h₀.tables ≡ true → Running tol old j h₀ ms₀ rows w₀ h₀ ms₀ w₀ 0 0
  unfolding mark_all warned writes each all
  running-begins sane =
      record { made = []; along = along-begins tol j h₀ sane; marked = refl; counted = refl; few = omega arith; long = refl; kept = λ h. (refl, refl) }

  module _ (h : Held) (ms w : List ℕ) (told i : ℕ) (a : Running tol old j h₀ ms₀ rows w₀ h ms w told i) where
    pub marks-long : length ms ≡ length ms₀
    marks-long = ap length a.marked ∙ length-all old (pairs_of (all_modified a.made)) ms₀

    pub running-ends : j.count ≤ length j.edits → j.count ≤ i
        → RanAs old ms₀ rows w₀ h₀.tables (table_edits tol 1 (commands j) h₀) (Ok (record { counter = h.counter; warnings = told })) h.tables ms w
    running-ends room past =
        subst (λ (x : Run Held). RanAs old ms₀ rows w₀ h₀.tables x (Ok (record { counter = h.counter; warnings = told })) h.tables ms w)
        (sym (along-ends tol j h₀ a.made h i a.along room past))
        (ap (λ (n : ℕ). Ok (record { counter = h.counter; warnings = n })) a.counted, (refl, (a.marked, λ n. (a.kept (omega (arith, n, a.counted))).1)))

    module _ (room : j.count ≤ length j.edits) (left : i < j.count) (enough : WarningRoom (table_edits tol 1 (commands j) h₀) rows (length w₀)) (at : ℕ)
        (row : at ≡ row_for told rows) where
      abbrev c : Command
      c = (get_or j.edits i no-edit).command

      rows_fit : rows * 10 ≤ length w₀
      rows_fit = ⊎_elim (λ n. omega (arith, n)) (λ n. n.1) enough

      -- room for the warnings of the next edit
      more_room : (e : Edited) → once tol c h ≡ Ok e → (at + length e.changes.warnings) * 10 ≤ length w
      more_room e y =
          let p = row-at told rows at row in
          ⊎_elim (λ n. omega (arith, n, p.within, warnings-few tol c h a.along.sane e y, a.long))
          (λ n.
          let b = along-turns tol j h₀ a.made h i a.along room left e y (written c h e) refl in
          let m = made-few rows (a.made ++ (e.changes ∷ [])) _ _ b.whole n.0 in
          omega (arith, n.1, m, p.not-past, warnings-count a.made e.changes, a.counted, a.long))
          enough

      pub running-room : (at + warning_count tol c h) * 10 ≤ length w
      running-room = go (once tol c h) refl
        where
          go : (x : Res Edited) → once tol c h ≡ x → (at + elim x [ Err r ↦ 0 | Ok e ↦ length e.changes.warnings ]) * 10 ≤ length w
          go (Err r) y = omega (arith, rows_fit, (row-at told rows at row).within, a.long)
          go (Ok e) y = more_room e y

      module _ (t : Tables) (ms' w' : List ℕ) (r : Res Done) (q : turn_ends t ms' w' r ≡ madeBy tol old c h ms at w) where
        pub running-stops : (x : Refusal) → r ≡ Err x
            → RanAs old ms₀ rows w₀ h₀.tables (table_edits tol 1 (commands j) h₀) (Err (record { place = (i + 1); refusal = x })) t ms' w'
        running-stops x e =
            let y = made-stopped tol c h old ms at w t ms' w' r q x e in
            let u = ap (λ (o : Turned). o.tables) (q ∙ made-refused tol c h x y old ms at w) in
            subst (λ (z : Run Held). RanAs old ms₀ rows w₀ h₀.tables z (Err (record { place = (i + 1); refusal = x })) t ms' w')
            (sym (along-refused tol j h₀ a.made h i a.along room left x y)) (refl, ap lengths_of u ∙ a.along.long)

        module _ (k n : ℕ) (e : r ≡ Ok (record { counter = k; warnings = n })) where
          abbrev m : Made tol c h k n
          m = made-done tol c h old ms at w t ms' w' r q k n e

          pub turn-few : n ≤ 2048
          turn-few = omega (arith, warnings-few tol c h a.along.sane m.edited m.yields, m.warnings-are)

          -- the warnings behind this edit, if they are no more than the rows
          abbrev cs : ChangeSet
          cs = m.edited.changes

          kept_on : w' ≡ warned_at at w cs.warnings → length w' ≡ length w → told + n ≤ rows
              → (all short (all_warnings (a.made ++ (cs ∷ []))) ≡ true) × (w' ≡ warned w₀ (all_warnings (a.made ++ (cs ∷ []))))
          kept_on new same within =
              let upto : told ≤ rows = omega (arith, within) in
              let before = a.kept upto in
              let place : at ≡ length (all_warnings a.made) = (row-at told rows at row).behind upto ∙ a.counted in
              let full = short-at at w cs.warnings (more_room m.edited m.yields) (sym (ap length new) ∙ same) in
              let fit : length (all_warnings a.made) * 10 ≤ length w₀ = omega (arith, upto, a.counted, rows_fit) in
              let last = last-of (λ x. x.warnings) a.made cs in (
                ap (all short) last ∙ all_append short (all_warnings a.made) cs.warnings before.0 full,
                new
                    ∙ (ap (λ x. warned_at x w cs.warnings) place
                    ∙ (ap (λ v. warned_at (length (all_warnings a.made)) v cs.warnings) before.1
                    ∙ (warned-behind w₀ (all_warnings a.made) cs.warnings before.0 fit ∙ ap (warned w₀) (sym last)))),
              )

          pub running-turns : length w' ≡ length w → Running tol old j h₀ ms₀ rows w₀ (record { counter = k; tables = t }) ms' w' (told + n) (i + 1)
          running-turns same =
              let ends = q ∙ made_yields tol c h m.edited m.yields old ms at w in
              let held = held_as tol c h k n m t (ap (λ (o : Turned). o.tables) ends) in
              record {
                made = a.made ++ (cs ∷ []);
                along = along-turns tol j h₀ a.made h i a.along room left m.edited m.yields (record { counter = k; tables = t }) held;
                marked = ap (λ (o : Turned). o.marks) ends ∙ (ap (mark_all old (pairs_of cs.modified)) a.marked ∙ sym (marks-last old a.made cs ms₀));
                counted = omega (arith, a.counted, m.warnings-are, warnings-count a.made cs);
                few = omega (arith, turn-few, a.few);
                long = same ∙ a.long;
                kept = kept_on (ap (λ (o : Turned). o.warnings) ends) same;
              }
