-- A job behind its edits, by what they came to: what stands ready where it is made, and what it leaves, made or refused. Assumes nothing.
use Rattle.jobs.specs.declared.Done.{Done}
use Rattle.jobs.specs.declared.RefusedEdit.{RefusedEdit}
use Rattle.std.specs.Prelude.{Ok, Err, Result}
use Rattle.jobs.specs.Answers.{JobAnswer}
use mathlib.Core.Path.{◌≡◌, refl, sym, ap, ◌∙◌, subst}
use mathlib.Core.Bool.{Bool, true, false, cond}
use mathlib.Core.List.{List}
use Prim.Native.Nat.{ℕ, ◌*◌, ◌≤◌}
use native.Mathlib.Omega.{arith}
use lib.ListN.{length, take}
use Rattle.lists.specs.Rows.{over}
use Rattle.entities.specs.declared.Tolerance.{Tolerance}
use Rattle.entities.specs.Records.{ChangeSet}
use Rattle.rules.specs.Names.{Refusal}
use Rattle.rules.specs.Ops.{fits_lists}
use Rattle.tables.specs.View.{Tables, view}
use Rattle.tables.specs.Formed.{sound_tables}
use Rattle.report.specs.Report.{counts, listed, warned}
use Rattle.report.specs.declared.Counts.{Counts}
use Rattle.room.specs.Room.{lists_fit}
use Rattle.step.specs.Step.{Lent, lists_of}
use Rattle.step.specs.Run.{Held, lengths_of}
use Rattle.jobs.specs.declared.Job.{Job}
use Rattle.jobs.specs.declared.JobRefusal.TheVariants.{NoRoom, EditRefused}
use Rattle.jobs.specs.Job.{Run, done, stopped, commands, net}
use Rattle.job_step.specs.Job.{JobEnded, ending, job_ended, making, refusing, table_edits}
use Rattle.job_step.proofs.Edits.{edits-done}
use Rattle.job_marks.specs.Marks.{mark_all, sorted_tables}
use Rattle.job_net.specs.Net.{net_counts}
use Rattle.job_net.proofs.Lists.{bare}
use Rattle.job_turn.specs.Turn.{pairs_of}
use Rattle.job_run.specs.Runs.{RanAs, all_modified, all_warnings}
use Rattle.job_decided.specs.declared.JobEnd.{JobEnd}
use Rattle.job_decided.specs.Decided.{DecidedAs, Sorted, job_end}
use Rattle.job_told.specs.Told.{Kept, MadeAll, ToldAs, kept_rows}
use Rattle.job_told.proofs.Sorted.{sound-sorted}
use Rattle.job_made.specs.Made.{kept_from, unmarked}
use Rattle.job_made.proofs.Keeping.{kept-warned}
use Rattle.job_made.proofs.Lists.{Fronts, fronted, fronts-copied, fronts-long, lists-long, warnings-long}
use Rattle.job_made.proofs.Net.{appears, changes, net-counted, vanishes}

-- ---- behind the run

module _ (tol : Tolerance) (j : Job) (counter : ℕ) (old t : Tables) (sane : sound_tables counter old ≡ true) (ms v ms' v' : List ℕ) (a : Result Done RefusedEdit) where
  abbrev run : Run Held
  run = table_edits tol 1 (commands j) (record { counter = counter; tables = old })

  abbrev Ends : Run Held → Type 0
  Ends r = RanAs (bare old) ms kept_rows v old r a t ms' v'

  pub ran-sorted : Ends run → Sorted a (bare t) (bare old)
  ran-sorted h = go run refl h
    where
      go : (r : Run Held) → run ≡ r → Ends r → Sorted a (bare t) (bare old)
      go (stopped p x) e h = subst (λ z. Sorted z (bare t) (bare old)) (sym h.0) refl
      go (done k css) e h =
          subst (λ z. Sorted z (bare t) (bare old)) (sym h.0) (
            ap (λ z. sorted_tables (bare z)) h.1.0 ∙ sound-sorted k.counter k.tables (edits-done tol 1 (commands j) (record { counter = counter; tables = old }) sane k css e).1.0,
            sound-sorted counter old sane,
          )

  pub ran-lengths : Ends run → lengths_of t ≡ lengths_of old
  ran-lengths h = go run refl h
    where
      go : (r : Run Held) → run ≡ r → Ends r → lengths_of t ≡ lengths_of old
      go (stopped p x) e h = h.1
      go (done k css) e h = ap lengths_of h.1.0 ∙ (edits-done tol 1 (commands j) (record { counter = counter; tables = old }) sane k css e).1.1

-- ---- a job that is made

-- the net change set
abbrev net_of : Tables → Held → List ChangeSet → ChangeSet
net_of old k css = net (view old) (view k.tables) css

-- counter and tables are those of the run; the counts fit the lent lists; the net lists stand at the front of the job's own; few warnings were kept
abbrev pub Ready : Lent → Run Held → ℕ → Tables → Counts → List ℕ → List ℕ → List ℕ → List ℕ → Type 0
Ready l (stopped place r) counter t n c m d kept = ⊥
Ready l (done k css) counter t n c m d kept =
    let cs = net_of l.tables k css in
    ((counter ≡ k.counter) × (t ≡ k.tables))
    × (((n ≡ counts cs) × (lists_fit n l.created l.modified l.deleted l.warnings ≡ true))
    × ((Fronts cs.created c × (Fronts cs.modified m × Fronts cs.deleted d))
    × (length (all_warnings css) ≤ kept_rows → kept ≡ warned (kept_from l.warnings) (all_warnings css))))

module _ (l : Lent) (counter : ℕ) (t : Tables) (n : Counts) (c m d kept : List ℕ) where
  -- so many words stand ready, and have room
  pub ready-long : (r : Run Held) → Ready l r counter t n c m d kept
      → ((n.created * 2 ≤ length c) × ((n.modified * 2 ≤ length m) × (n.deleted * 2 ≤ length d)))
      × ((n.created * 2 ≤ length l.created) × ((n.modified * 2 ≤ length l.modified) × (n.deleted * 2 ≤ length l.deleted)))
  ready-long (stopped p x) h = absurd h
  ready-long (done k css) h =
      let cs = net_of l.tables k css in
      let e = h.1.0.0 in (
        (
          fronts-long cs.created n.created c (ap (λ (x : Counts). x.created) e) h.1.1.0.0,
          (
            fronts-long cs.modified n.modified m (ap (λ (x : Counts). x.modified) e) h.1.1.0.1.0,
            fronts-long cs.deleted n.deleted d (ap (λ (x : Counts). x.deleted) e) h.1.1.0.1.1,
          ),
        ),
        lists-long n l.created l.modified l.deleted l.warnings h.1.0.1,
      )

  pub ready-told : length kept ≡ 25600 → (r : Run Held) → Ready l r counter t n c m d kept
      → MadeAll r t n.warnings × (Kept r kept l.warnings × (n.warnings * 10 ≤ length l.warnings))
  unfolding net
  ready-told long (stopped p x) h = absurd h
  ready-told long (done k css) h = (
    (h.0.1, ap (λ (x : Counts). x.warnings) h.1.0.0),
    (
      λ few room. kept-warned l.warnings kept (all_warnings css) long (h.1.1.1 few) few room,
      warnings-long n l.created l.modified l.deleted l.warnings h.1.0.1,
    ),
  )

  -- what it leaves once its lists and warnings are told
  pub ready-ends : (r : Run Held) → Ready l r counter t n c m d kept → (t' : Tables) (c' m' d' w' : List ℕ) → ToldAs l.warnings r t' w'
      → (c' ≡ over l.created 0 (take (n.created * 2) c))
      × ((m' ≡ over l.modified 0 (take (n.modified * 2) m)) × (d' ≡ over l.deleted 0 (take (n.deleted * 2) d)))
      → job_ended (record { counter = counter; tables = t'; created = c'; modified = m'; deleted = d'; warnings = w' }) l.tables (Ok n) ≡ ending l l.tables r
  unfolding net
  ready-ends (stopped p x) h t' c' m' d' w' g f = absurd h
  ready-ends (done k css) h t' c' m' d' w' g f =
      let cs = net_of l.tables k css in
      let e = h.1.0.0 in
      let ec : c' ≡ listed l.created cs.created =
      f.0 ∙ fronts-copied cs.created n.created c (ap (λ (x : Counts). x.created) e) h.1.1.0.0 l.created in
      let em : m' ≡ listed l.modified cs.modified =
      f.1.0 ∙ fronts-copied cs.modified n.modified m (ap (λ (x : Counts). x.modified) e) h.1.1.0.1.0 l.modified in
      let ed : d' ≡ listed l.deleted cs.deleted =
      f.1.1 ∙ fronts-copied cs.deleted n.deleted d (ap (λ (x : Counts). x.deleted) e) h.1.1.0.1.1 l.deleted in
      let fits : fits_lists (lists_of l) cs ≡ true = sym (ap (λ z. lists_fit z l.created l.modified l.deleted l.warnings) e) ∙ h.1.0.1 in
      let same : job_ended (record { counter = counter; tables = t'; created = c'; modified = m'; deleted = d'; warnings = w' }) l.tables (Ok n)
      ≡ making l l.tables k cs =
      rw (h.0.0, g.0, ec, em, ed, g.1, e) in
      same ∙ sym (ap (λ b. cond b (making l l.tables k cs) (refusing l l.tables (Err NoRoom))) fits)

-- ---- what was decided

no-refusal : {A : Type 0} (p : ℕ) (x : Refusal) (n : Counts) → ◌≡◌ {A = JobAnswer} (Err (EditRefused p x)) (Ok n) → A
no-refusal p x n e = absurd (nothing cc)
  where
    nothing : ◌≡◌ {A = ℕ} 0 1 → ⊥
    nothing z = omega arith

no_room : {A : Type 0} (n : Counts) → ◌≡◌ {A = JobAnswer} (Err NoRoom) (Ok n) → A
no_room n e = absurd (nothing cc)
  where
    nothing : ◌≡◌ {A = ℕ} 0 1 → ⊥
    nothing z = omega arith

module _ (l : Lent) (t : Tables) (ms v ms' v' : List ℕ) (a : Result Done RefusedEdit) (all-created all-modified all-deleted : List ℕ) (e : JobEnd) (c m d : List ℕ) where
  abbrev Behind : Run Held → Type 0
  Behind r = RanAs (bare l.tables) ms kept_rows v l.tables r a t ms' v'

  abbrev Decided : Result Done RefusedEdit → Type 0
  Decided x =
      DecidedAs l.counter (bare t) (bare l.tables) ms' all-created all-modified all-deleted x l.created l.modified l.deleted l.warnings e c m d

  abbrev fit : Counts → Bool
  fit n = lists_fit n l.created l.modified l.deleted l.warnings

  module _ (sorted : sorted_tables (bare l.tables) ≡ true) (u : ms ≡ unmarked) where
    abbrev counted : List ChangeSet → Counts
    counted css = net_counts (bare t) (bare l.tables) ms' (length (all_warnings css))

    marked : (k : Held) (css : List ChangeSet) → Behind (done k css) → ms' ≡ mark_all (bare l.tables) (pairs_of (all_modified css)) unmarked
    marked k css h = h.1.1.0 ∙ ap (mark_all (bare l.tables) (pairs_of (all_modified css))) u

    -- made
    module _ (from : v ≡ kept_from l.warnings) (n : Counts) (made : e.answer ≡ Ok n) where
      fitted : (x : Counts) (k : ℕ) (b : Bool) → fit x ≡ b → e ≡ cond b (job_end k (Ok x)) (job_end l.counter (Err NoRoom)) → (fit x ≡ true) × (e ≡ job_end k (Ok x))
      fitted x k true f g = (f, g)
      fitted x k false f g = no_room n (sym (ap (λ (z : JobEnd). z.answer) g) ∙ made)

      pub decided-ready : (r : Run Held) → Behind r → Decided a → Ready l r e.counter t n c m d v'
      decided-ready (stopped p x) h k = no-refusal p x n (sym (ap (λ (z : JobEnd). z.answer) (subst Decided h.0 k)) ∙ made)
      decided-ready (done q css) h k =
          let g = subst Decided h.0 k in
          let old = l.tables in
          let cs = net_of old q css in
          let mk = marked q css h in
          let f = fitted (counted css) q.counter (fit (counted css)) refl g.0 in
          let two : ◌≡◌ {A = JobAnswer} (Ok n) (Ok (counted css)) = sym made ∙ ap (λ (z : JobEnd). z.answer) f.1 in
          let one : n ≡ counted css = cc in (
            (ap (λ (z : JobEnd). z.counter) f.1, h.1.0),
            (
              (one ∙ net-counted old t q css ms' sorted h.1.0 mk, ap fit one ∙ f.0),
              (
                (
                  subst (Fronts cs.created) (sym (g.1.0 ∙ ap (listed all-created) (appears old t q css ms' sorted h.1.0 mk))) (fronted all-created cs.created),
                  (
                    subst (Fronts cs.modified) (sym (g.1.1.0 ∙ ap (listed all-modified) (changes old t q css ms' sorted h.1.0 mk))) (fronted all-modified cs.modified),
                    subst (Fronts cs.deleted) (sym (g.1.1.1 ∙ ap (listed all-deleted) (vanishes old t q css ms' sorted h.1.0 mk))) (fronted all-deleted cs.deleted),
                  ),
                ),
                λ few. h.1.1.1 few ∙ ap (λ z. warned z (all_warnings css)) from,
              ),
            ),
          )

    -- refused: what was lent is as it was, once the map is put back
    module _ (no : (n : Counts) → e.answer ≡ Ok n → ⊥) where
      abbrev left : JobEnd → JobEnded
      left x =
          job_ended
          (record { counter = x.counter; tables = l.tables; created = l.created; modified = l.modified; deleted = l.deleted; warnings = l.warnings })
          l.tables x.answer

      short : (x : Counts) (k : ℕ) (b : Bool) → fit x ≡ b → e ≡ cond b (job_end k (Ok x)) (job_end l.counter (Err NoRoom)) → (fit x ≡ false) × (e ≡ job_end l.counter (Err NoRoom))
      short x k true f g = absurd (no x (ap (λ (z : JobEnd). z.answer) g))
      short x k false f g = (f, g)

      pub decided-refused : (r : Run Held) → Behind r → Decided a → left e ≡ ending l l.tables r
      decided-refused (stopped p x) h k = ap left (subst Decided h.0 k)
      decided-refused (done q css) h k =
          let g = subst Decided h.0 k in
          let cs = net_of l.tables q css in
          let f = short (counted css) q.counter (fit (counted css)) refl g.0 in
          let fits : fits_lists (lists_of l) cs ≡ false = sym (ap fit (net-counted l.tables t q css ms' sorted h.1.0 (marked q css h))) ∙ f.0 in
          ap left f.1 ∙ sym (ap (λ b. cond b (making l l.tables q cs) (refusing l l.tables (Err NoRoom))) fits)
