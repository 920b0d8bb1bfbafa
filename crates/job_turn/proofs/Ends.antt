-- What a call with long enough lists leaves and answers, read off as what the edit comes to. Assumes nothing.
use Rattle.jobs.specs.declared.Done.{Done}
use Rattle.std.specs.Prelude.{Option, None, Some, Err, Ok}
use mathlib.Core.Path.{◌≡◌, refl, sym, ap, ◌∙◌, subst}
use mathlib.Core.Bool.{true, ◌&&◌}
use mathlib.Core.List.{List, [], ◌++◌, append-nil}
use Prim.Native.Nat.{ℕ, ◌+◌, ◌*◌, ◌-◌, ◌/◌, ◌≤◌}
use native.Mathlib.Omega.{arith}
use lib.Dec.{leb}
use lib.ListN.{length, take, drop, length-drop, take-append-drop}
use lib.Seq.{take_all, drop-length}
use borrow.Rule.Slice.PartMut.{mid_of, post_of, put_mid, Post-is}
use Rattle.lists.specs.Rows.{reads}
use Rattle.lists.proofs.Booleans.{and-fst, and-snd}
use Rattle.entities.specs.declared.Refusal.{Refusal}
use Rattle.entities.specs.Records.{ChangeSet}
use Rattle.rules.specs.Names.{Tolerance}
use Rattle.rules.specs.Edit.{Res, Edited}
use Rattle.rules.specs.Ops.{Command, fits_lists, accepted_as}
use Rattle.tables.specs.View.{Tables}
use Rattle.tables.specs.Formed.{sound_tables}
use Rattle.store.specs.Store.{room_of}
use Rattle.report.specs.Report.{listed, warned, warned_at, accepting, answer_counts, counter_behind, Answer}
use Rattle.report.specs.declared.Counts.{Counts}
use Rattle.report.proofs.Warnings.{room}
use Rattle.step.specs.Step.{Lent, Ended, ended, step, changing, lists_of, state_of}
use Rattle.step.specs.Run.{held_in, map_in}
use Rattle.step.proofs.Counter.{step-counter}
use Rattle.jobs.specs.Job.{edit_once}
use Rattle.job_step.specs.Job.{written}
use Rattle.job_step.proofs.Turn.{turn-refused, turn-yields, enough-entities}
use Rattle.job_marks.specs.Marks.{mark_all, pairs_in}
use Rattle.job_marks.proofs.Pairs.{pairs_of}
use Rattle.job_turn.specs.Turn as T

-- what the edit comes to
abbrev pub outcome : Tolerance → Command → Lent → Res Edited
outcome tol c l = edit_once tol (room_of l.tables) c (map_in (held_in l))

-- the lists have places for what it changes
abbrev pub Fits : Tolerance → Command → Lent → Type 0
Fits tol c l = (e : Edited) → outcome tol c l ≡ Ok e → fits_lists (lists_of l) e.changes ≡ true

-- ---- what a call leaves, by what the edit comes to

pub record Left (c : Command) (l after : Lent) (a : Answer) (r : Res Edited) : Type 0 where
  pub tables-left : after.tables ≡ T.tables_behind c (held_in l) r
  pub turn_is : T.answered l.counter a ≡ T.turn_of c (held_in l) r
  pub modified-fits : (answer_counts a).modified * 2 ≤ length l.modified
  pub marks-left : (old : Tables) (ms : List ℕ) → mark_all old (pairs_in (answer_counts a).modified after.modified) ms ≡ T.marks_behind old ms r
  pub warnings-left : (at : ℕ) (w : List ℕ) → l.warnings ≡ drop (at * 10) w → take (at * 10) w ++ after.warnings ≡ T.warnings_behind at w r

left-refused : (c : Command) (l : Lent) (r : Refusal) → Left c l l (Err r) (Err r)
unfolding mark_all pairs_in reads
left-refused c l r =
    record {
      tables-left = refl;
      turn_is = refl;
      modified-fits = omega arith;
      marks-left = λ old ms. refl;
      warnings-left = λ at w p. ap (λ z. take (at * 10) w ++ z) p ∙ take-append-drop (at * 10) w;
    }

counts-are : (cs : ChangeSet) (second : Option ℕ) → (answer_counts (accepting cs second)).modified ≡ length cs.modified
counts-are cs None = refl
counts-are cs (Some second) = refl

done_as : (k n : ℕ) (cs : ChangeSet) (second : Option ℕ) → counter_behind k (accepting cs second) ≡ n
    → T.answered k (accepting cs second) ≡ Ok (record { counter = n; warnings = (length cs.warnings) })
done_as k n cs None p = ap (λ m. Ok (record { counter = m; warnings = (length cs.warnings) })) p
done_as k n cs (Some second) p = ap (λ m. Ok (record { counter = m; warnings = (length cs.warnings) })) p

modified_room : (l : Lent) (cs : ChangeSet) → fits_lists (lists_of l) cs ≡ true → length cs.modified * 2 ≤ length l.modified
modified_room l cs h =
    let a = leb (length cs.created) (length l.created / 2) in
    let b = leb (length cs.modified) (length l.modified / 2) in
    let c = leb (length cs.deleted) (length l.deleted / 2) in
    let d = leb (length cs.warnings) (length l.warnings / 10) in
    room (length cs.modified) (length l.modified) 2 (and-snd a b (and-fst (a && b) c (and-fst (a && b && c) d h)))

-- the end of an accepted call, whose counter follows from its answer
abbrev accepted : Command → Lent → Edited → Ended
accepted c l e = changing c l (accepted_as (state_of l) e).state e.changes e.second

left-accepted : (c : Command) (l : Lent) (e : Edited) → fits_lists (lists_of l) e.changes ≡ true
    → (accepted c l e).lent.counter ≡ counter_behind l.counter (accepted c l e).answer → Left c l (accepted c l e).lent (accepted c l e).answer (Ok e)
left-accepted c l e fits counted =
    let n = counts-are e.changes e.second in
    record {
      tables-left = refl;
      turn_is = done_as l.counter (written c (held_in l) e).counter e.changes e.second (sym counted);
      modified-fits = rw n (modified_room l e.changes fits);
      marks-left = λ old ms.
          ap (λ k. mark_all old (pairs_in k (listed l.modified e.changes.modified)) ms) n ∙ ap (λ ps. mark_all old ps ms) (pairs_of l.modified e.changes.modified);
      warnings-left = λ at w p. unfold warned_at in ap (λ z. take (at * 10) w ++ warned z e.changes.warnings) p;
    }

-- ---- the part of a list from a place on

part-lent : {A : Type 0} (w : List A) (a : ℕ) → mid_of a (length w - a) w ≡ drop a w
part-lent w a = take_all (length w - a) (drop a w) (omega (arith, length-drop a w))

part-put : {A : Type 0} (w v : List A) (a : ℕ) → a ≤ length w → put_mid a (length w - a) w v ≡ take a w ++ v
part-put w v a h = let t : post_of a (length w - a) w ≡ [] = Post-is a (length w) w h ∙ drop-length w in rw (t, append-nil)

-- ---- a call

module _ (tol : Tolerance) (c : Command) (l after : Lent) (a : Answer) (ends : ended after a ≡ step tol c l) where
  module _ (sane : sound_tables l.counter l.tables ≡ true) (fits : Fits tol c l) where
    by-outcome : (r : Res Edited) → outcome tol c l ≡ r → Left c l after a r
    by-outcome (Err r) y = subst (λ n. Left c l n.lent n.answer (Err r)) (sym (ends ∙ turn-refused tol c l sane r y)) (left-refused c l r)
    by-outcome (Ok e) y =
        let f = fits e y in
        let g = turn-yields tol c l sane e y f in
        let k : (accepted c l e).lent.counter ≡ counter_behind l.counter (accepted c l e).answer =
        subst (λ n. n.lent.counter ≡ counter_behind l.counter n.answer) g (step-counter tol c l) in
        subst (λ n. Left c l n.lent n.answer (Ok e)) (sym (ends ∙ g)) (left-accepted c l e f k)

    left : Left c l after a (outcome tol c l)
    left = by-outcome (outcome tol c l) refl

    pub may-mark : (n : Counts) → n ≡ answer_counts a → length after.modified ≡ length l.modified → n.modified * 2 ≤ length after.modified
    may-mark n p q = rw (p, q) left.modified-fits

    -- the warnings were lent as the part that begins at row `at`
    pub made_as : (old : Tables) (ms ms' : List ℕ) (at : ℕ) (w w' : List ℕ) (n : Counts) (t : Res Done) → n ≡ answer_counts a
        → ms' ≡ mark_all old (pairs_in n.modified after.modified) ms → at * 10 ≤ length w → l.warnings ≡ mid_of (at * 10) (length w - at * 10) w
        → w' ≡ put_mid (at * 10) (length w - at * 10) w after.warnings → t ≡ T.answered l.counter a
        → T.turn_ends after.tables ms' w' t ≡ T.made tol old c (held_in l) ms at w
    unfolding T.made
    made_as old ms ms' at w w' n t count marking h lent put answer =
        let marked = marking ∙ (ap (λ k. mark_all old (pairs_in k.modified after.modified) ms) count ∙ left.marks-left old ms) in
        let warned = put ∙ (part-put w after.warnings (at * 10) h ∙ left.warnings-left at w (lent ∙ part-lent w (at * 10))) in
        let turned = answer ∙ left.turn_is in
        λ i. T.turn_ends (left.tables-left i) (marked i) (warned i) (turned i)

-- ---- lists that are long enough

module _ (tol : Tolerance) (c : Command) (l : Lent) (sane : sound_tables l.counter l.tables ≡ true) (created : length l.created ≡ 13568)
    (modified : length l.modified ≡ 13568) (deleted : length l.deleted ≡ 13568) where
  -- of the warnings no more places than the edit has, from row `at` on
  pub room_fits : (at : ℕ) (w : List ℕ) → l.warnings ≡ mid_of (at * 10) (length w - at * 10) w → (at + T.warning_count tol c (held_in l)) * 10 ≤ length w → Fits tol c l
  room_fits at w p h e y =
      let n : (at + length e.changes.warnings) * 10 ≤ length w =
      subst (λ r. (at + elim r [ Err x ↦ 0 | Ok x ↦ length x.changes.warnings ]) * 10 ≤ length w) y h in
      let m : length l.warnings ≡ length w - at * 10 = ap length (p ∙ part-lent w (at * 10)) ∙ length-drop (at * 10) w in
      enough-entities tol c l sane e y (omega arith) (omega arith) (omega arith) (omega arith)
