use mathlib.Core.Path.{◌≡◌, refl, sym, ap, ◌∙◌}
use native.Mathlib.Omega.{arith}
use Prim.Native.Nat.{◌-◌, ◌≤◌}
use lib.ListN.{length, take, length-set}
use lib.Seq.{take_all}
use Rattle.job_words.specs.JobWords.{edits_in, job_of}
use Rattle.job_words.proofs.Reading.{edits-stored}
use mathlib.Core.List.{List}
use Prim.Native.Nat.{◌+◌, ◌/◌, ◌<◌}
use native.Mathlib.Numerals.{add-one}
use Rattle.rules.specs.Ops.{Command}
use Rattle.jobs.specs.declared.Edit.{Edit}
use Rattle.job_words.proofs.job_of.Goals as goal

-- src/lib.rt:52:5
pub loop-i-init : goal.loop-i-init
unfolding edits_in
loop-i-init c = (omega arith, (refl, refl))

-- src/lib.rt:54:22
pub command_at-requires : goal.command_at-requires
command_at-requires c = omega arith

-- src/lib.rt:53:9
pub offset_bounds-edits-i : goal.offset_bounds-edits-i
offset_bounds-edits-i c = omega arith

-- src/lib.rt:53:9
pub bounds-edits-i : goal.bounds-edits-i
bounds-edits-i c = omega arith

-- src/lib.rt:52:5
pub loop-i-preserved : goal.loop-i-preserved
loop-i-preserved c =
    let t = c.loop-i in
    let r = c.args.rows.now in
    let x = c.command_at.ensures in
    let i : t.i < 64 = omega arith in
    let l : t.i < length t.edits = rw t.invariant.1.0 i in
    (omega arith, (simp length-set t.invariant.1.0, rw add-one (edits-stored t.edits t.i r (record { command = c.command_at.result }) l t.invariant.1.1 (ap (λ (y : Command). record { command = y }) x))))

-- src/lib.rt:59:32
pub overflow_sub-result : goal.overflow_sub-result
overflow_sub-result c = omega arith

-- src/lib.rt:59:18
pub overflow_add-result : goal.overflow_add-result
overflow_add-result c = omega arith

-- src/lib.rt:45:1
pub returns : goal.returns
unfolding job_of
returns c =
    let t = c.loop-i in
    let h : length t.edits ≤ t.i = rw t.invariant.1.0 (omega arith) in
    let i : t.i ≡ 64 = omega arith in
    ap (λ (es : List Edit). record { count = (length c.args.rows.now + 4) / 5; edits = es }) (sym (take_all t.i t.edits h) ∙ (t.invariant.1.1 ∙ ap (λ n. edits_in n c.args.rows.now) i))
