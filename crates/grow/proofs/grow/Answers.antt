-- `grow::grow` meets its contract. The invariant: the ids from i on stand where they go, each cut one with its second half behind it; `to` is how many slots the ids
use mathlib.Core.Path.{◌≡◌}
use Prim.Native.Nat.{◌+◌, ◌-◌}
use native.Mathlib.Omega.{arith}
use lib.ListN.{length, take}
use lib.Seq.{length-take-le}
use Rattle.lists.specs.Select.{insert_after, numbered}
use Rattle.grow.proofs.Growing.{grows_start, grows_some, grows-turn, grows_end, length_cut, written-few}
use Rattle.grow.proofs.grow.Goals as goal
use Rattle.grow.proofs.grow.Lts as lts
use Rattle.grow.proofs.grow.Reads as reads
use Rattle.grow.proofs.grow.Tie as tie

pub count_cut-requires : goal.count_cut-requires
count_cut-requires c = (c.requires.0, c.requires.1.0)

pub overflow_add-total : goal.overflow_add-total
overflow_add-total c =
    let a = c.args in
    omega (arith, c.requires.1.1.1, length_cut a.next a.cut.now (take a.n a.slots.now), length-take-le a.n a.slots.now c.requires.0, c.count_cut.ensures)

pub loop-i-init : goal.loop-i-init
loop-i-init c =
    let a = c.args in
    grows_start (numbered a.next a.cut.now) a.slots.now a.n c.requires.0 c.requires.1.1.1 (a.n + c.count_cut.result)
    (omega (arith, length_cut a.next a.cut.now (take a.n a.slots.now), length-take-le a.n a.slots.now c.requires.0, c.count_cut.ensures))

sub-i : lts.Need-sub-i tie.the-claims reads.Pre reads.Post goal.the-invariant-loop-i goal.the-decreases-loop-i
sub-i c = grows_some (numbered c.args.next c.args.cut.now) c.args.slots.now c.args.n c.requires.0 c.requires.1.1.1 c.loop-i.invariant c.loop-i-test.true

pub overflow_sub-i : goal.overflow_sub-i
overflow_sub-i c = sub-i c.before

pub move_up-moved-requires : goal.move_up-moved-requires
move_up-moved-requires c = (omega (arith, sub-i c.before.before), (omega arith, (c.requires.1.0, c.requires.1.1.0)))

loop-again : lts.Need-loop-preserved tie.the-claims reads.Pre reads.Post goal.the-invariant-loop-i goal.the-decreases-loop-i
loop-again c =
    let a = c.args in
    let t = c.loop-i in
    let m = c.move_up-moved in
    let o : t.i - 1 + 1 ≡ t.i = omega (arith, sub-i c.before.before.before.before.before) in
    grows-turn (numbered a.next a.cut.now) a.slots.now a.n c.requires.0 c.requires.1.1.1 t.slots (t.i - 1) t.i t.to t.written o t.invariant m.result m.new.slots m.ensures.0 m.ensures.1

pub loop-i-preserved : goal.loop-i-preserved
loop-i-preserved c = loop-again c.before

pub overflow_add-written : goal.overflow_add-written
overflow_add-written c =
    let a = c.args in
    let g = loop-again c.before in
    omega (arith, g.written, written-few (numbered a.next a.cut.now) (take a.n a.slots.now), c.requires.1.1.1)

pub loop-i-smaller : goal.loop-i-smaller
loop-i-smaller c = omega (arith, sub-i c.before.before.before.before.before.before)

pub returns : goal.returns
returns c =
    let a = c.args in
    let t = c.loop-i in
    let d = grows_end (numbered a.next a.cut.now) a.slots.now a.n c.requires.0 c.requires.1.1.1 t.slots t.i t.to t.written t.invariant (omega arith) in
    let n : a.n + c.count_cut.result ≡ length (insert_after (numbered a.next a.cut.now) (take a.n a.slots.now)) =
    omega (arith, length_cut a.next a.cut.now (take a.n a.slots.now), length-take-le a.n a.slots.now c.requires.0, c.count_cut.ensures) in
    (rw (n, d.0), d.1)
