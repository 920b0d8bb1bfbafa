-- `group::enter` meets its contract, by its three ways out. Assumes nothing.
use native.Mathlib.Omega.{arith}
use Rattle.group.proofs.Steps.{entered-none, entered-again, entered-new, enter-room, enter-end}
use Rattle.group.proofs.enter.Goals as goal

pub returns-in_default : goal.returns-in_default
returns-in_default c =
    let a = c.args in
    entered-none a.found a.seen.now a.queue.now a.end c.requires.1.1 c.in_default.is

pub bounds-seen-row : goal.bounds-seen-row
bounds-seen-row c =
    let a = c.args in
    enter-room a.found a.seen.now a.queue.now a.end c.requires.1.1 c.in-Some.row c.in-Some.is c.requires.1.0

pub returns-then-seen-row : goal.returns-then-seen-row
returns-then-seen-row c =
    let a = c.args in
    entered-again a.found a.seen.now a.queue.now a.end c.requires.1.1 c.in-Some.row c.in-Some.is c.if-seen-row.true

pub bounds-seen-row-2 : goal.bounds-seen-row-2
bounds-seen-row-2 c =
    let a = c.args in
    enter-room a.found a.seen.now a.queue.now a.end c.requires.1.1 c.in-Some.row c.in-Some.is c.requires.1.0

pub offset_bounds-queue-end : goal.offset_bounds-queue-end
offset_bounds-queue-end c =
    let a = c.args in
    omega (arith, enter-end a.found a.seen.now a.queue.now a.end c.requires.1.1 c.in-Some.row c.in-Some.is c.requires.1.0 c.if-seen-row.false)

pub bounds-queue-end : goal.bounds-queue-end
bounds-queue-end c =
    let a = c.args in
    omega (arith, enter-end a.found a.seen.now a.queue.now a.end c.requires.1.1 c.in-Some.row c.in-Some.is c.requires.1.0 c.if-seen-row.false)

pub overflow_add-result : goal.overflow_add-result
overflow_add-result c =
    let a = c.args in
    omega (arith, enter-end a.found a.seen.now a.queue.now a.end c.requires.1.1 c.in-Some.row c.in-Some.is c.requires.1.0 c.if-seen-row.false)

pub returns : goal.returns
returns c =
    let a = c.args in
    entered-new a.found a.seen.now a.queue.now a.end c.requires.1.1 c.in-Some.row c.in-Some.is c.requires.1.0 c.if-seen-row.false
