-- `slots::touched` meets its contract: each call names one lane more at most. Assumes nothing.
use borrow.Author.Rules.{rules}
use mathlib.Core.Path.{◌≡◌}
use native.Mathlib.Omega.{arith}
use lib.ListN.{length, take}
use Rattle.lists.specs.Select.{place}
use Rattle.report.proofs.Laws.{named-front}
use Rattle.relink.proofs.Reported.{nothing-up}
use Rattle.reslot.proofs.Reslot.{Named, first-named, next-named, named-few, named-up, all_named}
use Rattle.reslot.proofs.touched.Goals as goal
use Rattle.reslot.proofs.touched.Lts as lts
use Rattle.reslot.proofs.touched.Reads as reads
use Rattle.reslot.proofs.touched.Tie as tie

abbrev AtAfterNamedA : Type 0
AtAfterNamedA = lts.After-named tie.the-claims reads.Pre reads.Post

abbrev AtAfterNamedSlotB : Type 0
AtAfterNamedSlotB = lts.After-named_slot tie.the-claims reads.Pre reads.Post

abbrev AtAfterNamedSlotC : Type 0
AtAfterNamedSlotC = lts.After-named_slot2 tie.the-claims reads.Pre reads.Post

front : (c : AtAfterNamedA) → (take c.named-a.result c.named-a.new.ids ≡ place c.args.lane (take 0 c.args.ids.now)) × (c.named-a.result ≡ length (place c.args.lane (take 0 c.args.ids.now)))
front c =
    let s = c.before.before.before.before in
    named-front s.args.ids.now 0 s.args.lane (omega (arith, s.requires)) c.named-a.new.ids c.named-a.result nothing-up c.named-a.ensures

one : (c : AtAfterNamedA) → Named 1 c.named-a.result c.named-a.new.ids
one c =
    let a = c.args in
    first-named a.lane c.named-a.result c.named-a.new.ids a.ids.now (front c)

two : (c : AtAfterNamedSlotB) → Named 2 c.named_slot-b.result c.named_slot-b.new.ids
two c =
    let p = c.before.before.before.before in
    next-named 1 p.named-a.result c.named_slot-b.result c.named_slot-b.new.ids p.named-a.new.ids c.args.old (one p) c.named_slot-b.ensures

three : (c : AtAfterNamedSlotC) → Named 3 c.named_slot-c.result c.named_slot-c.new.ids
three c =
    let p = c.before.before.before.before in
    next-named 2 p.named_slot-b.result c.named_slot-c.result c.named_slot-c.new.ids p.named_slot-b.new.ids c.args.new (two p) c.named_slot-c.ensures

pub named-a-requires : goal.named-a-requires
named-a-requires c = (omega (arith, c.requires), nothing-up)

pub named_slot-b-requires : goal.named_slot-b-requires
named_slot-b-requires c =
    let m = c.named-a in
    let f = one c.before.before.before in
    (omega (arith, named-few 1 m.result m.new.ids f, m.auto.ids, c.requires), named-up 1 m.result m.new.ids f)

pub named_slot-c-requires : goal.named_slot-c-requires
named_slot-c-requires c =
    let m = c.named_slot-b in
    let f = two c.before.before.before in
    (omega (arith, named-few 2 m.result m.new.ids f, c.named-a.auto.ids, m.auto.ids, c.requires), named-up 2 m.result m.new.ids f)

pub named_slot-requires : goal.named_slot-requires
named_slot-requires c =
    let m = c.named_slot-c in
    let f = three c.before.before.before in
    (omega (arith, named-few 3 m.result m.new.ids f, c.named-a.auto.ids, c.named_slot-b.auto.ids, m.auto.ids, c.requires), named-up 3 m.result m.new.ids f)

pub returns : goal.returns
returns c =
    let a = c.args in
    let m1 = c.named-a in
    let m2 = c.named_slot-b in
    let m3 = c.named_slot-c in
    let m4 = c.named_slot in
    all_named a.skip a.lane a.old a.new a.other m1.result m2.result m3.result m4.result a.ids.now m1.new.ids m2.new.ids m3.new.ids m4.new.ids
    c.if-skip.false (front c.before.before.before.before.before.before.before.before.before.before.before.before.before.before.before).0 m2.ensures.0 m3.ensures.0 m4.ensures
