-- `split_second::second_head` meets its contract: store by store; a limit's bits only where there is one. Assumes nothing.
use borrow.Author.Rules.{rules}
use native.Mathlib.Omega.{arith}
use mathlib.Core.Path.{◌≡◌}
use mathlib.Core.Logic.{⊎_elim}
use lib.ListN.{length-set}
use Rattle.split_rows.proofs.Rows.{limit, limit-on, limit-off, limit-long, head_done}
use Rattle.split_second.proofs.second_head.Goals as goal

pub bounds-row-4 : goal.bounds-row-4
bounds-row-4 c = simp length-set (omega (arith, c.requires.0))

pub bounds-row-5 : goal.bounds-row-5
bounds-row-5 c = simp length-set (omega (arith, c.requires.0))

pub bounds-row-6 : goal.bounds-row-6
bounds-row-6 c = simp length-set (omega (arith, c.requires.0))

pub bounds-row-9 : goal.bounds-row-9
bounds-row-9 c = simp length-set (omega (arith, c.requires.0))

pub bounds-row-10 : goal.bounds-row-10
bounds-row-10 c = simp length-set (omega (arith, c.requires.0))

pub bounds-row-11 : goal.bounds-row-11
bounds-row-11 c =
    let a = c.args in
    let e : c.if-old-ne0.row ≡ limit a.row.now a.old.now a.id a.left a.right c.requires.0 = elim c.if-old-ne0.branch [
      | goal.then-old-ne0 x ↦ limit-on a.row.now a.old.now a.id a.left a.right c.requires.0 x.if-old-ne0.true c.if-old-ne0.row x.row-is
      | goal.else-old-ne0 x ↦ limit-off a.row.now a.old.now a.id a.left a.right c.requires.0 x.if-old-ne0.false c.if-old-ne0.row x.row-is
    ] in
    omega (arith, limit-long a.row.now a.old.now a.id a.left a.right c.requires.0 c.if-old-ne0.row e)

pub bounds-row-12 : goal.bounds-row-12
bounds-row-12 c =
    let a = c.args in
    let e : c.if-old-ne0.row ≡ limit a.row.now a.old.now a.id a.left a.right c.requires.0 = elim c.if-old-ne0.branch [
      | goal.then-old-ne0 x ↦ limit-on a.row.now a.old.now a.id a.left a.right c.requires.0 x.if-old-ne0.true c.if-old-ne0.row x.row-is
      | goal.else-old-ne0 x ↦ limit-off a.row.now a.old.now a.id a.left a.right c.requires.0 x.if-old-ne0.false c.if-old-ne0.row x.row-is
    ] in
    simp length-set (omega (arith, limit-long a.row.now a.old.now a.id a.left a.right c.requires.0 c.if-old-ne0.row e))

pub bounds-row-13 : goal.bounds-row-13
bounds-row-13 c =
    let a = c.args in
    let e : c.if-old-ne0.row ≡ limit a.row.now a.old.now a.id a.left a.right c.requires.0 = elim c.if-old-ne0.branch [
      | goal.then-old-ne0 x ↦ limit-on a.row.now a.old.now a.id a.left a.right c.requires.0 x.if-old-ne0.true c.if-old-ne0.row x.row-is
      | goal.else-old-ne0 x ↦ limit-off a.row.now a.old.now a.id a.left a.right c.requires.0 x.if-old-ne0.false c.if-old-ne0.row x.row-is
    ] in
    simp length-set (omega (arith, limit-long a.row.now a.old.now a.id a.left a.right c.requires.0 c.if-old-ne0.row e))

pub shape_of-row : goal.shape_of-row
shape_of-row c =
    let a = c.args in
    let e : c.if-old-ne0.row ≡ limit a.row.now a.old.now a.id a.left a.right c.requires.0 = elim c.if-old-ne0.branch [
      | goal.then-old-ne0 x ↦ limit-on a.row.now a.old.now a.id a.left a.right c.requires.0 x.if-old-ne0.true c.if-old-ne0.row x.row-is
      | goal.else-old-ne0 x ↦ limit-off a.row.now a.old.now a.id a.left a.right c.requires.0 x.if-old-ne0.false c.if-old-ne0.row x.row-is
    ] in
    simp length-set (omega (arith, c.requires.0, limit-long a.row.now a.old.now a.id a.left a.right c.requires.0 c.if-old-ne0.row e))

pub returns : goal.returns
returns c =
    let a = c.args in
    let e : c.if-old-ne0.row ≡ limit a.row.now a.old.now a.id a.left a.right c.requires.0 = elim c.if-old-ne0.branch [
      | goal.then-old-ne0 x ↦ limit-on a.row.now a.old.now a.id a.left a.right c.requires.0 x.if-old-ne0.true c.if-old-ne0.row x.row-is
      | goal.else-old-ne0 x ↦ limit-off a.row.now a.old.now a.id a.left a.right c.requires.0 x.if-old-ne0.false c.if-old-ne0.row x.row-is
    ] in
    head_done a.row.now a.old.now a.id a.left a.right c.requires.0 c.if-old-ne0.row e
