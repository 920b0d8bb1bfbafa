-- `root::settle::settle` meets its contract: what is left of a * 2 ^ 52, less the square of the two halves, and `mended`. Assumes nothing.
use Rattle.std.proofs.Common.{◌≡◌, ◌+◌, ◌*◌, ◌/◌, ◌%◌, ◌^◌, arith, rules}
use Rattle.root.proofs.Numbers.{halves-square, high-square, low-square, cross-le}
use Rattle.root.proofs.Rounding.{mended}
use Rattle.root.proofs.settle.settle.Goals as goal

pub overflow_mul-high : goal.overflow_mul-high
overflow_mul-high c = omega (arith, high-square c.args.q (omega arith))

pub overflow_mul-high-2 : goal.overflow_mul-high-2
overflow_mul-high-2 c = omega (arith, cross-le c.args.q (omega arith))

pub overflow_mul-middle-3 : goal.overflow_mul-middle-3
overflow_mul-middle-3 c = omega (arith, low-square c.args.q (omega arith))

pub overflow_add-middle : goal.overflow_add-middle
overflow_add-middle c = omega (arith, low-square c.args.q (omega arith))

pub overflow_add-middle-2 : goal.overflow_add-middle-2
overflow_add-middle-2 c = omega (arith, low-square c.args.q (omega arith))

pub overflow_add-middle-3 : goal.overflow_add-middle-3
overflow_add-middle-3 c = omega (arith, low-square c.args.q (omega arith))

pub returns : goal.returns
returns c =
    let a = c.args.a in
    let q = c.args.q in
    let high = q / 0x400_0000 in
    let low = q % 0x400_0000 in
    let over = c.wrapping_sub_u64-over.result in
    let part = c.wrapping_sub_u64-part.result in
    let s = low-square q (omega arith) in
    let d : over + high * high ≡ a = omega (arith, high-square q (omega arith)) in
    let r : part + high * low ≡ over * 0x200_0000 + high = omega (arith, cross-le q (omega arith)) in
    let e : part * 0x800_0000 + q * q ≡ a * 2 ^ 52 + (high * 0x800_0000 + low * low) = omega (arith, halves-square q) in
    rw (c.above.ensures.0, c.above-2.ensures.0)
    (mended a q (part * 0x800_0000) (high * 0x800_0000 + low * low) e c.requires.1.1.0 (omega arith) (omega arith))
