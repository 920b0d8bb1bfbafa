use Rattle.std.proofs.Common.{◌-◌, ◌/◌, arith}
use Rattle.stream.proofs.Texts.{few, no_digit, one-digit, more-digits}
use Rattle.stream.proofs.text.+decimal.Goals as goal

pub returns-then-digits-eq0 : goal.returns-then-digits-eq0
returns-then-digits-eq0 t c = no_digit _ _ _ _ c.if-digits-eq0.true

pub returns-then-n-lt10 : goal.returns-then-n-lt10
returns-then-n-lt10 t c = one-digit _ _ _ _ _ c.if-digits-eq0.false c.if-n-lt10.true c.glyph.ensures c.requires

pub bounds-out-last : goal.bounds-out-last
bounds-out-last t c =
    omega (arith, few (c.args.digits - 1) (c.args.n / 10), c.decimal-last.ensures.1, c.decimal-last.auto.out, c.requires, c.if-digits-eq0.false)

pub overflow_add-result-2 : goal.overflow_add-result-2
overflow_add-result-2 t c =
    omega (arith, few (c.args.digits - 1) (c.args.n / 10), c.decimal-last.ensures.1, c.decimal-last.auto.out, c.requires, c.if-digits-eq0.false)

pub returns : goal.returns
returns t c = more-digits _ _ _ _ _ _ _ c.if-digits-eq0.false c.if-n-lt10.false c.glyph-2.ensures c.requires c.decimal-last.ensures
