use Rattle.stream.proofs.Numbers.{none-to-read, at-the-end, last_byte, carried, not_carried}
use Rattle.stream.proofs.+digits.Goals as goal

pub returns-then-bytes-eq0 : goal.returns-then-bytes-eq0
returns-then-bytes-eq0 t c = none-to-read _ _ _ c.if-bytes-eq0.true

pub returns-then-s-at : goal.returns-then-s-at
returns-then-s-at t c = at-the-end _ _ _ c.if-s-at.true

pub returns-then-low-lt128 : goal.returns-then-low-lt128
returns-then-low-lt128 t c = last_byte _ _ _ c.if-s-at.false c.wide-low.ensures _ c.if-bytes-eq0.false c.if-low-lt128.true

pub returns-then-rest-lt-CARRIED : goal.returns-then-rest-lt-CARRIED
returns-then-rest-lt-CARRIED t c =
    carried _ _ _ c.if-s-at.false c.wide-low.ensures _ _ c.if-bytes-eq0.false c.if-low-lt128.false c.digits-rest.ensures c.if-rest-lt-CARRIED.true

pub returns : goal.returns
returns t c =
    not_carried _ _ _ c.if-s-at.false c.wide-low.ensures _ _ c.if-bytes-eq0.false c.if-low-lt128.false c.digits-rest.ensures c.if-rest-lt-CARRIED.false
