-- `a && b`: in code b is asked only where a is true; in a proof it is two facts.
use mathlib.Core.Path.{◌≡◌, refl, sym}
use mathlib.Core.Bool.{Bool, true, false, ◌&&◌, true≢false}

pub second : {a b x y : Bool} → x ≡ true → x ≡ a → y ≡ b → y ≡ (a && b)
second t p q = rw (← p, t, q)

pub first : {a x : Bool} (b : Bool) → x ≡ false → x ≡ a → x ≡ (a && b)
first b f p = rw (← p, f)

pub both : {a b : Bool} → a ≡ true → b ≡ true → (a && b) ≡ true
both p q = rw (p, q)

pub left : (a b : Bool) → (a && b) ≡ true → a ≡ true
left true b h = refl
left false b h = h

pub right : (a b : Bool) → (a && b) ≡ true → b ≡ true
right true b h = h
right false b h = absurd (true≢false (sym h))
