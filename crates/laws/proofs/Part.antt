-- A list that is a part of another, in its order: what an edit that only takes away leaves. Assumes nothing.
use mathlib.Core.Path.{◌≡◌, refl, ◌∙◌}
use mathlib.Core.Bool.{Bool, true, false, ◌&&◌, ◌||◌, cond}
use mathlib.Core.List.{List, [], ◌∷◌, ◌++◌, map}
use Prim.Native.Nat.{ℕ, ◌≤◌}
use native.Mathlib.Omega.{arith}
use lib.Dec.{leb}
use lib.ListN.{length}
use borrow.Author.Tests.{leb-true, le-leb}
use Rattle.lists.specs.Every.{all}
use Rattle.lists.specs.Select.{keep, any, each}
use Rattle.lists.proofs.Booleans.{and_both, and-fst, and-snd, or_right}
use Rattle.lists.proofs.Select.{all_map, all-weaken}
use Rattle.rules.specs.Sound.{total}

-- ---- general

-- the first list is the second with some elements left out
pub data Part {A : Type 0} : List A → List A → Type 0 where
  done : Part [] []
  also : {x : A} {ys xs : List A} → Part ys xs → Part (x ∷ ys) (x ∷ xs)
  less : {x : A} {ys xs : List A} → Part ys xs → Part ys (x ∷ xs)

pub part-whole : {A : Type 0} (xs : List A) → Part xs xs
part-whole [] = done
part-whole (x ∷ xs) = also (part-whole xs)

pub part-keep : {A : Type 0} (p : A → Bool) (xs : List A) → Part (keep p xs) xs
unfolding keep
part-keep p [] = done
part-keep p (x ∷ xs) = go (p x) (part-keep p xs)
  where
    go : (b : Bool) → Part (keep p xs) xs → Part (cond b (x ∷ keep p xs) (keep p xs)) (x ∷ xs)
    go true r = also r
    go false r = less r

pub part-map : {A B : Type 0} (f : A → B) {ys xs : List A} → Part ys xs → Part (map f ys) (map f xs)
part-map f done = done
part-map f (also r) = also (part-map f r)
part-map f (less r) = less (part-map f r)

pub part-append : {A : Type 0} {ys xs vs us : List A} → Part ys xs → Part vs us → Part (ys ++ vs) (xs ++ us)
part-append done q = q
part-append (also r) q = also (part-append r q)
part-append (less r) q = less (part-append r q)

-- what stands before is left out
pub part-behind : {A : Type 0} (zs : List A) {ys xs : List A} → Part ys xs → Part ys (zs ++ xs)
part-behind [] r = r
part-behind (z ∷ zs) r = less (part-behind zs r)

-- a part of a part
pub part-twice : {A : Type 0} {zs ys xs : List A} → Part zs ys → Part ys xs → Part zs xs
part-twice r done = r
part-twice (also r) (also t) = also (part-twice r t)
part-twice (less r) (also t) = less (part-twice r t)
part-twice r (less t) = less (part-twice r t)

-- each element's list, of a part, where each list is a part
pub part-each : {A B : Type 0} (g h : A → List B) → ((x : A) → Part (g x) (h x)) → {ys xs : List A} → Part ys xs → Part (each g ys) (each h xs)
unfolding each
part-each g h k done = done
part-each g h k (also {x = x} r) = part-append (k x) (part-each g h k r)
part-each g h k (less {x = x} r) = part-behind (h x) (part-each g h k r)

-- ---- tests of a part

pub all-part : {A : Type 0} (p : A → Bool) {ys xs : List A} → Part ys xs → all p xs ≡ true → all p ys ≡ true
unfolding all
all-part p done a = a
all-part p (also {x = x} {ys = ys} {xs = xs} r) a = and_both (p x) (all p ys) (and-fst (p x) (all p xs) a) (all-part p r (and-snd (p x) (all p xs) a))
all-part p (less {x = x} {xs = xs} r) a = all-part p r (and-snd (p x) (all p xs) a)

or-more : (a b c : Bool) → (b ≡ true → c ≡ true) → (a || b) ≡ true → (a || c) ≡ true
or-more true b c h t = refl
or-more false b c h t = h t

pub any_part : {A : Type 0} (p : A → Bool) {ys xs : List A} → Part ys xs → any p ys ≡ true → any p xs ≡ true
unfolding any
any_part p done a = a
any_part p (also {x = x} {ys = ys} {xs = xs} r) a = or-more (p x) (any p ys) (any p xs) (any_part p r) a
any_part p (less {x = x} {xs = xs} r) a = or_right (p x) (any p xs) (any_part p r a)

pub length_part : {A : Type 0} {ys xs : List A} → Part ys xs → length ys ≤ length xs
length_part done = omega arith
length_part (also r) = let h = length_part r in omega arith
length_part (less r) = let h = length_part r in omega arith

pub total-part : {ys xs : List ℕ} → Part ys xs → total ys ≤ total xs
unfolding total
total-part done = omega arith
total-part (also r) = let h = total-part r in omega arith
total-part (less r) = let h = total-part r in omega arith

-- ---- tests that follow from tests, and their conjunctions

pub record Gives (a b : Bool) : Type 0 where
  pub so : a ≡ true → b ≡ true

infixl 20 ◌&also◌
pub ◌&also◌ : {a b c d : Bool} → Gives a c → Gives b d → Gives (a && b) (c && d)
◌&also◌ {a} {b} {c} {d} f g = record { so = λ t. and_both c d (f.so (and-fst a b t)) (g.so (and-snd a b t)) }

pub stays : (a : Bool) → Gives a a
stays a = record { so = λ t. t }

-- a length stays within a limit
pub within : {A B : Type 0} (xs : List A) (ys : List B) (k : ℕ) → length ys ≤ length xs → Gives (leb (length xs) k) (leb (length ys) k)
within xs ys k h = record { so = λ t. let u = leb-true (length xs) k t in le-leb (length ys) k (omega arith) }

-- a test of every element, of a part and of its image
pub all-fewer : {A : Type 0} (p : A → Bool) {ys xs : List A} → Part ys xs → Gives (all p xs) (all p ys)
all-fewer p r = record { so = all-part p r }

pub all-image : {A B : Type 0} (p : A → Bool) (q : B → Bool) (f : A → B) → ((x : A) → Gives (p x) (q (f x))) → {ys xs : List A} → Part ys xs
    → Gives (all p xs) (all q (map f ys))
all-image p q f h {ys} {xs} r = record { so = λ t. all_map q f ys ∙ all-weaken p (λ x. q (f x)) ys (λ x. (h x).so) (all-part p r t) }
