-- Choosing from a list by a test, and lists of numbers.
use Rattle.std.specs.Prelude.{ℕ, suc, Bool, true, false, not, ◌&&◌, ◌||◌, cond, List, [], ◌∷◌, ◌++◌, map, eqb, ltb, length, Option, None, Some}

-- those that pass, in their order
unfoldable pub keep : {A : Type 0} → (A → Bool) → List A → List A
keep p [] = []
keep p (x ∷ xs) = let rest = keep p xs in cond (p x) (x ∷ rest) rest

unfoldable pub any : {A : Type 0} → (A → Bool) → List A → Bool
any p [] = false
any p (x ∷ xs) = p x || any p xs

-- the first that passes
unfoldable pub find : {A : Type 0} → (A → Bool) → List A → Option A
find p [] = None
find p (x ∷ xs) = let rest = find p xs in cond (p x) (Some x) rest

-- each element's list, one after the other
unfoldable pub each : {A B : Type 0} → (A → List B) → List A → List B
each f [] = []
each f (x ∷ xs) = f x ++ each f xs

-- x stands in the list
unfoldable pub has : ℕ → List ℕ → Bool
has x [] = false
has x (y ∷ ys) = eqb x y || has x ys

-- without x
unfoldable pub without : ℕ → List ℕ → List ℕ
without x ys = keep (λ y. not (eqb x y)) ys

-- x in its place in an ascending list, once
unfoldable pub place : ℕ → List ℕ → List ℕ
place x ys = keep (λ y. ltb y x) ys ++ (x ∷ keep (λ y. ltb x y) ys)

-- each number is larger than the one before
unfoldable pub above : ℕ → List ℕ → Bool
above x [] = true
above x (y ∷ ys) = ltb x y && above y ys

unfoldable pub ascending : List ℕ → Bool
ascending [] = true
ascending (x ∷ xs) = above x xs

-- no number stands twice
unfoldable pub distinct : List ℕ → Bool
distinct [] = true
distinct (x ∷ xs) = not (has x xs) && distinct xs

unfoldable pub same_numbers : List ℕ → List ℕ → Bool
same_numbers [] [] = true
same_numbers [] (y ∷ ys) = false
same_numbers (x ∷ xs) [] = false
same_numbers (x ∷ xs) (y ∷ ys) = eqb x y && same_numbers xs ys

-- the number that stands beside i among pairs
abbrev pub second_of : List (ℕ × ℕ) → ℕ → Option ℕ
second_of hs i = elim (find (λ h. eqb h.0 i) hs) [ None ↦ None | Some h ↦ Some h.1 ]

-- Document 01: lists of lanes "gain each second half after its first".
abbrev pub with_second : List (ℕ × ℕ) → ℕ → List ℕ
with_second hs i = elim (second_of hs i) [ None ↦ i ∷ [] | Some j ↦ i ∷ j ∷ [] ]

unfoldable pub insert_after : List (ℕ × ℕ) → List ℕ → List ℕ
insert_after hs ids = each (with_second hs) ids

-- each id beside its number, counted from `next` on
unfoldable pub numbered : ℕ → List ℕ → List (ℕ × ℕ)
numbered next [] = []
numbered next (c ∷ cs) = (c, next) ∷ numbered (suc next) cs

-- what stands behind the first that passes, nothing where none does
unfoldable pub behind_first : {A : Type 0} → (A → Bool) → List A → List A
behind_first p [] = []
behind_first p (x ∷ xs) = let rest = behind_first p xs in cond (p x) xs rest

-- Document 02, (f): growing a list writes "as many as the finished list has after its first cut lane, and none where no lane is cut".
unfoldable pub written_behind : List (ℕ × ℕ) → List ℕ → ℕ
written_behind hs ids = length (behind_first (λ i. has i (map (λ h. h.0) hs)) (insert_after hs ids))
