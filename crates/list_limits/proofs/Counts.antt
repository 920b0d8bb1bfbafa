-- How long lists of entities and of boundaries get. Assumes nothing.
use mathlib.Core.Path.{◌≡◌, ap, ◌∙◌}
use Prim.Native.Nat.{ℕ, ◌+◌, ◌*◌, ◌≤◌}
use native.Mathlib.Omega.{arith}
use mathlib.Core.Bool.{Bool, true, false, not}
use mathlib.Core.List.{List, [], ◌∷◌, ◌++◌, map}
use lib.ListN.{length, length-append, length-map}
use Rattle.lists.specs.Select.{keep, any, each, ascending}
use Rattle.lists.proofs.Booleans.{and-fst}
use Rattle.lists.proofs.Select.{any-map, keep-map, keep_same, length-keep}
use Rattle.entities.specs.declared.EntityKind.{EntityKind}
use Rattle.entities.specs.Records.{Lane, Boundary}
use Rattle.rules.specs.Map.{uses}
use Rattle.rules.specs.Edit.{refs, when}
use Rattle.rules.specs.Lane.{unused}
use Rattle.lookup.specs.Lookup.{row_uses}
use Rattle.group.proofs.Laws.{keep-more-of}
use Rattle.split_laws.proofs.Few.{used-few}

-- ---- lists

pub both-few : {A : Type 0} (xs ys : List A) (j k : ℕ) → length xs ≤ j → length ys ≤ k → length (xs ++ ys) ≤ j + k
both-few xs ys j k h g = let e = length-append xs ys in omega arith

pub each-few : {A B : Type 0} (f : A → List B) (k : ℕ) → ((x : A) → length (f x) ≤ k) → (xs : List A) → length (each f xs) ≤ length xs * k
unfolding each
each-few f k h [] = omega arith
each-few f k h (x ∷ xs) = let r = both-few (f x) (each f xs) k (length xs * k) (h x) (each-few f k h xs) in omega arith

pub when-few : {A : Type 0} (b : Bool) (x : A) → length (when b x) ≤ 1
when-few true x = omega arith
when-few false x = omega arith

pub refs-few : {A : Type 0} (kind : EntityKind) (key : A → ℕ) (xs : List A) (k : ℕ) → length xs ≤ k → length (refs kind (map key xs)) ≤ k
refs-few kind key xs k h =
    let a : length (refs kind (map key xs)) ≡ length (map key xs) = length-map (map key xs) (λ i. record { kind = kind; id = i }) in
    let b = length-map xs key in
    omega arith

-- the rows that pass a test are at most as many as the rows
pub where_few : {A : Type 0} (kind : EntityKind) (key : A → ℕ) (p : A → Bool) (xs : List A) (k : ℕ) → length xs ≤ k → length (refs kind (map key (keep p xs))) ≤ k
where_few kind key p xs k h = let a = length-keep p xs in refs-few kind key (keep p xs) k (omega arith)

-- ---- boundaries

-- a row with a lane's boundaries where rows have them
abbrev sides : Lane → List ℕ
sides l = 0 ∷ 0 ∷ l.left.boundary ∷ 0 ∷ l.right.boundary ∷ []

-- lanes use at most two boundaries each
pub lanes_use : (ls : List Lane) (bs : List Boundary) → ascending (map (λ b. b.id) bs) ≡ true → length (keep (λ b. any (uses b.id) ls) bs) ≤ length ls * 2
lanes_use ls bs up =
    let ids = map (λ (b : Boundary). b.id) bs in
    let used = keep (λ b. any (uses b.id) ls) bs in
    let a = used-few (map sides ls) ids up in
    let b : keep (λ k. any (row_uses k) (map sides ls)) ids ≡ map (λ x. x.id) used =
    keep_same (λ k. any (row_uses k) (map sides ls)) (λ k. any (uses k) ls) ids (λ k. any-map (row_uses k) sides ls) ∙ keep-map (λ k. any (uses k) ls) (λ x. x.id) bs in
    omega (arith, a, ap length b, length-map used (λ x. x.id), length-map ls sides)

-- so at most two for each lane that named them fall out of use
pub unused-few : (named left : List Lane) (bs : List Boundary) → ascending (map (λ b. b.id) bs) ≡ true → length (keep (unused named left) bs) ≤ length named * 2
unused-few named left bs up =
    let a = keep-more-of (unused named left) (λ b. any (uses b.id) named) (λ b. and-fst (any (uses b.id) named) (not (any (uses b.id) left))) bs in
    let b = lanes_use named bs up in
    omega arith
