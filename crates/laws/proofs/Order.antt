-- Lists of entities, sorted by kind, then id: their parts, and lists of one kind before lists of later kinds. Assumes nothing.
use mathlib.Core.Path.{◌≡◌, refl, ◌∙◌}
use mathlib.Core.Bool.{Bool, true, false, ◌&&◌, ◌||◌}
use mathlib.Core.List.{List, [], ◌∷◌, ◌++◌}
use Prim.Native.Nat.{ℕ}
use native.Mathlib.Omega.{arith}
use lib.Dec.{eqb, ltb}
use borrow.Author.Tests.{eqb-true, eq-eqb, ltb-true, lt-ltb}
use Rattle.lists.specs.Every.{all}
use Rattle.lists.specs.Select.{ascending}
use Rattle.lists.proofs.Booleans.{and_both, and-fst, and-snd, or_right}
use Rattle.lists.proofs.Every.{all_append}
use Rattle.lists.proofs.Select.{all_map, all-weaken, above-all, ascending-tail}
use Rattle.entities.specs.Types.{kind_number}
use Rattle.entities.specs.declared.EntityKind.{EntityKind}
use Rattle.entities.specs.declared.EntityRef.{EntityRef}
use Rattle.rules.specs.Edit.{refs}
use Rattle.rules.specs.Demand.{before, sorted_after, sorted}
use Rattle.laws.proofs.Part.{Part, done, also, less, all-part}

-- ---- the order of entities

-- kind, then id
order_trans : (k l n i j h : ℕ) → (ltb k l || (eqb k l && ltb i j)) ≡ true → (ltb l n || (eqb l n && ltb j h)) ≡ true → (ltb k n || (eqb k n && ltb i h)) ≡ true
order_trans k l n i j h s t = go (ltb k l) (ltb l n) refl refl
  where
    go : (b c : Bool) → ltb k l ≡ b → ltb l n ≡ c → (ltb k n || (eqb k n && ltb i h)) ≡ true
    go true true p q =
        let u = ltb-true k l p in
        let v = ltb-true l n q in
        rw (lt-ltb k n (omega arith))
    go true false p q =
        let u = ltb-true k l p in
        let v = eqb-true l n (and-fst (eqb l n) (ltb j h) (rw q at t)) in
        rw (lt-ltb k n (omega arith))
    go false true p q =
        let u = eqb-true k l (and-fst (eqb k l) (ltb i j) (rw p at s)) in
        let v = ltb-true l n q in
        rw (lt-ltb k n (omega arith))
    go false false p q =
        let u = rw p at s in
        let v = rw q at t in
        let e = eqb-true k l (and-fst (eqb k l) (ltb i j) u) in
        let f = eqb-true l n (and-fst (eqb l n) (ltb j h) v) in
        let x = ltb-true i j (and-snd (eqb k l) (ltb i j) u) in
        let y = ltb-true j h (and-snd (eqb l n) (ltb j h) v) in
        or_right (ltb k n) (eqb k n && ltb i h) (and_both (eqb k n) (ltb i h) (eq-eqb k n (e ∙ f)) (lt-ltb i h (omega arith)))

before-trans : (e f g : EntityRef) → before e f ≡ true → before f g ≡ true → before e g ≡ true
before-trans e f g = order_trans (kind_number e.kind) (kind_number f.kind) (kind_number g.kind) e.id f.id g.id

-- every later entity comes after
all-before : (e : EntityRef) (es : List EntityRef) → sorted_after e es ≡ true → all (before e) es ≡ true
unfolding sorted_after all
all-before e [] h = refl
all-before e (f ∷ fs) h =
    let b = and-fst (before e f) (sorted_after f fs) h in
    and_both (before e f) (all (before e) fs) b
    (all-weaken (before f) (before e) fs (λ g. before-trans e f g b) (all-before f fs (and-snd (before e f) (sorted_after f fs) h)))

after-of : (e : EntityRef) (es : List EntityRef) → all (before e) es ≡ true → sorted es ≡ true → sorted_after e es ≡ true
unfolding sorted_after sorted all
after-of e [] a h = refl
after-of e (f ∷ fs) a h = and_both (before e f) (sorted_after f fs) (and-fst (before e f) (all (before e) fs) a) h

sorted_tail : (e : EntityRef) (es : List EntityRef) → sorted_after e es ≡ true → sorted es ≡ true
unfolding sorted_after sorted
sorted_tail e [] h = refl
sorted_tail e (f ∷ fs) h = and-snd (before e f) (sorted_after f fs) h

-- a part of a sorted list is sorted
pub sorted_part : {ys xs : List EntityRef} → Part ys xs → sorted xs ≡ true → sorted ys ≡ true
unfolding sorted
sorted_part done h = h
sorted_part (also {x = x} {ys = ys} {xs = xs} r) h = after-of x ys (all-part (before x) r (all-before x xs h)) (sorted_part r (sorted_tail x xs h))
sorted_part (less {x = x} {xs = xs} r) h = sorted_part r (sorted_tail x xs h)

-- ---- ids of one kind, and entities of later kinds behind them

abbrev pub beyond : EntityKind → EntityRef → Bool
beyond k f = ltb (kind_number k) (kind_number f.kind)

pub beyond-refs : (k j : EntityKind) (ids : List ℕ) → ltb (kind_number k) (kind_number j) ≡ true → all (beyond k) (refs j ids) ≡ true
unfolding all
beyond-refs k j [] h = refl
beyond-refs k j (i ∷ ids) h = and_both (ltb (kind_number k) (kind_number j)) (all (beyond k) (refs j ids)) h (beyond-refs k j ids h)

pub beyond-more : (k j : EntityKind) (ids : List ℕ) (more : List EntityRef) → ltb (kind_number k) (kind_number j) ≡ true → all (beyond k) more ≡ true
    → all (beyond k) (refs j ids ++ more) ≡ true
beyond-more k j ids more h t = all_append (beyond k) (refs j ids) more (beyond-refs k j ids h) t

same_kind : (k : EntityKind) (i : ℕ) (ids : List ℕ) → all (ltb i) ids ≡ true → all (before (record { kind = k; id = i })) (refs k ids) ≡ true
same_kind k i ids h =
    all_map (before (record { kind = k; id = i })) (λ j. record { kind = k; id = j }) ids
    ∙ all-weaken (ltb i) (λ j. before (record { kind = k; id = i }) (record { kind = k; id = j })) ids
    (λ j t.
    or_right (ltb (kind_number k) (kind_number k)) (eqb (kind_number k) (kind_number k) && ltb i j)
    (and_both (eqb (kind_number k) (kind_number k)) (ltb i j) (eq-eqb (kind_number k) (kind_number k) refl) t)) h

later-kind : (k : EntityKind) (i : ℕ) (more : List EntityRef) → all (beyond k) more ≡ true → all (before (record { kind = k; id = i })) more ≡ true
later-kind k i more h = all-weaken (beyond k) (before (record { kind = k; id = i })) more (λ f t. rw t) h

pub sorted_more : (k : EntityKind) (ids : List ℕ) (more : List EntityRef) → ascending ids ≡ true → all (beyond k) more ≡ true → sorted more ≡ true
    → sorted (refs k ids ++ more) ≡ true
unfolding ascending sorted
sorted_more k [] more up b h = h
sorted_more k (i ∷ ids) more up b h =
    after-of (record { kind = k; id = i }) (refs k ids ++ more)
    (all_append (before (record { kind = k; id = i })) (refs k ids) more (same_kind k i ids (above-all i ids up)) (later-kind k i more b))
    (sorted_more k ids more (ascending-tail i ids up) b h)
