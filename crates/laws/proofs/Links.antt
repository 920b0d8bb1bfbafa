-- What connect and disconnect do to the links: exactly the link book's entry, and the mirror image of the predecessors.
use Rattle.std.specs.Prelude.{Some}
use mathlib.Core.Path.{◌≡◌, refl, sym, ap, ◌∙◌}
use mathlib.Core.Bool.{Bool, true, false, not, ◌&&◌, ◌||◌, cond}
use mathlib.Core.List.{List, [], ◌∷◌, map}
use Prim.Native.Nat.{ℕ}
use native.Mathlib.Omega.{arith}
use lib.Dec.{eqb}
use borrow.Author.Tests.{eqb-true, eq-eqb}
use Rattle.lists.specs.Select.{any, find, has, without, place}
use Rattle.lists.proofs.Booleans.{and_both, and-fst, and-snd, same_test}
use Rattle.lists.proofs.Select.{any_same, any-or, any-implies, has-place, has-without}
use Rattle.entities.specs.Records.{Lane, Map}
use Rattle.rules.specs.Map.{lane, leads_to, comes_from}
use Rattle.rules.specs.Edit.{link_in, link_out, with_lanes}
use Rattle.rules.specs.Book.{is_pair, drop_pair}
use Rattle.rules.proofs.Relations.{leads-map, comes-map}

-- ---- Booleans

-- a test of pairs among the rest: (e && (h || p)) with the pair's test pulled out
pull-or : (e h g y : Bool) → (e && (h || (g && y))) ≡ (e && h || e && g && y)
pull-or true true g y = refl
pull-or true false g y = refl
pull-or false h g y = refl

pub and-swap : (p q : Bool) → (p && q) ≡ (q && p)
and-swap true true = refl
and-swap true false = refl
and-swap false true = refl
and-swap false false = refl

-- ---- a lane that is found stands in the table

pub found-any : {A : Type 0} (p : A → Bool) (xs : List A) (x : A) → find p xs ≡ Some x → (q : A → Bool) → q x ≡ true → any q xs ≡ true
unfolding find any
found-any p [] x e q t = let z : ◌≡◌ {A = ℕ} 0 1 = cc in absurd (nothing z)
  where
    nothing : ◌≡◌ {A = ℕ} 0 1 → ⊥
    nothing z = omega arith
found-any p (y ∷ ys) x e q t = go (p y) refl (λ r. found-any p ys x r q t)
  where
    go : (b : Bool) → p y ≡ b → (find p ys ≡ Some x → any q ys ≡ true) → (q y || any q ys) ≡ true
    go true h r =
        let s : Some y ≡ Some x = rw h at e in
        let u : y ≡ x = cc in
        rw (u, t)
    go false h r = or_right (q y) (any q ys) (r (rw h at e))
      where
        or_right : (a b : Bool) → b ≡ true → (a || b) ≡ true
        or_right true b t = refl
        or_right false b t = t

-- what is found passes
pub found-passes : {A : Type 0} (p : A → Bool) (xs : List A) (x : A) → find p xs ≡ Some x → p x ≡ true
unfolding find
found-passes p [] x e = let z : ◌≡◌ {A = ℕ} 0 1 = cc in absurd (nothing z)
  where
    nothing : ◌≡◌ {A = ℕ} 0 1 → ⊥
    nothing z = omega arith
found-passes p (y ∷ ys) x e = go (p y) refl (found-passes p ys x)
  where
    go : (b : Bool) → p y ≡ b → (find p ys ≡ Some x → p x ≡ true) → p x ≡ true
    go true h r =
        let s : Some y ≡ Some x = rw h at e in
        let u : y ≡ x = cc in
        rw u at h
    go false h r = r (rw h at e)

-- the lane with an id has that id
pub lane-id : (m : Map) (i : ℕ) (l : Lane) → lane m i ≡ Some l → l.id ≡ i
unfolding lane
lane-id m i l e = eqb-true l.id i (found-passes (λ x. eqb x.id i) m.lanes l e)

-- ---- one pair

-- the test of one pair over a table that has the pair's lane
one-pair : (m : Map) (a : ℕ) (l : Lane) → lane m a ≡ Some l → (x : ℕ) (c : Bool) → any (λ k. eqb k.id x && eqb k.id a && c) m.lanes ≡ (eqb x a && c)
unfolding lane
one-pair m a l e x c =
    same_test (any (λ k. eqb k.id x && eqb k.id a && c) m.lanes) (eqb x a && c)
    (any-implies (λ k. eqb k.id x && eqb k.id a && c) (eqb x a && c) m.lanes (λ k t.
    let both = and-fst (eqb k.id x && eqb k.id a) c t in
    let u : k.id ≡ x = eqb-true k.id x (and-fst (eqb k.id x) (eqb k.id a) both) in
    let v : k.id ≡ a = eqb-true k.id a (and-snd (eqb k.id x) (eqb k.id a) both) in
    and_both (eqb x a) c (eq-eqb x a (sym u ∙ v)) (and-snd (eqb k.id x && eqb k.id a) c t)))
    (λ t.
    let u : x ≡ a = eqb-true x a (and-fst (eqb x a) c t) in
    let i : l.id ≡ a = eqb-true l.id a (found-passes (λ k. eqb k.id a) m.lanes l e) in
    found-any (λ k. eqb k.id a) m.lanes l e (λ k. eqb k.id x && eqb k.id a && c)
    (and_both (eqb l.id x && eqb l.id a) c
    (and_both (eqb l.id x) (eqb l.id a) (eq-eqb l.id x (i ∙ sym u)) (eq-eqb l.id a i)) (and-snd (eqb x a) c t)))

pub has-linked : (g : Bool) (b y : ℕ) (s : List ℕ) → has y (cond g (place b s) s) ≡ (has y s || (g && eqb y b))
has-linked true b y s = has-place y b s ∙ or_swap (eqb y b) (has y s)
  where
    or_swap : (a b : Bool) → (a || b) ≡ (b || a)
    or_swap true true = refl
    or_swap true false = refl
    or_swap false true = refl
    or_swap false false = refl
has-linked false b y s = sym (or-false (has y s))
  where
    or-false : (a : Bool) → (a || false) ≡ a
    or-false true = refl
    or-false false = refl

-- Connecting a to b adds the pair (a, b).
pub connect-leads : (m : Map) (a b : ℕ) (l : Lane) → lane m a ≡ Some l → (x y : ℕ)
    → leads_to (with_lanes (map (link_in a b) m.lanes) m) x y ≡ (leads_to m x y || is_pair a b x y)
unfolding leads_to
connect-leads m a b l e x y =
    leads-map (link_in a b) (λ k. refl) m x y
    ∙ any_same (λ k. eqb k.id x && has y (link_in a b k).successors) (λ k. eqb k.id x && has y k.successors || eqb k.id x && eqb k.id a && eqb y b) m.lanes
    (λ k. ap (λ t. eqb k.id x && t) (has-linked (eqb k.id a) b y k.successors) ∙ pull-or (eqb k.id x) (has y k.successors) (eqb k.id a) (eqb y b))
    ∙ any-or (λ k. eqb k.id x && has y k.successors) (λ k. eqb k.id x && eqb k.id a && eqb y b) m.lanes
    ∙ ap (λ t. any (λ k. eqb k.id x && has y k.successors) m.lanes || t) (one-pair m a l e x (eqb y b))

-- and so do the predecessors
pub connect-comes : (m : Map) (a b : ℕ) (l : Lane) → lane m b ≡ Some l → (x y : ℕ)
    → comes_from (with_lanes (map (link_in a b) m.lanes) m) x y ≡ (comes_from m x y || is_pair a b x y)
unfolding comes_from
connect-comes m a b l e x y =
    comes-map (link_in a b) (λ k. refl) m x y
    ∙ any_same (λ k. eqb k.id y && has x (link_in a b k).predecessors) (λ k. eqb k.id y && has x k.predecessors || eqb k.id y && eqb k.id b && eqb x a) m.lanes
    (λ k. ap (λ t. eqb k.id y && t) (has-linked (eqb k.id b) a x k.predecessors) ∙ pull-or (eqb k.id y) (has x k.predecessors) (eqb k.id b) (eqb x a))
    ∙ any-or (λ k. eqb k.id y && has x k.predecessors) (λ k. eqb k.id y && eqb k.id b && eqb x a) m.lanes
    ∙ ap (λ t. any (λ k. eqb k.id y && has x k.predecessors) m.lanes || t) (one-pair m b l e y (eqb x a) ∙ and-swap (eqb y b) (eqb x a))

-- ---- disconnect

pub eqb_swap : (x y : ℕ) → eqb x y ≡ eqb y x
eqb_swap x y = same_test (eqb x y) (eqb y x) (λ t. eq-eqb y x (sym (eqb-true x y t))) (λ t. eq-eqb x y (sym (eqb-true y x t)))

has-unlinked : (g : Bool) (b y : ℕ) (s : List ℕ) → has y (cond g (without b s) s) ≡ (has y s && not (g && eqb y b))
has-unlinked true b y s = has-without y b s ∙ ap (λ t. has y s && not t) (eqb_swap b y)
has-unlinked false b y s = sym (and-true (has y s))
  where
    and-true : (a : Bool) → (a && true) ≡ a
    and-true true = refl
    and-true false = refl

-- in a row with id x, a test of its id against a is the test of x
at-id : (i x a : ℕ) (h c : Bool) → (eqb i x && (h && not (eqb i a && c))) ≡ (eqb i x && h && not (eqb x a && c))
at-id i x a h c = go (eqb i x) refl
  where
    go : (e : Bool) → eqb i x ≡ e → (e && (h && not (eqb i a && c))) ≡ (e && h && not (eqb x a && c))
    go true t = let u : i ≡ x = eqb-true i x t in rw u
    go false t = refl

pub any-and : {A : Type 0} (p : A → Bool) (c : Bool) (xs : List A) → any (λ x. p x && c) xs ≡ (any p xs && c)
unfolding any
any-and p c [] = refl
any-and p c (x ∷ xs) = rw (any-and p c xs) (share (p x) (any p xs) c)
  where
    share : (a b c : Bool) → (a && c || b && c) ≡ ((a || b) && c)
    share true true true = refl
    share true true false = refl
    share true false true = refl
    share true false false = refl
    share false b c = refl

-- Disconnecting a from b drops the pair (a, b).
pub disconnect-leads : (m : Map) (a b x y : ℕ) → leads_to (with_lanes (map (link_out a b) m.lanes) m) x y ≡ drop_pair a b (leads_to m) x y
unfolding leads_to drop_pair
disconnect-leads m a b x y =
    leads-map (link_out a b) (λ k. refl) m x y
    ∙ any_same (λ k. eqb k.id x && has y (link_out a b k).successors) (λ k. eqb k.id x && has y k.successors && not (is_pair a b x y)) m.lanes
    (λ k. ap (λ t. eqb k.id x && t) (has-unlinked (eqb k.id a) b y k.successors) ∙ at-id k.id x a (has y k.successors) (eqb y b))
    ∙ any-and (λ k. eqb k.id x && has y k.successors) (not (is_pair a b x y)) m.lanes

pub disconnect-comes : (m : Map) (a b x y : ℕ) → comes_from (with_lanes (map (link_out a b) m.lanes) m) x y ≡ drop_pair a b (comes_from m) x y
unfolding comes_from drop_pair
disconnect-comes m a b x y =
    comes-map (link_out a b) (λ k. refl) m x y
    ∙ any_same (λ k. eqb k.id y && has x (link_out a b k).predecessors) (λ k. eqb k.id y && has x k.predecessors && not (eqb y b && eqb x a)) m.lanes
    (λ k. ap (λ t. eqb k.id y && t) (has-unlinked (eqb k.id b) a x k.predecessors) ∙ at-id k.id y b (has x k.predecessors) (eqb x a))
    ∙ any-and (λ k. eqb k.id y && has x k.predecessors) (not (eqb y b && eqb x a)) m.lanes
    ∙ ap (λ t. any (λ k. eqb k.id y && has x k.predecessors) m.lanes && not t) (and-swap (eqb y b) (eqb x a))
