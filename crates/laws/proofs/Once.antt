-- Lists of lanes without repeats: what removal, a merge and a cut leave of one has none. Assumes nothing.
use Rattle.std.specs.Prelude.{Option, None, Some}
use mathlib.Core.Path.{◌≡◌, refl, sym, ap, ◌∙◌}
use mathlib.Core.Bool.{Bool, true, false, not, ◌&&◌, ◌||◌, cond}
use mathlib.Core.List.{List, [], ◌∷◌, ◌++◌, map}
use Prim.Native.Nat.{ℕ, suc, ◌<◌, ◌≤◌}
use native.Mathlib.Omega.{arith}
use lib.Dec.{eqb, ltb}
use lib.Ieee.{Float}
use borrow.Author.Tests.{eqb-true, eqb-false, ne_eqb, ltb-true, lt-ltb, not-true}
use Rattle.lists.specs.Every.{all}
use Rattle.lists.specs.Select.{keep, each, has, without, above, ascending, distinct, insert_after}
use Rattle.lists.proofs.Booleans.{and_both, and-fst, and-snd, neither}
use Rattle.lists.proofs.Every.{all_head, all_tail}
use Rattle.lists.proofs.Select.{has-append, has-keep, all-has, all_map, all-weaken, above-all, ascending-tail, second-here, second-other, second-lacks, after-cons, after-pairs}
use Rattle.geometry.specs.declared.Point2.{Point2}
use Rattle.entities.specs.Records.{Map}
use Rattle.rules.specs.Merge.{read, replace_lane}
use Rattle.rules.specs.Split.{LanePlan, halves, on_second}
use Rattle.rules.specs.Turns.{swap_first, follow_one, follow_all}
use Rattle.laws.proofs.Links.{eqb_swap}
use Rattle.laws.proofs.KeptRows.{below_none}

-- ---- general

pub distinct_head : (x : ℕ) (xs : List ℕ) → distinct (x ∷ xs) ≡ true → has x xs ≡ false
unfolding distinct
distinct_head x xs h = not-true (has x xs) (and-fst (not (has x xs)) (distinct xs) h)

pub distinct_tail : (x : ℕ) (xs : List ℕ) → distinct (x ∷ xs) ≡ true → distinct xs ≡ true
unfolding distinct
distinct_tail x xs h = and-snd (not (has x xs)) (distinct xs) h

pub distinct_cons : (x : ℕ) (xs : List ℕ) → has x xs ≡ false → distinct xs ≡ true → distinct (x ∷ xs) ≡ true
unfolding distinct
distinct_cons x xs a d = and_both (not (has x xs)) (distinct xs) (ap not a) d

pub distinct-keep : (p : ℕ → Bool) (xs : List ℕ) → distinct xs ≡ true → distinct (keep p xs) ≡ true
unfolding keep
distinct-keep p [] d = d
distinct-keep p (x ∷ xs) d = go (p x) (distinct-keep p xs (distinct_tail x xs d))
  where
    go : (b : Bool) → distinct (keep p xs) ≡ true → distinct (cond b (x ∷ keep p xs) (keep p xs)) ≡ true
    go true r = distinct_cons x (keep p xs) (has-keep x p xs ∙ ap (λ t. t && p x) (distinct_head x xs d)) r
    go false r = r

-- of a number that a list lacks
pub lacks-head : (k x : ℕ) (xs : List ℕ) → has k (x ∷ xs) ≡ false → eqb k x ≡ false
unfolding has
lacks-head k x xs h = (neither (eqb k x) (has k xs) h).0

pub lacks-tail : (k x : ℕ) (xs : List ℕ) → has k (x ∷ xs) ≡ false → has k xs ≡ false
unfolding has
lacks-tail k x xs h = (neither (eqb k x) (has k xs) h).1

lacks-cons : (k x : ℕ) (xs : List ℕ) → eqb k x ≡ false → has k xs ≡ false → has k (x ∷ xs) ≡ false
unfolding has
lacks-cons k x xs a b = ap (λ t. t || has k xs) a ∙ b

lacks-append : (k : ℕ) (xs ys : List ℕ) → has k xs ≡ false → has k ys ≡ false → has k (xs ++ ys) ≡ false
lacks-append k xs ys a b = has-append k xs ys ∙ (ap (λ t. t || has k ys) a ∙ b)

-- every number from n on is lacking
abbrev pub Clear : ℕ → List ℕ → Type 0
Clear n ids = (k : ℕ) → n ≤ k → has k ids ≡ false

pub below-clear : (n : ℕ) (ids : List ℕ) → all (λ j. ltb j n) ids ≡ true → Clear n ids
below-clear n ids a k h = go (has k ids) refl
  where
    go : (b : Bool) → has k ids ≡ b → b ≡ false
    go false e = refl
    go true e = let u : k < n = ltb-true k n (all-has (λ j. ltb j n) k ids a e) in absurd (nothing u h)
      where
        nothing : k < n → n ≤ k → ⊥
        nothing u h = omega arith

-- ---- a lane leaves, or is read as another

pub distinct_without : (b : ℕ) (ids : List ℕ) → distinct ids ≡ true → distinct (without b ids) ≡ true
unfolding without
distinct_without b ids d = distinct-keep (λ y. not (eqb b y)) ids d

-- no two numbers but a are read as one
read-apart : (a b x y : ℕ) → eqb a x ≡ false → eqb a y ≡ false → eqb x y ≡ false → eqb (read a b x) (read a b y) ≡ false
read-apart a b x y ax ay xy = go (eqb x b) (eqb y b) refl refl
  where
    go : (p q : Bool) → eqb x b ≡ p → eqb y b ≡ q → eqb (cond p a x) (cond q a y) ≡ false
    go true true e f = absurd (eqb-false x y xy (eqb-true x b e ∙ sym (eqb-true y b f)))
    go true false e f = ay
    go false true e f = eqb_swap x a ∙ ax
    go false false e f = xy

read-lacks : (a b x : ℕ) (ys : List ℕ) → eqb a x ≡ false → has a ys ≡ false → has x ys ≡ false → has (read a b x) (map (read a b) ys) ≡ false
read-lacks a b x [] ax ay h = unfold has in refl
read-lacks a b x (y ∷ ys) ax ay h =
    lacks-cons (read a b x) (read a b y) (map (read a b) ys) (read-apart a b x y ax (lacks-head a y ys ay) (lacks-head x y ys h))
    (read-lacks a b x ys ax (lacks-tail a y ys ay) (lacks-tail x y ys h))

distinct-read : (a b : ℕ) (ids : List ℕ) → has a ids ≡ false → distinct ids ≡ true → distinct (map (read a b) ids) ≡ true
distinct-read a b [] h d = d
distinct-read a b (x ∷ xs) h d =
    distinct_cons (read a b x) (map (read a b) xs) (read-lacks a b x xs (lacks-head a x xs h) (lacks-tail a x xs h) (distinct_head x xs d))
    (distinct-read a b xs (lacks-tail a x xs h) (distinct_tail x xs d))

pub distinct-replace : (a b : ℕ) (ids : List ℕ) → distinct ids ≡ true → distinct (replace_lane a b ids) ≡ true
unfolding replace_lane
distinct-replace a b ids d = go (has a ids) refl
  where
    go : (c : Bool) → has a ids ≡ c → distinct (cond c (without b ids) (map (read a b) ids)) ≡ true
    go true e = distinct_without b ids d
    go false e = distinct-read a b ids e d

-- ---- a lane that becomes one or two others, j being new

swap-lacks : (k i : ℕ) (by ids : List ℕ) → has k by ≡ false → has k ids ≡ false → has k (swap_first i by ids) ≡ false
unfolding swap_first
swap-lacks k i by [] a h = h
swap-lacks k i by (x ∷ xs) a h = go (eqb x i) (swap-lacks k i by xs a (lacks-tail k x xs h))
  where
    go : (b : Bool) → has k (swap_first i by xs) ≡ false → has k (cond b (by ++ xs) (x ∷ swap_first i by xs)) ≡ false
    go true r = lacks-append k by xs a (lacks-tail k x xs h)
    go false r = lacks-cons k x (swap_first i by xs) (lacks-head k x xs h) r

-- what stands in the place of i names i and j at most, once
pub record Stands (i j : ℕ) (by : List ℕ) : Type 0 where
  pub lead : (xs : List ℕ) → has i xs ≡ false → has j xs ≡ false → distinct xs ≡ true → distinct (by ++ xs) ≡ true
  pub apart : (k : ℕ) → eqb k i ≡ false → eqb k j ≡ false → has k by ≡ false

stands-new : (i j : ℕ) → Stands i j (j ∷ [])
stands-new i j = record { lead = λ xs a b d. distinct_cons j xs b d; apart = λ k a b. lacks-cons k j [] b (unfold has in refl) }

stands-both : (i j : ℕ) → eqb i j ≡ false → Stands i j (i ∷ j ∷ [])
stands-both i j e =
    record {
      lead = λ xs a b d. distinct_cons i (j ∷ xs) (lacks-cons i j xs e a) (distinct_cons j xs b d);
      apart = λ k a b. lacks-cons k i (j ∷ []) a (lacks-cons k j [] b (unfold has in refl));
    }

swap-distinct : (i j : ℕ) (by : List ℕ) → Stands i j by → (ids : List ℕ) → has j ids ≡ false → distinct ids ≡ true → distinct (swap_first i by ids) ≡ true
unfolding swap_first
swap-distinct i j by s [] h d = d
swap-distinct i j by s (x ∷ xs) h d = go (eqb x i) refl (swap-distinct i j by s xs (lacks-tail j x xs h) (distinct_tail x xs d))
  where
    go : (b : Bool) → eqb x i ≡ b → distinct (swap_first i by xs) ≡ true → distinct (cond b (by ++ xs) (x ∷ swap_first i by xs)) ≡ true
    go true e r = s.lead xs (ap (λ k. has k xs) (sym (eqb-true x i e)) ∙ distinct_head x xs d) (lacks-tail j x xs h) (distinct_tail x xs d)
    go false e r =
        distinct_cons x (swap_first i by xs) (swap-lacks x i by xs (s.apart x e (eqb_swap x j ∙ lacks-head j x xs h)) (distinct_head x xs d)) r

-- ---- one pair after the other

-- a list without repeats, in which no number from n on stands
pub record Fine (n : ℕ) (ids : List ℕ) : Type 0 where
  pub once : distinct ids ≡ true
  pub clear : Clear n ids

swap-fine : (i n : ℕ) (by ids : List ℕ) → i < n → Stands i n by → Fine n ids → Fine (suc n) (swap_first i by ids)
swap-fine i n by ids l s f =
    record {
      once = swap-distinct i n by s ids (f.clear n (omega arith)) f.once;
      clear = λ k h. swap-lacks k i by ids (s.apart k (ne_eqb k i (λ e. omega arith)) (ne_eqb k n (λ e. omega arith))) (f.clear k (omega arith));
    }

later : (n : ℕ) (ids : List ℕ) → Fine n ids → Fine (suc n) ids
later n ids f = record { once = f.once; clear = λ k h. f.clear k (omega arith) }

-- the lanes that are cut are below n
abbrev pub under : ℕ → List LanePlan → Bool
under n ps = all (λ x. ltb x.of.id n) ps

pub under_more : (n : ℕ) (ps : List LanePlan) → under n ps ≡ true → under (suc n) ps ≡ true
under_more n ps a = all-weaken (λ x. ltb x.of.id n) (λ x. ltb x.of.id (suc n)) ps (λ x t. let u = ltb-true x.of.id n t in lt-ltb x.of.id (suc n) (omega arith)) a

pub follow-fine : (join : Float) (m : Map) (anchor : Option Point2) (x : LanePlan) (n : ℕ) (ids : List ℕ) → x.of.id < n → Fine n ids → Fine (suc n) (follow_one join m anchor x n ids)
follow-fine join m None x n ids l f = swap-fine x.of.id n (x.of.id ∷ n ∷ []) ids l (stands-both x.of.id n (ne_eqb x.of.id n (λ e. omega arith))) f
follow-fine join m (Some p) x n ids l f = go (has x.of.id ids && on_second join m x n p)
  where
    go : (b : Bool) → Fine (suc n) (cond b (swap_first x.of.id (n ∷ []) ids) ids)
    go true = swap-fine x.of.id n (n ∷ []) ids l (stands-new x.of.id n) f
    go false = later n ids f

-- A rule's own lanes, one cut lane after the other.
pub distinct-turns : (join : Float) (m : Map) (anchor : Option Point2) (n : ℕ) (ps : List LanePlan) (ids : List ℕ) → under n ps ≡ true → Fine n ids
    → distinct (follow_all join m anchor n ps ids) ≡ true
unfolding follow_all
distinct-turns join m anchor n [] ids a f = f.once
distinct-turns join m anchor n (x ∷ ps) ids a f =
    distinct-turns join m anchor (suc n) ps (follow_one join m anchor x n ids) (under_more n ps (all_tail (λ y. ltb y.of.id n) x ps a))
    (follow-fine join m anchor x n ids (ltb-true x.of.id n (all_head (λ y. ltb y.of.id n) x ps a)) f)

-- ---- the second half after each first: on a list without repeats it is what becomes of a rule's own lanes without an anchor

after-absent : (x y : ℕ) (ys : List ℕ) → has x ys ≡ false → insert_after ((x, y) ∷ []) ys ≡ ys
after-absent x y [] h = unfold insert_after each in refl
after-absent x y (z ∷ zs) h =
    after-cons ((x, y) ∷ []) z zs
    ∙ (ap (λ (u : List ℕ). u ++ insert_after ((x, y) ∷ []) zs) (second-other x y z [] (eqb-false x z (lacks-head x z zs h)) ∙ second-lacks z [] (unfold has in refl))
    ∙ ap (λ (u : List ℕ). z ∷ u) (after-absent x y zs (lacks-tail x z zs h)))

after-swap : (x y : ℕ) (ys : List ℕ) → distinct ys ≡ true → insert_after ((x, y) ∷ []) ys ≡ swap_first x (x ∷ y ∷ []) ys
unfolding swap_first
after-swap x y [] d = unfold insert_after each in refl
after-swap x y (z ∷ zs) d = go (eqb z x) refl (after-swap x y zs (distinct_tail z zs d))
  where
    go : (b : Bool) → eqb z x ≡ b → insert_after ((x, y) ∷ []) zs ≡ swap_first x (x ∷ y ∷ []) zs
        → insert_after ((x, y) ∷ []) (z ∷ zs) ≡ cond b (x ∷ y ∷ zs) (z ∷ swap_first x (x ∷ y ∷ []) zs)
    go true e r =
        let l : z ≡ x = eqb-true z x e in
        after-cons ((x, y) ∷ []) z zs
        ∙ (ap (λ (u : List ℕ). u ++ insert_after ((x, y) ∷ []) zs) (second-here x y z [] (sym l))
        ∙ (ap (λ (u : List ℕ). z ∷ y ∷ u) (after-absent x y zs (ap (λ k. has k zs) (sym l) ∙ distinct_head z zs d)) ∙ ap (λ k. k ∷ y ∷ zs) l))
    go false e r =
        after-cons ((x, y) ∷ []) z zs
        ∙ (ap (λ (u : List ℕ). u ++ insert_after ((x, y) ∷ []) zs) (second-other x y z [] (λ q. eqb-false z x e (sym q)) ∙ second-lacks z [] (unfold has in refl))
        ∙ ap (λ (u : List ℕ). z ∷ u) r)

-- the first ids
abbrev pub cut_ids : List LanePlan → List ℕ
cut_ids ps = map (λ x. x.of.id) ps

-- no later lane is the first, and none is new
pub later-lacks : (i : ℕ) (ps : List LanePlan) → above i (cut_ids ps) ≡ true → has i (cut_ids ps) ≡ false
later-lacks i ps up = below_none i (cut_ids ps) (above-all i (cut_ids ps) up)

pub under-lacks : (n : ℕ) (ps : List LanePlan) → under n ps ≡ true → has n (cut_ids ps) ≡ false
under-lacks n ps a = below-clear n (cut_ids ps) (all_map (λ j. ltb j n) (λ x. x.of.id) ps ∙ a) n (omega arith)

halves-first : (n : ℕ) (ps : List LanePlan) → map (λ (h : ℕ × ℕ). h.0) (halves n ps) ≡ cut_ids ps
unfolding halves
halves-first n [] = refl
halves-first n (x ∷ ps) = ap (λ is. x.of.id ∷ is) (halves-first (suc n) ps)

pub none_after : (ids : List ℕ) → insert_after [] ids ≡ ids
none_after [] = unfold insert_after each in refl
none_after (z ∷ zs) =
    after-cons [] z zs ∙ (ap (λ (u : List ℕ). u ++ insert_after [] zs) (second-lacks z [] (unfold has in refl)) ∙ ap (λ (u : List ℕ). z ∷ u) (none_after zs))

-- the first pair, then the others
pub after_turn : (n : ℕ) (x : LanePlan) (ps : List LanePlan) (ids : List ℕ) → above x.of.id (cut_ids ps) ≡ true → under n ps ≡ true → distinct ids ≡ true
    → insert_after (halves n (x ∷ ps)) ids ≡ insert_after (halves (suc n) ps) (swap_first x.of.id (x.of.id ∷ n ∷ []) ids)
unfolding halves
after_turn n x ps ids up a d =
    let i = x.of.id in
    after-pairs i n (halves (suc n) ps) ids (ap (has i) (halves-first (suc n) ps) ∙ later-lacks i ps up) (ap (has n) (halves-first (suc n) ps) ∙ under-lacks n ps a)
    ∙ ap (insert_after (halves (suc n) ps)) (after-swap i n ids d)

-- Lists of roads and junctions, and of a rule's priority.
pub distinct-after : (n : ℕ) (ps : List LanePlan) (ids : List ℕ) → ascending (cut_ids ps) ≡ true → under n ps ≡ true → Fine n ids → distinct (insert_after (halves n ps) ids) ≡ true
distinct-after n [] ids up a f = unfold halves in ap distinct (none_after ids) ∙ f.once
distinct-after n (x ∷ ps) ids up a f =
    let i = x.of.id in
    let rest = all_tail (λ y. ltb y.of.id n) x ps a in
    let l = ltb-true i n (all_head (λ y. ltb y.of.id n) x ps a) in
    let g = swap-fine i n (i ∷ n ∷ []) ids l (stands-both i n (ne_eqb i n (λ e. omega arith))) f in
    let above-i : above i (cut_ids ps) ≡ true = unfold ascending in up in
    ap distinct (after_turn n x ps ids above-i rest f.once)
    ∙ distinct-after (suc n) ps (swap_first i (i ∷ n ∷ []) ids) (ascending-tail i (cut_ids ps) above-i) (under_more n ps rest) g
