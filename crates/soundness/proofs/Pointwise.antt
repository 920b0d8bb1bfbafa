-- Row by row: what the definition asks of a row, and what the test of soundness asks.
use Rattle.std.specs.Prelude.{None, Some}
use mathlib.Core.Path.{◌≡◌, refl, sym, ap, ◌∙◌}
use mathlib.Core.Bool.{Bool, true, false, not, ◌&&◌, ◌||◌, cond}
use mathlib.Core.List.{List, [], ◌∷◌, ◌++◌}
use Prim.Native.Nat.{ℕ, zero, suc, ◌+◌, ◌*◌, ◌-◌, ◌/◌, ◌^◌, ◌≤◌, min}
use native.Mathlib.Omega.{arith}
use lib.Dec.{eqb, leb, ltb}
use lib.ListN.{length, take, drop, length-drop}
use lib.Seq.{length-take-le}
use Rattle.polyline.proofs.Points.{length-points}
use lib.Ieee.{Float}
use borrow.Author.Tests.{leb-true, eqb-true}
use Rattle.lists.specs.Every.{all}
use Rattle.lists.specs.Select.{ascending}
use Rattle.lists.proofs.Every.{all_split}
use Rattle.lists.proofs.Booleans.{and-fst, and-snd, same_test}
use Rattle.geometry.specs.Point.{in_reach}
use Rattle.polyline.specs.Polyline.{points}
use Rattle.entities.specs.Types.{same, opposing}
use Rattle.rules.specs.Sound.{lane_names, slot_id, optional_line, speed_legal, handle_width}
use Rattle.tables.specs.View.{word, mark, ids_at, option_at, slot_at, line_at, option_line_at, part, lane_of}
use Rattle.tables.specs.Formed.{Span, span_at, center_span, stored, lane_formed}
use Rattle.row_tests.specs.Good.{line_good, ids_good, slot_good, handle_good, lane_numbers, links_good, lane_good}

-- ---- conjunctions taken apart

pub and3 : (a b c : Bool) → (a && b && c) ≡ true → (a ≡ true) × (b ≡ true) × (c ≡ true)
and3 a b c h = let i = and-fst (a && b) c h in (and-fst a b i, and-snd a b i, and-snd (a && b) c h)

pub and4 : (a b c d : Bool) → (a && b && c && d) ≡ true → (a ≡ true) × (b ≡ true) × (c ≡ true) × (d ≡ true)
and4 a b c d h = let (x, y, z) = and3 a b c (and-fst (a && b && c) d h) in (x, y, z, and-snd (a && b && c) d h)

pub and5 : (a b c d e : Bool) → (a && b && c && d && e) ≡ true → (a ≡ true) × (b ≡ true) × (c ≡ true) × (d ≡ true) × (e ≡ true)
and5 a b c d e h =
    let i = and-fst (a && b && c && d) e h in
    let j = and-fst (a && b && c) d i in
    let (x, y, z) = and3 a b c j in
    (x, y, z, and-snd (a && b && c) d i, and-snd (a && b && c && d) e h)

pub and8 : (a b c d e f g k : Bool) → (a && b && c && d && e && f && g && k) ≡ true
    → (a ≡ true) × (b ≡ true) × (c ≡ true) × (d ≡ true) × (e ≡ true) × (f ≡ true) × (g ≡ true) × (k ≡ true)
and8 a b c d e f g k h =
    let i = and-fst (a && b && c && d && e && f && g) k h in
    let j = and-fst (a && b && c && d && e && f) g i in
    let l = and-fst (a && b && c && d && e) f j in
    let (p, q, r, s, t) = and5 a b c d e l in
    (p, q, r, s, t, and-snd (a && b && c && d && e) f j, and-snd (a && b && c && d && e && f) g i, and-snd (a && b && c && d && e && f && g) k h)

-- ---- names and slots

-- a slot's name passes a bound
slot-names : (most k : ℕ) (w : List ℕ) → all (λ i. leb i most) (slot_id (slot_at k w)) ≡ slot_good most k w
unfolding all
slot-names most k w = go (eqb (word k w) 0) (eqb (word k w) 1)
  where
    one : (b : Bool) → (b && true) ≡ b
    one true = refl
    one false = refl

    go : (x y : Bool)
        → all (λ i. leb i most) (slot_id (cond x None (cond y (Some (same (word (suc k) w))) (Some (opposing (word (suc k) w)))))) ≡ (x || leb (word (suc k) w) most)
    go true y = refl
    go false true = one (leb (word (suc k) w) most)
    go false false = one (leb (word (suc k) w) most)

-- ---- lines

min-left : (a b : ℕ) → min a b ≤ b
min-left a b = omega arith

-- a stored line has as many points as its row says
pub line-length : (c : List Float) (s : Span) → stored c s ≡ true → length (points (part c s.start s.size)) ≡ s.size
unfolding part
line-length c s h = go (eqb s.size 0) refl
  where
    n : ℕ
    n = s.size

    go : (b : Bool) → eqb n 0 ≡ b → length (points (take (n * 3) (drop (s.start * 3) c))) ≡ n
    go true e =
        let z : n ≡ 0 = eqb-true n 0 e in
        length-points (take (n * 3) (drop (s.start * 3) c)) ∙ (ap (λ k. length (take (k * 3) (drop (s.start * 3) c)) / 3) z ∙ sym z)
    go false e =
        let r : leb (s.start + n) (min 65536 (length c / 3)) ≡ true = rw e at h in
        let q : s.start + n ≤ min 65536 (length c / 3) = leb-true (s.start + n) (min 65536 (length c / 3)) r in
        let p : s.start + n ≤ length c / 3 = omega (arith, min-left 65536 (length c / 3)) in
        let d : length (drop (s.start * 3) c) ≡ length c - s.start * 3 = length-drop (s.start * 3) c in
        let f : n * 3 ≤ length (drop (s.start * 3) c) = omega arith in
        length-points (take (n * 3) (drop (s.start * 3) c)) ∙ (ap (λ k. k / 3) (length-take-le (n * 3) (drop (s.start * 3) c) f) ∙ thirds n)
      where
        thirds : (k : ℕ) → k * 3 / 3 ≡ k
        thirds k = omega arith

-- what is asked of a line, and the test
pub line_same : (c : List Float) (s : Span)
    → line_good c s ≡ (stored c s && leb (length (points (part c s.start s.size))) 256 && all in_reach (points (part c s.start s.size)))
unfolding line_good
line_same c s = go (stored c s) refl
  where
    go : (b : Bool) → stored c s ≡ b
        → (b && leb s.size 256 && all in_reach (points (part c s.start s.size)))
        ≡ (b && leb (length (points (part c s.start s.size))) 256 && all in_reach (points (part c s.start s.size)))
    go true e = ap (λ k. leb k 256 && all in_reach (points (part c s.start s.size))) (sym (line-length c s e))
    go false e = refl

-- a lane's centreline, where its mark says that there is one
center_same : (c : List Float) (w : List ℕ)
    → (not (mark 6 w) || line_good c (span_at 7 w))
    ≡ (all (stored c) (center_span w) && all (λ x. leb (length x) 256) (optional_line (option_line_at c 6 w)) && all (all in_reach) (optional_line (option_line_at c 6 w)))
unfolding all
center_same c w = go (mark 6 w)
  where
    go : (b : Bool)
        → (not b || line_good c (span_at 7 w))
        ≡ (all (stored c) (cond b (span_at 7 w ∷ []) []) && all (λ x. leb (length x) 256) (optional_line (cond b (Some (line_at c 7 w)) None))
        && all (all in_reach) (optional_line (cond b (Some (line_at c 7 w)) None)))
    go true = line_same c (span_at 7 w) ∙ pad (stored c (span_at 7 w)) (leb (length (line_at c 7 w)) 256) (all in_reach (line_at c 7 w))
      where
        pad : (x y z : Bool) → (x && y && z) ≡ (x && true && (y && true) && (z && true))
        pad true true true = refl
        pad true true false = refl
        pad true false z = refl
        pad false y z = refl
    go false = refl

-- ---- lanes

-- every word is below 2 ^ 64
abbrev pub ok : ℕ → Bool
ok i = ltb i (2 ^ 64)

pub word_ok : (w : List ℕ) (k : ℕ) → all ok w ≡ true → ok (word k w) ≡ true
unfolding all
word_ok [] k h = refl
word_ok (x ∷ w) zero h = and-fst (ok x) (all ok w) h
word_ok (x ∷ w) (suc k) h = word_ok w k (and-snd (ok x) (all ok w) h)

speed_ok : (w : List ℕ) → all ok w ≡ true → speed_legal (option_at 9 w) ≡ true
speed_ok w h = go (mark 9 w)
  where
    go : (b : Bool) → speed_legal (cond b (Some (word 10 w)) None) ≡ true
    go true = word_ok w 10 h
    go false = refl

-- what the definition asks of a lane's row
abbrev pub lane_asked : ℕ → List Float → List ℕ → Bool
lane_asked most c w =
    lane_formed w
    && (leb (word 1 w) 7 && leb (word 12 w) 3)
    && (ltb (word 13 w) handle_width && speed_legal (option_at 9 w))
    && all (λ i. leb i most) (lane_names (lane_of c w))
    && (ascending (ids_at 18 w) && ascending (ids_at 35 w))
    && (all (stored c) (center_span w) && all (λ x. leb (length x) 256) (optional_line (option_line_at c 6 w)) && all (all in_reach) (optional_line (option_line_at c 6 w)))

-- the names of a lane's row
lane-names : (most : ℕ) (c : List Float) (w : List ℕ)
    → all (λ i. leb i most) (lane_names (lane_of c w))
    ≡ (leb (word 0 w) most && (leb (word 2 w) most && (leb (word 4 w) most && (slot_good most 14 w && (slot_good most 16 w && (ids_good most (ids_at 18 w) && ids_good most (ids_at 35 w)))))))
unfolding lane_of
lane-names most c w =
    all_split (λ i. leb i most) (word 0 w ∷ word 2 w ∷ word 4 w ∷ slot_id (slot_at 14 w)) (slot_id (slot_at 16 w) ++ (ids_at 18 w ++ ids_at 35 w))
    ∙ (ap (λ t. all (λ i. leb i most) (word 0 w ∷ word 2 w ∷ word 4 w ∷ slot_id (slot_at 14 w)) && t)
    (all_split (λ i. leb i most) (slot_id (slot_at 16 w)) (ids_at 18 w ++ ids_at 35 w)
    ∙ (ap (λ t. all (λ i. leb i most) (slot_id (slot_at 16 w)) && t) (all_split (λ i. leb i most) (ids_at 18 w) (ids_at 35 w))
    ∙ ap (λ t. t && (ids_good most (ids_at 18 w) && ids_good most (ids_at 35 w))) (slot-names most 16 w)))
    ∙ (unfold all in ap (λ t. leb (word 0 w) most && (leb (word 2 w) most && (leb (word 4 w) most && t)) && (slot_good most 16 w && (ids_good most (ids_at 18 w) && ids_good most (ids_at 35 w)))) (slot-names most 14 w)
    ∙ regroup (leb (word 0 w) most) (leb (word 2 w) most) (leb (word 4 w) most) (slot_good most 14 w) (slot_good most 16 w && (ids_good most (ids_at 18 w) && ids_good most (ids_at 35 w)))))
  where
    regroup : (x y z s t : Bool) → (x && (y && (z && s)) && t) ≡ (x && (y && (z && (s && t))))
    regroup true true true s t = refl
    regroup true true false s t = refl
    regroup true false z s t = refl
    regroup false y z s t = refl

lane-shuffle : (F K L H I J M S T A G B N C : Bool)
    → (F && (K && L && H && I && J && M && S && T) && (A && G) && (B && N) && C)
    ≡ (F && (K && L) && (H && true) && (I && (J && (M && (S && (T && (G && N)))))) && (A && B) && C)
lane-shuffle F K L H I J M S T A G B N C =
    same_test (F && (K && L && H && I && J && M && S && T) && (A && G) && (B && N) && C)
    (F && (K && L) && (H && true) && (I && (J && (M && (S && (T && (G && N)))))) && (A && B) && C)
    (λ h.
    let (f, n, ag, bn, c) = and5 F (K && L && H && I && J && M && S && T) (A && G) (B && N) C h in
    let (k, l, hh, i, j, m, s, t) = and8 K L H I J M S T n in
    rw (f, k, l, hh, i, j, m, s, t, and-fst A G ag, and-snd A G ag, and-fst B N bn, and-snd B N bn, c))
    (λ h.
    let names = I && (J && (M && (S && (T && (G && N))))) in
    let c = and-snd (F && (K && L) && (H && true) && names && (A && B)) C h in
    let (f, kl, ht, ns, ab) = and5 F (K && L) (H && true) names (A && B) (and-fst (F && (K && L) && (H && true) && names && (A && B)) C h) in
    let n1 = and-snd I (J && (M && (S && (T && (G && N))))) ns in
    let n2 = and-snd J (M && (S && (T && (G && N)))) n1 in
    let n3 = and-snd M (S && (T && (G && N))) n2 in
    let n4 = and-snd S (T && (G && N)) n3 in
    let n5 = and-snd T (G && N) n4 in
    rw (
      f,
      and-fst K L kl,
      and-snd K L kl,
      and-fst H true ht,
      and-fst I (J && (M && (S && (T && (G && N))))) ns,
      and-fst J (M && (S && (T && (G && N)))) n1,
      and-fst M (S && (T && (G && N))) n2,
      and-fst S (T && (G && N)) n3,
      and-fst T (G && N) n4,
      and-fst A B ab,
      and-fst G N n5,
      and-snd A B ab,
      and-snd G N n5,
      c,
    ))

pub lane-same : (most : ℕ) (c : List Float) (w : List ℕ) → all ok w ≡ true → lane_good most c w ≡ lane_asked most c w
unfolding lane_good lane_numbers links_good
lane-same most c w h =
    ap (λ t. lane_formed w && (leb (word 1 w) 7 && leb (word 12 w) 3 && handle_good (word 13 w) && leb (word 0 w) most && leb (word 2 w) most && leb (word 4 w) most && slot_good most 14 w && slot_good most 16 w)
    && (ascending (ids_at 18 w) && ids_good most (ids_at 18 w)) && (ascending (ids_at 35 w) && ids_good most (ids_at 35 w)) && t) (center_same c w)
    ∙ (lane-shuffle (lane_formed w) (leb (word 1 w) 7) (leb (word 12 w) 3) (handle_good (word 13 w)) (leb (word 0 w) most) (leb (word 2 w) most) (leb (word 4 w) most)
    (slot_good most 14 w) (slot_good most 16 w) (ascending (ids_at 18 w)) (ids_good most (ids_at 18 w)) (ascending (ids_at 35 w)) (ids_good most (ids_at 35 w)) (center_asked c w)
    ∙ (ap (λ t. lane_formed w && (leb (word 1 w) 7 && leb (word 12 w) 3) && (handle_good (word 13 w) && t)
    && (leb (word 0 w) most && (leb (word 2 w) most && (leb (word 4 w) most && (slot_good most 14 w && (slot_good most 16 w && (ids_good most (ids_at 18 w) && ids_good most (ids_at 35 w)))))))
    && (ascending (ids_at 18 w) && ascending (ids_at 35 w)) && center_asked c w) (sym (speed_ok w h))
    ∙ ap (λ t. lane_formed w && (leb (word 1 w) 7 && leb (word 12 w) 3) && (handle_good (word 13 w) && speed_legal (option_at 9 w)) && t
    && (ascending (ids_at 18 w) && ascending (ids_at 35 w)) && center_asked c w) (sym (lane-names most c w))))
  where
    center_asked : List Float → List ℕ → Bool
    center_asked c w = all (stored c) (center_span w) && all (λ x. leb (length x) 256) (optional_line (option_line_at c 6 w)) && all (all in_reach) (optional_line (option_line_at c 6 w))
