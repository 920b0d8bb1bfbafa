-- A lane's row in a merge: its links, and what the first lane takes over. Assumes nothing.
use Rattle.std.specs.Prelude.{Option, None, Some}
use mathlib.Core.Path.{◌≡◌, refl, sym, ap, ◌∙◌}
use Prim.Native.Nat.{ℕ, suc, ◌+◌, ◌≤◌, ◌<◌}
use native.Mathlib.Omega.{arith}
use mathlib.Core.Bool.{Bool, true, false, not, cond}
use mathlib.Core.List.{List, [], ◌∷◌, ◌++◌}
use lib.Dec.{eqb}
use lib.ListN.{length, get_or, set, take, drop, length-set, length-drop}
use lib.Seq.{get_or-drop, drop-drop, length-take-le, drop_at}
use borrow.Author.Tests.{eq-eqb, ne_eqb}
use Rattle.lists.specs.Rows.{over}
use Rattle.lists.specs.Select.{has, place, without, ascending}
use Rattle.lists.proofs.Rows.{length_over, store_at, store-behind}
use Rattle.lists.proofs.Select.{length_without, ascending-keep}
use Rattle.lists.proofs.Place.{place-present, length-place}
use Rattle.tables.specs.View.{word, ids_at}
use Rattle.tables.specs.Formed.{lane_formed}
use Rattle.row_tests.proofs.Formed.{lane-before, lane-after}
use Rattle.store.specs.Rows.{set_list, set_slot}
use Rattle.store.proofs.Marks.{lane-marks}
use Rattle.store.proofs.LaneRow.{lane_row}
use Rattle.store.proofs.Turns.{drop-behind}
use Rattle.mentions.specs.Naming.{slot_names, free_at, forget_at, lane_forgets}
use Rattle.mentions.proofs.Going.{lane-length, forget-length}
use Rattle.merge_draw.specs.declared.DrawnLine.{DrawnLine}
use Rattle.merge_draw.specs.declared.Taken.{Taken}
use Rattle.merge_draw.specs.Redrawing.{Linked, comes_from, ref_onto, center_onto, takes_over, row_merged, LanesLinked}
use Rattle.lookup.specs.Lookup.{row_at}
use Rattle.merge_draw.proofs.Turns.{Keeping}

-- ---- a counted list in a row

-- the list at k reads the same
abbrev SameList : ℕ → List ℕ → List ℕ → Type 0
SameList k u w = (word k u ≡ word k w) × (ids_at k u ≡ ids_at k w)

-- of rows that agree from place k on
same-behind : (k : ℕ) (u w : List ℕ) → drop k u ≡ drop k w → SameList k u w
same-behind k u w d =
    let z : k + 0 ≡ k = omega arith in
    let y : k + 1 ≡ suc k = omega arith in
    let n : word k u ≡ word k w =
    ap (λ j. get_or u j 0) (sym z) ∙ (sym (get_or-drop k u 0 0) ∙ (ap (λ v. get_or v 0 0) d ∙ (get_or-drop k w 0 0 ∙ ap (λ j. get_or w j 0) z))) in
    let t : drop (suc k) u ≡ drop (suc k) w =
    ap (λ j. drop j u) (sym y) ∙ (sym (drop-drop 1 k u) ∙ (ap (drop 1) d ∙ (drop-drop 1 k w ∙ ap (λ j. drop j w) y))) in
    (n, ap (λ m. take m (drop (suc k) u)) n ∙ ap (take (word k w)) t)

-- a list that was written reads back
list_back : (k : ℕ) (w ids : List ℕ) → k + suc (length ids) ≤ length w → (word k (set_list k ids w) ≡ length ids) × (ids_at k (set_list k ids w) ≡ ids)
unfolding set_list over
list_back k w ids h =
    let u = take k w ++ ((length ids ∷ ids) ++ drop (k + suc (length ids)) w) in
    let e : length (take k w) ≡ k = length-take-le k w (omega arith) in
    let d : drop k u ≡ (length ids ∷ ids) ++ drop (k + suc (length ids)) w = drop_at (take k w) ((length ids ∷ ids) ++ drop (k + suc (length ids)) w) k e in
    let s = same-behind k u (take k w ++ drop k u) (sym (drop_at (take k w) (drop k u) k e)) in
    let z : k + 0 ≡ k = omega arith in
    let y : k + 1 ≡ suc k = omega arith in
    let n : word k u ≡ length ids = ap (λ j. get_or u j 0) (sym z) ∙ (sym (get_or-drop k u 0 0) ∙ ap (λ v. get_or v 0 0) d) in
    let t : drop (suc k) u ≡ ids ++ drop (k + suc (length ids)) w = ap (λ j. drop j u) (sym y) ∙ (sym (drop-drop 1 k u) ∙ ap (drop 1) d) in
    (n, ap (λ m. take m (drop (suc k) u)) n ∙ (ap (take (length ids)) t ∙ whole ids (drop (k + suc (length ids)) w)))
  where
    whole : (a b : List ℕ) → take (length a) (a ++ b) ≡ a
    whole [] b = refl
    whole (x ∷ a) b = ap (λ z. x ∷ z) (whole a b)

-- ---- the predecessors of a row that forgets a lane

module _ (w : List ℕ) (a : ℕ) (f : (length w ≡ 52) × (lane_formed w ≡ true)) where
  abbrev qs : List ℕ
  qs = without a (ids_at 18 w)

  ids_few : (k : ℕ) → word k w ≤ 16 → k + 17 ≤ 52 → length (ids_at k w) ≤ 16
  ids_few k h r = omega (arith, f.0, length-take-le (word k w) (drop (suc k) w) (rw length-drop (omega (arith, f.0))))

  few-before : length qs ≤ 16
  few-before = omega (arith, length_without a (ids_at 18 w), ids_few 18 (lane-before w f.1) (omega arith))

  few-after : length (without a (ids_at 35 w)) ≤ 16
  few-after = omega (arith, length_without a (ids_at 35 w), ids_few 35 (lane-after w f.1) (omega arith))

  abbrev v : List ℕ
  v = forget_at a 35 w

  long : length v ≡ 52
  long = forget-length w 35 a (omega (arith, f.0, lane-after w f.1)) ∙ f.0

  kept-before : ids_at 18 v ≡ ids_at 18 w
  kept-before = (lane_row w f.0).before-kept (lane-marks w f.1) (without a (ids_at 35 w)) few-after

  abbrev u : List ℕ
  u = set_list 18 qs v

  forgot : forget_at a 18 v ≡ u
  forgot = ap (λ ids. set_list 18 (without a ids) v) kept-before

  u-back : (word 18 u ≡ length qs) × (ids_at 18 u ≡ qs)
  u-back = list_back 18 v qs (omega (arith, long, few-before))

  u-long : length u ≡ 52
  unfolding set_list
  u-long = length_over v 18 (length qs ∷ qs) (omega (arith, long, few-before)) ∙ long

  -- a slot that is freed lies before the list
  freed : (k : ℕ) (x : List ℕ) → suc k ≤ 18 → length x ≡ 52 → (length (free_at a k x) ≡ 52) × SameList 18 (free_at a k x) x
  unfolding set_slot
  freed k x h e = go (slot_names a k x)
    where
      go : (b : Bool) → (length (cond b (set_slot k None x) x) ≡ 52) × SameList 18 (cond b (set_slot k None x) x) x
      go true = (length_over x k (0 ∷ []) (omega arith) ∙ e, same-behind 18 (over x k (0 ∷ [])) x (drop-behind x k (0 ∷ []) 18 (omega arith) (omega arith)))
      go false = (e, (refl, refl))

  -- the predecessors of the row that has forgotten the lane, and their count
  pub forgot_before : (word 18 (lane_forgets a w) ≡ length qs) × (ids_at 18 (lane_forgets a w) ≡ qs)
  forgot_before =
      let r = freed 16 u (omega arith) u-long in
      let l = freed 14 (free_at a 16 u) (omega arith) r.0 in
      let e : lane_forgets a w ≡ free_at a 14 (free_at a 16 u) = ap (λ x. free_at a 14 (free_at a 16 x)) forgot in
      (ap (word 18) e ∙ (l.1.0 ∙ (r.1.0 ∙ u-back.0)), ap (ids_at 18) e ∙ (l.1.1 ∙ (r.1.1 ∙ u-back.1)))

  pub forgot_few : length qs ≤ 16
  forgot_few = few-before

-- ---- the links of a row

module _ (w : List ℕ) (first second : ℕ) (f : Linked w) where
  pub links-room : 19 + word 18 w ≤ length w
  links-room = omega (arith, f.0, lane-before w f.1.0)

  module _ (x : List ℕ) (e : x ≡ lane_forgets second w) where
    pub forgets-long : length x ≡ 52
    forgets-long = ap length e ∙ lane-length w second (f.0, f.1.0)

    few : word 18 x ≤ 16
    few = omega (arith, ap (word 18) e, (forgot_before w second (f.0, f.1.0)).0, forgot_few w second (f.0, f.1.0))

    pub place-asks : (19 + word 18 x ≤ length x) × ((ascending (ids_at 18 x) ≡ true) × (has first (ids_at 18 x) ≡ false → 19 + word 18 x < length x))
    unfolding without
    place-asks = (
      omega (arith, few, forgets-long),
      (
        ap ascending (ap (ids_at 18) e ∙ (forgot_before w second (f.0, f.1.0)).1) ∙ ascending-keep (λ y. not (eqb second y)) (ids_at 18 w) f.1.1,
        λ h. omega (arith, few, forgets-long),
      ),
    )

    module _ (b : Bool) (be : b ≡ has second (ids_at 18 w)) where
      pub came : b ≡ true → (y : List ℕ) → y ≡ set_list 18 (place first (ids_at 18 x)) x → y ≡ comes_from first second w
      came t y z =
          let g = lane_forgets second w in
          z ∙ (ap (λ n. set_list 18 (place first (ids_at 18 n)) n) e ∙ sym (ap (λ n. cond n (set_list 18 (place first (ids_at 18 g)) g) g) (sym be ∙ t)))

      pub came-not : b ≡ false → x ≡ comes_from first second w
      came-not t = let g = lane_forgets second w in e ∙ sym (ap (λ n. cond n (set_list 18 (place first (ids_at 18 g)) g) g) (sym be ∙ t))

place-few : (x : ℕ) (ys : List ℕ) → ascending ys ≡ true → length (place x ys) ≤ length ys + 1
place-few x ys up = go (has x ys) refl
  where
    go : (b : Bool) → has x ys ≡ b → length (place x ys) ≤ length ys + 1
    go true e = omega (arith, ap length (place-present x ys up e))
    go false e = omega (arith, length-place x ys e)

-- ---- what the first lane takes over

module _ (w : List ℕ) (k : ℕ) (h : k + 2 ≤ length w) where
  pub ref-room : (id : ℕ) → k + 1 < length (set w k id)
  ref-room id = omega (arith, length-set w k id)

  pub ref-put : (o : Option ℕ) (id : ℕ) → o ≡ Some id → set (set w k id) (k + 1) 0 ≡ ref_onto o k w
  ref-put o id t =
      ap (λ v. set v (k + 1) 0) (store_at w k id (omega arith)) ∙ (store-behind w k (k + 1) (id ∷ []) 0 refl (omega arith) ∙ sym (ap (λ z. ref_onto z k w) t))

  pub ref-off : (o : Option ℕ) → o ≡ None → w ≡ ref_onto o k w
  ref-off o t = sym (ap (λ z. ref_onto z k w) t)

  pub ref-long : (o : Option ℕ) → length (ref_onto o k w) ≡ length w
  ref-long None = refl
  ref-long (Some id) = length_over w k (id ∷ 0 ∷ []) (omega arith)

module _ (w : List ℕ) (h : length w ≡ 52) where
  pub center_put : (o : Option DrawnLine) (l : DrawnLine) → o ≡ Some l → set (set (set w 6 1) 7 l.start) 8 l.size ≡ center_onto o w
  center_put o l t =
      ap (λ v. set (set v 7 l.start) 8 l.size) (store_at w 6 1 (omega arith))
      ∙ (ap (λ v. set v 8 l.size) (store-behind w 6 7 (1 ∷ []) l.start refl (omega arith))
      ∙ (store-behind w 6 8 (1 ∷ l.start ∷ []) l.size refl (omega arith) ∙ sym (ap (λ z. center_onto z w) t)))

  pub center_off : (o : Option DrawnLine) → o ≡ None → set w 6 0 ≡ center_onto o w
  center_off o t = store_at w 6 0 (omega arith) ∙ sym (ap (λ z. center_onto z w) t)

  pub center_long : (o : Option DrawnLine) → length (center_onto o w) ≡ 52
  center_long None = length_over w 6 (0 ∷ []) (omega arith) ∙ h
  center_long (Some l) = length_over w 6 (1 ∷ l.start ∷ l.size ∷ []) (omega arith) ∙ h

-- ---- the whole row, store by store

module _ (w : List ℕ) (k : Taken) (ids : List ℕ) (h : length w ≡ 52) (few : length ids ≤ 16) where
  module _ (a : List ℕ) (p : a ≡ ref_onto k.left 2 w) where
    pub left-long : length a ≡ 52
    left-long = ap length p ∙ (ref-long w 2 (omega arith) k.left ∙ h)

    module _ (b : List ℕ) (q : b ≡ ref_onto k.right 4 a) where
      pub right-long : length b ≡ 52
      right-long = ap length q ∙ (ref-long a 4 (omega (arith, left-long)) k.right ∙ left-long)

      module _ (c : List ℕ) (r : c ≡ center_onto k.center b) where
        pub centered-long : length c ≡ 52
        centered-long = ap length r ∙ center_long b right-long k.center

        pub list-fits : 36 + length ids ≤ length c
        list-fits = omega (arith, centered-long)

        pub taken-over : (d : List ℕ) → d ≡ set_list 35 ids c → d ≡ takes_over k ids w
        taken-over d z = z ∙ ap (set_list 35 ids) (r ∙ ap (center_onto k.center) (q ∙ ap (ref_onto k.right 4) p))

  pub taken-long : length (takes_over k ids w) ≡ 52
  unfolding set_list
  taken-long =
      let a = ref_onto k.left 2 w in
      let b = ref_onto k.right 4 a in
      let c = center_onto k.center b in
      let l : length c ≡ 52 = centered-long a refl b refl c refl in
      length_over c 35 (length ids ∷ ids) (omega arith) ∙ l

module _ (w : List ℕ) (first second : ℕ) (k : Taken) (ids : List ℕ) (f : Linked w) (few : length ids ≤ 16) where
  -- the links keep the length
  pub comes-long : length (comes_from first second w) ≡ 52
  unfolding set_list
  comes-long = go (has second (ids_at 18 w))
    where
      x : List ℕ
      x = lane_forgets second w

      long52 : length x ≡ 52
      long52 = forgets-long w first second f x refl

      short : length (place first (ids_at 18 x)) ≤ 17
      short = omega (arith, place-few first (ids_at 18 x) (place-asks w first second f x refl).1.0, ap length (forgot_before w second (f.0, f.1.0)).1, forgot_few w second (f.0, f.1.0))

      go : (b : Bool) → length (cond b (set_list 18 (place first (ids_at 18 x)) x) x) ≡ 52
      go true = length_over x 18 (length (place first (ids_at 18 x)) ∷ place first (ids_at 18 x)) (omega (arith, short, long52)) ∙ long52
      go false = long52

  module _ (x : List ℕ) (e : x ≡ comes_from first second w) where
    pub comes-asks : (length x ≡ 52) × (length ids ≤ 16)
    comes-asks = (ap length e ∙ comes-long, few)

    pub merged-first : word 0 w ≡ first → (y : List ℕ) → y ≡ takes_over k ids x → y ≡ row_merged first second k ids w
    merged-first t y z =
        z ∙ (ap (takes_over k ids) e ∙ sym (ap (λ b. cond b (takes_over k ids (comes_from first second w)) (comes_from first second w)) (eq-eqb (word 0 w) first t)))

    pub merged-other : (word 0 w ≡ first → ⊥) → x ≡ row_merged first second k ids w
    merged-other t = e ∙ sym (ap (λ b. cond b (takes_over k ids (comes_from first second w)) (comes_from first second w)) (ne_eqb (word 0 w) first t))

  pub merged-long : length (row_merged first second k ids w) ≡ 52
  merged-long = go (eqb (word 0 w) first)
    where
      go : (b : Bool) → length (cond b (takes_over k ids (comes_from first second w)) (comes_from first second w)) ≡ 52
      go true = taken-long (comes_from first second w) k ids comes-long few
      go false = comes-long

-- ---- every row of a table

module _ (t : List ℕ) (first second : ℕ) (k : Taken) (ids : List ℕ) (f : LanesLinked t) (few : length ids ≤ 16) where
  pub merged_keeps : Keeping 52 (row_merged first second k ids) t
  merged_keeps j l = merged-long (row_at 52 t j) first second k ids (f.rows j l) few

pub row-asks : (t ids : List ℕ) → LanesLinked t → length ids ≤ 16 → (j : ℕ) → j < word 0 t → (r : List ℕ) → r ≡ row_at 52 t j → (Linked r) × (length ids ≤ 16)
row-asks t ids f few j l r e = rw e (f.rows j l, few)
