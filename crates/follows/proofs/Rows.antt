-- A rule's row whose own lanes follow: one cut lane, one turn over all of them, and the lists of a right of way. Assumes nothing.
use mathlib.Core.Path.{◌≡◌, refl, sym, ap, ◌∙◌}
use Prim.Native.Nat.{ℕ, suc, ◌+◌, ◌-◌, ◌≤◌, ◌<◌}
use native.Mathlib.Omega.{arith}
use mathlib.Core.Bool.{Bool, true, false}
use mathlib.Core.List.{List, ◌∷◌, ◌++◌}
use lib.ListN.{length, get_or, set, take, drop, length-set}
use lib.Seq.{get_or-drop, drop-drop, take_at}
use borrow.Rule.Slice.PartMut.{mid_of, put_mid, set_mid_at, mid_len}
use Rattle.lists.specs.Rows.{over}
use Rattle.lists.proofs.Rows.{length_over, drop-from-over, take-before-over}
use Rattle.rules.specs.Turns.{swap_first}
use Rattle.tables.specs.View.{word, ids_at}
use Rattle.store.specs.Rows.{set_list}
use Rattle.store.proofs.Turns.{drop-behind}
use Rattle.store.proofs.Lists.{list_put, list-again, ids-many, ids-part, own-list}
use Rattle.mentions.specs.Naming.{change_at}
use Rattle.mentions.proofs.Tests.{ids-lent}
use Rattle.follows.specs.Following.{first_place, pair, followed, followed_all}
use Rattle.follows.proofs.Places.{followed-absent, followed-past, followed-before, followed-added, followed-long, followed-all-long, followed-step, followed-end, swap-length}

-- ---- a list written, read back and written anew

module _ (k : ℕ) (w ids : List ℕ) (h : k + 1 + length ids ≤ length w) where
  written : drop k (set_list k ids w) ≡ length ids ∷ ids ++ drop (k + suc (length ids)) w
  unfolding set_list
  written = drop-from-over w k (length ids ∷ ids) (omega arith)

  pub count-back : word k (set_list k ids w) ≡ length ids
  count-back =
      let z : k + 0 ≡ k = omega arith in
      ap (λ i. get_or (set_list k ids w) i 0) (sym z) ∙ (sym (get_or-drop k (set_list k ids w) 0 0) ∙ ap (λ x. get_or x 0 0) written)

  pub list_back : ids_at k (set_list k ids w) ≡ ids
  list_back =
      let s : k + 1 ≡ suc k = omega arith in
      let d : drop (suc k) (set_list k ids w) ≡ ids ++ drop (k + suc (length ids)) w =
      ap (λ i. drop i (set_list k ids w)) (sym s) ∙ (sym (drop-drop 1 k (set_list k ids w)) ∙ ap (drop 1) written) in
      rw (count-back, d) (take_at ids (drop (k + suc (length ids)) w) (length ids) refl)

  pub list-long : length (set_list k ids w) ≡ length w
  unfolding set_list
  list-long = length_over w k (length ids ∷ ids) (omega arith)

  -- a longer one over it
  pub list-twice : (js : List ℕ) → length ids ≤ length js → set_list k js (set_list k ids w) ≡ set_list k js w
  unfolding set_list over
  list-twice js l =
      let one = length ids ∷ ids in
      let two = length js ∷ js in
      let a : take k (over w k one) ≡ take k w = take-before-over w k one (omega arith) in
      let b : drop (k + length two) (over w k one) ≡ drop (k + length two) w = drop-behind w k one (k + length two) (omega arith) (omega arith) in
      rw (a, b)

-- one id of a list stored
pub list-stored : (w : List ℕ) (k p x : ℕ) → k + 1 + word k w ≤ length w → p < word k w → set w (k + 1 + p) x ≡ set_list k (set (ids_at k w) p x) w
list-stored w k p x room h =
    let n = word k w in
    let m = mid_of (k + 1) (k + 1 + n - (k + 1)) w in
    let e : m ≡ ids_at k w = ids-lent w k n in
    let l : length m ≡ n = ap length e ∙ ids-many w k room in
    sym (set_mid_at (k + 1) (k + 1 + n - (k + 1)) p w x (omega arith))
    ∙ (list-again w (set m p x) k room (length-set m p x ∙ l) ∙ ap (λ z. set_list k (set z p x) w) e)

-- ---- one cut lane

module _ (anchored : Bool) (past : List Bool) (w : List ℕ) (i j : ℕ) (p : (length w ≡ 330) × ((word 5 w ≤ 64) × ((length past ≡ 64) × (length (followed anchored past i j (ids_at 5 w)) ≤ 64)))) where
  abbrev ids : List ℕ
  ids = ids_at 5 w

  abbrev n : ℕ
  n = word 5 w

  many : length ids ≡ n
  many = ids-many w 5 (omega (arith, p.0, p.1.0))

  -- the place that was found
  module _ (q : ℕ) (s : (q ≡ first_place i (take (6 + n - 6) (drop 6 w))) × (q ≤ length (take (6 + n - 6) (drop 6 w)))) where
    found : q ≡ first_place i ids
    found = s.0 ∙ ap (first_place i) (ids-lent w 5 n)

    pub follow-absent : q ≡ n → w ≡ change_at (followed anchored past i j) 5 w
    follow-absent e = sym (ap (λ z. set_list 5 z w) (followed-absent anchored past i j ids (sym found ∙ (e ∙ sym many))) ∙ own-list w 5 (omega (arith, p.0, p.1.0)))

    module _ (e : q ≡ n → ⊥) where
      pub place-within : q < n
      place-within = omega (arith, s.1, ap length (ids-lent w 5 n), many)

      there : first_place i ids < length ids
      there = omega (arith, place-within, found, many)

      pub follow-past : anchored ≡ true → get_or past q false ≡ true → set w (6 + q) j ≡ change_at (followed anchored past i j) 5 w
      follow-past a m =
          list-stored w 5 q j (omega (arith, p.0, p.1.0)) place-within
          ∙ ap (λ z. set_list 5 z w) (ap (λ z. set ids z j) found ∙ sym (followed-past anchored past i j ids a there (ap (λ z. get_or past z false) (sym found) ∙ m)))

      pub follow-before : anchored ≡ true → get_or past q false ≡ false → w ≡ change_at (followed anchored past i j) 5 w
      follow-before a m =
          sym
          (ap (λ z. set_list 5 z w) (followed-before anchored past i j ids a there (ap (λ z. get_or past z false) (sym found) ∙ m))
          ∙ own-list w 5 (omega (arith, p.0, p.1.0)))

      module _ (a : anchored ≡ false) where
        added : length (swap_first i (pair i j) ids) ≡ n + 1
        added = omega (arith, swap-length i (pair i j) ids there, many)

        pub follow-room : n + 1 ≤ 64
        follow-room = omega (arith, added, ap length (followed-added anchored past i j ids a), p.1.1.1)

        abbrev slots : List ℕ
        slots = mid_of 6 (6 + n + 1 - 6) w

        same : take n slots ≡ ids
        same = let z : 6 + n + 1 ≡ 6 + (n + 1) = omega arith in ap (λ m. take n (mid_of 6 (m - 6) w)) z ∙ ids-part w 5 (omega (arith, p.0, p.1.0)) (n + 1) (omega arith)

        pub insert-may : (n < length slots) × ((q ≡ first_place i (take n slots)) × (q < n))
        insert-may =
            let l = mid_len 6 (6 + n + 1) w (omega (arith, p.0, follow-room)) in
            (omega arith, (found ∙ ap (first_place i) (sym same), place-within))

        pub follow-added : (v : List ℕ) → v ≡ over slots 0 (swap_first i (pair i j) (take n slots)) → set (put_mid 6 (6 + n + 1 - 6) w v) 5 (n + 1) ≡ change_at (followed anchored past i j) 5 w
        unfolding set_list
        follow-added v f =
            let z : 6 + n + 1 ≡ 6 + (n + 1) = omega arith in
            let new = swap_first i (pair i j) ids in
            let g : v ≡ over (mid_of 6 (6 + (n + 1) - 6) w) 0 new = f ∙ (ap (λ x. over slots 0 (swap_first i (pair i j) x)) same ∙ ap (λ m. over (mid_of 6 (m - 6) w) 0 new) z) in
            ap (λ m. set (put_mid 6 (m - 6) w v) 5 (n + 1)) z
            ∙ (list_put w v new 5 (n + 1) (omega (arith, p.0, follow-room)) (omega (arith, added)) g (n + 1)
            ∙ (ap (λ x. over w 5 (x ∷ new)) (sym added) ∙ ap (λ x. set_list 5 x w) (sym (followed-added anchored past i j ids a))))

-- ---- all cut lanes

-- the first r cut lanes are done: only the list has changed, and the others make of it what all make of the list at entry
pub record Followed (anchored : Bool) (past : List Bool) (next : ℕ) (cut w₀ w : List ℕ) (r : ℕ) : Type 0 where
  pub upto : r ≤ length cut
  pub long : length w ≡ length w₀
  pub few : word 5 w ≤ 64
  pub list : w ≡ set_list 5 (ids_at 5 w) w₀
  pub whole : followed_all anchored past next cut (ids_at 5 w₀) ≡ followed_all anchored past (next + r) (drop r cut) (ids_at 5 w)

module _ (anchored : Bool) (past : List Bool) (next : ℕ) (cut w₀ : List ℕ)
    (p : (length w₀ ≡ 330) × ((word 5 w₀ ≤ 64) × ((length past ≡ 64) × (length (followed_all anchored past next cut (ids_at 5 w₀)) ≤ 64)))) where
  pub followed-none : Followed anchored past next cut w₀ w₀ 0
  followed-none =
      let z : next + 0 ≡ next = omega arith in
      record {
        upto = omega arith;
        long = refl;
        few = p.1.0;
        list = sym (own-list w₀ 5 (omega (arith, p.0, p.1.0)));
        whole = ap (λ k. followed_all anchored past k cut (ids_at 5 w₀)) (sym z);
      }

  module _ (w : List ℕ) (r : ℕ) (m : Followed anchored past next cut w₀ w r) where
    module _ (l : r < length cut) where
      abbrev new : List ℕ
      new = followed anchored past (get_or cut r 0) (next + r) (ids_at 5 w)

      rest : followed_all anchored past next cut (ids_at 5 w₀) ≡ followed_all anchored past (next + (r + 1)) (drop (r + 1) cut) new
      rest = m.whole ∙ followed-step anchored past next cut r (ids_at 5 w) l

      fits : length new ≤ 64
      fits = omega (arith, p.1.1.1, ap length rest, followed-all-long anchored past (next + (r + 1)) (drop (r + 1) cut) new)

      pub follow-may : (length w ≡ 330) × ((word 5 w ≤ 64) × ((length past ≡ 64) × (length new ≤ 64)))
      follow-may = (m.long ∙ p.0, (m.few, (p.1.1.0, fits)))

      pub followed-turn : (v : List ℕ) → v ≡ change_at (followed anchored past (get_or cut r 0) (next + r)) 5 w → Followed anchored past next cut w₀ v (r + 1)
      followed-turn v e =
          let room : 5 + 1 + length new ≤ length w = omega (arith, fits, m.long, p.0) in
          let read : ids_at 5 v ≡ new = ap (ids_at 5) e ∙ list_back 5 w new room in
          let old : 5 + 1 + length (ids_at 5 w) ≤ length w₀ = omega (arith, p.0, m.few, ids-many w 5 (omega (arith, m.long, m.few, p.0))) in
          record {
            upto = omega arith;
            long = ap length e ∙ (list-long 5 w new room ∙ m.long);
            few = omega (arith, fits, ap (word 5) e ∙ count-back 5 w new room);
            list =
                e
                ∙ (ap (set_list 5 new) m.list
                ∙ (list-twice 5 w₀ (ids_at 5 w) old new (followed-long anchored past (get_or cut r 0) (next + r) (ids_at 5 w)) ∙ ap (λ z. set_list 5 z w₀) (sym read)));
            whole = rest ∙ ap (followed_all anchored past (next + (r + 1)) (drop (r + 1) cut)) (sym read);
          }

    pub followed-done : length cut ≤ r → w ≡ change_at (followed_all anchored past next cut) 5 w₀
    followed-done l = m.list ∙ ap (λ z. set_list 5 z w₀) (sym (m.whole ∙ followed-end anchored past next cut r (ids_at 5 w) l))
