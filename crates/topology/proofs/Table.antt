-- The lane table with its rows changed one by one. Assumes nothing.
use mathlib.Core.Path.{◌≡◌, refl, sym, ap, ◌∙◌}
use Prim.Native.Nat.{ℕ, suc, ◌+◌, ◌*◌, ◌≤◌, ◌<◌}
use native.Mathlib.Nat.{add-zero}
use native.Mathlib.Omega.{arith}
use mathlib.Core.Logic.{◌⊎◌, ⊎_elim}
use mathlib.Core.Bool.{Bool, true, false}
use mathlib.Core.List.{List, [], ◌∷◌, ◌++◌}
use lib.ListN.{length, get_or, take, drop, length-drop, take-append-drop}
use lib.Seq.{drop-drop, drop-cons, length-take-le, get_or-drop}
use lib.Dec.{ltb}
use borrow.Author.Tests.{ltb-true, ltb-false}
use Rattle.lists.specs.Rows.{reads, over, keys}
use Rattle.lists.proofs.Rows.{get_d_reads, key-at, length-keys, over-part, over_in, length_over}
use Rattle.lists.proofs.Select.{ascending-places}
use Rattle.entities.specs.Records.{Lane}
use Rattle.tables.specs.View.{word, rows, lane_of}
use Rattle.tables.specs.Formed.{lane_formed}
use Rattle.row_tests.specs.Returned.{searchable, lane_at}
use Rattle.row_tests.proofs.Lanes.{lanes-ascend, lanes-some, lanes-room, lanes-formed, lane_room, id-at}
use Rattle.store.specs.Store.{lane_onto}
use Rattle.store.specs.Rows.{map_rows, on_rows, keyed}
use Rattle.store.proofs.Rows.{front-over, passing, row_at, rows_agree, rows-agree-at, rows_stay, rows-twice, rows-read, rows-length, one-keyed}
use Rattle.store.proofs.Whole.{store-changed}
use Rattle.topology.specs.Topology.{lanes_changed, id_at}

-- a change of rows that keeps their length, their form and their id
abbrev pub Keeps : (List ℕ → List ℕ) → Type 0
Keeps g = (w : List ℕ) → length w ≡ 52 → lane_formed w ≡ true → (length (g w) ≡ 52) × ((lane_formed (g w) ≡ true) × (word 0 (g w) ≡ word 0 w))

same_row : (t : List ℕ) (j : ℕ) → row_at 52 (drop 1 t) j ≡ lane_at t j
same_row t j = ap (take 52) (drop-drop (j * 52) 1 t)

pub row_words : (t : List ℕ) (i : ℕ) → 1 + i * 52 + 52 ≤ length t → length (lane_at t i) ≡ 52
row_words t i r = length-take-le 52 (drop (1 + i * 52) t) (rw length-drop (omega arith))

-- a part of a row written is the row written
pub over-row : (t : List ℕ) (i k : ℕ) (l : List ℕ) → 1 + i * 52 + 52 ≤ length t → k + length l ≤ 52
    → over t (1 + i * 52 + k) l ≡ over t (1 + i * 52) (over (lane_at t i) k l)
over-row t i k l r h =
    let a : 1 + i * 52 ≤ length t = omega arith in
    let w : drop (1 + i * 52) t ≡ lane_at t i ++ drop 52 (drop (1 + i * 52) t) = sym (take-append-drop 52 (drop (1 + i * 52) t)) in
    let n : length (lane_at t i) ≡ 52 = row_words t i r in
    let m : length (over (lane_at t i) k l) ≡ 52 = length_over (lane_at t i) k l (rw n h) ∙ n in
    let inner : over (drop (1 + i * 52) t) k l ≡ over (drop (1 + i * 52) t) 0 (over (lane_at t i) k l) =
    ap (λ z. over z k l) w ∙ (over_in (lane_at t i) (drop 52 (drop (1 + i * 52) t)) k l (rw n h) ∙ sym (front-over 52 (drop (1 + i * 52) t) (over (lane_at t i) k l) m)) in
    sym (over-part t (1 + i * 52) k l a) ∙ (ap (λ z. take (1 + i * 52) t ++ z) inner ∙ (over-part t (1 + i * 52) 0 (over (lane_at t i) k l) a ∙ rw add-zero))

over-behind : (x : ℕ) (w : List ℕ) (a : ℕ) (l : List ℕ) → x ∷ over w a l ≡ over (x ∷ w) (1 + a) l
unfolding over
over-behind x w a l =
    let e : 1 + a ≡ suc a = omega arith in
    let f : suc a + length l ≡ suc (a + length l) = omega arith in
    rw (e, f)

strict : (x y : ℕ) → x < y → x ≡ y → ⊥
strict x y l e = omega arith

lane-id : (w : List ℕ) → (lane_of [] w).id ≡ get_or w 0 0
unfolding lane_of
lane-id w = refl

module _ (t : List ℕ) (h : searchable t ≡ true) where
  -- a lane's id is in one row
  pub unique : (i j : ℕ) → i < word 0 t → j < word 0 t → id_at t j ≡ id_at t i → j ≡ i
  unique i j l m e =
      let a : get_or ks i 0 ≡ id_at t i = key i l in
      let b : get_or ks j 0 ≡ id_at t j = key j m in
      let n = length-keys 52 (word 0 t) (drop 1 t) in
      order (ltb i j) refl (ltb j i) refl
    where
      ks : List ℕ
      ks = keys 52 (word 0 t) (drop 1 t)

      key : (k : ℕ) → k < word 0 t → get_or ks k 0 ≡ id_at t k
      key k q =
          key-at 52 (word 0 t) k (drop 1 t) (omega arith) q
          ∙ (get_or-drop 1 t (k * 52) 0 ∙ id-at t k)

      within : (k : ℕ) → k < word 0 t → k < length ks
      within k q = rw (length-keys 52 (word 0 t) (drop 1 t)) q

      order : (x : Bool) → ltb i j ≡ x → (y : Bool) → ltb j i ≡ y → j ≡ i
      order true p y q =
          let z = ascending-places ks i j (lanes-ascend t h) (ltb-true i j p) (within j m) in
          let a = key i l in
          let b = key j m in
          absurd (strict (get_or ks i 0) (get_or ks j 0) z (a ∙ (sym e ∙ sym b)))
      order false p true q =
          let z = ascending-places ks j i (lanes-ascend t h) (ltb-true j i q) (within i l) in
          let a = key i l in
          let b = key j m in
          absurd (strict (get_or ks j 0) (get_or ks i 0) z (b ∙ (e ∙ sym a)))
      order false p false q =
          let u = ltb-false i j p in
          let v = ltb-false j i q in
          omega arith

  pub all-formed : passing 52 lane_formed (word 0 t) (drop 1 t)
  unfolding rows
  all-formed = lanes-formed t h

  -- changes that agree on formed rows
  pub lanes-agree : (f g : List ℕ → List ℕ) → ((w : List ℕ) → length w ≡ 52 → lane_formed w ≡ true → f w ≡ g w) → on_rows 52 f t ≡ on_rows 52 g t
  unfolding on_rows
  lanes-agree f g e = ap (λ z. word 0 t ∷ z) (rows_agree 52 lane_formed f g e (word 0 t) (drop 1 t) (lanes-room t h) all-formed)

  -- changes that agree on every row there is
  pub lanes-agree-at : (f g : List ℕ → List ℕ) → ((j : ℕ) → j < word 0 t → f (lane_at t j) ≡ g (lane_at t j)) → on_rows 52 f t ≡ on_rows 52 g t
  unfolding on_rows
  lanes-agree-at f g e =
      ap (λ z. word 0 t ∷ z) (rows-agree-at 52 f g (word 0 t) (drop 1 t) (λ j l. ap f (same_row t j) ∙ (e j l ∙ ap g (sym (same_row t j)))))

  -- a change that leaves every row there is
  pub lanes-stay : (f : List ℕ → List ℕ) → ((j : ℕ) → j < word 0 t → f (lane_at t j) ≡ lane_at t j) → on_rows 52 f t ≡ t
  unfolding on_rows
  lanes-stay f e =
      let a : on_rows 52 f t ≡ on_rows 52 (λ w. w) t = lanes-agree-at f (λ w. w) e in
      let b : map_rows 52 (λ w. w) (word 0 t) (drop 1 t) ≡ drop 1 t = rows_stay 52 lane_formed (λ w. w) (λ w l q. refl) (word 0 t) (drop 1 t) (lanes-room t h) all-formed in
      let c : t ≡ word 0 t ∷ drop 1 t = drop-cons t 0 0 (lanes-some t h) in
      a ∙ (ap (λ z. word 0 t ∷ z) b ∙ sym c)

  -- one change after another
  pub lanes-twice : (f g : List ℕ → List ℕ) → Keeps f → on_rows 52 g (on_rows 52 f t) ≡ on_rows 52 (λ w. g (f w)) t
  unfolding on_rows
  lanes-twice f g k =
      ap (λ z. word 0 t ∷ z) (rows-twice 52 lane_formed f g (λ w l q. (k w l q).0) (word 0 t) (drop 1 t) (lanes-room t h) all-formed)

  -- the row of one lane
  pub one_lane : (g : List ℕ → List ℕ) (i : ℕ) → i < word 0 t → length (g (lane_at t i)) ≡ 52 → on_rows 52 (keyed (id_at t i) g) t ≡ over t (1 + i * 52) (g (lane_at t i))
  unfolding on_rows
  one_lane g i l k =
      let w = drop 1 t in
      let n = word 0 t in
      let e : get_or (row_at 52 w i) 0 0 ≡ id_at t i = ap (word 0) (same_row t i) in
      let g0 : length (g (row_at 52 w i)) ≡ 52 = ap (λ z. length (g z)) (same_row t i) ∙ k in
      let u : map_rows 52 (keyed (id_at t i) g) n w ≡ over w (i * 52) (g (row_at 52 w i)) = one-keyed 52 (id_at t i) g n i w (lanes-room t h) l e only g0 in
      let c : t ≡ word 0 t ∷ w = drop-cons t 0 0 (lanes-some t h) in
      ap (λ z. word 0 t ∷ z) (u ∙ ap (λ z. over w (i * 52) (g z)) (same_row t i)) ∙ (over-behind (word 0 t) w (i * 52) (g (lane_at t i)) ∙ ap (λ z. over z (1 + i * 52) (g (lane_at t i))) (sym c))
    where
      only : (j : ℕ) → j < word 0 t → get_or (row_at 52 (drop 1 t) j) 0 0 ≡ id_at t i → j ≡ i
      only j m f = unique i j l m (ap (word 0) (sym (same_row t j)) ∙ f)

  -- records changed, in words
  pub lanes-changed : (f : Lane → Lane) → ((l : Lane) → (f l).id ≡ l.id) → lanes_changed f t ≡ on_rows 52 (λ w. lane_onto w (f (lane_of [] w))) t
  unfolding lanes_changed on_rows
  lanes-changed f same = store-changed 52 lane_onto (λ l. l.id) (lane_of []) t (lanes-room t h) f (λ w. same (lane_of [] w) ∙ lane-id w)

  -- a change that keeps rows keeps the table
  pub lanes-kept : (g : List ℕ → List ℕ) → Keeps g → searchable (on_rows 52 g t) ≡ true
  unfolding searchable on_rows rows keys
  lanes-kept g k =
      let n = word 0 t in
      let w = drop 1 t in
      let len : (r : List ℕ) → length r ≡ 52 → lane_formed r ≡ true → length (g r) ≡ 52 = λ r l q. (k r l q).0 in
      let same : length (map_rows 52 g n w) ≡ length w = rows-length 52 lane_formed g len n w (lanes-room t h) all-formed in
      let c : t ≡ word 0 t ∷ w = drop-cons t 0 0 (lanes-some t h) in
      let whole : suc (length (map_rows 52 g n w)) ≡ length t = ap suc same ∙ ap length (sym c) in
      let ids : reads 52 (λ r. get_or r 0 0) n (map_rows 52 g n w) ≡ reads 52 (λ r. get_or r 0 0) n w =
      rows-read 52 lane_formed g (λ r. get_or r 0 0) (λ r. get_or r 0 0) len (λ r l q. (k r l q).1.1) n w (lanes-room t h) all-formed in
      let forms : reads 52 lane_formed n (map_rows 52 g n w) ≡ reads 52 lane_formed n w =
      rows-read 52 lane_formed g lane_formed lane_formed len (λ r l q. (k r l q).1.0 ∙ sym q) n w (lanes-room t h) all-formed in
      rw (whole, ids, forms) h

  -- a row of the changed table
  pub lane-changed : (g : List ℕ → List ℕ) → Keeps g → (j : ℕ) → j < word 0 t → lane_at (on_rows 52 g t) j ≡ g (lane_at t j)
  unfolding on_rows
  lane-changed g k j l =
      let n = word 0 t in
      let w = drop 1 t in
      let v = map_rows 52 g n w in
      let rs : reads 52 (λ (r : List ℕ). r) n v ≡ reads 52 g n w =
      rows-read 52 lane_formed g (λ r. r) g (λ r l q. (k r l q).0) (λ r l q. refl) n w (lanes-room t h) all-formed in
      let a : get_or (reads 52 (λ (r : List ℕ). r) n v) j [] ≡ row_at 52 v j = get_d_reads 52 (λ (r : List ℕ). r) n j v [] l in
      let b : get_or (reads 52 g n w) j [] ≡ g (row_at 52 w j) = get_d_reads 52 g n j w [] l in
      sym (same_row (word 0 t ∷ v) j) ∙ (sym a ∙ (ap (λ z. get_or z j []) rs ∙ (b ∙ ap g (same_row t j))))

-- ---- places within a row

-- a list of links and its slots lie in the row
pub links-room : (t : List ℕ) (h : searchable t ≡ true) (i k : ℕ) → i < word 0 t → (k ≡ 18) ⊎ (k ≡ 35) → 1 + i * 52 + k + 17 ≤ length t
links-room t h i k l e =
    let r = lane_room t h i l in
    let s : k + 17 ≤ 52 = ⊎_elim (λ x. omega arith) (λ x. omega arith) e in
    omega arith
