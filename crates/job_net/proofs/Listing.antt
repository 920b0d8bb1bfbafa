-- One turn of the walk through two tables: ids are the table's, others the other's, `done i` what is listed of the first i ids. Assumes nothing.
use mathlib.Core.Path.{◌≡◌, refl, sym, ap, ◌∙◌}
use mathlib.Core.Bool.{Bool, true, false, not, ◌&&◌, cond}
use mathlib.Core.List.{List, [], ◌∷◌, ◌++◌, append-nil, append_assoc}
use Prim.Native.Nat.{ℕ, zero, suc, ◌+◌, ◌-◌, ◌*◌, ◌≤◌, ◌<◌}
use native.Mathlib.Nat.{le_of_suc-le-suc, not-suc-le-zero}
use native.Mathlib.Numerals.{add-one}
use native.Mathlib.Omega.{arith}
use lib.Dec.{eqb, ltb}
use lib.ListN.{length, get_or, take, drop, length-append, length-drop}
use lib.Seq.{get_or-drop, take_all}
use Rattle.lists.specs.Rows.{keys, over}
use Rattle.lists.specs.Select.{keep, has, each, ascending}
use Rattle.lists.proofs.Rows.{over-nil, over-over, length_over, length-keys, key-at}
use Rattle.lists.proofs.Select.{ascending-places, each_append, keep-more}
use Rattle.rules.specs.Edit.{when}
use Rattle.tables.specs.View.{word}
use Rattle.report.proofs.Laws.{pairs_of}
use Rattle.row_tests.proofs.Lanes.{rows-lent}
use Rattle.lookup.specs.Lookup.{sorted_table}
use Rattle.lookup.proofs.Laws.{sorted-room, sorted-row, sorted-ascends}
use Rattle.job_net.specs.Net.{table_ids, below, absent_in, marked_in, picked_in}
use Rattle.job_net.proofs.Below.{walk-within, walk-lower, walk-finds}

-- ---- pairs of a kind and an id

pub length-words : (x : ℕ) (ids : List ℕ) → length (pairs_of x ids) ≡ length ids * 2
unfolding each
length-words x [] = refl
length-words x (i ∷ ids) = let r = length-words x ids in omega arith

pub when-few : (b : Bool) (x : ℕ) → length (when b x) ≤ 1
when-few true x = omega arith
when-few false x = omega arith

-- ---- the walk

pub record Listing (ids others : List ℕ) (done : ℕ → List ℕ) (kind at : ℕ) (out₀ out : List ℕ) (i j k : ℕ) : Type 0 where
  pub upto : i ≤ length ids
  pub beside : j ≤ length others
  pub passed : (m : ℕ) → m < j → i < length ids → get_or others m 0 < get_or ids i 0
  pub few : length (done i) ≤ i
  pub many : k ≡ at + length (done i)
  pub words : out ≡ over out₀ (at * 2) (pairs_of kind (done i))

module _ (ids others : List ℕ) (done : ℕ → List ℕ) (kind at : ℕ) (out₀ : List ℕ) where
  pub listing_begins : done 0 ≡ [] → Listing ids others done kind at out₀ out₀ 0 0 at
  unfolding each
  listing_begins e =
      record {
        upto = omega arith;
        beside = omega arith;
        passed = λ m h l. absurd (not-suc-le-zero h);
        few = rw e (omega arith);
        many = rw e (omega arith);
        words = rw e (sym (over-nil out₀ (at * 2)));
      }

  module _ (room : (at + length ids) * 2 ≤ length out₀) (out : List ℕ) (i j k : ℕ) (m : Listing ids others done kind at out₀ out i j k) where
    filled : at * 2 + length (pairs_of kind (done i)) ≤ length out₀
    filled = omega (arith, length-words kind (done i), m.few, m.upto)

    pub listing-length : length out ≡ length out₀
    listing-length = ap length m.words ∙ length_over out₀ (at * 2) (pairs_of kind (done i)) filled

    pub listing-room : i < length ids → (b : Bool) (x : ℕ) → (k + length (when b x)) * 2 ≤ length out
    listing-room l b x = omega (arith, when-few b x, listing-length, m.few, m.many)

    -- the id at i, and where the walk through the others stands
    module _ (l : i < length ids) (x : ℕ) (xe : x ≡ get_or ids i 0) (j' : ℕ) (je : j' ≡ j + below x (drop j others)) where
      lower : (n : ℕ) → n < j → get_or others n 0 < x
      lower n h = rw xe (m.passed n h l)

      pub listing-finds : ascending others ≡ true → (n : ℕ) → n ≡ length others → (r : Bool) → r ≡ (ltb j' n && eqb (get_or others j' 0) x) → r ≡ has x others
      listing-finds up n ne r re = re ∙ rw ne (sym (walk-finds x others j m.beside lower j' je up))

      pub listing-turns : ascending ids ≡ true → (b : Bool) → done (i + 1) ≡ done i ++ when b x → (v : List ℕ) (r : ℕ) → r ≡ k + length (when b x) → v ≡ over out (k * 2) (pairs_of kind (when b x))
          → Listing ids others done kind at out₀ v (i + 1) j' r
      listing-turns up b de v r re ve =
          let new = when b x in
          let n : length (done (i + 1)) ≡ length (done i) + length new = ap length de ∙ length-append (done i) new in
          let f : at * 2 + length (pairs_of kind (done i)) ≡ k * 2 = omega (arith, length-words kind (done i), m.many) in
          let g : k * 2 ≤ length out₀ = omega (arith, filled) in
          record {
            upto = omega arith;
            beside = walk-within x others j m.beside lower j' je;
            passed = λ q h more. let p = walk-lower x others j m.beside lower j' je q h in let z = ascending-places ids i (i + 1) up (omega arith) more in omega (arith, xe);
            few = omega (arith, n, when-few b x, m.few);
            many = omega (arith, n, m.many);
            words =
                ve
                ∙ (ap (λ z. over z (k * 2) (pairs_of kind new)) m.words
                ∙ (over-over out₀ (at * 2) (k * 2) (pairs_of kind (done i)) (pairs_of kind new) f g
                ∙ ap (over out₀ (at * 2)) (sym (each_append (λ y. kind ∷ y ∷ []) (done i) new) ∙ ap (pairs_of kind) (sym de))));
          }

    pub listing-ends : length ids ≤ i → (whole : List ℕ) → done (length ids) ≡ whole → (k ≡ at + length whole) × (out ≡ over out₀ (at * 2) (pairs_of kind whole))
    listing-ends l whole w =
        let e : i ≡ length ids = omega (arith, m.upto) in
        let d : done i ≡ whole = ap done e ∙ w in
        (m.many ∙ ap (λ z. at + length z) d, m.words ∙ ap (λ z. over out₀ (at * 2) (pairs_of kind z)) d)

-- ---- what is listed, id by id

module _ (others ids : List ℕ) where
  absent_more : (i : ℕ) → i < length ids → (x : ℕ) → x ≡ get_or ids i 0 → (r : Bool) → r ≡ has x others → absent_in others (take (i + 1) ids) ≡ absent_in others (take i ids) ++ when (not r) x
  unfolding absent_in
  absent_more i l x xe r re =
      keep-more (λ y. not (has y others)) ids i 0 l
      ∙ ap (λ z. absent_in others (take i ids) ++ z) (one (not r) (get_or ids i 0) (ap not (ap (λ y. has y others) (sym xe) ∙ sym re)) ∙ ap (when (not r)) (sym xe))
    where
      one : (b : Bool) (y : ℕ) → not (has y others) ≡ b → cond (not (has y others)) (y ∷ []) [] ≡ when b y
      one true y e = rw e
      one false y e = rw e

module _ (others : List ℕ) where
  marked-snoc : (ms ids : List ℕ) (i : ℕ) → i < length ids → marked_in others ms (take (suc i) ids) ≡ marked_in others ms (take i ids) ++ when (eqb (get_or ms i 0) 1 && has (get_or ids i 0) others) (get_or ids i 0)
  unfolding marked_in
  marked-snoc ms [] i l = absurd (not-suc-le-zero l)
  marked-snoc ms (y ∷ ids) zero l = append-nil (when (eqb (get_or ms 0 0) 1 && has y others) y)
  marked-snoc ms (y ∷ ids) (suc i) l =
      let e : 1 + i ≡ suc i = omega arith in
      let r = marked-snoc (drop 1 ms) ids i (le_of_suc-le-suc l) in
      rw (r, get_or-drop 1 ms i 0, e, append_assoc)

  marked_more : (ms ids : List ℕ) (i : ℕ) → i < length ids → (x : ℕ) → x ≡ get_or ids i 0 → (r : Bool) → r ≡ has x others → (b : Bool) → b ≡ (eqb (get_or ms i 0) 1 && r)
      → marked_in others ms (take (i + 1) ids) ≡ marked_in others ms (take i ids) ++ when b x
  marked_more ms ids i l x xe r re b be = rw (add-one i, be, re, xe) (marked-snoc ms ids i l)

-- the ones or the others

module _ (others : List ℕ) where
  pub picked_more : (kept : Bool) (ms ids : List ℕ) (i : ℕ) → i < length ids → (x : ℕ) → x ≡ get_or ids i 0 → (r : Bool) → r ≡ has x others
      → (b : Bool) → b ≡ cond kept (eqb (get_or ms i 0) 1 && r) (not r)
      → picked_in kept others ms (take (i + 1) ids) ≡ picked_in kept others ms (take i ids) ++ when b x
  picked_more true ms ids i l x xe r re b be = marked_more others ms ids i l x xe r re b be
  picked_more false ms ids i l x xe r re b be = rw be (absent_more others ids i l x xe r re)

  pub picked_all : (kept : Bool) (ms ids : List ℕ) → picked_in kept others ms (take (length ids) ids) ≡ picked_in kept others ms ids
  picked_all kept ms ids = ap (picked_in kept others ms) (take_all (length ids) ids (omega arith))

  pub picked_none : (kept : Bool) (ms ids : List ℕ) → picked_in kept others ms (take 0 ids) ≡ []
  unfolding marked_in absent_in keep
  picked_none true ms ids = refl
  picked_none false ms ids = refl

-- ---- the two tables

module _ (s : ℕ) (some : 0 < s) (t : List ℕ) (h : sorted_table 4096 s t ≡ true) where
  pub ids-many : length (table_ids s t) ≡ word 0 t
  ids-many = length-keys s (word 0 t) (drop 1 t)

  pub table-some : 1 ≤ length t
  table-some = omega (arith, sorted-room 4096 s t h)

  -- the id of row i
  pub id-at : (i : ℕ) → i < word 0 t → get_or t (1 + i * s) 0 ≡ get_or (table_ids s t) i 0
  id-at i l = sym (key-at s (word 0 t) i (drop 1 t) some l ∙ get_or-drop 1 t (i * s) 0)

  pub id-there : (i : ℕ) → i < word 0 t → 1 + i * s < length t
  id-there i l = omega (arith, sorted-row 4096 s t h i l)

  -- the rows behind the count, as they are lent
  lent : take (length t - 1) (drop 1 t) ≡ drop 1 t
  lent = rows-lent t table-some

  pub lent-may : word 0 t * s ≤ length (take (length t - 1) (drop 1 t))
  lent-may = rw lent (rw length-drop (omega (arith, sorted-room 4096 s t h)))

  pub lent-walk : (id from r : ℕ) → r ≡ from + below id (drop from (keys s (word 0 t) (take (length t - 1) (drop 1 t)))) → r ≡ from + below id (drop from (table_ids s t))
  lent-walk id from r e = rw lent at e

  pub lent-stands : (id j : ℕ) (r : Bool) → r ≡ (ltb j (word 0 t) && eqb (get_or (keys s (word 0 t) (take (length t - 1) (drop 1 t))) j 0) id) → r ≡ (ltb j (word 0 t) && eqb (get_or (table_ids s t) j 0) id)
  lent-stands id j r e = rw lent at e

-- ---- the walk through the two tables

module _ (s : ℕ) (some : 0 < s) (t o : List ℕ) (h : sorted_table 4096 s t ≡ true) (g : sorted_table 4096 s o ≡ true) (done : ℕ → List ℕ) (kind at : ℕ) (out₀ : List ℕ) (room : (at + word 0 t) * 2 ≤ length out₀) where
  fits : (at + length (table_ids s t)) * 2 ≤ length out₀
  fits = rw (ids-many s some t h) room

  module _ (out : List ℕ) (i j k : ℕ) (m : Listing (table_ids s t) (table_ids s o) done kind at out₀ out i j k) where
    pub walk-may : (0 < s) × ((word 0 o * s ≤ length (take (length o - 1) (drop 1 o))) × (j ≤ word 0 o))
    walk-may = (some, (lent-may s some o g, omega (arith, m.beside, ids-many s some o g)))

    pub walk-length : length out ≡ length out₀
    walk-length = listing-length (table_ids s t) (table_ids s o) done kind at out₀ fits out i j k m

    pub walk-room : i < word 0 t → (b : Bool) (x : ℕ) → (k + length (when b x)) * 2 ≤ length out
    walk-room l b x = listing-room (table_ids s t) (table_ids s o) done kind at out₀ fits out i j k m (omega (arith, ids-many s some t h)) b x

    module _ (l : i < word 0 t) (j' : ℕ) (je : j' ≡ j + below (get_or t (1 + i * s) 0) (drop j (keys s (word 0 o) (take (length o - 1) (drop 1 o))))) where
      inside : i < length (table_ids s t)
      inside = omega (arith, ids-many s some t h)

      stays : j' ≡ j + below (get_or t (1 + i * s) 0) (drop j (table_ids s o))
      stays = lent-walk s some o g (get_or t (1 + i * s) 0) j j' je

      pub walk-finds-id : (r : Bool) → r ≡ (ltb j' (word 0 o) && eqb (get_or (keys s (word 0 o) (take (length o - 1) (drop 1 o))) j' 0) (get_or t (1 + i * s) 0)) → r ≡ has (get_or t (1 + i * s) 0) (table_ids s o)
      walk-finds-id r re =
          listing-finds (table_ids s t) (table_ids s o) done kind at out₀ fits out i j k m inside (get_or t (1 + i * s) 0) (id-at s some t h i l) j' stays (sorted-ascends 4096 s o g) (word 0 o) (sym (ids-many s some o g)) r
          (lent-stands s some o g (get_or t (1 + i * s) 0) j' r re)

      pub walk-lists : (b : Bool) → done (i + 1) ≡ done i ++ when b (get_or t (1 + i * s) 0) → (v : List ℕ) (r : ℕ) → r ≡ k + length (when b (get_or t (1 + i * s) 0)) → v ≡ over out (k * 2) (pairs_of kind (when b (get_or t (1 + i * s) 0)))
          → Listing (table_ids s t) (table_ids s o) done kind at out₀ v (i + 1) j' r
      walk-lists b de v r re ve =
          listing-turns (table_ids s t) (table_ids s o) done kind at out₀ fits out i j k m inside (get_or t (1 + i * s) 0) (id-at s some t h i l) j' stays (sorted-ascends 4096 s t h) b de v r re ve

    pub walk-listed : word 0 t ≤ i → (whole : List ℕ) → done (length (table_ids s t)) ≡ whole → (k ≡ at + length whole) × (out ≡ over out₀ (at * 2) (pairs_of kind whole))
    walk-listed l whole w = listing-ends (table_ids s t) (table_ids s o) done kind at out₀ fits out i j k m (omega (arith, ids-many s some t h)) whole w
