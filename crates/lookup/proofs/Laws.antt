-- Tables in id order, and the record that a look-up finds: over any decoder of rows whose key is the row's first word. Assumes nothing.
use Rattle.std.specs.Prelude.{Option, None, Some}
use mathlib.Core.Path.{◌≡◌, refl, sym, ap, ◌∙◌}
use mathlib.Core.Bool.{Bool, true, false, not, ◌&&◌, ◌||◌, cond, and_comm}
use mathlib.Core.List.{List, [], ◌∷◌, map, reverse, reverse_aux, reverse-reverse}
use Prim.Native.Nat.{ℕ, zero, suc, ◌+◌, ◌-◌, ◌*◌, ◌/◌, ◌≤◌, ◌<◌, min}
use native.Mathlib.Nat.{zero-mul}
use native.Mathlib.Numerals.{add-one}
use native.Mathlib.Omega.{arith}
use lib.Dec.{eqb, leb, ltb}
use lib.ListN.{length, get_or, take, drop, length-drop, length-take, length-map, length-reverse, drop_of_length-le}
use lib.Seq.{take_all, drop-cons, drop-drop, get_or-take, get_or-drop}
use lib.Ieee.{Float}
use borrow.Author.Tests.{eqb-true, eq-eqb, ne_eqb, leb-true, ltb-true}
use Rattle.lists.specs.Every.{all}
use Rattle.lists.specs.Rows.{reads, keys, row_with, later, over}
use Rattle.lists.specs.Select.{any, find, has, keep, above, ascending, same_numbers}
use Rattle.lists.proofs.Select.{any_same, any-keep, any-map, any-one, on_found, has-any, keys-keep, keep-map}
use Rattle.lists.proofs.Turns.{count-one, count_none}
use Rattle.lists.proofs.Booleans.{and-fst, and-snd, same_test}
use Rattle.lists.proofs.Rows.{length-keys, length-reads, get_d_reads, mapped-reads, found_within, found-key}
use Rattle.lists.proofs.Every.{all_get_d}
use Rattle.geometry.specs.declared.Point3.{Point3}
use Rattle.polyline.specs.Polyline.{points, flat, first, last, last_from}
use Rattle.polyline.proofs.Points.{length-points, over_none}
use Rattle.entities.specs.Records.{Line, Lane, Map}
use Rattle.rules.specs.Names.{Side, Left, Right, BoundaryRef}
use Rattle.rules.specs.Map.{boundary, boundary_on, oriented_in, oriented, oriented_boundary, uses, lanes_using_boundary}
use Rattle.tables.specs.View.{word, ref_at, part, rows, lane_of, boundary_of}
use Rattle.tables.specs.Formed.{counted, span_at, stored, lane_formed}
use Rattle.row_tests.specs.Returned.{searchable}
use Rattle.row_tests.proofs.Tables.{table-few, table-room, row_room}
use Rattle.row_tests.proofs.Lanes.{rows-lent}
use Rattle.row_tests.proofs.Relations.{keys-reads}
use Rattle.lookup.specs.Lookup.{sorted_table, place_of, row_at, all_stored, all_short, count_of, points_or, side_word, drawn, any_row, row_uses, uses_besides, used, used_besides, uses_outside, used_outside, users}

-- ---- a table in id order

module _ (limit s : ℕ) (t : List ℕ) (h : sorted_table limit s t ≡ true) where
  pub sorted-counted : counted limit s t ≡ true
  unfolding sorted_table
  sorted-counted = and-fst (counted limit s t) (ascending (keys s (word 0 t) (drop 1 t))) h

  pub sorted-ascends : ascending (keys s (word 0 t) (drop 1 t)) ≡ true
  unfolding sorted_table
  sorted-ascends = and-snd (counted limit s t) (ascending (keys s (word 0 t) (drop 1 t))) h

  pub sorted-few : word 0 t ≤ limit
  sorted-few = table-few limit s t sorted-counted

  pub sorted-room : 1 + word 0 t * s ≤ length t
  sorted-room = table-room limit s t sorted-counted

  -- row j lies within the table
  pub sorted-row : (j : ℕ) → j < word 0 t → 1 + j * s + s ≤ length t
  sorted-row j l = row_room limit s t sorted-counted j l

  -- what a search asks
  pub sorted-search : 0 < s → (0 < s) × ((1 + word 0 t * s ≤ length t) × (ascending (keys s (word 0 t) (drop 1 t)) ≡ true))
  sorted-search p = (p, (sorted-room, sorted-ascends))

-- a lane table that can be searched
pub searchable-sorted : (t : List ℕ) → searchable t ≡ true → sorted_table 1024 52 t ≡ true
unfolding searchable sorted_table
searchable-sorted t h = and-fst (counted 1024 52 t && ascending (keys 52 (word 0 t) (drop 1 t))) (all (λ b. b) (rows 52 lane_formed t)) h

-- the rows as they are lent to a search
pub lent_rows : (t : List ℕ) (s : ℕ) → 1 + word 0 t * s ≤ length t → ascending (keys s (word 0 t) (drop 1 t)) ≡ true
    → (word 0 t * s ≤ length (take (length t - 1) (drop 1 t))) × (ascending (keys s (word 0 t) (take (length t - 1) (drop 1 t))) ≡ true)
lent_rows t s r a =
    let l : 1 ≤ length t = omega arith in
    let m : word 0 t * s ≤ length (drop 1 t) = rw length-drop (omega arith) in
    rw (rows-lent t l) (m, a)

pub lent-place : (t : List ℕ) (s id : ℕ) (r : Option ℕ) → 1 + word 0 t * s ≤ length t → r ≡ row_with id (keys s (word 0 t) (take (length t - 1) (drop 1 t))) → r ≡ place_of s t id
unfolding place_of
lent-place t s id r m e = let l : 1 ≤ length t = omega arith in rw (rows-lent t l) at e

-- ---- the row that is found

module _ (s : ℕ) (t : List ℕ) (i j : ℕ) (e : place_of s t i ≡ Some j) where
  -- it is one of the rows, and its first word is the id
  pub place-within : j < word 0 t
  unfolding place_of
  place-within = omega (arith, found_within i (keys s (word 0 t) (drop 1 t)) j e, length-keys s (word 0 t) (drop 1 t))

  pub place-id : word 0 (take s (drop (1 + j * s) t)) ≡ i
  unfolding place_of keys
  place-id =
      let f : get_or (keys s (word 0 t) (drop 1 t)) j 0 ≡ word 0 (take s (drop (1 + j * s) t)) =
      get_d_reads s (λ (r : List ℕ). get_or r 0 0) (word 0 t) j (drop 1 t) 0 place-within ∙ rw drop-drop in
      sym f ∙ found-key i (keys s (word 0 t) (drop 1 t)) j e

module _ {B : Type 0} (s : ℕ) (dec : List ℕ → B) (key : B → ℕ) (h : (w : List ℕ) → key (dec w) ≡ word 0 w) where
  abbrev record_at : List ℕ → Option ℕ → Option B
  record_at w None = None
  record_at w (Some j) = Some (dec (take s (drop (j * s) w)))

  found_record : (i n : ℕ) (w : List ℕ) → find (λ x. eqb (key x) i) (reads s dec n w) ≡ record_at w (row_with i (keys s n w))
  unfolding keys reads find row_with
  found_record i zero w = refl
  found_record i (suc n) w =
      rw (h (take s w)) (go (eqb (get_or (take s w) 0 0) i) (find (λ x. eqb (key x) i) (reads s dec n (drop s w))) (row_with i (keys s n (drop s w))) (found_record i n (drop s w)))
    where
      go : (b : Bool) (o : Option B) (r : Option ℕ) → o ≡ record_at (drop s w) r → cond b (Some (dec (take s w))) o ≡ record_at w (cond b (Some 0) (later r))
      go true o r e = rw zero-mul
      go false o None e = e
      go false o (Some j) e = let f : suc j * s ≡ s + j * s = omega arith in e ∙ rw (drop-drop, f)

  -- the record that a look-up finds is the row that is found
  pub find_at : (t : List ℕ) (i j : ℕ) → place_of s t i ≡ Some j → find (λ x. eqb (key x) i) (rows s dec t) ≡ Some (dec (take s (drop (1 + j * s) t)))
  unfolding place_of rows
  find_at t i j e = found_record i (word 0 t) (drop 1 t) ∙ rw (e, drop-drop)

  pub find_none : (t : List ℕ) (i : ℕ) → place_of s t i ≡ None → find (λ x. eqb (key x) i) (rows s dec t) ≡ None
  unfolding place_of rows
  find_none t i e = found_record i (word 0 t) (drop 1 t) ∙ rw e

-- ---- a stored line

module _ (c : List Float) (start n : ℕ) where
  -- it lies among the points stored
  pub stored-room : stored c (record { start = start; size = n }) ≡ true → (n ≡ 0 → ⊥) → (start + n ≤ 65536) × ((start + n) * 3 ≤ length c)
  stored-room h k =
      let l : start + n ≤ min 65536 (length c / 3) = leb-true (start + n) (min 65536 (length c / 3)) (rw (ne_eqb n 0 k) at h) in
      (omega arith, omega arith)

  -- and is lent as its part of the coordinates
  pub line-empty : n ≡ 0 → take (0 - 0) (drop 0 c) ≡ part c start n
  unfolding part
  line-empty e = rw e

  pub line-part : take (start * 3 + n * 3 - start * 3) (drop (start * 3) c) ≡ part c start n
  unfolding part
  line-part = let e : start * 3 + n * 3 - start * 3 ≡ n * 3 = omega arith in rw e

-- ---- a row's words and lines

pub word_in : (s : ℕ) (t : List ℕ) (j k : ℕ) → k < s → get_or t (1 + j * s + k) 0 ≡ word k (row_at s t j)
word_in s t j k h = sym (get_or-take s (drop (1 + j * s) t) k 0 h ∙ get_or-drop (1 + j * s) t k 0)

pub next_in : (s : ℕ) (t : List ℕ) (j k : ℕ) → suc k < s → get_or t (1 + j * s + k + 1) 0 ≡ word (suc k) (row_at s t j)
next_in s t j k h = let e : 1 + j * s + k + 1 ≡ 1 + j * s + suc k = omega arith in rw e (word_in s t j (suc k) h)

-- a test that every row passes
pub row-passes : (s : ℕ) (good : List ℕ → Bool) (t : List ℕ) → all (λ b. b) (rows s good t) ≡ true → (j : ℕ) → j < word 0 t → good (row_at s t j) ≡ true
unfolding rows
row-passes s good t h j l =
    let m : j < length (rows s good t) = rw (length-reads s good (word 0 t) (drop 1 t)) l in
    let e : get_or (rows s good t) j true ≡ good (row_at s t j) = get_d_reads s good (word 0 t) j (drop 1 t) true l ∙ rw drop-drop in
    sym e ∙ all_get_d (λ (b : Bool). b) (rows s good t) j true m h

-- the line at word k of row j, as it is asked for
pub row-stored : (s k : ℕ) (c : List Float) (t : List ℕ) → all_stored s k c t ≡ true → (j : ℕ) → j < word 0 t → suc k < s
    → stored c (record { start = get_or t (1 + j * s + k) 0; size = get_or t (1 + j * s + k + 1) 0 }) ≡ true
unfolding all_stored
row-stored s k c t h j l m =
    let n : k < s = omega arith in
    rw (word_in s t j k n, next_in s t j k m) (row-passes s (λ w. stored c (span_at k w)) t h j l)

-- what reading it asks
pub line-may : (limit s k : ℕ) (c : List Float) (t : List ℕ) → sorted_table limit s t ≡ true → all_stored s k c t ≡ true → (j : ℕ) → j < word 0 t → suc k < s
    → (1 + j * s + k + 1 < length t) × (stored c (record { start = get_or t (1 + j * s + k) 0; size = get_or t (1 + j * s + k + 1) 0 }) ≡ true)
line-may limit s k c t h a j l m = (omega (arith, sorted-row limit s t h j l), row-stored s k c t a j l m)

pub row_line : (s k : ℕ) (c : List Float) (t : List ℕ) (j : ℕ) → suc k < s
    → part c (get_or t (1 + j * s + k) 0) (get_or t (1 + j * s + k + 1) 0) ≡ part c (word k (row_at s t j)) (word (suc k) (row_at s t j))
row_line s k c t j m = let n : k < s = omega arith in rw (word_in s t j k n, next_in s t j k m)

-- ---- a line's ends, from the other end

first_back : (p : Point3) (ps qs : List Point3) → first (reverse_aux (p ∷ ps) qs) ≡ Some (last_from p ps)
unfolding first last_from
first_back p [] qs = refl
first_back p (q ∷ ps) qs = first_back q ps (p ∷ qs)

pub first-reverse : (ps : List Point3) → first (reverse ps) ≡ last ps
unfolding last
first-reverse [] = unfold first in refl
first-reverse (p ∷ ps) = first_back p ps []

pub last-reverse : (ps : List Point3) → last (reverse ps) ≡ first ps
last-reverse ps = sym (first-reverse (reverse ps)) ∙ ap first (reverse-reverse ps)

-- ---- a boundary along a lane

-- only the boundaries of a map are read
pub oriented-drawn : (c : List Float) (b : List ℕ) (m : Map) (side : Side) (l : Lane) → m.boundaries ≡ rows 5 (boundary_of c) b
    → oriented_boundary m side l ≡ oriented_boundary (drawn c b) side l
unfolding oriented_boundary boundary
oriented-drawn c b m side l e = rw e

pub side-small : (side : Side) → side_word side + 2 ≤ 52
side-small Left = omega arith
side-small Right = omega arith

pub side-ref : (c : List Float) (w : List ℕ) (side : Side) → boundary_on side (lane_of c w) ≡ ref_at (side_word side) w
unfolding lane_of
side-ref c w Left = refl
side-ref c w Right = refl

module _ (c : List Float) (b w : List ℕ) (side : Side) (r : BoundaryRef) (e : r ≡ ref_at (side_word side) w) where
  oriented-by : oriented_boundary (drawn c b) side (lane_of c w) ≡ oriented_in r (boundary (drawn c b) r.boundary)
  unfolding oriented_boundary
  oriented-by = ap (λ (x : BoundaryRef). oriented_in x (boundary (drawn c b) x.boundary)) (side-ref c w side ∙ sym e)

  boundary-key : (v : List ℕ) → (boundary_of c v).id ≡ word 0 v
  unfolding boundary_of
  boundary-key v = refl

  pub oriented-absent : place_of 5 b r.boundary ≡ None → oriented_boundary (drawn c b) side (lane_of c w) ≡ None
  unfolding boundary
  oriented-absent q = oriented-by ∙ ap (oriented_in r) (find_none 5 (boundary_of c) (λ x. x.id) boundary-key b r.boundary q)

  module _ (j : ℕ) (q : place_of 5 b r.boundary ≡ Some j) (line : List Float) (l : line ≡ part c (word 2 (row_at 5 b j)) (word 3 (row_at 5 b j))) where
    pub oriented-there : oriented_boundary (drawn c b) side (lane_of c w) ≡ Some (cond r.reversed (reverse (points line)) (points line))
    unfolding boundary boundary_of oriented
    oriented-there = rw l (oriented-by ∙ ap (oriented_in r) (find_at 5 (boundary_of c) (λ x. x.id) boundary-key b r.boundary j q))

    pub oriented-ahead : r.reversed ≡ false → oriented_boundary (drawn c b) side (lane_of c w) ≡ Some (points line)
    oriented-ahead v = oriented-there ∙ rw v

    pub oriented-back : r.reversed ≡ true → oriented_boundary (drawn c b) side (lane_of c w) ≡ Some (reverse (points line))
    oriented-back v = oriented-there ∙ rw v

-- the reference, as it is read
pub ref-read : (t : List ℕ) (i k : ℕ) (side : Side) → k ≡ side_word side
    → record { boundary = get_or t (1 + i * 52 + k) 0; reversed = not (eqb (get_or t (1 + i * 52 + k + 1) 0) 0) } ≡ ref_at (side_word side) (row_at 52 t i)
ref-read t i k side e =
    let m : suc (side_word side) < 52 = omega (arith, side-small side) in
    let n : side_word side < 52 = omega arith in
    rw (e, word_in 52 t i (side_word side) n, next_in 52 t i (side_word side) m)

-- ---- lines that are written

-- a line has no more points than its length says
pub part-few : (c : List Float) (start n : ℕ) → length (points (part c start n)) ≤ n
unfolding part
part-few c start n = rw (length-points, length-take) (omega arith)

-- the line at word k of row j fits where 256 points do
pub short-fits : (s k : ℕ) (c : List Float) (t : List ℕ) → all_short s k t ≡ true → (j : ℕ) → j < word 0 t → (line : List Float) → line ≡ part c (word k (row_at s t j)) (word (suc k) (row_at s t j))
    → (n : ℕ) → 768 ≤ n → length (points line) * 3 ≤ n
unfolding all_short
short-fits s k c t h j l line e n m =
    let f : length (points line) ≤ word (suc k) (row_at s t j) = rw e (part-few c (word k (row_at s t j)) (word (suc k) (row_at s t j))) in
    let g : word (suc k) (row_at s t j) ≤ 256 = leb-true (word (suc k) (row_at s t j)) 256 (row-passes s (λ w. leb (word (suc k) w) 256) t h j l) in
    omega arith

pub length-turned : (b : Bool) (ps : List Point3) → length ps ≡ length (cond b (reverse ps) ps)
length-turned true ps = sym (length-reverse ps)
length-turned false ps = refl

-- no line, and one
pub written_none : (o : Option Line) (w : List Float) → o ≡ None → (None ≡ count_of o) × (w ≡ over w 0 (flat (points_or o)))
written_none o w e = rw e (refl, sym (over_none w 0))

pub written-some : (o : Option Line) (ps : Line) (n : ℕ) (w v : List Float) → o ≡ Some ps → n ≡ length ps → v ≡ over w 0 (flat ps)
    → (Some n ≡ count_of o) × (v ≡ over w 0 (flat (points_or o)))
written-some o ps n w v e p q = rw e (ap Some p, q)

-- ---- a test that some row of a table passes

-- the rows from number i on have one that passes
abbrev pub any_from : ℕ → (List ℕ → Bool) → List ℕ → ℕ → Bool
any_from s test t i = any (λ b. b) (drop i (rows s test t))

module _ (s : ℕ) (test : List ℕ → Bool) (t : List ℕ) where
  pub any-begins : any_row s test t ≡ any_from s test t 0
  unfolding any_row
  any-begins = refl

  any-turn : (i : ℕ) → i < word 0 t → any_from s test t i ≡ (test (row_at s t i) || any_from s test t (i + 1))
  unfolding rows any
  any-turn i k =
      let l : i < length (rows s test t) = rw (length-reads s test (word 0 t) (drop 1 t)) k in
      rw (add-one, drop-cons (rows s test t) i true l, get_d_reads s test (word 0 t) i (drop 1 t) true k, drop-drop)

  module _ (i : ℕ) (v : any_row s test t ≡ any_from s test t i) where
    pub any-goes-on : (r : Bool) → i < word 0 t → r ≡ test (row_at s t i) → r ≡ false → any_row s test t ≡ any_from s test t (i + 1)
    any-goes-on r k g e = v ∙ any-turn i k ∙ rw (← g, e)

    pub any-stops : (r : Bool) → i < word 0 t → r ≡ test (row_at s t i) → r ≡ true → true ≡ any_row s test t
    any-stops r k g e = sym (v ∙ any-turn i k ∙ rw (← g, e))

    pub any-ends : word 0 t ≤ i → false ≡ any_row s test t
    unfolding rows any
    any-ends k =
        let l : length (rows s test t) ≤ i = rw (length-reads s test (word 0 t) (drop 1 t)) k in
        sym (v ∙ rw (drop_of_length-le (rows s test t) l))

-- a test of records, of the rows that hold them
any-reads : {B : Type 0} (s : ℕ) (dec : List ℕ → B) (f : B → Bool) (n : ℕ) (w : List ℕ) → any f (reads s dec n w) ≡ any (λ b. b) (reads s (λ r. f (dec r)) n w)
unfolding any reads
any-reads s dec f zero w = refl
any-reads s dec f (suc n) w = rw (any-reads s dec f n (drop s w))

pub any-records : {B : Type 0} (s : ℕ) (dec : List ℕ → B) (f : B → Bool) (t : List ℕ) → any f (rows s dec t) ≡ any_row s (λ w. f (dec w)) t
unfolding any_row rows
any-records s dec f t = any-reads s dec f (word 0 t) (drop 1 t)

-- ---- who uses a boundary

and_self : (a : Bool) → (a && a) ≡ a
and_self true = refl
and_self false = refl

module _ (c : List Float) (t : List ℕ) (b : ℕ) where
  pub used-lanes : used t b ≡ any (uses b) (rows 52 (lane_of c) t)
  unfolding lane_of
  used-lanes = sym (any-records 52 (lane_of c) (uses b) t)

  pub besides-lanes : (l : ℕ) → used_besides t b l ≡ any (λ x. not (eqb x.id l) && uses b x) (rows 52 (lane_of c) t)
  unfolding lane_of
  besides-lanes l = sym (any-records 52 (lane_of c) (λ x. not (eqb x.id l) && uses b x) t)

  pub outside-lanes : (one other : ℕ) → used_outside t b one other ≡ any (λ x. not (eqb x.id one) && not (eqb x.id other) && uses b x) (rows 52 (lane_of c) t)
  unfolding lane_of
  outside-lanes one other = sym (any-records 52 (lane_of c) (λ x. not (eqb x.id one) && not (eqb x.id other) && uses b x) t)

  pub users-lanes : users t b ≡ length (lanes_using_boundary (rows 52 (lane_of c) t) b)
  unfolding users lanes_using_boundary
  users-lanes =
      let ls = rows 52 (λ (w : List ℕ). w) t in
      let e : keep (uses b) (rows 52 (lane_of c) t) ≡ map (lane_of c) (keep (row_uses b) ls) =
      ap (keep (uses b)) lanes-mapped ∙ (unfold lane_of in keep-map (uses b) (lane_of c) ls) in
      sym (length-map (keep (uses b) (rows 52 (lane_of c) t)) (λ (l : Lane). l.id) ∙ (ap length e ∙ length-map (keep (row_uses b) ls) (lane_of c)))
    where
      lanes-mapped : rows 52 (lane_of c) t ≡ map (lane_of c) (rows 52 (λ (w : List ℕ). w) t)
      lanes-mapped = unfold rows in sym (mapped-reads 52 (λ (w : List ℕ). w) (lane_of c) (word 0 t) (drop 1 t))

-- neither of two lanes that are one
pub outside-one : (t : List ℕ) (b l : ℕ) → used_outside t b l l ≡ used_besides t b l
outside-one t b l =
    sym (any-records 52 (λ w. w) (uses_outside b l l) t)
    ∙ (any_same (uses_outside b l l) (uses_besides b l) (rows 52 (λ w. w) t) (λ w. ap (λ (x : Bool). x && row_uses b w) (and_self (not (eqb (word 0 w) l))))
    ∙ any-records 52 (λ w. w) (uses_besides b l) t)

-- a count of users: m of the rows before i use b
module _ (t : List ℕ) (b i m : ℕ) (h : i < word 0 t) (n : m ≡ length (keep (row_uses b) (take i (rows 52 (λ w. w) t)))) (u : Bool) (e : u ≡ row_uses b (row_at 52 t i)) where
  row_is : get_or (rows 52 (λ (w : List ℕ). w) t) i [] ≡ row_at 52 t i
  unfolding rows
  row_is = get_d_reads 52 (λ (w : List ℕ). w) (word 0 t) i (drop 1 t) [] h ∙ rw drop-drop

  within : i < length (rows 52 (λ (w : List ℕ). w) t)
  unfolding rows
  within = rw (length-reads 52 (λ (w : List ℕ). w) (word 0 t) (drop 1 t)) h

  tested : row_uses b (get_or (rows 52 (λ (w : List ℕ). w) t) i []) ≡ u
  tested = ap (row_uses b) row_is ∙ sym e

  pub user_more : u ≡ true → m + 1 ≡ length (keep (row_uses b) (take (i + 1) (rows 52 (λ w. w) t)))
  user_more g = count-one (row_uses b) (rows 52 (λ (w : List ℕ). w) t) i m [] within n (tested ∙ g)

  pub user_none : u ≡ false → m ≡ length (keep (row_uses b) (take (i + 1) (rows 52 (λ w. w) t)))
  user_none g = count_none (row_uses b) (rows 52 (λ (w : List ℕ). w) t) i m [] within n (tested ∙ g)

pub users-all : (t : List ℕ) (b i m : ℕ) → i ≡ word 0 t → m ≡ length (keep (row_uses b) (take i (rows 52 (λ w. w) t))) → m ≡ users t b
unfolding users rows
users-all t b i m e n =
    let l : length (reads 52 (λ (w : List ℕ). w) (word 0 t) (drop 1 t)) ≤ i = rw (length-reads 52 (λ (w : List ℕ). w) (word 0 t) (drop 1 t)) (omega arith) in
    n ∙ ap (λ (ls : List (List ℕ)). length (keep (row_uses b) ls)) (take_all i (reads 52 (λ (w : List ℕ). w) (word 0 t) (drop 1 t)) l)

-- another lane is among those that use the boundary
pub besides-using : (ls : List Lane) (b l : ℕ) → any (λ x. not (eqb x.id l) && uses b x) ls ≡ any (λ i. not (eqb i l)) (lanes_using_boundary ls b)
unfolding lanes_using_boundary
besides-using ls b l =
    any_same (λ (x : Lane). not (eqb x.id l) && uses b x) (λ x. uses b x && not (eqb x.id l)) ls (λ x. and_comm (not (eqb x.id l)) (uses b x))
    ∙ sym (any-keep (λ (x : Lane). not (eqb x.id l)) (uses b) ls)
    ∙ sym (any-map (λ (i : ℕ). not (eqb i l)) (λ (x : Lane). x.id) (keep (uses b) ls))

-- the words of row i, as they are read
pub uses-read : (t : List ℕ) (i b : ℕ) → (eqb (get_or t (1 + i * 52 + 2) 0) b || eqb (get_or t (1 + i * 52 + 4) 0) b) ≡ row_uses b (row_at 52 t i)
uses-read t i b =
    let l : 2 < 52 = omega arith in
    let r : 4 < 52 = omega arith in
    rw (word_in 52 t i 2 l, word_in 52 t i 4 r)

pub outside-read : (t : List ℕ) (i b one other : ℕ) (o u : Bool) → o ≡ (not (eqb (get_or t (1 + i * 52 + 0) 0) one) && not (eqb (get_or t (1 + i * 52 + 0) 0) other)) → u ≡ row_uses b (row_at 52 t i)
    → (o && u) ≡ uses_outside b one other (row_at 52 t i)
outside-read t i b one other o u f e = let n : 0 < 52 = omega arith in rw (f, word_in 52 t i 0 n, e)

-- ---- a boundary that one lane alone uses

eqb-turned : (x y : ℕ) → eqb x y ≡ eqb y x
eqb-turned x y = same_test (eqb x y) (eqb y x) (λ e. eq-eqb y x (sym (eqb-true x y e))) (λ e. eq-eqb x y (sym (eqb-true y x e)))

-- numbers that ascend and have a are a alone, where none is another
alone : (a : ℕ) (us : List ℕ) → ascending us ≡ true → has a us ≡ true → same_numbers us (a ∷ []) ≡ not (any (λ i. not (eqb i a)) us)
unfolding same_numbers any has ascending above
alone a [] h m = m
alone a (u ∷ []) h m = go (eqb u a)
  where
    go : (x : Bool) → (x && true) ≡ not (not x || false)
    go true = refl
    go false = refl
alone a (u ∷ v ∷ us) h m = go (eqb u a) (eqb v a) refl refl
  where
    go : (x y : Bool) → eqb u a ≡ x → eqb v a ≡ y → (x && false) ≡ not (not x || (not y || any (λ i. not (eqb i a)) us))
    go true true e f =
        let l : u < v = ltb-true u v (and-fst (ltb u v) (above v us) h) in
        let p : u ≡ a = eqb-true u a e in
        let q : v ≡ a = eqb-true v a f in
        absurd (omega arith)
    go true false e f = refl
    go false y e f = refl

module _ (c : List Float) (t : List ℕ) (h : sorted_table 1024 52 t ≡ true) where
  lane-key : (w : List ℕ) → (lane_of c w).id ≡ word 0 w
  unfolding lane_of
  lane-key w = refl

  pub lane-ids : map (λ l. l.id) (rows 52 (lane_of c) t) ≡ keys 52 (word 0 t) (drop 1 t)
  unfolding rows
  lane-ids = keys-reads 52 (lane_of c) (λ l. l.id) lane-key (word 0 t) (drop 1 t)

  lane-ids-ascend : ascending (map (λ (l : Lane). l.id) (rows 52 (lane_of c) t)) ≡ true
  lane-ids-ascend = ap ascending lane-ids ∙ sorted-ascends 1024 52 t h

  -- lane a, in row j, is among those that use b
  among : (a b j : ℕ) → place_of 52 t a ≡ Some j → uses b (lane_of c (row_at 52 t j)) ≡ true → has a (lanes_using_boundary (rows 52 (lane_of c) t) b) ≡ true
  unfolding lanes_using_boundary
  among a b j e u =
      has-any a (map (λ (l : Lane). l.id) (keep (uses b) (rows 52 (lane_of c) t)))
      ∙ any-map (eqb a) (λ (l : Lane). l.id) (keep (uses b) (rows 52 (lane_of c) t))
      ∙ any-keep (λ (l : Lane). eqb a l.id) (uses b) (rows 52 (lane_of c) t)
      ∙ any_same (λ (l : Lane). uses b l && eqb a l.id) (λ l. eqb l.id a && uses b l) (rows 52 (lane_of c) t) (λ l. and_comm (uses b l) (eqb a l.id) ∙ ap (λ (x : Bool). x && uses b l) (eqb-turned a l.id))
      ∙ any-one (λ (l : Lane). l.id) a (uses b) (rows 52 (lane_of c) t) lane-ids-ascend
      ∙ ap (on_found (uses b)) (find_at 52 (lane_of c) (λ l. l.id) lane-key t a j e)
      ∙ u

  -- merge's test that lane a alone uses b
  pub alone-using : (a b j : ℕ) → place_of 52 t a ≡ Some j → uses b (lane_of c (row_at 52 t j)) ≡ true
      → same_numbers (lanes_using_boundary (rows 52 (lane_of c) t) b) (a ∷ []) ≡ not (used_besides t b a)
  unfolding lanes_using_boundary
  alone-using a b j e u =
      alone a (lanes_using_boundary (rows 52 (lane_of c) t) b) (keys-keep (λ (l : Lane). l.id) (uses b) (rows 52 (lane_of c) t) lane-ids-ascend) (among a b j e u)
      ∙ ap not (sym (besides-lanes c t b a ∙ besides-using (rows 52 (lane_of c) t) b a))
