-- The words' tests of links and neighbours are the map's: a search in the lane table is a test of the lane with an id. Assumes nothing.
use Rattle.std.specs.Prelude.{Option, None, Some}
use mathlib.Core.Path.{◌≡◌, refl, sym, ap, ◌∙◌}
use Prim.Native.Nat.{ℕ, zero, suc, ◌+◌, ◌*◌, ◌≤◌}
use native.Mathlib.Omega.{arith}
use native.Mathlib.Nat.{zero-mul}
use mathlib.Core.Bool.{Bool, true, false, ◌&&◌, ◌||◌, cond}
use mathlib.Core.List.{List, [], ◌∷◌, map}
use lib.Dec.{eqb}
use lib.ListN.{get_or, take, drop}
use lib.Seq.{drop-drop}
use lib.Ieee.{Float}
use Rattle.lists.specs.Every.{all}
use Rattle.lists.specs.Rows.{reads, keys, row_with, later}
use Rattle.lists.specs.Select.{any, find, has, ascending}
use Rattle.lists.proofs.Booleans.{and-fst, and-snd, and-false}
use Rattle.lists.proofs.Select.{on_found, any-one}
use Rattle.entities.specs.Records.{Lane, Map}
use Rattle.entities.specs.Types.{same, opposing}
use Rattle.rules.specs.Names.{Side, Left, Right, NeighborDirection, Same, Opposite, Neighbor}
use Rattle.rules.specs.Map.{leads_to, comes_from, neighbor_on}
use Rattle.rules.specs.Sound as S
use Rattle.tables.specs.View.{word, ids_at, slot_at, rows, lane_of}
use Rattle.tables.specs.Formed.{lane_formed}
use Rattle.row_tests.specs.Returned as R
use Rattle.row_tests.proofs.Formed.{lane-left, lane-right}
use Rattle.row_tests.proofs.Lanes.{lanes-ascend, lanes-formed, lane-found, row-formed}

-- ---- rows read into records

all_same : {A : Type 0} (p q : A → Bool) (xs : List A) → ((x : A) → p x ≡ q x) → all p xs ≡ all q xs
unfolding all
all_same p q [] h = refl
all_same p q (x ∷ xs) h = rw (h x, all_same p q xs h)

-- a test of the row of s words that a search found
abbrev by_row : ℕ → (List ℕ → Bool) → List ℕ → Option ℕ → Bool
by_row s q w None = false
by_row s q w (Some j) = q (take s (drop (j * s) w))

module _ {B : Type 0} (s : ℕ) (dec : List ℕ → B) where
  -- a test of every record
  pub all-reads : (f : B → Bool) (n : ℕ) (w : List ℕ) → all f (reads s dec n w) ≡ all (λ b. b) (reads s (λ r. f (dec r)) n w)
  unfolding all reads
  all-reads f zero w = refl
  all-reads f (suc n) w = rw (all-reads f n (drop s w))

  module _ (key : B → ℕ) (h : (r : List ℕ) → key (dec r) ≡ get_or r 0 0) where
    pub keys-reads : (n : ℕ) (w : List ℕ) → map key (reads s dec n w) ≡ keys s n w
    unfolding keys reads
    keys-reads zero w = refl
    keys-reads (suc n) w = rw (h (take s w), keys-reads n (drop s w))

    -- the record that is found is the row that is found
    pub found-reads : (i : ℕ) (q : B → Bool) (n : ℕ) (w : List ℕ)
        → on_found q (find (λ x. eqb (key x) i) (reads s dec n w)) ≡ by_row s (λ r. q (dec r)) w (row_with i (keys s n w))
    unfolding keys reads find row_with
    found-reads i q zero w = refl
    found-reads i q (suc n) w =
        rw (h (take s w)) (go (eqb (get_or (take s w) 0 0) i) (find (λ x. eqb (key x) i) (reads s dec n (drop s w))) (row_with i (keys s n (drop s w))) (found-reads i q n (drop s w)))
      where
        go : (b : Bool) (o : Option B) (r : Option ℕ) → on_found q o ≡ by_row s (λ v. q (dec v)) (drop s w) r
            → on_found q (cond b (Some (dec (take s w))) o) ≡ by_row s (λ v. q (dec v)) w (cond b (Some 0) (later r))
        go true o r e = rw zero-mul
        go false o None e = e
        go false o (Some j) e = let f : suc j * s ≡ s + j * s = omega arith in e ∙ rw (drop-drop, f)

-- two tests of rows that agree where a third one holds
reads_same : (s : ℕ) (f p q : List ℕ → Bool) → ((r : List ℕ) → f r ≡ true → p r ≡ q r)
    → (n : ℕ) (w : List ℕ) → all (λ b. b) (reads s f n w) ≡ true → all (λ b. b) (reads s p n w) ≡ all (λ b. b) (reads s q n w)
unfolding all reads
reads_same s f p q h zero w a = refl
reads_same s f p q h (suc n) w a =
    let x : p (take s w) ≡ q (take s w) = h (take s w) (and-fst (f (take s w)) (all (λ b. b) (reads s f n (drop s w))) a) in
    rw (x, reads_same s f p q h n (drop s w) (and-snd (f (take s w)) (all (λ b. b) (reads s f n (drop s w))) a))

-- ---- slots, by their mark and lane

abbrev slot_of : ℕ → ℕ → Option Neighbor
slot_of x y = cond (eqb x 0) None (cond (eqb x 1) (Some (same y)) (Some (opposing y)))

abbrev mark_of : NeighborDirection → ℕ
mark_of Same = 1
mark_of Opposite = 2

abbrev place_of : Side → ℕ
place_of Left = 14
place_of Right = 16

and-true : (a : Bool) → (a && true) ≡ a
and-true true = refl
and-true false = refl

holds-slot : (x y j : ℕ) (d : NeighborDirection) → x ≤ 2 → S.holds (slot_of x y) j d ≡ (eqb x (mark_of d) && eqb y j)
holds-slot zero y j Same h = refl
holds-slot zero y j Opposite h = refl
holds-slot (suc zero) y j Same h = and-true (eqb y j)
holds-slot (suc zero) y j Opposite h = and-false (eqb y j)
holds-slot (suc (suc zero)) y j Same h = and-false (eqb y j)
holds-slot (suc (suc zero)) y j Opposite h = and-true (eqb y j)
holds-slot (suc (suc (suc x))) y j d h = absurd (omega arith)

slot_small : (side : Side) (w : List ℕ) → lane_formed w ≡ true → word (place_of side) w ≤ 2
slot_small Left w f = lane-left w f
slot_small Right w f = lane-right w f

slot-on : (c : List Float) (side : Side) (w : List ℕ) → neighbor_on side (lane_of c w) ≡ slot_at (place_of side) w
unfolding lane_of
slot-on c Left w = refl
slot-on c Right w = refl

-- ---- the lane table and the map's lanes

row_here : (q : List ℕ → Bool) (t : List ℕ) (r : Option ℕ) → by_row 52 q (drop 1 t) r ≡ R.on_row q t r
row_here q t None = refl
row_here q t (Some j) = rw drop-drop

module _ (c : List Float) (t : List ℕ) (h : R.searchable t ≡ true) where
  lane-key : (r : List ℕ) → (lane_of c r).id ≡ get_or r 0 0
  unfolding lane_of
  lane-key r = refl

  -- a test of the lane with an id
  pub any-lane : (q : Lane → Bool) (i : ℕ) → any (λ l. eqb l.id i && q l) (rows 52 (lane_of c) t) ≡ R.row_test (λ w. q (lane_of c w)) t i
  unfolding rows R.row_test
  any-lane q i =
      let a : ascending (map (λ l. l.id) (rows 52 (lane_of c) t)) ≡ true = rw (keys-reads 52 (lane_of c) (λ l. l.id) lane-key (word 0 t) (drop 1 t)) (lanes-ascend t h) in
      any-one (λ (l : Lane). l.id) i q (rows 52 (lane_of c) t) a
      ∙ found-reads 52 (lane_of c) (λ l. l.id) lane-key i q (word 0 t) (drop 1 t)
      ∙ row_here (λ w. q (lane_of c w)) t (row_with i (keys 52 (word 0 t) (drop 1 t)))

  -- two tests of the row with an id that agree on formed rows
  test-same : (p q : List ℕ → Bool) → ((w : List ℕ) → lane_formed w ≡ true → p w ≡ q w) → (i : ℕ) → R.row_test p t i ≡ R.row_test q t i
  unfolding R.row_test
  test-same p q e i = go (row_with i (keys 52 (word 0 t) (drop 1 t))) refl
    where
      go : (r : Option ℕ) → row_with i (keys 52 (word 0 t) (drop 1 t)) ≡ r → R.on_row p t r ≡ R.on_row q t r
      go None f = refl
      go (Some j) f = e (R.lane_at t j) (row-formed t h j (lane-found t h i j f))

  module _ (m : Map) (e : m.lanes ≡ rows 52 (lane_of c) t) where
    came : (a b : ℕ) → comes_from m a b ≡ R.names_back t 18 a b
    unfolding comes_from lane_of
    came a b = rw e (any-lane (λ l. has a l.predecessors) b)

    led : (a b : ℕ) → leads_to m a b ≡ R.names_back t 35 b a
    unfolding leads_to lane_of
    led a b = rw e (any-lane (λ l. has b l.successors) a)

    abbrev linked : Lane → Bool
    linked l = all (λ b. comes_from m l.id b) l.successors && all (λ a. leads_to m a l.id) l.predecessors

    linked-row : (w : List ℕ) → R.lane_returned t w ≡ linked (lane_of c w)
    unfolding R.lane_returned lane_of
    linked-row w =
        let f = all_same (R.names_back t 18 (word 0 w)) (λ b. comes_from m (word 0 w) b) (ids_at 35 w) (λ b. sym (came (word 0 w) b)) in
        let g = all_same (R.names_back t 35 (word 0 w)) (λ a. leads_to m a (word 0 w)) (ids_at 18 w) (λ a. sym (led a (word 0 w))) in
        rw (f, g)

    -- links name the lane back in the words as they do in the map
    pub links-tie : all (λ b. b) (rows 52 (R.lane_returned t) t) ≡ S.links_reciprocal m
    unfolding rows S.links_reciprocal
    links-tie =
        reads_same 52 lane_formed (R.lane_returned t) (λ w. linked (lane_of c w)) (λ w _. linked-row w) (word 0 t) (drop 1 t) (lanes-formed t h)
        ∙ sym (all-reads 52 (lane_of c) linked (word 0 t) (drop 1 t))
        ∙ ap (λ (ls : List Lane). all linked ls) (sym e)

    -- the lane with an id holds a lane in a slot
    answers : (i j : ℕ) (side : Side) (d : NeighborDirection)
        → S.has_neighbor m i side j d ≡ R.row_test (λ v. eqb (word (place_of side) v) (mark_of d) && eqb (word (suc (place_of side)) v) j) t i
    unfolding S.has_neighbor
    answers i j side d =
        let p : List ℕ → Bool = λ v. S.holds (neighbor_on side (lane_of c v)) j d in
        let q : List ℕ → Bool = λ v. eqb (word (place_of side) v) (mark_of d) && eqb (word (suc (place_of side)) v) j in
        rw e (any-lane (λ l. S.holds (neighbor_on side l) j d) i
        ∙ test-same p q (λ v f. rw (slot-on c side v) (holds-slot (word (place_of side) v) (word (suc (place_of side)) v) j d (slot_small side v f))) i)

    slot-tie : (x y j : ℕ) (side : Side) → x ≤ 2
        → (eqb x 0 || R.row_test (λ v. eqb (word (R.answer_place (place_of side) x) v) x && eqb (word (suc (R.answer_place (place_of side) x)) v) j) t y)
        ≡ S.slot_returned m j side (slot_of x y)
    slot-tie zero y j side l = refl
    slot-tie (suc zero) y j Left l = sym (answers y j Right Same)
    slot-tie (suc zero) y j Right l = sym (answers y j Left Same)
    slot-tie (suc (suc zero)) y j Left l = sym (answers y j Left Opposite)
    slot-tie (suc (suc zero)) y j Right l = sym (answers y j Right Opposite)
    slot-tie (suc (suc (suc x))) y j side l = absurd (omega arith)

    abbrev sided : Lane → Bool
    sided l = S.slot_returned m l.id Left l.left_neighbor && S.slot_returned m l.id Right l.right_neighbor

    sided-row : (w : List ℕ) → lane_formed w ≡ true → R.slots_returned t w ≡ sided (lane_of c w)
    unfolding R.slots_returned R.slot_answered lane_of
    sided-row w f =
        let l = slot-tie (word 14 w) (word 15 w) (word 0 w) Left (lane-left w f) in
        let r = slot-tie (word 16 w) (word 17 w) (word 0 w) Right (lane-right w f) in
        rw (l, r)

    -- neighbours name the lane back in the words as they do in the map
    pub neighbors-tie : all (λ b. b) (rows 52 (R.slots_returned t) t) ≡ S.neighbors_reciprocal m
    unfolding rows S.neighbors_reciprocal
    neighbors-tie =
        reads_same 52 lane_formed (R.slots_returned t) (λ w. sided (lane_of c w)) sided-row (word 0 t) (drop 1 t) (lanes-formed t h)
        ∙ sym (all-reads 52 (lane_of c) sided (word 0 t) (drop 1 t))
        ∙ ap (λ (ls : List Lane). all sided ls) (sym e)
