-- An edit that takes lanes and boundaries away and changes what stays of lanes, roads, junctions and rules, ids and centrelines kept, written back: the tables
-- hold the edited map, stay sound and keep their lengths. Assumes nothing.
use mathlib.Core.Path.{◌≡◌, refl, sym, ap, ◌∙◌}
use Prim.Native.Nat.{ℕ, suc, ◌+◌, ◌*◌, ◌≤◌}
use native.Mathlib.Nat.{mul-le-mul_right}
use native.Mathlib.Omega.{arith}
use mathlib.Core.Bool.{Bool, true, false, ◌&&◌, cond}
use mathlib.Core.List.{List, [], ◌∷◌, ◌++◌, map, append_assoc}
use lib.Dec.{leb}
use lib.Ieee.{Float}
use lib.ListN.{length, get_or, drop}
use lib.Seq.{drop-cons}
use borrow.Author.Tests.{leb-true, le-leb}
use Rattle.lists.specs.Every.{all}
use Rattle.lists.specs.Select.{keep, each}
use Rattle.lists.proofs.Booleans.{and_both, and-fst, and-snd}
use Rattle.lists.proofs.Every.{all_head, all_tail, all-and}
use Rattle.lists.proofs.Rows.{mapped-reads}
use Rattle.lists.proofs.Select.{all_map}
use Rattle.entities.specs.Records.{Lane, Road, Junction, Rule, Map}
use Rattle.rules.specs.Sound.{sound, kinds_legal, rule_legal, id_lists}
use Rattle.rules.proofs.Facts.{sound-facts}
use Rattle.laws.proofs.Keeps.{each_map}
use Rattle.tables.specs.View.{Tables, word, rows, view, lane_of, boundary_of, road_of, junction_of, rule_of}
use Rattle.tables.specs.Formed.{Span, span_at, center_span, stored, clear, counted, spans, all_clear, formed, sound_tables, lane_formed, rule_formed}
use Rattle.row_tests.specs.Good.{all_rows}
use Rattle.row_tests.proofs.Tables.{table-some, table-few, table-room}
use Rattle.soundness.proofs.Back.{formed-parts}
use Rattle.soundness.proofs.Rows.{every_row}
use Rattle.soundness.proofs.Words.{reads_true}
use Rattle.store.specs.Store.{lane_onto, boundary_onto, road_onto, junction_onto, rule_onto, store}
use Rattle.store.specs.Rows.{on_rows, kept_rows}
use Rattle.store.proofs.Rows.{rows-read, rows-length}
use Rattle.store.proofs.Whole.{store-changed}
use Rattle.store.proofs.OtherRows.{boundary-same}
use Rattle.store.proofs.Back.{RuleFew, road_back, road_length, road_formed, junction_back, junction_length, junction_formed, rule-back, rule-length, rule-formed, map-fields}
use Rattle.store.proofs.Packing.{kept_ones, rows-mapped, kept-count, kept_read, kept-view, kept-passing, kept-length, store_kept, store-thin}
use Rattle.sound_facts.proofs.Stored.{formed-counts, rows-room, with_lane_table, five-same, lane-key}
use Rattle.sound_facts.proofs.Room.{Limits, limits}
use Rattle.sound_facts.proofs.Kept.{few_links, lanes-back, length-kept, formed-table}

-- ---- general

-- a list of lines some of which went: it passes what the whole passes, and lies as clear
pub record Thinner (xs ys : List Span) : Type 0 where
  pub tests : (p : Span → Bool) → all p xs ≡ true → all p ys ≡ true
  pub apart : all_clear xs ≡ true → all_clear ys ≡ true

thinner_same : (xs : List Span) → Thinner xs xs
thinner_same xs = record { tests = λ p a. a; apart = λ a. a }

thinner_twice : (xs ys zs : List Span) → Thinner xs ys → Thinner ys zs → Thinner xs zs
thinner_twice xs ys zs h k = record { tests = λ p a. k.tests p (h.tests p a); apart = λ a. k.apart (h.apart a) }

-- one line more in front, and one that went
thinner_cons : (x : Span) (xs ys : List Span) → Thinner xs ys → Thinner (x ∷ xs) (x ∷ ys)
unfolding all all_clear
thinner_cons x xs ys h =
    record {
      tests = λ p a. and_both (p x) (all p ys) (and-fst (p x) (all p xs) a) (h.tests p (and-snd (p x) (all p xs) a));
      apart = λ a. and_both (all (clear x) ys) (all_clear ys) (h.tests (clear x) (and-fst (all (clear x) xs) (all_clear xs) a)) (h.apart (and-snd (all (clear x) xs) (all_clear xs) a));
    }

thinner_less : (x : Span) (xs ys : List Span) → Thinner xs ys → Thinner (x ∷ xs) ys
unfolding all all_clear
thinner_less x xs ys h =
    record { tests = λ p a. h.tests p (and-snd (p x) (all p xs) a); apart = λ a. h.apart (and-snd (all (clear x) xs) (all_clear xs) a) }

thinner_behind : (zs xs ys : List Span) → Thinner xs ys → Thinner (zs ++ xs) (zs ++ ys)
thinner_behind [] xs ys h = h
thinner_behind (z ∷ zs) xs ys h = thinner_cons z (zs ++ xs) (zs ++ ys) (thinner_behind zs xs ys h)

thinner_front : (zs xs ys : List Span) → Thinner xs ys → Thinner (zs ++ xs) ys
thinner_front [] xs ys h = h
thinner_front (z ∷ zs) xs ys h = thinner_less z (zs ++ xs) ys (thinner_front zs xs ys h)

-- the lines of what is kept, in front of others
thinner_each : {A : Type 0} (h : A → List Span) (p : A → Bool) (xs : List A) (more : List Span) → Thinner (each h xs ++ more) (each h (keep p xs) ++ more)
unfolding each keep
thinner_each h p [] more = thinner_same more
thinner_each {A = A} h p (x ∷ xs) more = rw (append_assoc (h x) (each h xs) more) (go (p x) (keep p xs) (thinner_each h p xs more))
  where
    go : (b : Bool) (ys : List A) → Thinner (each h xs ++ more) (each h ys ++ more) → Thinner (h x ++ (each h xs ++ more)) (each h (cond b (x ∷ ys) ys) ++ more)
    go true ys t = rw (append_assoc (h x) (each h ys) more) (thinner_behind (h x) (each h xs ++ more) (each h ys ++ more) t)
    go false ys t = thinner_front (h x) (each h xs ++ more) (each h ys ++ more) t

-- one line each
map_each : {A B : Type 0} (h : A → B) (xs : List A) → map h xs ≡ each (λ x. h x ∷ []) xs
unfolding each
map_each h [] = refl
map_each h (x ∷ xs) = ap (λ z. h x ∷ z) (map_each h xs)

-- ---- tables in words

-- a table as long as another, with no more rows
counted-less : (limit s : ℕ) (t v : List ℕ) → counted limit s t ≡ true → length v ≡ length t → word 0 v ≤ word 0 t → counted limit s v ≡ true
counted-less limit s t v h e l =
    let a = table-some limit s t h in
    let b = table-few limit s t h in
    let c = table-room limit s t h in
    let d = mul-le-mul_right s l in
    let i : 1 ≤ length v = omega arith in
    let j : word 0 v ≤ limit = omega arith in
    let k : 1 + word 0 v * s ≤ length v = omega arith in
    rw (le-leb 1 (length v) i, le-leb (word 0 v) limit j, le-leb (1 + word 0 v * s) (length v) k)

module _ (limit s : ℕ) (q : ℕ → Bool) (t : List ℕ) (h : counted limit s t ≡ true) where
  kept-long : length (kept_rows s q t) ≡ length t
  kept-long = kept-length s q t (rows-room limit s t h) (table-some limit s t h)

  kept-counted : counted limit s (kept_rows s q t) ≡ true
  kept-counted = counted-less limit s t (kept_rows s q t) h kept-long (kept-count s q t)

  -- lines of the rows that stay
  lines_thinner : (f : List ℕ → List Span) (more : List Span) → Thinner (each (λ s. s) (rows s f t) ++ more) (each (λ s. s) (rows s f (kept_rows s q t)) ++ more)
  lines_thinner f more =
      let rs = rows s (λ r. r) t in
      let a : each (λ s. s) (rows s f t) ≡ each f rs = ap (each (λ s. s)) (rows-mapped s q t f) ∙ each_map (λ s. s) f rs in
      let b : each (λ s. s) (rows s f (kept_rows s q t)) ≡ each f (kept_ones s q t) =
      ap (each (λ s. s)) (kept_read s q t (rows-room limit s t h) f) ∙ each_map (λ s. s) f (kept_ones s q t) in
      rw (a, b) (thinner_each f (λ r. q (word 0 r)) rs more)

  line_thinner : (f : List ℕ → Span) (more : List Span) → Thinner (rows s f t ++ more) (rows s f (kept_rows s q t) ++ more)
  line_thinner f more =
      let rs = rows s (λ r. r) t in
      let a : rows s f t ≡ each (λ r. f r ∷ []) rs = rows-mapped s q t f ∙ map_each f rs in
      let b : rows s f (kept_rows s q t) ≡ each (λ r. f r ∷ []) (kept_ones s q t) = kept_read s q t (rows-room limit s t h) f ∙ map_each f (kept_ones s q t) in
      rw (a, b) (thinner_each (λ r. f r ∷ []) (λ r. q (word 0 r)) rs more)

-- a table v with the records of t changed: what is read from it, its marks, its count and its length
record Written {R : Type 0} (limit s : ℕ) (dec : List ℕ → R) (marks : List ℕ → Bool) (f : R → R) (t v : List ℕ) : Type 0 where
  read : rows s dec v ≡ map f (rows s dec t)
  marked : all_rows s marks v ≡ true
  count : counted limit s v ≡ true
  long : length v ≡ length t

-- every row changed, where each record that fits is read back from any row that it is written over
module _ {R : Type 0} (limit s : ℕ) (onto : List ℕ → R → List ℕ) (dec : List ℕ → R) (fits : R → Bool) (marks : List ℕ → Bool)
    (long : (w : List ℕ) → length w ≡ s → (r : R) → fits r ≡ true → length (onto w r) ≡ s)
    (back : (w : List ℕ) → length w ≡ s → (r : R) → fits r ≡ true → dec (onto w r) ≡ r)
    (marked : (w : List ℕ) → length w ≡ s → (r : R) → fits r ≡ true → marks (onto w r) ≡ true)
    (t : List ℕ) (h : counted limit s t ≡ true) (f : R → R) (fit : all (λ r. fits (f r)) (rows s dec t) ≡ true) where
  abbrev changed : List ℕ
  changed = on_rows s (λ w. onto w (f (dec w))) t

  abbrev good : List ℕ → Bool
  good w = fits (f (dec w))

  all-good : all_rows s good t ≡ true
  all-good = sym (every_row s dec (λ r. fits (f r)) t) ∙ fit

  read_back : {B : Type 0} (d after : List ℕ → B) → ((w : List ℕ) → length w ≡ s → good w ≡ true → d (onto w (f (dec w))) ≡ after w) → rows s d changed ≡ rows s after t
  unfolding rows on_rows all_rows
  read_back d after e =
      rows-read s good (λ w. onto w (f (dec w))) d after (λ w l g. long w l (f (dec w)) g) e (word 0 t) (drop 1 t) (rows-room limit s t h) all-good

  changed-read : rows s dec changed ≡ map f (rows s dec t)
  unfolding rows
  changed-read = read_back dec (λ w. f (dec w)) (λ w l g. back w l (f (dec w)) g) ∙ sym (mapped-reads s dec f (word 0 t) (drop 1 t))

  changed-marks : all_rows s marks changed ≡ true
  unfolding all_rows
  changed-marks =
      ap (all (λ b. b)) (read_back marks (λ w. true) (λ w l g. marked w l (f (dec w)) g)) ∙ (unfold rows in reads_true s (word 0 t) (drop 1 t))

  changed-length : length changed ≡ length t
  unfolding on_rows all_rows rows
  changed-length =
      let a = rows-length s good (λ w. onto w (f (dec w))) (λ w l g. long w l (f (dec w)) g) (word 0 t) (drop 1 t) (rows-room limit s t h) all-good in
      let b : t ≡ word 0 t ∷ drop 1 t = drop-cons t 0 0 (table-some limit s t h) in
      ap suc a ∙ sym (ap length b)

  changed-counted : counted limit s changed ≡ true
  unfolding on_rows
  changed-counted = counted-less limit s t changed h changed-length (omega arith)

  written : Written limit s dec marks f t changed
  written = record { read = changed-read; marked = changed-marks; count = changed-counted; long = changed-length }

-- ---- rows of roads, junctions and rules

roads-written : (t : List ℕ) → counted 256 68 t ≡ true → (f : Road → Road) → all (λ r. leb (length (f r).lanes) 64) (rows 68 road_of t) ≡ true
    → Written 256 68 road_of (λ w. leb (word 3 w) 64) f t (on_rows 68 (λ w. road_onto w (f (road_of w))) t)
roads-written t h f fit =
    written 256 68 road_onto road_of (λ r. leb (length r.lanes) 64) (λ w. leb (word 3 w) 64) (λ w l r g. road_length w l r (leb-true (length r.lanes) 64 g))
    (λ w l r g. road_back w r) (λ w l r g. road_formed w r (leb-true (length r.lanes) 64 g)) t h f fit

junctions-written : (t : List ℕ) → counted 256 69 t ≡ true → (f : Junction → Junction) → all (λ j. leb (length (f j).lanes) 64) (rows 69 junction_of t) ≡ true
    → Written 256 69 junction_of (λ w. leb (word 4 w) 64) f t (on_rows 69 (λ w. junction_onto w (f (junction_of w))) t)
junctions-written t h f fit =
    written 256 69 junction_onto junction_of (λ j. leb (length j.lanes) 64) (λ w. leb (word 4 w) 64) (λ w l j g. junction_length w l j (leb-true (length j.lanes) 64 g))
    (λ w l j g. junction_back w j) (λ w l j g. junction_formed w j (leb-true (length j.lanes) 64 g)) t h f fit

-- five lists that fit, of a legal rule
abbrev pub few_ids : Rule → Bool
few_ids r = all (λ ids. leb (length ids) 64) (id_lists r)

pub rule-few : (r : Rule) → few_ids r ≡ true → RuleFew r
rule-few r h =
    let p : List ℕ → Bool = λ ids. leb (length ids) 64 in
    let a = r.lanes in
    let b = r.controlled_crosswalks in
    let c = r.stop_lines in
    let d = r.priority in
    let e = r.yielding in
    let h1 = all_tail p a (b ∷ c ∷ d ∷ e ∷ []) h in
    let h2 = all_tail p b (c ∷ d ∷ e ∷ []) h1 in
    let h3 = all_tail p c (d ∷ e ∷ []) h2 in
    let h4 = all_tail p d (e ∷ []) h3 in
    record {
      lanes = leb-true (length a) 64 (all_head p a (b ∷ c ∷ d ∷ e ∷ []) h);
      crosswalks = leb-true (length b) 64 (all_head p b (c ∷ d ∷ e ∷ []) h1);
      stops = leb-true (length c) 64 (all_head p c (d ∷ e ∷ []) h2);
      priority = leb-true (length d) 64 (all_head p d (e ∷ []) h3);
      yielding = leb-true (length e) 64 (all_head p e [] h4);
    }

rules-written : (t : List ℕ) → counted 512 330 t ≡ true → (f : Rule → Rule) → all (λ r. few_ids (f r) && rule_legal (f r)) (rows 330 rule_of t) ≡ true
    → Written 512 330 rule_of rule_formed f t (on_rows 330 (λ w. rule_onto w (f (rule_of w))) t)
rules-written t h f fit =
    let few : (r : Rule) → (few_ids r && rule_legal r) ≡ true → RuleFew r = λ r g. rule-few r (and-fst (few_ids r) (rule_legal r) g) in
    written 512 330 rule_onto rule_of (λ r. few_ids r && rule_legal r) rule_formed (λ w l r g. rule-length w l r (few r g))
    (λ w l r g. rule-back w l r (few r g) (and-snd (few_ids r) (rule_legal r) g)) (λ w l r g. rule-formed w l r (few r g)) t h f fit

-- ---- the edit

-- lanes and boundaries whose ids pass, with what stays of lanes, roads, junctions and rules changed
abbrev pub thinned : (ℕ → Bool) → (ℕ → Bool) → (Lane → Lane) → (Road → Road) → (Junction → Junction) → (Rule → Rule) → Map → Map
thinned q p f g k u m =
    record {
      lanes = map f (keep (λ l. q l.id) m.lanes);
      boundaries = keep (λ b. p b.id) m.boundaries;
      roads = map g m.roads;
      junctions = map k m.junctions;
      rules = map u m.rules;
      stop_lines = m.stop_lines;
      crosswalks = m.crosswalks;
    }

-- ids stay, and centrelines
pub record Keeping (f : Lane → Lane) (g : Road → Road) (k : Junction → Junction) (u : Rule → Rule) : Type 0 where
  pub lanes : (l : Lane) → (f l).id ≡ l.id
  pub centers : (l : Lane) → (f l).centerline ≡ l.centerline
  pub roads : (r : Road) → (g r).id ≡ r.id
  pub junctions : (j : Junction) → (k j).id ≡ j.id
  pub rules : (r : Rule) → (u r).id ≡ r.id

-- the same in words: rows that stay, and rows changed
abbrev pub thinned_tables : (ℕ → Bool) → (ℕ → Bool) → (Lane → Lane) → (Road → Road) → (Junction → Junction) → (Rule → Rule) → Tables → Tables
thinned_tables q p f g k u t =
    record {
      lanes = on_rows 52 (λ w. lane_onto w (f (lane_of t.coordinates w))) (kept_rows 52 q t.lanes);
      boundaries = kept_rows 5 p t.boundaries;
      roads = on_rows 68 (λ w. road_onto w (g (road_of w))) t.roads;
      junctions = on_rows 69 (λ w. junction_onto w (k (junction_of w))) t.junctions;
      rules = on_rows 330 (λ w. rule_onto w (u (rule_of w))) t.rules;
      stop_lines = t.stop_lines;
      crosswalks = t.crosswalks;
      coordinates = t.coordinates;
    }

boundary-key : (c : List Float) (w : List ℕ) → (boundary_of c w).id ≡ get_or w 0 0
unfolding boundary_of
boundary-key c w = refl

road_key : (w : List ℕ) → (road_of w).id ≡ get_or w 0 0
unfolding road_of
road_key w = refl

junction_key : (w : List ℕ) → (junction_of w).id ≡ get_or w 0 0
unfolding junction_of
junction_key w = refl

rule-key : (w : List ℕ) → (rule_of w).id ≡ get_or w 0 0
unfolding rule_of
rule-key w = refl

module _ (t : Tables) (h : formed t ≡ true) (q p : ℕ → Bool) (f : Lane → Lane) (g : Road → Road) (k : Junction → Junction) (u : Rule → Rule) (same : Keeping f g k u) where
  -- each row that stays with the changed record written over it
  pub store-thinned : store t (thinned q p f g k u (view t)) ≡ thinned_tables q p f g k u t
  unfolding store view on_rows
  store-thinned =
      let n = formed-counts t h in
      let c = t.coordinates in
      five-same t.stop_lines t.crosswalks c
      (store_kept 52 lane_onto (λ l. l.id) (lane_of c) t.lanes (rows-room 1024 52 t.lanes n.lanes) q f (lane-key c) same.lanes)
      (store-thin 5 boundary_onto (λ b. b.id) (boundary_of c) t.boundaries (rows-room 4096 5 t.boundaries n.boundaries) p (boundary-key c) (boundary-same c))
      (store-changed 68 road_onto (λ r. r.id) road_of t.roads (rows-room 256 68 t.roads n.roads) g (λ w. same.roads (road_of w) ∙ road_key w))
      (store-changed 69 junction_onto (λ j. j.id) junction_of t.junctions (rows-room 256 69 t.junctions n.junctions) k (λ w. same.junctions (junction_of w) ∙ junction_key w))
      (store-changed 330 rule_onto (λ r. r.id) rule_of t.rules (rows-room 512 330 t.rules n.rules) u (λ w. same.rules (rule_of w) ∙ rule-key w))

-- ---- rows that go

-- the tables with the rows that stay, unchanged
abbrev kept_tables : (ℕ → Bool) → (ℕ → Bool) → Tables → Tables
kept_tables q p t =
    record {
      lanes = kept_rows 52 q t.lanes;
      boundaries = kept_rows 5 p t.boundaries;
      roads = t.roads;
      junctions = t.junctions;
      rules = t.rules;
      stop_lines = t.stop_lines;
      crosswalks = t.crosswalks;
      coordinates = t.coordinates;
    }

module _ (t : Tables) (h : formed t ≡ true) (q p : ℕ → Bool) where
  spans_thinner : Thinner (spans t) (spans (kept_tables q p t))
  unfolding spans
  spans_thinner =
      let n = formed-counts t h in
      let others = rows 4 (span_at 1) t.stop_lines ++ (rows 7 (span_at 1) t.crosswalks ++ rows 7 (span_at 3) t.crosswalks) in
      let bs = rows 5 (span_at 2) t.boundaries in
      let cs = rows 5 (span_at 2) (kept_rows 5 p t.boundaries) in
      let ls = each (λ s. s) (rows 52 center_span t.lanes) in
      let ks = each (λ s. s) (rows 52 center_span (kept_rows 52 q t.lanes)) in
      thinner_twice (bs ++ (ls ++ others)) (cs ++ (ls ++ others)) (cs ++ (ks ++ others))
      (line_thinner 4096 5 p t.boundaries n.boundaries (span_at 2) (ls ++ others))
      (thinner_behind cs (ls ++ others) (ks ++ others) (lines_thinner 1024 52 q t.lanes n.lanes center_span others))

  kept-formed : formed (kept_tables q p t) ≡ true
  unfolding formed all_rows
  kept-formed =
      let n = formed-counts t h in
      let m = formed-parts t h in
      rw (
        kept-counted 1024 52 q t.lanes n.lanes,
        kept-counted 4096 5 p t.boundaries n.boundaries,
        n.roads,
        n.junctions,
        n.rules,
        n.stop_lines,
        n.crosswalks,
        kept-passing 52 q t.lanes (rows-room 1024 52 t.lanes n.lanes) lane_formed m.lanes,
        m.roads,
        m.junctions,
        m.rules,
        spans_thinner.tests (stored t.coordinates) m.store,
        spans_thinner.apart m.apart,
      )

-- ---- roads, junctions and rules changed

abbrev with_others : List ℕ → List ℕ → List ℕ → Tables → Tables
with_others r j u t =
    record {
      lanes = t.lanes;
      boundaries = t.boundaries;
      roads = r;
      junctions = j;
      rules = u;
      stop_lines = t.stop_lines;
      crosswalks = t.crosswalks;
      coordinates = t.coordinates;
    }

others-formed : (t : Tables) → formed t ≡ true → (r j u : List ℕ) → counted 256 68 r ≡ true → counted 256 69 j ≡ true → counted 512 330 u ≡ true
    → all_rows 68 (λ w. leb (word 3 w) 64) r ≡ true → all_rows 69 (λ w. leb (word 4 w) 64) j ≡ true → all_rows 330 rule_formed u ≡ true → formed (with_others r j u t) ≡ true
unfolding formed all_rows spans
others-formed t h r j u cr cj cu mr mj mu =
    let n = formed-counts t h in
    let m = formed-parts t h in
    rw (n.lanes, n.boundaries, cr, cj, cu, n.stop_lines, n.crosswalks, m.lanes, mr, mj, mu, m.store, m.apart)

-- ---- lengths

-- the lengths of the eight slices
abbrev pub lengths_in : Tables → List ℕ
lengths_in t =
    length t.lanes
    ∷ length t.boundaries
    ∷ length t.roads
    ∷ length t.junctions
    ∷ length t.rules
    ∷ length t.stop_lines
    ∷ length t.crosswalks
    ∷ length t.coordinates
    ∷ []

five-lengths : {a b d e i j m n v w : ℕ} → a ≡ b → d ≡ e → i ≡ j → m ≡ n → v ≡ w → (x y z : ℕ)
    → ◌≡◌ {A = List ℕ} (a ∷ d ∷ i ∷ m ∷ v ∷ x ∷ y ∷ z ∷ []) (b ∷ e ∷ j ∷ n ∷ w ∷ x ∷ y ∷ z ∷ [])
five-lengths e1 e2 e3 e4 e5 x y z = rw (e1, e2, e3, e4, e5)

-- ---- the tables that hold the edited map

module _ (counter : ℕ) (t : Tables) (h : sound_tables counter t ≡ true) (q p : ℕ → Bool) (f : Lane → Lane) (g : Road → Road) (k : Junction → Junction) (u : Rule → Rule)
    (same : Keeping f g k u) (s : sound counter (thinned q p f g k u (view t)) ≡ true) where
  abbrev edited : Map
  edited = thinned q p f g k u (view t)

  abbrev c : List Float
  c = t.coordinates

  whole : formed t ≡ true
  unfolding sound_tables
  whole = and-fst (formed t) (sound counter (view t)) h

  lim : Limits edited
  lim = limits edited (sound-facts counter edited s).limits

  legal : all rule_legal (map u (view t).rules) ≡ true
  unfolding kinds_legal
  legal =
      and-snd (all (λ l. leb l.kind 7 && leb l.turn_direction 3) edited.lanes && all (λ b. leb b.kind 13) edited.boundaries) (all rule_legal edited.rules)
      (sound-facts counter edited s).kinds

  -- lists that fit, of lanes that stay
  lanes-kept : (view (kept_tables q p t)).lanes ≡ keep (λ l. q l.id) (view t).lanes
  unfolding view
  lanes-kept = kept-view 52 q t.lanes (rows-room 1024 52 t.lanes (formed-counts t whole).lanes) (λ l. l.id) (lane_of c) (lane-key c)

  boundaries-kept : (view (kept_tables q p t)).boundaries ≡ keep (λ b. p b.id) (view t).boundaries
  unfolding view
  boundaries-kept = kept-view 5 p t.boundaries (rows-room 4096 5 t.boundaries (formed-counts t whole).boundaries) (λ b. b.id) (boundary_of c) (boundary-key c)

  fit : all (λ l. few_links (f l)) (view (kept_tables q p t)).lanes ≡ true
  fit =
      ap (all (λ l. few_links (f l))) lanes-kept ∙ (sym (all_map few_links f (keep (λ l. q l.id) (view t).lanes)) ∙ lim.links)

  roads : Written 256 68 road_of (λ w. leb (word 3 w) 64) g t.roads (on_rows 68 (λ w. road_onto w (g (road_of w))) t.roads)
  unfolding view
  roads =
      roads-written t.roads (formed-counts t whole).roads g (sym (all_map (λ r. leb (length r.lanes) 64) g (view t).roads) ∙ lim.road_lists)

  junctions : Written 256 69 junction_of (λ w. leb (word 4 w) 64) k t.junctions (on_rows 69 (λ w. junction_onto w (k (junction_of w))) t.junctions)
  unfolding view
  junctions =
      junctions-written t.junctions (formed-counts t whole).junctions k (sym (all_map (λ j. leb (length j.lanes) 64) k (view t).junctions) ∙ lim.junction_lists)

  rules : Written 512 330 rule_of rule_formed u t.rules (on_rows 330 (λ w. rule_onto w (u (rule_of w))) t.rules)
  unfolding view
  rules =
      let rs = (view t).rules in
      let both : all (λ r. few_ids r && rule_legal r) (map u rs) ≡ true =
      all-and few_ids rule_legal (map u rs) ∙ and_both (all few_ids (map u rs)) (all rule_legal (map u rs)) lim.rule-lists legal in
      rules-written t.rules (formed-counts t whole).rules u (sym (all_map (λ r. few_ids r && rule_legal r) u rs) ∙ both)

  lanes-read : rows 52 (lane_of c) (on_rows 52 (λ w. lane_onto w (f (lane_of c w))) (kept_rows 52 q t.lanes)) ≡ map f (keep (λ l. q l.id) (view t).lanes)
  unfolding view
  lanes-read = lanes-back (kept_tables q p t) (kept-formed t whole q p) f same.lanes same.centers fit ∙ ap (map f) lanes-kept

  lanes-long : length (on_rows 52 (λ w. lane_onto w (f (lane_of c w))) (kept_rows 52 q t.lanes)) ≡ length t.lanes
  lanes-long =
      length-kept (kept_tables q p t) (kept-formed t whole q p) f same.lanes same.centers fit ∙ kept-long 1024 52 q t.lanes (formed-counts t whole).lanes

  view-tables : view (thinned_tables q p f g k u t) ≡ edited
  unfolding view
  view-tables = map-fields lanes-read boundaries-kept roads.read junctions.read rules.read refl refl

  formed-tables : formed (thinned_tables q p f g k u t) ≡ true
  formed-tables =
      let v = kept_tables q p t in
      let l = formed-table v (kept-formed t whole q p) f same.lanes same.centers fit in
      others-formed (with_lane_table (thinned_tables q p f g k u t).lanes v) l (thinned_tables q p f g k u t).roads (thinned_tables q p f g k u t).junctions (thinned_tables q p f g k u t).rules
      roads.count junctions.count rules.count roads.marked junctions.marked rules.marked

  -- the tables hold the edited map
  pub view-thinned : view (store t (thinned q p f g k u (view t))) ≡ thinned q p f g k u (view t)
  view-thinned = ap view (store-thinned t whole q p f g k u same) ∙ view-tables

  -- they stay sound
  pub kept-thinned : sound_tables counter (store t (thinned q p f g k u (view t))) ≡ true
  unfolding sound_tables
  kept-thinned =
      and_both (formed (store t edited)) (sound counter (view (store t edited))) (ap formed (store-thinned t whole q p f g k u same) ∙ formed-tables) (ap (sound counter) view-thinned ∙ s)

  -- each slice keeps its length
  pub lengths-thinned : lengths_in (store t (thinned q p f g k u (view t))) ≡ lengths_in t
  lengths-thinned =
      ap lengths_in (store-thinned t whole q p f g k u same)
      ∙ five-lengths lanes-long (kept-long 4096 5 p t.boundaries (formed-counts t whole).boundaries) roads.long junctions.long rules.long
      (length t.stop_lines) (length t.crosswalks) (length t.coordinates)
