-- The lists of a job, read off the rows, are those of the maps that the tables hold. Coordinates play no part: `bare` tables are what contracts speak of.
-- Assumes nothing.
use mathlib.Core.Path.{◌≡◌, refl, sym, ap, ◌∙◌}
use mathlib.Core.Bool.{Bool, true, false, ◌&&◌, cond, and_comm}
use mathlib.Core.List.{List, [], ◌∷◌, ◌++◌, map}
use Prim.Native.Nat.{ℕ, suc, ◌+◌, ◌<◌}
use native.Mathlib.Omega.{arith}
use lib.Dec.{eqb}
use lib.ListN.{length, get_or, drop}
use lib.Seq.{get_or-drop}
use Rattle.lists.specs.Select.{keep, has}
use Rattle.lists.proofs.Rows.{length-keys}
use Rattle.lists.proofs.Select.{any-map, any_same, keep_append, keep-map, keep_same}
use Rattle.entities.specs.Types.{kind_number}
use Rattle.entities.specs.Records.{Lane, Boundary, Road, Junction, Rule, StopLine, Crosswalk, Map}
use Rattle.rules.specs.Names.{EntityKind, EntityRef, LaneKind, BoundaryKind, RoadKind, JunctionKind, StopLineKind, CrosswalkKind, RuleKind}
use Rattle.rules.specs.Edit.{refs, when}
use Rattle.rules.specs.Demand.{entities, same_entity, among, appeared}
use Rattle.laws.proofs.Links.{eqb_swap}
use Rattle.laws.proofs.Entities.{ids_of, among-kind}
use Rattle.laws.proofs.Change.{absent, absent-of}
use Rattle.tables.specs.View.{Tables, tables_of, word, view, rows, lane_of, boundary_of, road_of, junction_of, rule_of, stop_line_of, crosswalk_of, lane_words, boundary_words, road_words, junction_words, rule_words, stop_line_words, crosswalk_words}
use Rattle.row_tests.proofs.Relations.{keys-reads}
use Rattle.job_marks.specs.Marks.{lane_marks, boundary_marks, road_marks, junction_marks, stop_line_marks, crosswalk_marks, rule_marks, all_marks, sorted_tables, mark_all}
use Rattle.job_marks.proofs.Pairs.{pair_of}
use Rattle.job_marks.proofs.Marked.{named, lane-marked, boundary-marked, road_marked, junction_marked, stop-line-marked, crosswalk-marked, rule-marked}
use Rattle.job_net.specs.Net.{table_ids, absent_in, marked_in, only_in, marked_both}

-- ---- ids are the first words of rows

module _ (t : Tables) where
  pub lane-ids : table_ids lane_words t.lanes ≡ map (λ x. x.id) (view t).lanes
  unfolding view rows lane_of
  lane-ids = sym (keys-reads lane_words (lane_of t.coordinates) (λ (x : Lane). x.id) (λ w. refl) (word 0 t.lanes) (drop 1 t.lanes))

  pub boundary-ids : table_ids boundary_words t.boundaries ≡ map (λ x. x.id) (view t).boundaries
  unfolding view rows boundary_of
  boundary-ids = sym (keys-reads boundary_words (boundary_of t.coordinates) (λ (x : Boundary). x.id) (λ w. refl) (word 0 t.boundaries) (drop 1 t.boundaries))

  pub road_ids : table_ids road_words t.roads ≡ map (λ x. x.id) (view t).roads
  unfolding view rows road_of
  road_ids = sym (keys-reads road_words road_of (λ (x : Road). x.id) (λ w. refl) (word 0 t.roads) (drop 1 t.roads))

  pub junction_ids : table_ids junction_words t.junctions ≡ map (λ x. x.id) (view t).junctions
  unfolding view rows junction_of
  junction_ids = sym (keys-reads junction_words junction_of (λ (x : Junction). x.id) (λ w. refl) (word 0 t.junctions) (drop 1 t.junctions))

  pub stop-line-ids : table_ids stop_line_words t.stop_lines ≡ map (λ x. x.id) (view t).stop_lines
  unfolding view rows stop_line_of
  stop-line-ids = sym (keys-reads stop_line_words (stop_line_of t.coordinates) (λ (x : StopLine). x.id) (λ w. refl) (word 0 t.stop_lines) (drop 1 t.stop_lines))

  pub crosswalk-ids : table_ids crosswalk_words t.crosswalks ≡ map (λ x. x.id) (view t).crosswalks
  unfolding view rows crosswalk_of
  crosswalk-ids = sym (keys-reads crosswalk_words (crosswalk_of t.coordinates) (λ (x : Crosswalk). x.id) (λ w. refl) (word 0 t.crosswalks) (drop 1 t.crosswalks))

  pub rule-ids : table_ids rule_words t.rules ≡ map (λ x. x.id) (view t).rules
  unfolding view rows rule_of
  rule-ids = sym (keys-reads rule_words rule_of (λ (x : Rule). x.id) (λ w. refl) (word 0 t.rules) (drop 1 t.rules))

-- ---- what only one of two maps has

-- seven kinds, a filter of each
keep-seven : (p : EntityRef → Bool) (a b c d e f g : List EntityRef) → keep p (a ++ (b ++ (c ++ (d ++ (e ++ (f ++ g)))))) ≡ keep p a ++ (keep p b ++ (keep p c ++ (keep p d ++ (keep p e ++ (keep p f ++ keep p g)))))
keep-seven p a b c d e f g = simp (keep_append p)

join-seven : {a b c d e f g a' b' c' d' e' f' g' : List EntityRef} → a ≡ a' → b ≡ b' → c ≡ c' → d ≡ d' → e ≡ e' → f ≡ f' → g ≡ g'
    → a ++ (b ++ (c ++ (d ++ (e ++ (f ++ g))))) ≡ a' ++ (b' ++ (c' ++ (d' ++ (e' ++ (f' ++ g')))))
join-seven p q r s t u v = rw (p, q, r, s, t, u, v)

-- tables without their coordinates
abbrev pub bare : Tables → Tables
bare t = tables_of t.lanes t.boundaries t.roads t.junctions t.rules t.stop_lines t.crosswalks []

pub sorted-bare : (t : Tables) → sorted_tables t ≡ true → sorted_tables (bare t) ≡ true
unfolding sorted_tables
sorted-bare t h = h

absent-part : (m : Map) (k : EntityKind) (others ids ids' : List ℕ) → others ≡ ids_of m k → ids ≡ ids' → refs k (absent_in others ids) ≡ keep (absent m) (refs k ids')
unfolding absent_in
absent-part m k others ids ids' e f = ap (refs k) (ap (λ z. absent_in z ids) e ∙ ap (absent_in (ids_of m k)) f) ∙ sym (absent-of m k ids')

pub only-appeared : (t o : Tables) → only_in (bare t) (bare o) ≡ appeared (view o) (view t)
unfolding only_in appeared entities
only-appeared t o =
    let m = view o in
    join-seven (absent-part m LaneKind _ _ _ (lane-ids o) (lane-ids t)) (absent-part m BoundaryKind _ _ _ (boundary-ids o) (boundary-ids t)) (absent-part m RoadKind _ _ _ (road_ids o) (road_ids t))
    (absent-part m JunctionKind _ _ _ (junction_ids o) (junction_ids t)) (absent-part m StopLineKind _ _ _ (stop-line-ids o) (stop-line-ids t))
    (absent-part m CrosswalkKind _ _ _ (crosswalk-ids o) (crosswalk-ids t)) (absent-part m RuleKind _ _ _ (rule-ids o) (rule-ids t))
    ∙ sym (keep-seven (absent m) _ _ _ _ _ _ _)

-- ---- what has a mark

-- those that some pair names, and that stand in the other list
abbrev pub named_in : ℕ → List ℕ → List (ℕ × ℕ) → List ℕ → List ℕ
named_in kind others ps ids = keep (λ i. has i others && named kind i ps) ids

-- marks that say of each id whether it passes
marked-keeps : (others : List ℕ) (q : ℕ → Bool) (ms ids : List ℕ) → ((r : ℕ) → r < length ids → (eqb (get_or ms r 0) 1 && has (get_or ids r 0) others) ≡ q (get_or ids r 0)) → marked_in others ms ids ≡ keep q ids
unfolding marked_in keep
marked-keeps others q ms [] h = refl
marked-keeps others q ms (i ∷ ids) h = rw (h 0 (omega arith), marked-keeps others q (drop 1 ms) ids later) (one (q i))
  where
    later : (r : ℕ) → r < length ids → (eqb (get_or (drop 1 ms) r 0) 1 && has (get_or ids r 0) others) ≡ q (get_or ids r 0)
    later r l =
        let e : 1 + r ≡ suc r = omega arith in
        let g : suc r < suc (length ids) = omega arith in
        rw (get_or-drop 1 ms r 0, e) (h (suc r) g)

    one : (b : Bool) → when b i ++ keep q ids ≡ cond b (i ∷ keep q ids) (keep q ids)
    one true = refl
    one false = refl

bit : (b : Bool) → eqb (cond b 1 0) 1 ≡ b
bit true = refl
bit false = refl

-- the marks of one table's rows, over marks that are all 0
marked-table : (others ids all : List ℕ) (first kind : ℕ) (ps : List (ℕ × ℕ)) → ((r : ℕ) → r < length ids → get_or all (first + r) 0 ≡ cond (named kind (get_or ids r 0) ps) 1 0)
    → marked_in others (drop first all) ids ≡ named_in kind others ps ids
marked-table others ids all first kind ps h =
    marked-keeps others (λ i. has i others && named kind i ps) (drop first all) ids (λ r l.
    let x = get_or ids r 0 in
    let e : eqb (get_or (drop first all) r 0) 1 ≡ named kind x ps = ap (λ z. eqb z 1) (get_or-drop first all r 0 ∙ h r l) ∙ bit (named kind x ps) in
    ap (λ z. z && has x others) e ∙ and_comm (named kind x ps) (has x others))

module _ (t o : Tables) (h : sorted_tables t ≡ true) (ps : List (ℕ × ℕ)) (ms : List ℕ) (n : length ms ≡ all_marks) (none : (k : ℕ) → get_or ms k 0 ≡ 0) where
  pub both-named :
      marked_both t o (mark_all t ps ms)
      ≡ refs LaneKind (named_in 0 (table_ids lane_words o.lanes) ps (table_ids lane_words t.lanes))
      ++ (refs BoundaryKind (named_in 1 (table_ids boundary_words o.boundaries) ps (table_ids boundary_words t.boundaries))
      ++ (refs RoadKind (named_in 2 (table_ids road_words o.roads) ps (table_ids road_words t.roads))
      ++ (refs JunctionKind (named_in 3 (table_ids junction_words o.junctions) ps (table_ids junction_words t.junctions))
      ++ (refs StopLineKind (named_in 4 (table_ids stop_line_words o.stop_lines) ps (table_ids stop_line_words t.stop_lines))
      ++ (refs CrosswalkKind (named_in 6 (table_ids crosswalk_words o.crosswalks) ps (table_ids crosswalk_words t.crosswalks))
      ++ refs RuleKind (named_in 7 (table_ids rule_words o.rules) ps (table_ids rule_words t.rules)))))))
  unfolding marked_both
  both-named =
      join-seven
      (ap (refs LaneKind) (marked-table (table_ids lane_words o.lanes) (table_ids lane_words t.lanes) (mark_all t ps ms) lane_marks 0 ps
      (λ r l. lane-marked t h ps ms n r (omega (arith, length-keys lane_words (word 0 t.lanes) (drop 1 t.lanes))) ∙ ap (λ z. cond (named 0 (get_or (table_ids lane_words t.lanes) r 0) ps) 1 z) (none (lane_marks + r)))))
      (ap (refs BoundaryKind) (marked-table (table_ids boundary_words o.boundaries) (table_ids boundary_words t.boundaries) (mark_all t ps ms) boundary_marks 1 ps
      (λ r l. boundary-marked t h ps ms n r (omega (arith, length-keys boundary_words (word 0 t.boundaries) (drop 1 t.boundaries))) ∙ ap (λ z. cond (named 1 (get_or (table_ids boundary_words t.boundaries) r 0) ps) 1 z) (none (boundary_marks + r)))))
      (ap (refs RoadKind) (marked-table (table_ids road_words o.roads) (table_ids road_words t.roads) (mark_all t ps ms) road_marks 2 ps
      (λ r l. road_marked t h ps ms n r (omega (arith, length-keys road_words (word 0 t.roads) (drop 1 t.roads))) ∙ ap (λ z. cond (named 2 (get_or (table_ids road_words t.roads) r 0) ps) 1 z) (none (road_marks + r)))))
      (ap (refs JunctionKind) (marked-table (table_ids junction_words o.junctions) (table_ids junction_words t.junctions) (mark_all t ps ms) junction_marks 3 ps
      (λ r l. junction_marked t h ps ms n r (omega (arith, length-keys junction_words (word 0 t.junctions) (drop 1 t.junctions))) ∙ ap (λ z. cond (named 3 (get_or (table_ids junction_words t.junctions) r 0) ps) 1 z) (none (junction_marks + r)))))
      (ap (refs StopLineKind) (marked-table (table_ids stop_line_words o.stop_lines) (table_ids stop_line_words t.stop_lines) (mark_all t ps ms) stop_line_marks 4 ps
      (λ r l. stop-line-marked t h ps ms n r (omega (arith, length-keys stop_line_words (word 0 t.stop_lines) (drop 1 t.stop_lines))) ∙ ap (λ z. cond (named 4 (get_or (table_ids stop_line_words t.stop_lines) r 0) ps) 1 z) (none (stop_line_marks + r)))))
      (ap (refs CrosswalkKind) (marked-table (table_ids crosswalk_words o.crosswalks) (table_ids crosswalk_words t.crosswalks) (mark_all t ps ms) crosswalk_marks 6 ps
      (λ r l. crosswalk-marked t h ps ms n r (omega (arith, length-keys crosswalk_words (word 0 t.crosswalks) (drop 1 t.crosswalks))) ∙ ap (λ z. cond (named 6 (get_or (table_ids crosswalk_words t.crosswalks) r 0) ps) 1 z) (none (crosswalk_marks + r)))))
      (ap (refs RuleKind) (marked-table (table_ids rule_words o.rules) (table_ids rule_words t.rules) (mark_all t ps ms) rule_marks 7 ps
      (λ r l. rule-marked t h ps ms n r (omega (arith, length-keys rule_words (word 0 t.rules) (drop 1 t.rules))) ∙ ap (λ z. cond (named 7 (get_or (table_ids rule_words t.rules) r 0) ps) 1 z) (none (rule_marks + r)))))

-- ---- the same of the maps

-- an entity among a list is one that a pair names
among-named : (es : List EntityRef) (k : EntityKind) (i : ℕ) → among (record { kind = k; id = i }) es ≡ named (kind_number k) i (map pair_of es)
unfolding among
among-named es k i =
    any_same (same_entity (record { kind = k; id = i })) (λ f. eqb (kind_number f.kind) (kind_number k) && eqb f.id i) es
    (λ f. ap (λ z. z && eqb i f.id) (eqb_swap (kind_number k) (kind_number f.kind)) ∙ ap (λ z. eqb (kind_number f.kind) (kind_number k) && z) (eqb_swap i f.id))
    ∙ sym (any-map (λ p. eqb p.0 (kind_number k) && eqb p.1 i) pair_of es)

-- what survives and is listed
abbrev pub listed_in : Map → List EntityRef → EntityRef → Bool
listed_in m es e = among e (entities m) && among e es

named-part : (m : Map) (es : List EntityRef) (k : EntityKind) (others ids ids' : List ℕ) → others ≡ ids_of m k → ids ≡ ids'
    → refs k (named_in (kind_number k) others (map pair_of es) ids) ≡ keep (listed_in m es) (refs k ids')
named-part m es k others ids ids' e f =
    ap (refs k) (ap (λ z. named_in (kind_number k) z (map pair_of es) ids) e ∙ ap (named_in (kind_number k) (ids_of m k) (map pair_of es)) f)
    ∙ sym (keep-map (listed_in m es) (λ i. record { kind = k; id = i }) ids'
    ∙ ap (refs k) (keep_same (λ i. listed_in m es (record { kind = k; id = i })) (λ i. has i (ids_of m k) && named (kind_number k) i (map pair_of es)) ids'
    (λ i. ap (λ z. z && among (record { kind = k; id = i }) es) (among-kind m (record { kind = k; id = i })) ∙ ap (λ z. has i (ids_of m k) && z) (among-named es k i))))

pub both-listed : (t o : Tables) → sorted_tables (bare t) ≡ true → (es : List EntityRef) (ms : List ℕ) → length ms ≡ all_marks → ((k : ℕ) → get_or ms k 0 ≡ 0)
    → marked_both (bare t) (bare o) (mark_all (bare t) (map (λ e. (kind_number e.kind, e.id)) es) ms) ≡ keep (λ e. among e (entities (view o)) && among e es) (entities (view t))
unfolding entities
both-listed t o h es ms n none =
    let m = view o in
    both-named (bare t) (bare o) h (map pair_of es) ms n none
    ∙ (join-seven (named-part m es LaneKind _ _ _ (lane-ids o) (lane-ids t)) (named-part m es BoundaryKind _ _ _ (boundary-ids o) (boundary-ids t)) (named-part m es RoadKind _ _ _ (road_ids o) (road_ids t))
    (named-part m es JunctionKind _ _ _ (junction_ids o) (junction_ids t)) (named-part m es StopLineKind _ _ _ (stop-line-ids o) (stop-line-ids t))
    (named-part m es CrosswalkKind _ _ _ (crosswalk-ids o) (crosswalk-ids t)) (named-part m es RuleKind _ _ _ (rule-ids o) (rule-ids t))
    ∙ sym (keep-seven (listed_in m es) _ _ _ _ _ _ _))
