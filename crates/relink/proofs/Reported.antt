-- What an edit of links and neighbours leaves, from what its parts leave. Assumes nothing.
use Rattle.std.specs.Prelude.{Option, None, Some}
use Rattle.std.specs.Prelude.{Err}
use mathlib.Core.Path.{◌≡◌, refl, sym, ap, ◌∙◌}
use Prim.Native.Nat.{ℕ, ◌+◌, ◌*◌, ◌≤◌, ◌<◌}
use native.Mathlib.Omega.{arith}
use mathlib.Core.Bool.{Bool, true, false, not, cond, ◌&&◌, ◌||◌}
use mathlib.Core.List.{List, [], ◌∷◌, ◌++◌, append-nil}
use lib.ListN.{length, get_or, take}
use Rattle.lists.specs.Select.{keep, has, place, ascending}
use Rattle.lists.proofs.Booleans.{and-fst, and-snd}
use Rattle.lists.proofs.Place.{place-present, length-place}
use Rattle.lists.proofs.Select.{ascending-place}
use Rattle.entities.specs.Types.{lane_entity}
use Rattle.entities.specs.Records.{Issue}
use Rattle.rules.specs.Names.{IssueCode, GeometricGap, LaneKind, NoRoom}
use Rattle.rules.specs.Edit as E
use Rattle.row_tests.proofs.Lanes.{id-at}
use Rattle.topology.specs.Topology.{lanes_changed, id_at}
use Rattle.report.specs.declared.Counts.{Counts}
use Rattle.report.specs.declared.Notice.{Notice}
use Rattle.report.specs.declared.Notice.TheVariants as N
use Rattle.report.specs.Report.{listed, warned, issues, report_fits, changed}
use Rattle.relink.specs.Parts.{links_written, writing_links, pair_of, link_room, linking, unlinking}

-- ---- notices

pub no-op-issues : (on : Bool) (l : ℕ) → issues (cond on (Some (N.NoOp l)) None) ≡ E.when on (E.no_op l)
no-op-issues true l = refl
no-op-issues false l = refl

pub pair-issues : (on : Bool) (c : IssueCode) (l o : ℕ) → issues (cond on (Some (N.Pair c l o)) None) ≡ E.when on (E.warning c (lane_entity l) (lane_entity o ∷ []))
pair-issues true c l o = refl
pair-issues false c l o = refl

-- ---- two lanes in id order

one-id : (a : ℕ) (w : List ℕ) → place a (take 0 w) ≡ a ∷ []
unfolding place keep
one-id a w = refl

pub pair-first : (a r : ℕ) (v w : List ℕ) → take r v ≡ place a (take 0 w) → r ≡ length (place a (take 0 w)) → 2 ≤ length v → (r < length v) × (ascending (take r v) ≡ true)
pair-first a r v w e f h =
    let n : r ≡ 1 = f ∙ ap length (one-id a w) in
    (omega arith, ap ascending e ∙ ascending-place a (take 0 w) (unfold ascending in refl))

pub pair-second : (skip : Bool) (a b r n : ℕ) (u v w : List ℕ) → skip ≡ false → take r v ≡ place a (take 0 w) → (take n u ≡ place b (take r v)) × (n ≡ length (place b (take r v)))
    → (take n u ≡ cond skip [] (pair_of a b)) × (n ≡ length (cond skip [] (pair_of a b)))
pair-second skip a b r n u v w s e f = rw s (rw (e) at f.0, rw e at f.1)

pub nothing-up : ascending [] ≡ true
unfolding ascending
nothing-up = refl

pub pair-few : (skip : Bool) (a b n : ℕ) → n ≡ length (cond skip [] (pair_of a b)) → n ≤ 2
pair-few true a b n e = omega (arith, e)
pair-few false a b n e = omega (arith, e, few (has b (place a [])) refl)
  where
    few : (x : Bool) → has b (place a []) ≡ x → length (place b (place a [])) ≤ 2
    few true h = rw (place-present b (place a []) (ascending-place a [] nothing-up) h) (omega (arith, ap length (one-id a [])))
    few false h = omega (arith, length-place b (place a []) h, ap length (one-id a []))

-- ---- the whole

module _ (room : Bool) (after ids lanes modified warnings : List ℕ) (is : List Issue) where
  pub done : (r : Bool) → r ≡ (room && report_fits (length ids) (length is) modified warnings) → r ≡ true
      → (lanes' modified' warnings' : List ℕ) (n : Counts) → lanes' ≡ after → n ≡ record { created = 0; modified = length ids; deleted = 0; warnings = length is }
      → modified' ≡ listed modified (E.refs LaneKind ids) → warnings' ≡ warned warnings is
      → links_written lanes' modified' warnings' (changed n) ≡ writing_links room after ids is lanes modified warnings
  unfolding writing_links
  done r e t lanes' modified' warnings' n a b c d = rw (sym e ∙ t, a, b, c, d)

  pub full : (r : Bool) → r ≡ (room && report_fits (length ids) (length is) modified warnings) → r ≡ false
      → links_written lanes modified warnings (Err NoRoom) ≡ writing_links room after ids is lanes modified warnings
  unfolding writing_links
  full r e t = rw (sym e ∙ t)

-- ---- link and unlink, with the ids and notices as they are found

module _ (t : List ℕ) (i j : ℕ) (linked gap : Bool) (md ws : List ℕ) (first second : Option Notice) (n : ℕ) (arr : List ℕ)
    (e1 : first ≡ cond gap (Some (N.Pair GeometricGap (get_or t (1 + i * 52) 0) (get_or t (1 + j * 52) 0))) None) (e2 : second ≡ cond linked (Some (N.NoOp (get_or t (1 + i * 52) 0))) None)
    (p : (take n arr ≡ cond linked [] (pair_of (get_or t (1 + i * 52) 0) (get_or t (1 + j * 52) 0))) × (n ≡ length (cond linked [] (pair_of (get_or t (1 + i * 52) 0) (get_or t (1 + j * 52) 0)))))
    (room fit r : Bool) (er : room ≡ (linked || link_room t i j)) (ef : fit ≡ report_fits n (length (issues first ++ issues second)) md ws) (eb : r ≡ (room && fit)) where
  abbrev a : ℕ
  a = id_at t i

  abbrev b : ℕ
  b = id_at t j

  abbrev ids : List ℕ
  ids = cond linked [] (pair_of a b)

  abbrev is : List Issue
  is = E.when gap (E.warning GeometricGap (lane_entity a) (lane_entity b ∷ [])) ++ E.when linked (E.no_op a)

  told : issues first ++ issues second ≡ is
  told = ap (λ z. issues z ++ issues second) e1 ∙ (ap (λ z. issues (cond gap (Some (N.Pair GeometricGap (get_or t (1 + i * 52) 0) (get_or t (1 + j * 52) 0))) None) ++ issues z) e2 ∙ rw (pair-issues gap GeometricGap (get_or t (1 + i * 52) 0) (get_or t (1 + j * 52) 0), no-op-issues linked (get_or t (1 + i * 52) 0), id-at t i, id-at t j))

  named-ids : take n arr ≡ ids
  named-ids = p.0 ∙ rw (id-at t i, id-at t j)

  count : length (take n arr) ≡ n
  count = ap length p.0 ∙ sym p.1

  count-ids : n ≡ length ids
  count-ids = sym count ∙ ap length named-ids

  test : r ≡ ((linked || link_room t i j) && report_fits (length ids) (length is) md ws)
  test = eb ∙ rw (er, ef, told, sym count-ids)

  pub link-counted : n ≡ length (take n arr)
  link-counted = sym count

  pub link_fits : r ≡ true → report_fits (length (take n arr)) (length (issues first ++ issues second)) md ws ≡ true
  link_fits q = rw (count) (sym ef ∙ and-snd room fit (sym eb ∙ q))

  pub link-room : r ≡ true → (linked || link_room t i j) ≡ true
  link-room q = sym er ∙ and-fst room fit (sym eb ∙ q)

  pub link-done : r ≡ true → (t' md' ws' : List ℕ) (c : Counts) → t' ≡ lanes_changed (E.link_in a b) t
      → (c ≡ record { created = 0; modified = length (take n arr); deleted = 0; warnings = length (issues first ++ issues second) })
      × ((md' ≡ listed md (E.refs LaneKind (take n arr))) × (ws' ≡ warned ws (issues first ++ issues second)))
      → links_written t' md' ws' (changed c) ≡ linking t i j linked gap md ws
  link-done q t' md' ws' c f g =
      done (linked || link_room t i j) (lanes_changed (E.link_in a b) t) ids t md ws is r test q t' md' ws' c f
      (g.0 ∙ rw (named-ids, told)) (g.1.0 ∙ ap (λ z. listed md (E.refs LaneKind z)) named-ids) (g.1.1 ∙ ap (warned ws) told)

  pub link-full : r ≡ false → links_written t md ws (Err NoRoom) ≡ linking t i j linked gap md ws
  link-full q = full (linked || link_room t i j) (lanes_changed (E.link_in a b) t) ids t md ws is r test q

module _ (t : List ℕ) (i j : ℕ) (linked : Bool) (md ws : List ℕ) (note : Option Notice) (n : ℕ) (arr : List ℕ)
    (e1 : note ≡ cond (not linked) (Some (N.NoOp (get_or t (1 + i * 52) 0))) None)
    (p : (take n arr ≡ cond (not linked) [] (pair_of (get_or t (1 + i * 52) 0) (get_or t (1 + j * 52) 0))) × (n ≡ length (cond (not linked) [] (pair_of (get_or t (1 + i * 52) 0) (get_or t (1 + j * 52) 0)))))
    (r : Bool) (ef : r ≡ report_fits n (length (issues note ++ issues None)) md ws) where
  abbrev from : ℕ
  from = id_at t i

  abbrev to : ℕ
  to = id_at t j

  abbrev left_out : List ℕ
  left_out = cond linked (pair_of from to) []

  noted : issues note ++ issues None ≡ E.when (not linked) (E.no_op from)
  noted = ap (λ z. issues z ++ []) e1 ∙ (ap (λ z. z ++ []) (no-op-issues (not linked) (get_or t (1 + i * 52) 0)) ∙ (append-nil (E.when (not linked) (E.no_op (get_or t (1 + i * 52) 0))) ∙ rw (id-at t i)))

  out-ids : take n arr ≡ left_out
  out-ids = p.0 ∙ (rw (id-at t i, id-at t j) (turned linked))
    where
      turned : (x : Bool) → cond (not x) [] (pair_of from to) ≡ cond x (pair_of from to) []
      turned true = refl
      turned false = refl

  out-count : length (take n arr) ≡ n
  out-count = ap length p.0 ∙ sym p.1

  out-test : r ≡ (true && report_fits (length left_out) (length (E.when (not linked) (E.no_op from))) md ws)
  out-test = ef ∙ rw (noted, sym out-count, out-ids)

  pub unlink_counted : n ≡ length (take n arr)
  unlink_counted = sym out-count

  pub unlink_fits : r ≡ true → report_fits (length (take n arr)) (length (issues note ++ issues None)) md ws ≡ true
  unlink_fits q = rw out-count (sym ef ∙ q)

  pub unlink_done : r ≡ true → (t' md' ws' : List ℕ) (c : Counts) → t' ≡ lanes_changed (E.link_out from to) t
      → (c ≡ record { created = 0; modified = length (take n arr); deleted = 0; warnings = length (issues note ++ issues None) })
      × ((md' ≡ listed md (E.refs LaneKind (take n arr))) × (ws' ≡ warned ws (issues note ++ issues None)))
      → links_written t' md' ws' (changed c) ≡ unlinking t i j linked md ws
  unlink_done q t' md' ws' c f g =
      done true (lanes_changed (E.link_out from to) t) left_out t md ws (E.when (not linked) (E.no_op from)) r out-test q t' md' ws' c f
      (g.0 ∙ rw (out-ids, noted)) (g.1.0 ∙ ap (λ z. listed md (E.refs LaneKind z)) out-ids) (g.1.1 ∙ ap (warned ws) noted)

  pub unlink_full : r ≡ false → links_written t md ws (Err NoRoom) ≡ unlinking t i j linked md ws
  unlink_full q = full true (lanes_changed (E.link_out from to) t) left_out t md ws (E.when (not linked) (E.no_op from)) r out-test q
