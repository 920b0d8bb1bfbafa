-- The tables with lines that a merge leaves are those of the merged map, laid out anew; and what the code that leaves them asks. Assumes nothing.
use mathlib.Core.Path.{◌≡◌, refl, sym, ap, ◌∙◌, subst}
use Prim.Native.Nat.{ℕ, ◌+◌, ◌<◌}
use native.Mathlib.Omega.{arith}
use mathlib.Core.List.{List}
use lib.Ieee.{Float, binary64, of_bits}
use lib.ListN.{length, length-replicate}
use Rattle.lists.specs.Select.{ascending}
use Rattle.entities.specs.Records.{Map}
use Rattle.rules.specs.Names.{Left, Right, Tolerance}
use Rattle.rules.specs.Sound.{next_id}
use Rattle.rules.specs.Merge.{merged}
use Rattle.tables.specs.View.{Tables, word, ids_at, rows, view, lane_of}
use Rattle.tables.specs.Formed.{spans, lane_formed}
use Rattle.apart.proofs.Marks.{counted-facts}
use Rattle.row_tests.specs.Good.{all_rows}
use Rattle.store.specs.Laid.{laid}
use Rattle.layout.specs.Layout.{line_tables, gathered, counted_lines, Gatherable}
use Rattle.layout.specs.Pointed.{pointed}
use Rattle.layout.proofs.Gathers.{gathered-laid, gatherable-pointed}
use Rattle.layout.proofs.Standing.{stops-stand, crosswalks-stand}
use Rattle.lookup.specs.Lookup.{row_at}
use Rattle.lookup.proofs.Laws.{row-passes}
use Rattle.merge_plan.specs.Deciding.{lane_in}
use Rattle.merge_plan.specs.declared.Plan.{Plan}
use Rattle.merge_draw.specs.Redrawing.{Linked, LanesLinked}
use Rattle.merge_draw.proofs.Boundaries.{row-long}
use Rattle.merge_redraw.specs.Relaying.{side_ids, right_at, redrawn_of, boundaries_redrawn, redrawn_tables, relaid, work_floats, blank, Redrawable, Drawing, Relayable}
use Rattle.merge_laid.proofs.Rows.{side-ids}
use Rattle.merge_laid.proofs.Lanes.{lanes-redrawn}
use Rattle.merge_laid.proofs.Boundaries.{redrawn_by, boundaries-redrawn}
use Rattle.merge_laid.proofs.Lines.{side-points, center_marked}
use Rattle.merge_laid.proofs.Merging.{Merging}
use Rattle.merge_laid.proofs.Merging as M
use Rattle.merge_laid.proofs.Lies.{plan, starts, drawn, copied, few-left, few-right, lies}

-- ---- tables with lines alone

-- the tables with lines of others
abbrev pub lines_of : Tables → Tables
lines_of t = line_tables t.lanes t.boundaries t.stop_lines t.crosswalks t.coordinates

-- their lines are those of all, whatever the coordinates
pub lines-spans : (t : Tables) (c : List Float) → spans (line_tables t.lanes t.boundaries t.stop_lines t.crosswalks c) ≡ spans t
unfolding spans
lines-spans t c = refl

-- a layout looks at no other
lines-gathered : (work : List Float) (t : Tables) → gathered work (lines_of t) ≡ lines_of (gathered work t)
unfolding gathered spans
lines-gathered work t = refl

lines-gatherable : (work : List Float) (t : Tables) → Gatherable work t → Gatherable work (lines_of t)
unfolding counted_lines spans
lines-gatherable work t g = record { counts = g.counts; fits = g.fits; room = g.room }

fields : {l l₁ b b₁ s s₁ x x₁ : List ℕ} (c : List Float) → l ≡ l₁ → b ≡ b₁ → s ≡ s₁ → x ≡ x₁ → line_tables l b s x c ≡ line_tables l₁ b₁ s₁ x₁ c
fields c p q r u = cc

-- ---- a merge

module _ {tol : Tolerance} {counter : ℕ} {t : Tables} {one two i j : ℕ} {p : Plan} {reach : ℕ} {gone : List ℕ} (k : Merging tol counter t one two i j p reach gone) where
  abbrev c : List Float
  c = t.coordinates

  -- the merged map's rows, pointing into the work
  abbrev points_to : Tables
  points_to = pointed t (starts k) (M.done k).roads (M.done k).junctions (M.done k).rules

  redrawn-points : redrawn_tables (plan k) (M.next k) reach gone i j (lines_of t) ≡ lines_of points_to
  unfolding redrawn_tables pointed lane_of
  redrawn-points =
      fields c
      (sym (lanes-redrawn tol (M.next k) reach c (M.a k) (M.b k) (M.pl k) (M.pr k) (M.few-after k) t.lanes (M.counts k).lanes (M.fine-rows k)))
      (ap (λ n. boundaries_redrawn gone (redrawn_by t.boundaries (M.pl k) (M.a k).left.boundary (M.next k) reach)
      (redrawn_by t.boundaries (M.pr k) (M.a k).right.boundary (M.next k + n) (right_at (plan k) reach)) t.boundaries) (side-ids (M.pl k))
      ∙ sym (boundaries-redrawn c (view t) t.boundaries (M.view-boundaries k) (M.counts k).boundaries (M.stored-rows k).boundaries (M.a k) (M.pl k) (M.pr k) (M.next k) reach (right_at (plan k) reach) gone
      (M.left-planned k) (M.right-planned k) (M.new-fresh k) (M.boundary-room k)))
      (sym (stops-stand c 512 t.stop_lines (M.counts k).stop_lines (M.stored-rows k).stop_lines))
      (sym (crosswalks-stand c 128 t.crosswalks (M.counts k).crosswalks (M.stored-rows k).left_edges (M.stored-rows k).right_edges))

  -- the merged map, as document 01 has it
  abbrev pub merged_result : Map
  merged_result = (merged tol (next_id counter) (view t) (lane_in c t.lanes i) (lane_in c t.lanes j) k.plans.left k.plans.right).result

  -- THE LAW, of the plan as it was told
  told-laid : (work : List Float) → length work ≡ work_floats → relaid tol.join (plan k) (next_id counter) reach gone i j work (lines_of t) ≡ lines_of (laid t merged_result)
  unfolding relaid merged
  told-laid work space =
      ap (gathered (drawn k work space)) redrawn-points
      ∙ (lines-gathered (drawn k work space) points_to ∙ ap lines_of (gathered-laid (drawn k work space) t (starts k) (M.done k) (lies k work space) (M.has_room k)))

  -- THE LAW: the tables with lines that a merge leaves are those of the merged map
  pub relaid-laid : (work : List Float) → length work ≡ work_floats → relaid tol.join p (next_id counter) reach gone i j work (lines_of t) ≡ lines_of (laid t merged_result)
  relaid-laid work space = ap (λ q. relaid tol.join q (next_id counter) reach gone i j work (lines_of t)) k.plans.told ∙ told-laid work space

  -- the same in the array of work that is taken
  pub relay_laid : relaid tol.join p (next_id counter) reach gone i j blank (lines_of t) ≡ lines_of (laid t merged_result)
  relay_laid = relaid-laid blank (length-replicate work_floats (of_bits binary64 0))

  -- ---- what the code asks

  drawing : (work : List Float) → length work ≡ work_floats → Drawing c t.lanes t.boundaries i j (plan k) work
  drawing work space =
      record {
        drawable = (M.known k).drawable;
        first = M.here-first k;
        second = M.here-second k;
        left_few = rw (side-points (M.pl k) (M.a k).left) (few-left k);
        right_few = rw (side-points (M.pr k) (M.a k).right) (few-right k);
        room = omega arith;
        centered = center_marked tol.join c t.lanes i j;
      }

  linked : LanesLinked t.lanes
  linked = record { counts = (M.counts k).lanes; rows = row }
    where
      row : (n : ℕ) → n < word 0 t.lanes → Linked (row_at 52 t.lanes n)
      row n l = (
        row-long 52 t.lanes n (counted-facts 1024 52 t.lanes (M.counts k).lanes).1.1 l,
        (row-passes 52 lane_formed t.lanes (unfold all_rows in (M.known k).parts.lanes) n l, row-passes 52 (λ w. ascending (ids_at 18 w)) t.lanes (M.links-up k) n l),
      )

  redrawable : Redrawable gone (redrawn_of t.lanes i Left t.boundaries (plan k).left (next_id counter) reach)
      (redrawn_of t.lanes i Right t.boundaries (plan k).right (next_id counter + side_ids (plan k).left) (right_at (plan k) reach)) t.boundaries
  redrawable = record { counts = (M.counts k).boundaries; room = rw (side-ids (M.pl k), side-ids (M.pr k)) (M.boundary-room k) }

  gatherable : (work : List Float) (space : length work ≡ work_floats) → Gatherable (drawn k work space) (redrawn_tables (plan k) (next_id counter) reach gone i j (lines_of t))
  gatherable work space =
      subst (Gatherable (drawn k work space)) (sym redrawn-points)
      (lines-gatherable (drawn k work space) points_to (gatherable-pointed (drawn k work space) t (starts k) (M.done k) (lies k work space) (M.has_room k)))

  told-relayable : Relayable tol.join (plan k) (next_id counter) reach gone i j (lines_of t)
  told-relayable =
      record {
        near = omega (arith, M.near-all k);
        stored = copied k;
        ids = rw (side-ids (M.pl k)) (M.ids-small k);
        drawing = drawing;
        linked = linked;
        redrawable = redrawable;
        gatherable = gatherable;
      }

  -- the code that leaves them may be called
  pub relayable : Relayable tol.join p (next_id counter) reach gone i j (lines_of t)
  relayable = subst (λ q. Relayable tol.join q (next_id counter) reach gone i j (lines_of t)) (sym k.plans.told) told-relayable
