-- A call of remove_lane, by how it ends. Assumes nothing.
use Rattle.std.specs.Prelude.{None, Some, Err}
use mathlib.Core.Path.{◌≡◌, refl, sym, ap, ◌∙◌}
use Prim.Native.Nat.{ℕ, ◌-◌, ◌/◌, ◌≤◌}
use native.Mathlib.Omega.{arith}
use mathlib.Core.Bool.{Bool, true, false, cond, ◌&&◌}
use mathlib.Core.List.{List, map}
use lib.Dec.{leb}
use lib.ListN.{length}
use borrow.Author.Tests.{le-leb}
use Rattle.entities.specs.Records.{Lane, Issue, ChangeSet}
use Rattle.rules.specs.Names.{Tolerance, EntityRef, LaneAbsent, NoRoom}
use Rattle.rules.specs.Map.{lane}
use Rattle.rules.specs.Sound.{fits_room, point_count, last_counter}
use Rattle.rules.specs.Lane.{remove_lane}
use Rattle.rules.specs.Ops as O
use Rattle.rules.proofs.Facts.{sound-facts}
use Rattle.tables.specs.View.{Tables, word, view, lane_of, boundary_of}
use Rattle.tables.specs.Formed.{sound_tables}
use Rattle.row_tests.specs.Returned.{lane_at}
use Rattle.row_tests.proofs.Tables.{table-room}
use Rattle.soundness.proofs.Whole.{rows-count}
use Rattle.store.specs.Store.{room_of}
use Rattle.sound_facts.proofs.Stored.{formed-counts}
use Rattle.sound_facts.proofs.Room.{points-room}
use Rattle.laws.proofs.Remove.{removed, remove-limits, remove-fewer}
use Rattle.laws.proofs.RemoveExact.{removal}
use Rattle.laws.proofs.RemoveLawful.{removing, remove-yields}
use Rattle.report.specs.Report.{listed, warned, orphan_rule, changed}
use Rattle.step.specs.Step.{Lent, Ended, ended, step, lists_of, refusing, changing}
use Rattle.step.proofs.Steps.{step-refused, step-decided}
use Rattle.report.proofs.Laws.{listed_nil}
use Rattle.sound_facts.proofs.Found.{sound-map, sound-formed}
use Rattle.mentions.specs.declared.Rows.TheVariants.{Orphans}
use Rattle.mentions.specs.Naming.{naming}
use Rattle.unused.specs.Parts as P
use Rattle.unused.proofs.Lists.{modified-read, deleted-read, warnings-read}
use Rattle.unused.proofs.Tables.{tables-left}

-- ---- room: a removal only makes things fewer

module _ (counter : ℕ) (t : Tables) (h : sound_tables counter t ≡ true) (a : ℕ) (gone : Lane) where
  pub room-removed : fits_room (room_of t) (removed a gone (view t)) ≡ true
  unfolding fits_room
  room-removed =
      let fm = sound-formed counter t h in
      let n = formed-counts t fm in
      let f = remove-fewer (view t) a gone in
      rw (
        remove-limits (view t) a gone (sound-facts counter (view t) (sound-map counter t h)).limits,
        le-leb (length (removed a gone (view t)).lanes) ((length t.lanes - 1) / 52) (omega (arith, f.0, lane_count, table-room 1024 52 t.lanes n.lanes)),
        le-leb (length (removed a gone (view t)).boundaries) ((length t.boundaries - 1) / 5) (omega (arith, f.1, boundary-count, table-room 4096 5 t.boundaries n.boundaries)),
        le-leb (point_count (removed a gone (view t))) (length t.coordinates / 3) (omega (arith, f.2, points-room t fm)),
      )
    where
      lane_count : length (view t).lanes ≡ word 0 t.lanes
      lane_count = unfold view in rows-count 52 (lane_of t.coordinates) t.lanes

      boundary-count : length (view t).boundaries ≡ word 0 t.boundaries
      boundary-count = unfold view in rows-count 5 (boundary_of t.coordinates) t.boundaries

-- ---- what is lent, with what a removal has written

abbrev pub tables_in : Tables → P.Left → Tables
tables_in t r =
    record {
      lanes = r.lanes;
      boundaries = r.boundaries;
      roads = r.roads;
      junctions = r.junctions;
      rules = r.rules;
      stop_lines = t.stop_lines;
      crosswalks = t.crosswalks;
      coordinates = t.coordinates;
    }

abbrev pub spread : Lent → P.Removed → Ended
spread l r =
    record {
      lent =
          record {
            counter = l.counter;
            tables = tables_in l.tables r.tables;
            created = l.created;
            modified = r.modified;
            deleted = r.deleted;
            warnings = r.warnings;
          };
      answer = r.answer;
    }

-- the five tables as they were lent
abbrev pub given : Tables → P.Left
given t = P.tables t.lanes t.boundaries t.roads t.junctions t.rules

-- an accepted call's end, part by part
joined : (k : ℕ) {t u : Tables} {c d : List ℕ} (modified deleted warnings : List ℕ) {m o e f : List EntityRef} {w v : List Issue} → t ≡ u → c ≡ d → m ≡ o → e ≡ f → w ≡ v
    → ◌≡◌ {A = Ended}
    (ended (record { counter = k; tables = t; created = c; modified = listed modified m; deleted = listed deleted e; warnings = warned warnings w }) (changed (record { created = 0; modified = length m; deleted = length e; warnings = length w })))
    (ended (record { counter = k; tables = u; created = d; modified = listed modified o; deleted = listed deleted f; warnings = warned warnings v }) (changed (record { created = 0; modified = length o; deleted = length f; warnings = length v })))
joined k modified deleted warnings p q r s x = rw (p, q, r, s, x)

module _ (tol : Tolerance) (l : Lent) (h : sound_tables l.counter l.tables ≡ true) (a : ℕ) where
  pub lane-absent : lane (view l.tables) a ≡ None → refusing l (LaneAbsent a) ≡ step tol (O.RemoveLane a) l
  lane-absent e = step-refused tol (O.RemoveLane a) l h (LaneAbsent a) (unfold O.edit remove_lane in rw e)

  module _ (k : l.counter ≤ last_counter) (i : ℕ) (own : word 0 (lane_at l.tables.lanes i) ≡ a)
      (there : lane (view l.tables) a ≡ Some (lane_of l.tables.coordinates (lane_at l.tables.lanes i))) where
    abbrev gone : Lane
    gone = lane_of l.tables.coordinates (lane_at l.tables.lanes i)

    abbrev cs : ChangeSet
    cs = removal a gone (view l.tables)

    abbrev after : O.State
    after = record { map = removed a gone (view l.tables); counter = l.counter }

    decided : step tol (O.RemoveLane a) l ≡ cond (O.fits_lists (lists_of l) cs) (changing (O.RemoveLane a) l after cs None) (refusing l NoRoom)
    decided =
        step-decided tol (O.RemoveLane a) l h (removing a gone (view l.tables)) (unfold O.edit in remove-yields (view l.tables) a gone there) (le-leb l.counter last_counter k)
        ∙ ap (λ b. cond (b && O.fits_lists (lists_of l) cs) (changing (O.RemoveLane a) l after cs None) (refusing l NoRoom)) (room-removed l.counter l.tables h a gone)

    abbrev boundaries : List ℕ
    boundaries = P.gone_with l.tables.lanes i l.tables.boundaries

    abbrev m : List EntityRef
    m = P.touched a l.tables.lanes l.tables.roads l.tables.junctions l.tables.rules

    abbrev d : List EntityRef
    d = P.leaving a boundaries

    abbrev w : List Issue
    w = map orphan_rule (naming Orphans a l.tables.rules)

    places : O.fits_lists (lists_of l) cs ≡ P.lists_fit (length m) (length d) (length w) l.modified l.deleted l.warnings
    places =
        ap (λ z. z && leb (length cs.modified) (length l.modified / 2) && leb (length cs.deleted) (length l.deleted / 2) && leb (length cs.warnings) (length l.warnings / 10))
        (le-leb 0 (length l.created / 2) (omega arith))
        ∙ three (modified-read a l.tables gone) (deleted-read a l.tables i own) (warnings-read a l.tables gone)
      where
        three : {x u : List EntityRef} {y v : List EntityRef} {z w : List Issue} → x ≡ u → y ≡ v → z ≡ w
            → (leb (length x) (length l.modified / 2) && leb (length y) (length l.deleted / 2) && leb (length z) (length l.warnings / 10))
            ≡ (leb (length u) (length l.modified / 2) && leb (length v) (length l.deleted / 2) && leb (length w) (length l.warnings / 10))
        three e f g = rw (e, f, g)

    pub step-removed : spread l (P.without_lane a boundaries (given l.tables) l.modified l.deleted l.warnings) ≡ step tol (O.RemoveLane a) l
    unfolding P.without_lane
    step-removed = sym (decided ∙ (ap (λ b. cond b (changing (O.RemoveLane a) l after cs None) (refusing l NoRoom)) places ∙ sides (P.lists_fit (length m) (length d) (length w) l.modified l.deleted l.warnings)))
      where
        end : Bool → P.Removed
        end b =
            cond b
            (P.removed (P.left_tables a boundaries (given l.tables)) (listed l.modified m) (listed l.deleted d) (warned l.warnings w) (changed (record { created = 0; modified = length m; deleted = length d; warnings = length w })))
            (P.removed (given l.tables) l.modified l.deleted l.warnings (Err NoRoom))

        sides : (b : Bool) → cond b (changing (O.RemoveLane a) l after cs None) (refusing l NoRoom) ≡ spread l (end b)
        sides false = refl
        sides true =
            joined l.counter l.modified l.deleted l.warnings (tables-left l.tables (sound-formed l.counter l.tables h) a i own) (listed_nil l.created)
            (modified-read a l.tables gone) (deleted-read a l.tables i own) (warnings-read a l.tables gone)
