-- One call, by how it ends: not sound, refused by the edit, or an edit of links and neighbours with room or without. Assumes nothing.
use Rattle.std.specs.Prelude.{None, Err, Ok}
use mathlib.Core.Path.{◌≡◌, refl, ap, ◌∙◌}
use Prim.Native.Nat.{ℕ, ◌/◌, ◌≤◌}
use native.Mathlib.Omega.{arith}
use mathlib.Core.Bool.{Bool, true, false, cond, ◌&&◌}
use mathlib.Core.List.{List, []}
use lib.Dec.{leb}
use lib.ListN.{length, length-map}
use borrow.Author.Tests.{le-leb}
use Rattle.entities.specs.Records.{Map, Issue, ChangeSet}
use Rattle.rules.specs.Names.{Tolerance, EntityRef, LaneKind, NoRoom}
use Rattle.rules.specs.Sound.{fits_room, last_counter}
use Rattle.rules.specs.Edit as E
use Rattle.rules.specs.Ops as O
use Rattle.tables.specs.View.{Tables}
use Rattle.tables.specs.Formed.{sound_tables}
use Rattle.store.specs.Store.{room_of}
use Rattle.sound_facts.proofs.Stored.{with_lane_table}
use Rattle.report.specs.Report.{listed, warned, report_fits, changed}
use Rattle.report.proofs.Laws.{listed_nil}
use Rattle.step.specs.Step.{Lent, Ended, ended, step, state_of, lists_of, refusing, writing, changing}
use Rattle.step.proofs.Steps.{step-decided}
use Rattle.relink.specs.Parts.{Relinked, links_written, writing_links}

-- what is lent, with what an edit of links and neighbours has written
abbrev pub spread : Lent → Relinked → Ended
spread l r =
    record {
      lent =
          record {
            counter = l.counter;
            tables = with_lane_table r.lanes l.tables;
            created = l.created;
            modified = r.modified;
            deleted = l.deleted;
            warnings = r.warnings;
          };
      answer = r.answer;
    }

joined : (k : ℕ) (ws : List ℕ) (n : ℕ) {t u : Tables} {c d m o e f : List ℕ} {i j : ℕ} → t ≡ u → c ≡ d → m ≡ o → e ≡ f → i ≡ j
    → ◌≡◌ {A = Ended} (ended (record { counter = k; tables = t; created = c; modified = m; deleted = e; warnings = ws }) (changed (record { created = 0; modified = i; deleted = 0; warnings = n })))
    (ended (record { counter = k; tables = u; created = d; modified = o; deleted = f; warnings = ws }) (changed (record { created = 0; modified = j; deleted = 0; warnings = n })))
joined k ws n p q r s v = rw (p, q, r, s, v)

-- an edit of links and neighbours
module _ (tol : Tolerance) (c : O.Command) (l : Lent) (h : sound_tables l.counter l.tables ≡ true) (m : Map) (modified : List EntityRef) (ws : List Issue)
    (e : O.edit tol c (state_of l) ≡ Ok (E.relinking m modified ws)) (k : l.counter ≤ last_counter) where
  abbrev cs : ChangeSet
  cs = record { created = []; modified = modified; deleted = []; warnings = ws }

  abbrev room : Bool
  room = fits_room (room_of l.tables) m && O.fits_lists (lists_of l) cs

  decided : step tol c l ≡ cond room (changing c l (record { map = m; counter = l.counter }) cs None) (refusing l NoRoom)
  decided = step-decided tol c l h (E.relinking m modified ws) e (le-leb l.counter last_counter k)

  -- the lists of lanes and warnings alone take places
  places : (n : ℕ) → length modified ≡ n → O.fits_lists (lists_of l) cs ≡ report_fits n (length ws) l.modified l.warnings
  places n q =
      rw (q, le-leb 0 (length l.created / 2) (omega arith), le-leb 0 (length l.deleted / 2) (omega arith)) (three (leb n (length l.modified / 2)))
    where
      three : (b : Bool) → (true && b && true && leb (length ws) (length l.warnings / 10)) ≡ (b && leb (length ws) (length l.warnings / 10))
      three true = refl
      three false = refl

  -- what is written back, by the lane table as it becomes
  pub step-relinking : (ids : List ℕ) (after : List ℕ) (fit : Bool) → modified ≡ E.refs LaneKind ids → fits_room (room_of l.tables) m ≡ fit
      → (fit ≡ true → writing c l.tables m ≡ with_lane_table after l.tables)
      → step tol c l ≡ spread l (writing_links fit after ids ws l.tables.lanes l.modified l.warnings)
  unfolding writing_links
  step-relinking ids after fit q f st =
      let n : length modified ≡ length ids = ap length q ∙ length-map ids (λ i. record { kind = LaneKind; id = i }) in
      decided ∙ (rw (f, places (length ids) n) (sides n))
    where
      sides : length modified ≡ length ids → cond (fit && report_fits (length ids) (length ws) l.modified l.warnings) (changing c l (record { map = m; counter = l.counter }) cs None) (refusing l NoRoom)
          ≡ spread l (cond (fit && report_fits (length ids) (length ws) l.modified l.warnings) (links_written after (listed l.modified (E.refs LaneKind ids)) (warned l.warnings ws) (changed (record { created = 0; modified = length ids; deleted = 0; warnings = length ws }))) (links_written l.tables.lanes l.modified l.warnings (Err NoRoom)))
      sides n = by fit refl (report_fits (length ids) (length ws) l.modified l.warnings)
        where
          abbreviated : Bool → Relinked
          abbreviated b = cond b (links_written after (listed l.modified (E.refs LaneKind ids)) (warned l.warnings ws) (changed (record { created = 0; modified = length ids; deleted = 0; warnings = length ws }))) (links_written l.tables.lanes l.modified l.warnings (Err NoRoom))

          by : (x : Bool) → fit ≡ x → (b : Bool) → cond (x && b) (changing c l (record { map = m; counter = l.counter }) cs None) (refusing l NoRoom) ≡ spread l (abbreviated (x && b))
          by false x b = refl
          by true x false = refl
          by true x true =
              joined l.counter (warned l.warnings ws) (length ws) (st x) (listed_nil l.created) (ap (listed l.modified) q) (listed_nil l.deleted) n
