-- The steps of a merge put together: lists, tables, and the two tests of room. Assumes nothing.
use Rattle.std.specs.Prelude.{Err}
use mathlib.Core.Path.{◌≡◌, refl, sym, ap, ◌∙◌, subst}
use Prim.Native.Nat.{ℕ, ◌+◌, ◌*◌, ◌/◌, ◌^◌, ◌≤◌, ◌<◌}
use native.Mathlib.Omega.{arith}
use mathlib.Core.Bool.{Bool, true, false, not, cond, ◌&&◌}
use mathlib.Core.List.{List, [], ◌∷◌}
use lib.Dec.{leb}
use lib.Ieee.{Float}
use lib.ListN.{length, get_or, take, length-append}
use Rattle.lists.specs.Rows.{over}
use Rattle.lists.proofs.Rows.{length_over, take-over}
use Rattle.lists.proofs.Booleans.{and-fst, and-snd}
use Rattle.entities.specs.Records.{Issue}
use Rattle.rules.specs.Names.{BoundaryRef, LaneKind, BoundaryKind, NoRoom, NoIds}
use Rattle.rules.specs.Sound.{next_id}
use Rattle.rules.specs.Edit.{refs, up_from}
use Rattle.tables.specs.View.{Tables, word, tables_of}
use Rattle.lookup.specs.Lookup.{row_at}
use Rattle.report.specs.Report.{listed, warned, counter_behind, changed}
use Rattle.report.specs.declared.Counts.{Counts}
use Rattle.report.proofs.Warnings.{room}
use Rattle.room.specs.Room.{lists_fit, ids_left}
use Rattle.lent.specs.Lent.{SeenAs}
use Rattle.lent.specs.declared.Lists.{Lists}
use Rattle.lent.specs.declared.ListsView.{ListsView}
use Rattle.merge_plan.specs.declared.Joined.{Joined}
use Rattle.merge_plan.specs.declared.Joined.TheVariants.{Kept, InPlace, Fresh}
use Rattle.merge_plan.specs.declared.Plan.{Plan}
use Rattle.merge_plan.specs.Sides.{side_ids}
use Rattle.merge_plan.proofs.Laws.{id-read}
use Rattle.merge_gone.specs.Leaving.{fits_after}
use Rattle.merge_lists.specs.declared.Notices.{Notices}
use Rattle.merge_lists.specs.Changes.{Formed, touched, leaving, issues_of, warnings_of, joined_ids}
use Rattle.merge_lists.proofs.Standing.{length-refs}
use Rattle.merge_redraw.specs.Relaying.{Relayable, relaid, blank}
use Rattle.step.specs.Step.{Lent, Ended, ended, refusing}
use Rattle.merge_made.specs.Parts.{counts_of, Answered, lists, lists_written, Listable, Naming, named, named_written, named_in, lined, reach_of, written, Writable, merge_made, merge_found, gone_in, joined_in, Decided}

pub ids_few : (p : Joined) → side_ids p ≤ 1
ids_few Kept = omega arith
ids_few (InPlace n) = omega arith
ids_few (Fresh n) = omega arith

-- ---- parts side by side

pub counted : (a b c g w a' b' c' : ℕ) → a ≡ a' → b ≡ b' → c ≡ c' → ◌≡◌ {A = Counts} (record { created = a + b; modified = c; deleted = g + 1; warnings = w }) (record { created = a' + b'; modified = c'; deleted = g + 1; warnings = w })
counted a b c g w a' b' c' e f h = rw (e, f, h)

pub four-lists : {a b c d a' b' c' d' : List ℕ} → a ≡ a' → b ≡ b' → c ≡ c' → d ≡ d' → lists a b c d ≡ lists a' b' c' d'
four-lists e f g h = rw (e, f, g, h)

pub three-tables : {a b c a' b' c' : List ℕ} → a ≡ a' → b ≡ b' → c ≡ c' → named a b c ≡ named a' b' c'
three-tables e f g = rw (e, f, g)

-- ---- tables

module _ (join : Float) (p : Plan) (next : ℕ) (gone : List ℕ) (i j : ℕ) (t : Tables) where
  pub relay_asks : Writable join p next gone i j t → (reach : ℕ) → reach ≡ reach_of t → Relayable join p next reach gone i j (lined t)
  relay_asks w reach e = subst (λ r. Relayable join p next r gone i j (lined t)) (sym e) w.relayable

  tables-fields : {l l₁ o o₁ r r₁ u u₁ v v₁ s s₁ x x₁ : List ℕ} {c c₁ : List Float} → l ≡ l₁ → o ≡ o₁ → r ≡ r₁ → u ≡ u₁ → v ≡ v₁ → s ≡ s₁ → x ≡ x₁ → c ≡ c₁
      → tables_of l o r u v s x c ≡ tables_of l₁ o₁ r₁ u₁ v₁ s₁ x₁ c₁
  tables-fields a b c d e f g h = rw (a, b, c, d, e, f, g, h)

  -- the tables with lines as `z` has them
  pub all-written : (reach : ℕ) → reach ≡ reach_of t → (rs js us : List ℕ)
      → named rs js us ≡ named_written (get_or t.lanes (1 + i * 52) 0) (get_or t.lanes (1 + j * 52) 0) (named_in t) → (z : Tables) → z ≡ relaid join p next reach gone i j blank (lined t)
      → (ls bs ss xs : List ℕ) (c : List Float) → ls ≡ z.lanes → bs ≡ z.boundaries → ss ≡ z.stop_lines → xs ≡ z.crosswalks → c ≡ z.coordinates → tables_of ls bs rs js us ss xs c ≡ written join p next gone i j t
  unfolding written
  all-written reach e rs js us n z q ls bs ss xs c el eb es ex ec =
      let o : 0 < 52 = omega arith in
      let r = q ∙ ap (λ k. relaid join p next k gone i j blank (lined t)) e in
      let m = n ∙ (ap (λ a. named_written a (get_or t.lanes (1 + j * 52) 0) (named_in t)) (id-read 52 t.lanes i o) ∙ ap (λ b. named_written (word 0 (row_at 52 t.lanes i)) b (named_in t)) (id-read 52 t.lanes j o)) in
      tables-fields (el ∙ ap (λ (x : Tables). x.lanes) r) (eb ∙ ap (λ (x : Tables). x.boundaries) r) (ap (λ (x : Naming). x.roads) m) (ap (λ (x : Naming). x.junctions) m) (ap (λ (x : Naming). x.rules) m)
      (es ∙ ap (λ (x : Tables). x.stop_lines) r) (ex ∙ ap (λ (x : Tables). x.crosswalks) r) (ec ∙ ap (λ (x : Tables). x.coordinates) r)

-- ---- the two tests of room

-- an accepted call's end, part by part
ended_same : {k k₁ : ℕ} {u v : Tables} {a b : Answered} {q r : Counts} → k ≡ k₁ → u ≡ v → a ≡ b → q ≡ r
    → ◌≡◌ {A = Ended} (ended (record { counter = k; tables = u; created = a.created; modified = a.modified; deleted = a.deleted; warnings = a.warnings }) (changed q))
    (ended (record { counter = k₁; tables = v; created = b.created; modified = b.modified; deleted = b.deleted; warnings = b.warnings }) (changed r))
ended_same a b c d = rw (a, b, c, d)

module _ (join : Float) (i j : ℕ) (p : Plan) (gone joined : List ℕ) (l : Lent) where
  abbrev t : Tables
  t = l.tables

  abbrev second : ℕ
  second = word 0 (row_at 52 t.lanes j)

  abbrev ws : List Issue
  ws = warnings_of t.lanes i j p.left p.right (next_id l.counter)

  abbrev n : Counts
  n = counts_of second p (length gone) joined (length ws) t.lanes t.roads t.junctions t.rules

  abbrev fit : Bool
  fit = fits_after t.lanes i j t.boundaries t.stop_lines t.crosswalks t.coordinates p gone

  abbrev places : Bool
  places = lists_fit n l.created l.modified l.deleted l.warnings

  pub no-map-room : (b : Bool) → b ≡ fit → b ≡ false → ended l (Err NoRoom) ≡ merge_made join i j p gone joined l
  unfolding merge_made
  no-map-room b e f = rw (sym e ∙ f)

  -- what is counted in code
  module _ (b : Bool) (e : b ≡ fit) (f : b ≡ true) (s : ℕ) (se : s ≡ get_or t.lanes (1 + j * 52) 0) (notices : Notices) (ne : issues_of notices ≡ ws) (w : ℕ) (we : w ≡ length (issues_of notices))
      (m : Counts) (me : m ≡ counts_of s p (length gone) joined w t.lanes t.roads t.junctions t.rules) where
    own : s ≡ second
    own = se ∙ id-read 52 t.lanes j (omega arith)

    pub counts-are : m ≡ n
    counts-are =
        me ∙ (ap (λ z. counts_of z p (length gone) joined w t.lanes t.roads t.junctions t.rules) own ∙ ap (λ z. counts_of second p (length gone) joined z t.lanes t.roads t.junctions t.rules) (we ∙ ap length ne))

    module _ (q : Bool) (qe : q ≡ lists_fit m l.created l.modified l.deleted l.warnings) where
      placed : q ≡ places
      placed = qe ∙ ap (λ (z : Counts). lists_fit z l.created l.modified l.deleted l.warnings) counts-are

      pub no-list-room : q ≡ false → ended l (Err NoRoom) ≡ merge_made join i j p gone joined l
      unfolding merge_made
      no-list-room h = rw (sym e ∙ f, sym placed ∙ h)

      module _ (h : q ≡ true) where
        abbrev a1 : Bool
        a1 = leb n.created (length l.created / 2)

        abbrev a2 : Bool
        a2 = leb n.modified (length l.modified / 2)

        abbrev a3 : Bool
        a3 = leb n.deleted (length l.deleted / 2)

        abbrev a4 : Bool
        a4 = leb n.warnings (length l.warnings / 10)

        all_placed : (a1 && a2 && a3 && a4) ≡ true
        all_placed = sym placed ∙ h

        pub lists-ask : Formed t.lanes t.roads t.junctions t.rules → (x : ℕ) → x ≡ next_id l.counter → next_id l.counter + (side_ids p.left + side_ids p.right) < 2 ^ 64
            → Listable s x m.created gone joined notices t.lanes t.roads t.junctions t.rules l.created l.modified l.deleted l.warnings
        lists-ask fm x xe small =
            record {
              formed = fm;
              ids_are_left = omega (arith, ap (λ (z : Counts). z.created) counts-are);
              created_room = omega (arith, ap (λ (z : Counts). z.created) counts-are, room n.created (length l.created) 2 (and-fst a1 a2 (and-fst (a1 && a2) a3 (and-fst (a1 && a2 && a3) a4 all_placed))));
              modified_room = subst (λ z. length (touched z joined t.lanes t.roads t.junctions t.rules) * 2 ≤ length l.modified) (sym own) (room n.modified (length l.modified) 2 (and-snd a1 a2 (and-fst (a1 && a2) a3 (and-fst (a1 && a2 && a3) a4 all_placed))));
              deleted_room = omega (arith, length-append (refs LaneKind (s ∷ [])) (refs BoundaryKind gone), length-refs BoundaryKind gone, room n.deleted (length l.deleted) 2 (and-snd (a1 && a2) a3 (and-fst (a1 && a2 && a3) a4 all_placed)));
              warnings_room = omega (arith, ap length ne, room n.warnings (length l.warnings) 10 (and-snd (a1 && a2 && a3) a4 all_placed));
            }

        pub merge-made : (x : ℕ) → x ≡ next_id l.counter → (u : Tables) → u ≡ written join p x gone i j t → (c d y z : List ℕ)
            → lists c d y z ≡ lists_written s x m.created gone joined notices t.lanes t.roads t.junctions t.rules (lists l.created l.modified l.deleted l.warnings)
            → ended (record { counter = counter_behind l.counter (changed m); tables = u; created = c; modified = d; deleted = y; warnings = z }) (changed m) ≡ merge_made join i j p gone joined l
        unfolding merge_made
        merge-made x xe u ue c d y z le =
            rw (sym e ∙ f, sym placed ∙ h)
            (ended_same (ap (λ k. counter_behind l.counter (changed k)) counts-are) (ue ∙ ap (λ k. written join p k gone i j t) xe)
            (le ∙ same xe own ne (ap (λ (k : Counts). k.created) counts-are)) counts-are)
          where
            same : {x y s r v k : ℕ} {ns ms : List Issue} → x ≡ y → s ≡ r → ns ≡ ms → v ≡ k
                → lists (listed l.created (refs BoundaryKind (up_from x v))) (listed l.modified (touched s joined t.lanes t.roads t.junctions t.rules)) (listed l.deleted (leaving s gone)) (warned l.warnings ns)
                ≡ lists (listed l.created (refs BoundaryKind (up_from y k))) (listed l.modified (touched r joined t.lanes t.roads t.junctions t.rules)) (listed l.deleted (leaving r gone)) (warned l.warnings ms)
            same a b c d = rw (a, b, c, d)

-- the lists as a view has them
pub seen-fit : (n : Counts) (l : Lists) (v : ListsView) → SeenAs l v → lists_fit n v.created.now v.modified.now v.deleted.now v.warnings.now ≡ lists_fit n l.created.now l.modified.now l.deleted.now l.warnings.now
seen-fit n l v h = rw (h.created, h.modified, h.deleted, h.warnings)

-- ---- what goes and what is joined, as it was found

-- a list at the front of an array
pub front : (w ids v : List ℕ) (r : ℕ) → length ids ≤ length w → r ≡ length ids → v ≡ over w 0 ids → (r ≤ length v) × (take r v ≡ ids)
front w ids v r h e p =
    let z : 0 + length ids ≡ length ids = omega arith in
    let l : 0 + length ids ≤ length w = omega arith in
    (omega (arith, ap length p, length_over w 0 ids l), ap (λ k. take k v) e ∙ (ap (take (length ids)) p ∙ (rw z at (take-over w 0 ids l))))

pub write-asks : (join : Float) (p : Plan) (x next : ℕ) (gone : List ℕ) (i j : ℕ) (t : Tables) → x ≡ next → Writable join p next gone i j t → Writable join p x gone i j t
write-asks join p x next gone i j t e w = subst (λ k. Writable join p k gone i j t) (sym e) w

pub decided-asks : (counter : ℕ) (join : Float) (i j : ℕ) (p : Plan) (g h gone joined : List ℕ) (t : Tables) → g ≡ gone → h ≡ joined → Decided counter join i j p gone joined t → Decided counter join i j p g h t
decided-asks counter join i j p g h gone joined t e f d = subst (λ x. Decided counter join i j p x h t) (sym e) (subst (λ x. Decided counter join i j p gone x t) (sym f) d)

module _ (join : Float) (i j : ℕ) (p : Plan) (l : Lent) (a b : ℕ) (ae : a ≡ side_ids p.left) (be : b ≡ side_ids p.right) (r : Bool) (re : r ≡ ids_left l.counter (a + b)) where
  left_is : r ≡ ids_left l.counter (side_ids p.left + side_ids p.right)
  left_is = re ∙ (ap (λ z. ids_left l.counter (z + b)) ae ∙ ap (λ z. ids_left l.counter (side_ids p.left + z)) be)

  pub no-ids : r ≡ false → ended l (Err NoIds) ≡ merge_found join i j p l
  unfolding merge_found
  no-ids f = rw (sym left_is ∙ f)

  pub ids-there : r ≡ true → ids_left l.counter (side_ids p.left + side_ids p.right) ≡ true
  ids-there f = sym left_is ∙ f

  pub found-made : r ≡ true → (g h : List ℕ) → g ≡ gone_in l.tables i j p → h ≡ joined_in l.tables i p → (x : Ended) → x ≡ merge_made join i j p g h l → x ≡ merge_found join i j p l
  unfolding merge_found
  found-made f g h ge he x xe =
      xe ∙ (ap (λ z. merge_made join i j p z h l) ge ∙ (ap (λ z. merge_made join i j p (gone_in l.tables i j p) z l) he ∙ sym (ap (λ z. cond z (merge_made join i j p (gone_in l.tables i j p) (joined_in l.tables i p) l) (refusing l NoIds)) (ids-there f))))

-- ---- a test that is negated

pub off : (b : Bool) → not b ≡ true → b ≡ false
off true e = sym e
off false e = refl

pub on : (b : Bool) → not b ≡ false → b ≡ true
on true e = refl
on false e = sym e

-- ---- the boundaries of the first lane, as they were read

pub both-refs : (l r : Joined) (a b x y : BoundaryRef) → a ≡ x → b ≡ y → (w v : List ℕ) (n : ℕ)
    → (n ≡ length (joined_ids l a.boundary r b.boundary)) × (v ≡ over w 0 (joined_ids l a.boundary r b.boundary))
    → (n ≡ length (joined_ids l x.boundary r y.boundary)) × (v ≡ over w 0 (joined_ids l x.boundary r y.boundary))
both-refs l r a b x y e f w v n h =
    let q : joined_ids l a.boundary r b.boundary ≡ joined_ids l x.boundary r y.boundary =
    ap (λ (z : BoundaryRef). joined_ids l z.boundary r b.boundary) e ∙ ap (λ (z : BoundaryRef). joined_ids l x.boundary r z.boundary) f in
    (h.0 ∙ ap length q, h.1 ∙ ap (over w 0) q)
