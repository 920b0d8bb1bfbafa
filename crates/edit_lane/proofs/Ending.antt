-- A removal's two ends: written, or refused for want of room. Assumes nothing.
use Rattle.std.specs.Prelude.{Err}
use mathlib.Core.Path.{◌≡◌, sym, ap, ◌∙◌}
use Prim.Native.Nat.{ℕ, zero, suc, ◌+◌, ◌*◌, ◌/◌, ◌≤◌}
use native.Mathlib.Omega.{arith}
use mathlib.Core.Bool.{Bool, true, false, ◌&&◌}
use mathlib.Core.List.{List, [], ◌∷◌, map}
use lib.Dec.{leb}
use lib.ListN.{length, get_or, take, length-map}
use lib.Seq.{take-nil}
use Rattle.lists.proofs.Booleans.{and-fst, and-snd}
use Rattle.rules.specs.Names.{EntityRef, BoundaryKind, NoRoom}
use Rattle.tables.specs.View.{word}
use Rattle.row_tests.specs.Returned.{lane_at}
use Rattle.row_tests.proofs.Lanes.{id-at}
use Rattle.report.specs.Report.{listed, warned, orphan_rule, changed}
use Rattle.report.proofs.Warnings.{room}
use Rattle.mentions.specs.declared.Rows.TheVariants.{Rules, Orphans}
use Rattle.mentions.specs.Naming.{table_formed, naming}
use Rattle.unused.specs.declared.Gone.{Gone}
use Rattle.unused.specs.Parts.{Holds, gone_ids, touched, leaving, lists_fit, Left, left_tables, Removed, removed, without_lane}

pub orphans_formed : (t : List ℕ) → table_formed Rules t ≡ true → table_formed Orphans t ≡ true
unfolding table_formed
orphans_formed t h = h

-- ---- how many go

two-at-most : (n a b : ℕ) → length (take n (a ∷ b ∷ [])) ≤ 2
two-at-most zero a b = omega arith
two-at-most (suc zero) a b = omega arith
two-at-most (suc (suc n)) a b = rw (take-nil n) (omega arith)

pub gone_few : (g : Gone) (ids : List ℕ) → Holds g ids → g.count ≤ 2
gone_few g ids h = omega (arith, h.1, ap length h.0, two-at-most g.count g.first g.second)

leaving-length : (a : ℕ) (ids : List ℕ) → length (leaving a ids) ≡ length ids + 1
leaving-length a ids = let e = length-map {B = EntityRef} ids (λ i. record { kind = BoundaryKind; id = i }) in omega (arith, e)

-- ---- the lists have room

module _ (a : ℕ) (t : Left) (m d w : List ℕ) (g : Gone) (ids : List ℕ) (h : Holds g ids) (named orphans : ℕ)
    (counted : named ≡ length (touched a t.lanes t.roads t.junctions t.rules)) (warned-of : orphans ≡ length (naming Orphans a t.rules)) where
  gone-count : g.count + 1 ≡ length (leaving a ids)
  gone-count = sym (leaving-length a ids ∙ ap (λ z. z + 1) (sym h.1))

  warn_count : orphans ≡ length (map orphan_rule (naming Orphans a t.rules))
  warn_count = warned-of ∙ sym (length-map (naming Orphans a t.rules) orphan_rule)

  module _ (fit : lists_fit named (g.count + 1) orphans m d w ≡ true) where
    abbrev p : Bool
    p = leb named (length m / 2)

    abbrev q : Bool
    q = leb (g.count + 1) (length d / 2)

    pub named-room : length (touched a t.lanes t.roads t.junctions t.rules) * 2 ≤ length m
    named-room = let r = room named (length m) 2 (and-fst p q (and-fst (p && q) (leb orphans (length w / 10)) fit)) in omega (arith, r, counted)

    pub gone-room : length (leaving a (gone_ids g)) * 2 ≤ length d
    gone-room =
        let r = room (g.count + 1) (length d) 2 (and-snd p q (and-fst (p && q) (leb orphans (length w / 10)) fit)) in
        omega (arith, r, leaving-length a (gone_ids g), ap length h.0, h.1)

    pub warn_room : length (naming Orphans a t.rules) * 10 ≤ length w
    warn_room = let r = room orphans (length w) 10 (and-snd (p && q) (leb orphans (length w / 10)) fit) in omega (arith, r, warned-of)

  same-fits : lists_fit (length (touched a t.lanes t.roads t.junctions t.rules)) (length (leaving a ids)) (length (map orphan_rule (naming Orphans a t.rules))) m d w ≡ lists_fit named (g.count + 1) orphans m d w
  same-fits = three counted gone-count warn_count
    where
      three : {x y z u v k : ℕ} → x ≡ u → y ≡ v → z ≡ k → lists_fit u v k m d w ≡ lists_fit x y z m d w
      three e f i = rw (e, f, i)

  pub refused_removal : lists_fit named (g.count + 1) orphans m d w ≡ false → removed t m d w (Err NoRoom) ≡ without_lane a ids t m d w
  unfolding without_lane
  refused_removal fit = rw (same-fits ∙ fit)

  pub done_removal : lists_fit named (g.count + 1) orphans m d w ≡ true → (u : Left) (m' d' w' : List ℕ) → u ≡ left_tables a (gone_ids g) t
      → m' ≡ listed m (touched a t.lanes t.roads t.junctions t.rules) → d' ≡ listed d (leaving a (gone_ids g)) → w' ≡ warned w (map orphan_rule (naming Orphans a t.rules))
      → removed u m' d' w' (changed (record { created = 0; modified = named; deleted = g.count + 1; warnings = orphans })) ≡ without_lane a ids t m d w
  unfolding without_lane
  done_removal fit u m' d' w' e f i j =
      rw (same-fits ∙ fit) (joined (e ∙ ap (λ z. left_tables a z t) h.0) f (i ∙ ap (λ z. listed d (leaving a z)) h.0) j counted gone-count warn_count)
    where
      joined : {u v : Left} {x y p q r s : List ℕ} {k l n o b c : ℕ} → u ≡ v → x ≡ y → p ≡ q → r ≡ s → k ≡ l → n ≡ o → b ≡ c
          → removed u x p r (changed (record { created = 0; modified = k; deleted = n; warnings = b })) ≡ removed v y q s (changed (record { created = 0; modified = l; deleted = o; warnings = c }))
      joined e f g h i j k = rw (e, f, g, h, i, j, k)

-- the lane, as it is read from its row
pub lane-read : (ls : List ℕ) (i : ℕ) (t : Left) (m d w ids : List ℕ) (r : Removed) → r ≡ without_lane (get_or ls (1 + i * 52) 0) ids t m d w → r ≡ without_lane (word 0 (lane_at ls i)) ids t m d w
lane-read ls i t m d w ids r e = e ∙ ap (λ z. without_lane z ids t m d w) (id-at ls i)
