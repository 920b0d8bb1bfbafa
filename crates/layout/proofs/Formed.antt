-- A layout of formed tables: formed again, and the same map. Assumes nothing.
use mathlib.Core.Path.{◌≡◌, refl, sym, ◌∙◌}
use mathlib.Core.Bool.{Bool, true, ◌&&◌}
use mathlib.Core.List.{List}
use Prim.Native.Nat.{ℕ, ◌/◌, min}
use native.Mathlib.Omega.{arith}
use lib.Dec.{leb}
use lib.ListN.{length}
use lib.Ieee.{Float}
use Rattle.lists.specs.Every.{all}
use Rattle.lists.proofs.Booleans.{and_both, and-fst, and-snd}
use Rattle.rules.specs.Sound.{sound}
use Rattle.tables.specs.View.{Tables, word, rows, view}
use Rattle.tables.specs.Formed.{spans, stored, counted, all_clear, lane_formed, rule_formed, formed, sound_tables}
use Rattle.layout.specs.Layout.{gathered, laid_out, line_tables, counted_lines, lines_formed, Gatherable}
use Rattle.layout.proofs.Keeps.{rows_formed, formed-is, gathered-formed}
use Rattle.layout.proofs.Room.{lines-facts, lines-gatherable, all_within_more}
use Rattle.layout.proofs.Views.{laid-out-view}

-- ---- the tables with lines, among all

-- the functions see the tables with lines alone, and lose nothing by it
pub gathered-lines : (w : List Float) (t : Tables)
    → gathered w (line_tables t.lanes t.boundaries t.stop_lines t.crosswalks t.coordinates)
    ≡ line_tables (gathered w t).lanes (gathered w t).boundaries (gathered w t).stop_lines (gathered w t).crosswalks (gathered w t).coordinates
unfolding gathered spans
gathered-lines w t = refl

pub laid-out-lines : (t : Tables)
    → laid_out (line_tables t.lanes t.boundaries t.stop_lines t.crosswalks t.coordinates)
    ≡ line_tables (laid_out t).lanes (laid_out t).boundaries (laid_out t).stop_lines (laid_out t).crosswalks (laid_out t).coordinates
unfolding laid_out
laid-out-lines t = gathered-lines t.coordinates t

pub lines-formed-lines : (t : Tables) → lines_formed (line_tables t.lanes t.boundaries t.stop_lines t.crosswalks t.coordinates) ≡ lines_formed t
unfolding lines_formed counted_lines spans
lines-formed-lines t = refl

-- ---- formed tables

rows-counted : (t : Tables) → rows_formed t ≡ true → counted_lines t ≡ true
unfolding rows_formed counted_lines
rows-counted t h =
    pick (counted 1024 52 t.lanes) (counted 4096 5 t.boundaries) (counted 256 68 t.roads) (counted 256 69 t.junctions) (counted 512 330 t.rules) (counted 512 4 t.stop_lines) (counted 128 7 t.crosswalks)
    (all (λ b. b) (rows 52 lane_formed t.lanes)) (all (λ w. w) (rows 68 (λ w. leb (word 3 w) 64) t.roads)) (all (λ w. w) (rows 69 (λ w. leb (word 4 w) 64) t.junctions)) (all (λ w. w) (rows 330 rule_formed t.rules)) h
  where
    pick : (l b d j u s x m n o p : Bool) → (l && b && d && j && u && s && x && m && n && o && p) ≡ true → (l && b && s && x) ≡ true
    pick l b d j u s x m n o p h =
        let h7 = and-fst (l && b && d && j && u && s && x) m (and-fst (l && b && d && j && u && s && x && m) n (and-fst (l && b && d && j && u && s && x && m && n) o (and-fst (l && b && d && j && u && s && x && m && n && o) p h))) in
        let h6 = and-fst (l && b && d && j && u && s) x h7 in
        let h2 = and-fst (l && b) d (and-fst (l && b && d) j (and-fst (l && b && d && j) u (and-fst (l && b && d && j && u) s h6))) in
        and_both (l && b && s) x (and_both (l && b) s h2 (and-snd (l && b && d && j && u) s h6)) (and-snd (l && b && d && j && u && s) x h7)

pub formed-lines : (t : Tables) → formed t ≡ true → lines_formed t ≡ true
unfolding lines_formed
formed-lines t h =
    let a = rows_formed t in
    let b = all (stored t.coordinates) (spans t) in
    let c = all_clear (spans t) in
    let e : (a && b && c) ≡ true = sym (formed-is t) ∙ h in
    let ab = and-fst (a && b) c e in
    rw (rows-counted t (and-fst a b ab), and-snd a b ab, and-snd (a && b) c e)

module _ (t : Tables) (h : formed t ≡ true) where
  pub formed-gatherable : Gatherable t.coordinates t
  formed-gatherable =
      let f = lines-facts t (formed-lines t h) in
      lines-gatherable t.coordinates t (formed-lines t h) (all_within_more (min 65536 (length t.coordinates / 3)) (length t.coordinates / 3) (spans t) (omega arith) f.fits)

  -- a layout keeps the map, and the tables formed
  pub formed-view : view (laid_out t) ≡ view t
  formed-view = laid-out-view t formed-gatherable

  pub formed-formed : formed (laid_out t) ≡ true
  unfolding laid_out
  formed-formed =
      let f = lines-facts t (formed-lines t h) in
      let a = rows_formed t in
      let b = all (stored t.coordinates) (spans t) in
      let c = all_clear (spans t) in
      let r = and-fst a b (and-fst (a && b) c (sym (formed-is t) ∙ h)) in
      gathered-formed t.coordinates t formed-gatherable (omega (arith, f.room)) r

-- sound memory stays sound
pub sound-laid-out : (counter : ℕ) (t : Tables) → sound_tables counter t ≡ true → sound_tables counter (laid_out t) ≡ true
unfolding sound_tables
sound-laid-out counter t h =
    let f = and-fst (formed t) (sound counter (view t)) h in
    rw (formed-formed t f, formed-view t f) (and-snd (formed t) (sound counter (view t)) h)
