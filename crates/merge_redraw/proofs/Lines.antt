-- Joined lines drawn into parts of the work. Assumes nothing.
use Rattle.std.specs.Prelude.{Option, is_some}
use mathlib.Core.Path.{◌≡◌, sym, ◌∙◌}
use mathlib.Core.Bool.{Bool, true, false, cond}
use mathlib.Core.List.{List, [], append-nil}
use Prim.Native.Nat.{ℕ, ◌+◌, ◌-◌, ◌*◌, ◌≤◌}
use native.Mathlib.Nat.{add-zero}
use native.Mathlib.Omega.{arith}
use lib.Ieee.{Float}
use lib.ListN.{length, drop, length-drop}
use lib.Seq.{take_all, drop-length}
use borrow.Rule.Slice.PartMut.{mid_of, post_of, put_mid, Post-is}
use Rattle.lists.specs.Rows.{over}
use Rattle.lists.proofs.Rows.{over-nil, over-part}
use Rattle.polyline.specs.Polyline.{flat}
use Rattle.entities.specs.Records.{Line}
use Rattle.merge_plan.specs.declared.Joined.{Joined}
use Rattle.merge_plan.specs.declared.Plan.{Plan}
use Rattle.rules.specs.Names.{Left, Right}
use Rattle.merge_draw.specs.Redrawing.{stored_line}
use Rattle.merge_redraw.specs.Relaying.{side_points, is_kept, turned, side_floats, side_drawn, center_drawn, right_at, center_at, drawn_lines}

-- a list written to the front of the part that begins at place a
pub part-written : {A : Type 0} (w v l : List A) (a : ℕ) → a ≤ length w → v ≡ over (mid_of a (length w - a) w) 0 l → put_mid a (length w - a) w v ≡ over w a l
part-written w v l a h f =
    let t : post_of a (length w - a) w ≡ [] = Post-is a (length w) w h ∙ drop-length w in
    let m : mid_of a (length w - a) w ≡ drop a w = take_all (length w - a) (drop a w) (omega (arith, length-drop a w)) in
    rw (t, append-nil, f, m, over-part w a 0 l h, add-zero)

-- ---- a side

pub side-kept : (p : Joined) (r b : Bool) (l : Line) → b ≡ is_kept p → b ≡ true → (w : List Float) (a : ℕ) → w ≡ over w a (side_floats p r l)
side-kept p r b l k e w a =
    let z : is_kept p ≡ true = sym k ∙ e in
    rw z (sym (over-nil w a))

pub side-drawn : (p : Joined) (r b back : Bool) (l : Line) → b ≡ is_kept p → b ≡ false → back ≡ turned p r → (w v : List Float) (a : ℕ) → a ≤ length w
    → v ≡ over (mid_of a (length w - a) w) 0 (flat (stored_line back l)) → put_mid a (length w - a) w v ≡ over w a (side_floats p r l)
side-drawn p r b back l k e s w v a h f =
    let z : is_kept p ≡ false = sym k ∙ e in
    part-written w v (flat (stored_line back l)) a h f ∙ rw (z, s)

-- ---- the centreline

pub center_none : (o : Option ℕ) (b : Bool) (l : List Float) → b ≡ is_some o → b ≡ false → (w : List Float) (a : ℕ) → w ≡ over w a (cond (is_some o) l [])
center_none o b l k e w a =
    let z : is_some o ≡ false = sym k ∙ e in
    rw z (sym (over-nil w a))

pub center_drawn_lem : (o : Option ℕ) (b : Bool) (l : List Float) → b ≡ is_some o → b ≡ true → (w v : List Float) (a : ℕ) → a ≤ length w
    → v ≡ over (mid_of a (length w - a) w) 0 l → put_mid a (length w - a) w v ≡ over w a (cond (is_some o) l [])
center_drawn_lem o b l k e w v a h f =
    let z : is_some o ≡ true = sym k ∙ e in
    part-written w v l a h f ∙ rw z

-- ---- all of them

-- the lines of both sides and the centreline
pub all-drawn : (join : Float) (c : List Float) (lanes boundaries : List ℕ) (i j : ℕ) (p : Plan) (a b : ℕ) → a ≡ side_points p.left → b ≡ side_points p.right
    → (w left right center : List Float) → left ≡ over w (0 * 3) (side_drawn join c lanes boundaries i j Left p.left)
    → right ≡ over left (a * 3) (side_drawn join c lanes boundaries i j Right p.right) → center ≡ over right ((a + b) * 3) (center_drawn join c lanes i j p.center)
    → center ≡ drawn_lines join c lanes boundaries i j p w
unfolding drawn_lines
all-drawn join c lanes boundaries i j p a b ae be w left right center le re e =
    let x : a * 3 ≡ right_at p 0 * 3 = omega arith in
    let y : (a + b) * 3 ≡ center_at p 0 * 3 = omega arith in
    rw (e, re, le, x, y)
