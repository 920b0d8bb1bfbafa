-- The warnings of a merge, one row behind the other. Assumes nothing.
use Rattle.std.specs.Prelude.{Option, None, Some}
use mathlib.Core.Path.{◌≡◌, refl, ap, ◌∙◌}
use Prim.Native.Nat.{ℕ, ◌+◌, ◌*◌, ◌≤◌, ◌<◌}
use native.Mathlib.Omega.{arith}
use mathlib.Core.Bool.{Bool, true, false, cond}
use mathlib.Core.List.{List, [], ◌∷◌, ◌++◌, append_assoc}
use lib.ListN.{length, get_or, length-append}
use Rattle.entities.specs.Records.{Issue}
use Rattle.report.specs.Report.{issues, warned, warned_at}
use Rattle.report.specs.declared.Notice.{Notice}
use Rattle.report.specs.declared.Notice.TheVariants.{Pair}
use Rattle.entities.specs.Types.{lane_entity}
use Rattle.rules.specs.Names.{Left, Right, AttributeConflict}
use Rattle.rules.specs.Map.{neighbor_on}
use Rattle.rules.specs.Edit.{when, warning}
use Rattle.rules.specs.Merge as M
use Rattle.tables.specs.View.{word, lane_of}
use Rattle.lookup.specs.Lookup.{row_at}
use Rattle.merge_plan.specs.declared.Joined.{Joined}
use Rattle.merge_plan.specs.Sides.{side_ids}
use Rattle.merge_plan.specs.Deciding.{lane_in}
use Rattle.merge_plan.proofs.Laws.{id-read}
use Rattle.report.proofs.Warnings.{few, issues-short, warned-whole, warned-more, length-warned-at, none-put}
use Rattle.merge_lists.specs.declared.Notices.{Notices}
use Rattle.merge_lists.specs.Changes.{issues_of, conflicting, unshared, warnings_of}
use Rattle.lists.specs.Every.{all}
use Rattle.lists.proofs.Every.{all_append, all_nil}
use Rattle.report.proofs.Warnings.{short}

-- how many there are
pub issues-count : (n : Notices) → length (issues_of n) ≡ length (issues n.conflict) + length (issues n.left) + length (issues n.right) + length (issues n.one) + length (issues n.other)
issues-count n =
    let a = issues n.conflict in
    let b = issues n.left in
    let c = issues n.right in
    let d = issues n.one in
    let e = issues n.other in
    omega (arith, length-append a (b ++ (c ++ (d ++ e))), length-append b (c ++ (d ++ e)), length-append c (d ++ e), length-append d e)

pub issues-few : (n : Notices) → length (issues n.conflict) + length (issues n.left) + length (issues n.right) + length (issues n.one) + length (issues n.other) ≤ 5
issues-few n = omega (arith, few n.conflict, few n.left, few n.right, few n.one, few n.other)

-- the warnings v are those of w with `is` in its first rows, and `at` is the row behind them
pub record Stand (w : List ℕ) (is : List Issue) (v : List ℕ) (at : ℕ) : Type 0 where
  pub behind : at ≡ length is
  pub words : v ≡ warned_at 0 w is
  pub shorts : all short is ≡ true

pub none-noted : (w : List ℕ) → Stand w [] w 0
none-noted w = record { behind = refl; words = none-put 0 w; shorts = all_nil short }

module _ (w : List ℕ) (is : List Issue) (v : List ℕ) (at : ℕ) (s : Stand w is v at) (n : Option Notice) (room : (length is + length (issues n)) * 10 ≤ length w) where
  pub note-room : (at + length (issues n)) * 10 ≤ length v
  note-room = omega (arith, s.behind, ap length s.words, length-warned-at 0 w is s.shorts (omega arith))

  pub note-more : (m : ℕ) (u : List ℕ) → m ≡ at + length (issues n) → u ≡ warned_at at v (issues n) → Stand w (is ++ issues n) u m
  note-more m u e f =
      let front : at ≡ 0 + length is = omega (arith, s.behind) in
      record {
        behind = omega (arith, s.behind, length-append is (issues n));
        words = f ∙ (ap (λ k. warned_at k v (issues n)) front ∙ (ap (λ z. warned_at (0 + length is) z (issues n)) s.words ∙ warned-more 0 w is s.shorts (omega arith) (issues n)));
        shorts = all_append short is (issues n) s.shorts (issues-short n);
      }

-- ---- five notices

module _ (n : Notices) (w : List ℕ) (h : length (issues_of n) * 10 ≤ length w) where
  pub room_1 : (0 + length (issues n.conflict)) * 10 ≤ length w
  room_1 = note-room w ([]) w 0 (none-noted w) n.conflict (omega (arith, h, issues-count n))

  module _ (m1 : ℕ) (v1 : List ℕ) (e1 : m1 ≡ 0 + length (issues n.conflict)) (p1 : v1 ≡ warned_at 0 w (issues n.conflict)) where
    s1 : Stand w ([] ++ issues n.conflict) v1 m1
    s1 = note-more w ([]) w 0 (none-noted w) n.conflict (omega (arith, h, issues-count n)) m1 v1 e1 p1

    c1 : m1 ≡ length (issues n.conflict)
    c1 = omega (arith, e1)

    pub room_2 : (m1 + length (issues n.left)) * 10 ≤ length v1
    room_2 = note-room w ([] ++ issues n.conflict) v1 m1 s1 n.left (omega (arith, h, issues-count n, s1.behind, c1))

    module _ (m2 : ℕ) (v2 : List ℕ) (e2 : m2 ≡ m1 + length (issues n.left)) (p2 : v2 ≡ warned_at m1 v1 (issues n.left)) where
      s2 : Stand w (([] ++ issues n.conflict) ++ issues n.left) v2 m2
      s2 = note-more w ([] ++ issues n.conflict) v1 m1 s1 n.left (omega (arith, h, issues-count n, s1.behind, c1)) m2 v2 e2 p2

      c2 : m2 ≡ length (issues n.conflict) + length (issues n.left)
      c2 = omega (arith, e2, c1)

      pub room_3 : (m2 + length (issues n.right)) * 10 ≤ length v2
      room_3 = note-room w (([] ++ issues n.conflict) ++ issues n.left) v2 m2 s2 n.right (omega (arith, h, issues-count n, s2.behind, c2))

      module _ (m3 : ℕ) (v3 : List ℕ) (e3 : m3 ≡ m2 + length (issues n.right)) (p3 : v3 ≡ warned_at m2 v2 (issues n.right)) where
        s3 : Stand w ((([] ++ issues n.conflict) ++ issues n.left) ++ issues n.right) v3 m3
        s3 = note-more w (([] ++ issues n.conflict) ++ issues n.left) v2 m2 s2 n.right (omega (arith, h, issues-count n, s2.behind, c2)) m3 v3 e3 p3

        c3 : m3 ≡ length (issues n.conflict) + length (issues n.left) + length (issues n.right)
        c3 = omega (arith, e3, c2)

        pub room_4 : (m3 + length (issues n.one)) * 10 ≤ length v3
        room_4 = note-room w ((([] ++ issues n.conflict) ++ issues n.left) ++ issues n.right) v3 m3 s3 n.one (omega (arith, h, issues-count n, s3.behind, c3))

        module _ (m4 : ℕ) (v4 : List ℕ) (e4 : m4 ≡ m3 + length (issues n.one)) (p4 : v4 ≡ warned_at m3 v3 (issues n.one)) where
          s4 : Stand w (((([] ++ issues n.conflict) ++ issues n.left) ++ issues n.right) ++ issues n.one) v4 m4
          s4 = note-more w ((([] ++ issues n.conflict) ++ issues n.left) ++ issues n.right) v3 m3 s3 n.one (omega (arith, h, issues-count n, s3.behind, c3)) m4 v4 e4 p4

          c4 : m4 ≡ length (issues n.conflict) + length (issues n.left) + length (issues n.right) + length (issues n.one)
          c4 = omega (arith, e4, c3)

          pub room_5 : (m4 + length (issues n.other)) * 10 ≤ length v4
          room_5 = note-room w (((([] ++ issues n.conflict) ++ issues n.left) ++ issues n.right) ++ issues n.one) v4 m4 s4 n.other (omega (arith, h, issues-count n, s4.behind, c4))

          pub all-warned : (m5 : ℕ) (v5 : List ℕ) → m5 ≡ m4 + length (issues n.other) → v5 ≡ warned_at m4 v4 (issues n.other) → v5 ≡ warned w (issues_of n)
          all-warned m5 v5 e5 p5 =
              let a = issues n.conflict in
              let b = issues n.left in
              let c = issues n.right in
              let d = issues n.one in
              let e = issues n.other in
              (note-more w (((([] ++ issues n.conflict) ++ issues n.left) ++ issues n.right) ++ issues n.one) v4 m4 s4 n.other (omega (arith, h, issues-count n, s4.behind, c4)) m5 v5 e5 p5).words
              ∙ (ap (warned_at 0 w) (append_assoc ((a ++ b) ++ c) d e ∙ (append_assoc (a ++ b) c (d ++ e) ∙ append_assoc a b (c ++ (d ++ e)))) ∙ warned-whole w (issues_of n))

-- ---- what is noticed

pub conflict-noted : (lanes : List ℕ) (i j : ℕ) (b : Bool) → b ≡ M.conflict (lane_in [] lanes i) (lane_in [] lanes j) → (r : Option Notice)
    → r ≡ cond b (Some (Pair AttributeConflict (get_or lanes (1 + i * 52) 0) (get_or lanes (1 + j * 52) 0))) None → issues r ≡ conflicting lanes i j
unfolding lane_of
conflict-noted lanes i j b e r f =
    let p : 0 < 52 = omega arith in
    f' b (rw (id-read 52 lanes i p, id-read 52 lanes j p) at f) ∙ ap (λ z. when z (warning AttributeConflict (lane_entity (lane_in [] lanes i).id) (lane_entity (lane_in [] lanes j).id ∷ []))) e
  where
    f' : (b : Bool) → r ≡ cond b (Some (Pair AttributeConflict (word 0 (row_at 52 lanes i)) (word 0 (row_at 52 lanes j)))) None
        → issues r ≡ when b (warning AttributeConflict (lane_entity (word 0 (row_at 52 lanes i))) (lane_entity (word 0 (row_at 52 lanes j)) ∷ []))
    f' true q = rw q
    f' false q = rw q

pub all_noted : (lanes : List ℕ) (i j : ℕ) (l r : Joined) (next k : ℕ) → k ≡ side_ids l → (a b c d e : Option Notice) → issues a ≡ conflicting lanes i j
    → issues b ≡ M.dropped (lane_in [] lanes i).id (neighbor_on Left (lane_in [] lanes j)) (neighbor_on Left (lane_in [] lanes i))
    → issues c ≡ M.dropped (lane_in [] lanes i).id (neighbor_on Right (lane_in [] lanes j)) (neighbor_on Right (lane_in [] lanes i)) → issues d ≡ unshared l next → issues e ≡ unshared r (next + k)
    → issues_of (record { conflict = a; left = b; right = c; one = d; other = e }) ≡ warnings_of lanes i j l r next
all_noted lanes i j l r next k s a b c d e p q u v w = rw (p, q, u, v, w, s)
