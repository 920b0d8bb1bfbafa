-- A rule's own lanes where lanes are cut: followed all at once or one cut lane after the other, a list without repeats becomes the same. Assumes nothing.
use Rattle.std.specs.Prelude.{Option, None, Some}
use mathlib.Core.Path.{◌≡◌, refl, sym, ap, ◌∙◌}
use mathlib.Core.Bool.{Bool, true, false, ◌&&◌, cond}
use mathlib.Core.List.{List, [], ◌∷◌, map}
use Prim.Native.Nat.{ℕ, suc}
use lib.Dec.{eqb, ltb}
use lib.Ieee.{Float}
use borrow.Author.Tests.{eqb-true, ltb-true}
use Rattle.lists.specs.Select.{find, has, above, ascending, distinct, second_of}
use Rattle.lists.proofs.Every.{all_head, all_tail}
use Rattle.lists.proofs.Select.{ascending-tail, map_same, map-itself}
use Rattle.geometry.specs.declared.Point2.{Point2}
use Rattle.entities.specs.Records.{Map}
use Rattle.rules.specs.Split.{LanePlan, halves, plan_for, on_second, followed, follow}
use Rattle.rules.specs.Turns.{swap_first, follow_one, follow_all}
use Rattle.laws.proofs.Links.{eqb_swap}
use Rattle.laws.proofs.Once.{lacks-head, lacks-tail, distinct_head, distinct_tail, Fine, under, under_more, cut_ids, later-lacks, under-lacks, none_after, after_turn, follow-fine, distinct-turns}

-- ---- what stands in the place of a lane

plan-lacks : (i : ℕ) (ps : List LanePlan) → has i (cut_ids ps) ≡ false → plan_for ps i ≡ None
unfolding find
plan-lacks i [] h = refl
plan-lacks i (x ∷ ps) h = rw (eqb_swap x.of.id i, lacks-head i x.of.id (cut_ids ps) h) (plan-lacks i ps (lacks-tail i x.of.id (cut_ids ps) h))

module _ (join : Float) (m : Map) (p : Point2) where
  -- by the plan and the second half that are found
  abbrev placed : ℕ → Option LanePlan → Option ℕ → ℕ
  placed i o q = elim o [ None ↦ i | Some x ↦ elim q [ None ↦ i | Some j ↦ cond (on_second join m x j p) j i ] ]

  followed-by : (ps : List LanePlan) (hs : List (ℕ × ℕ)) (i : ℕ) (o : Option LanePlan) (q : Option ℕ) → plan_for ps i ≡ o → second_of hs i ≡ q → followed join m ps hs p i ≡ placed i o q
  followed-by ps hs i o q e f = ap (λ z. placed i z (second_of hs i)) e ∙ ap (placed i o) f

  -- a lane that is not cut stays
  followed-lacks : (ps : List LanePlan) (hs : List (ℕ × ℕ)) (i : ℕ) → has i (cut_ids ps) ≡ false → followed join m ps hs p i ≡ i
  followed-lacks ps hs i h = followed-by ps hs i None (second_of hs i) (plan-lacks i ps h) refl

  module _ (n : ℕ) (x : LanePlan) (ps : List LanePlan) where
    abbrev now : ℕ → ℕ
    now = followed join m (x ∷ ps) (halves n (x ∷ ps)) p

    -- what the later lanes make of i
    abbrev later : ℕ → ℕ
    later = followed join m ps (halves (suc n) ps) p

    now-here : (i : ℕ) → eqb x.of.id i ≡ true → now i ≡ cond (on_second join m x n p) n i
    unfolding find halves
    now-here i e = followed-by (x ∷ ps) (halves n (x ∷ ps)) i (Some x) (Some n) (rw e) (rw (second_of, e))

    now-other : (i : ℕ) → eqb x.of.id i ≡ false → now i ≡ later i
    unfolding find halves
    now-other i e = followed-by (x ∷ ps) (halves n (x ∷ ps)) i (plan_for ps i) (second_of (halves (suc n) ps) i) (rw e) (rw (second_of, e))

    now-others : (ids : List ℕ) → has x.of.id ids ≡ false → map now ids ≡ map later ids
    now-others [] h = refl
    now-others (i ∷ ids) h = rw (now-other i (lacks-head x.of.id i ids h), now-others ids (lacks-tail x.of.id i ids h))

    module _ (up : above x.of.id (cut_ids ps) ≡ true) (a : under n ps ≡ true) where
      -- the second half stands in the first one's place
      swapped : on_second join m x n p ≡ true → (ids : List ℕ) → distinct ids ≡ true → map now ids ≡ map later (swap_first x.of.id (n ∷ []) ids)
      unfolding swap_first
      swapped s [] d = refl
      swapped s (i ∷ ids) d = go (eqb i x.of.id) refl (swapped s ids (distinct_tail i ids d))
        where
          go : (b : Bool) → eqb i x.of.id ≡ b → map now ids ≡ map later (swap_first x.of.id (n ∷ []) ids)
              → map now (i ∷ ids) ≡ map later (cond b (n ∷ ids) (i ∷ swap_first x.of.id (n ∷ []) ids))
          go true e r =
              let here : now i ≡ later n =
              now-here i (eqb_swap x.of.id i ∙ e) ∙ ap (λ c. cond c n i) s ∙ sym (followed-lacks ps (halves (suc n) ps) n (under-lacks n ps a)) in
              rw (here, now-others ids (ap (λ k. has k ids) (sym (eqb-true i x.of.id e)) ∙ distinct_head i ids d))
          go false e r = rw (now-other i (eqb_swap x.of.id i ∙ e), r)

      -- the first stays
      kept : on_second join m x n p ≡ false → (i : ℕ) → now i ≡ later i
      kept s i = go (eqb x.of.id i) refl
        where
          go : (b : Bool) → eqb x.of.id i ≡ b → now i ≡ later i
          go true e =
              now-here i e ∙ ap (λ c. cond c n i) s
              ∙ sym (followed-lacks ps (halves (suc n) ps) i (ap (λ k. has k (cut_ids ps)) (sym (eqb-true x.of.id i e)) ∙ later-lacks x.of.id ps up))
          go false e = now-other i e

      -- one cut lane, then the others
      turn : (ids : List ℕ) → distinct ids ≡ true → map now ids ≡ map later (follow_one join m (Some p) x n ids)
      turn ids d = go (has x.of.id ids) refl (on_second join m x n p) refl
        where
          go : (b : Bool) → has x.of.id ids ≡ b → (c : Bool) → on_second join m x n p ≡ c → map now ids ≡ map later (cond (b && c) (swap_first x.of.id (n ∷ []) ids) ids)
          go true h true s = swapped s ids d
          go true h false s = map_same now later ids (kept s)
          go false h c s = now-others ids h

-- ---- all at once, or in turns

module _ (join : Float) (m : Map) where
  one-turn : (anchor : Option Point2) (n : ℕ) (x : LanePlan) (ps : List LanePlan) (ids : List ℕ) → above x.of.id (cut_ids ps) ≡ true → under n ps ≡ true → distinct ids ≡ true
      → follow join m (x ∷ ps) (halves n (x ∷ ps)) anchor ids ≡ follow join m ps (halves (suc n) ps) anchor (follow_one join m anchor x n ids)
  unfolding follow
  one-turn None n x ps ids up a d = after_turn n x ps ids up a d
  one-turn (Some p) n x ps ids up a d = turn join m p n x ps up a ids d

  none-cut : (anchor : Option Point2) (n : ℕ) (ids : List ℕ) → follow join m [] (halves n []) anchor ids ≡ ids
  unfolding follow halves find
  none-cut None n ids = none_after ids
  none-cut (Some p) n ids = map-itself ids

  pub in_turns : (anchor : Option Point2) (n : ℕ) (ps : List LanePlan) (ids : List ℕ) → ascending (cut_ids ps) ≡ true → under n ps ≡ true → Fine n ids
      → follow join m ps (halves n ps) anchor ids ≡ follow_all join m anchor n ps ids
  unfolding follow_all ascending
  in_turns anchor n [] ids up a f = none-cut anchor n ids
  in_turns anchor n (x ∷ ps) ids up a f =
      let rest = all_tail (λ y. ltb y.of.id n) x ps a in
      one-turn anchor n x ps ids up rest f.once
      ∙ in_turns anchor (suc n) ps (follow_one join m anchor x n ids) (ascending-tail x.of.id (cut_ids ps) up) (under_more n ps rest)
      (follow-fine join m anchor x n ids (ltb-true x.of.id n (all_head (λ y. ltb y.of.id n) x ps a)) f)

  -- A rule's own lanes stay free of repeats.
  pub distinct-follow : (anchor : Option Point2) (n : ℕ) (ps : List LanePlan) (ids : List ℕ) → ascending (cut_ids ps) ≡ true → under n ps ≡ true → Fine n ids
      → distinct (follow join m ps (halves n ps) anchor ids) ≡ true
  distinct-follow anchor n ps ids up a f = ap distinct (in_turns anchor n ps ids up a f) ∙ distinct-turns join m anchor n ps ids a f
