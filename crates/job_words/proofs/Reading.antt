-- Commands read one behind the other. Assumes nothing.
use mathlib.Core.Path.{◌≡◌, refl, sym, ap, ◌∙◌}
use mathlib.Core.List.{List, [], ◌∷◌, ◌++◌}
use Prim.Native.Nat.{ℕ, zero, suc, ◌+◌, ◌-◌, ◌*◌, ◌≤◌, ◌<◌}
use native.Mathlib.Omega.{arith}
use lib.ListN.{length, take, drop, get_or, set, length-drop, length-set}
use lib.Seq.{drop-drop, get_or-set_same, take_all, take-set-le, take-suc}
use Rattle.words.specs.Words.{command_of}
use Rattle.jobs.specs.declared.Edit.{Edit}
use Rattle.job_words.specs.JobWords.{edits_in}

-- one command more, at the end
pub edits-more : (i : ℕ) (w : List ℕ) → edits_in (suc i) w ≡ edits_in i w ++ (record { command = command_of (drop (i * 5) w) } ∷ [])
unfolding edits_in
edits-more zero w = refl
edits-more (suc i) w =
    let same : 5 + i * 5 ≡ suc i * 5 = omega arith in
    let e : drop (i * 5) (drop 5 w) ≡ drop (suc i * 5) w = drop-drop (i * 5) 5 w ∙ ap (λ n. drop n w) same in
    ap (λ (r : List Edit). record { command = command_of w } ∷ r) (edits-more i (drop 5 w) ∙ ap (λ z. edits_in i (drop 5 w) ++ (record { command = command_of z } ∷ [])) e)

-- a list whose first places are read grows by the command that is stored at the next
pub edits-stored : (es : List Edit) (i : ℕ) (w : List ℕ) (x : Edit) → i < length es → take i es ≡ edits_in i w → x ≡ record { command = command_of (drop (i * 5) w) }
    → take (suc i) (set es i x) ≡ edits_in (suc i) w
edits-stored es i w x h e q =
    let l : i < length (set es i x) = rw (length-set es i x) h in
    let le : i ≤ i = omega arith in
    take-suc (set es i x) i x l
    ∙ (ap (λ (r : List Edit). r ++ (get_or (set es i x) i x ∷ [])) (take-set-le i es i x le ∙ e)
    ∙ (ap (λ (y : Edit). edits_in i w ++ (y ∷ [])) (get_or-set_same es i x x h ∙ q) ∙ sym (edits-more i w)))

-- ---- parts that go to the end

pub rest_of : (n : ℕ) (w : List ℕ) → n ≤ length w → take (length w - n) (drop n w) ≡ drop n w
rest_of n w h = let l : length (drop n w) ≤ length w - n = rw length-drop (omega arith) in take_all (length w - n) (drop n w) l

nothing-behind : (n : ℕ) (w : List ℕ) → length w ≤ n → drop n w ≡ []
nothing-behind zero [] h = refl
nothing-behind zero (x ∷ w) h = absurd (none h)
  where
    none : suc (length w) ≤ 0 → ⊥
    none h = omega arith
nothing-behind (suc n) [] h = refl
nothing-behind (suc n) (x ∷ w) h = nothing-behind n w (omega arith)

-- past the end there is nothing, wherever one looks
pub past_end : (n : ℕ) (w : List ℕ) → length w ≤ n → take (length w - length w) (drop (length w) w) ≡ drop n w
past_end n w h =
    let l : length w ≤ length w = omega arith in
    rest_of (length w) w l ∙ (nothing-behind (length w) w l ∙ sym (nothing-behind n w h))
