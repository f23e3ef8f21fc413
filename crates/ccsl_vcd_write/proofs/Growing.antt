-- How the written text grows.
use Rattle.std.proofs.Common.{◌≡◌, ℕ, zero, suc, ◌+◌, ◌*◌, ◌^◌, ◌≤◌, ◌<◌, List, [], ◌∷◌, ◌++◌, length, map, take, filter, Bool, true, false, cond, Some}
use Rattle.std.proofs.Common.{slice_get, sym, ap, ◌∙◌, arith, lit<, add-one, length-append, append_assoc, append-nil, decimal, codes}
use Rattle.std.proofs.lemmas.Fmt.{length-decimal-le}
use Rattle.ccsl_kernel.specs.Syntax.{System}
use Rattle.ccsl_vcd_write.specs.Room.{step_room}
use Rattle.ccsl_vcd_write.specs.Text.{text_of, var_line, var_lines, written_names, written_part, time_line, tick_line, step_text, steps_text, header_text}
use Rattle.ccsl_vcd_write.specs.Text.{vcd_text}
use Rattle.ccsl_vcd_write.proofs.CodeLaws.{code-short}
use Rattle.ccsl_vcd_write.proofs.Lines.{text_of-append}

-- one more declaration
vars-snoc : (clock n : ℕ) (names : List (List ℕ)) (name : List ℕ) → slice_get names n ≡ Some name
    → var_lines clock (take (suc n) names) ≡ var_lines clock (take n names) ++ var_line (clock + n) name ∷ []
vars-snoc clock n [] name e = absurd (cc)
vars-snoc clock zero (x ∷ names) name e =
    let same : x ≡ name = cc in
    let here : clock ≡ clock + 0 = omega arith in
    ap (λ (y : List ℕ). var_line clock y ∷ []) same ∙ ap (λ (k : ℕ). var_line k name ∷ []) here
vars-snoc clock (suc n) (x ∷ names) name e =
    let place : clock + 1 + n ≡ clock + suc n = omega arith in
    ap (λ (ls : List (List ℕ)). var_line clock x ∷ ls)
    (vars-snoc (clock + 1) n names name e ∙ ap (λ (k : ℕ). var_lines (clock + 1) (take n names) ++ var_line k name ∷ []) place)

pub vars-more : (n : ℕ) (names : List (List ℕ)) (name : List ℕ) → slice_get names n ≡ Some name
    → text_of (var_lines 0 (take (n + 1) names)) ≡ text_of (var_lines 0 (take n names)) ++ text_of (var_line n name ∷ [])
vars-more n names name e =
    let here : 0 + n ≡ n = omega arith in
    ap (λ (k : ℕ). text_of (var_lines 0 (take k names))) (add-one n)
    ∙ ap text_of (vars-snoc 0 n names name e ∙ ap (λ (k : ℕ). var_lines 0 (take n names) ++ var_line k name ∷ []) here)
    ∙ text_of-append (var_lines 0 (take n names)) (var_line n name ∷ [])

-- a step has room

pub ticks-length : (xs : List ℕ) → length (text_of (map tick_line xs)) ≤ 4 * length xs
ticks-length [] = omega arith
ticks-length (x ∷ xs) = omega (arith, length-append (tick_line x) (10 ∷ text_of (map tick_line xs)), code-short x, ticks-length xs)

pub time-length : (k : ℕ) → k < 2 ^ 64 → length (decimal k) ≤ 20
time-length k h = length-decimal-le 20 k (lit< tt) (omega arith) h

pub step-length : (k : ℕ) (K : System) (step : List ℕ) → k < 2 ^ 64 → length (step_text k K step) ≤ step_room (written_part K step)
step-length k K step h =
    omega (arith, length-append (time_line k) (10 ∷ text_of (map tick_line (written_part K step))), time-length k h, ticks-length (written_part K step))

pub filter-shorter : (p : ℕ → Bool) (xs : List ℕ) → length (filter p xs) ≤ length xs
filter-shorter p [] = omega arith
filter-shorter p (x ∷ xs) =
    let rest : length (filter p xs) ≤ length xs = filter-shorter p xs in
    elim (p x) as (λ w. length (cond w (x ∷ filter p xs) (filter p xs)) ≤ length (x ∷ xs)) [ true ↦ omega arith | false ↦ omega arith ]

-- A trace with one more step is the trace, and then that step.

steps-snoc : (k : ℕ) (K : System) (steps : List (List ℕ)) (step : List ℕ)
    → steps_text k K (steps ++ step ∷ []) ≡ steps_text k K steps ++ step_text (k + length steps) K step
steps-snoc k K [] step =
    let here : k ≡ k + 0 = omega arith in
    append-nil (step_text k K step) ∙ ap (λ (n : ℕ). step_text n K step) here
steps-snoc k K (s ∷ steps) step =
    let place : k + 1 + length steps ≡ k + length (s ∷ steps) = omega arith in
    ap (λ (bs : List ℕ). step_text k K s ++ bs) (steps-snoc (k + 1) K steps step)
    ∙ sym (append_assoc (step_text k K s) (steps_text (k + 1) K steps) (step_text (k + 1 + length steps) K step))
    ∙ ap (λ (n : ℕ). (step_text k K s ++ steps_text (k + 1) K steps) ++ step_text n K step) place

pub trace-snoc : (K : System) (steps : List (List ℕ)) (step : List ℕ) → vcd_text K (steps ++ step ∷ []) ≡ vcd_text K steps ++ step_text (length steps) K step
trace-snoc K steps step =
    let here : 0 + length steps ≡ length steps = omega arith in
    ap (λ (bs : List ℕ). header_text K ++ bs) (steps-snoc 0 K steps step ∙ ap (λ (n : ℕ). steps_text 0 K steps ++ step_text n K step) here)
    ∙ sym (append_assoc (header_text K) (steps_text 0 K steps) (step_text (length steps) K step))

-- the header's lines, one behind the other
pub header-parts : (out : List ℕ) (K : System)
    → ((((((out ++ text_of (codes "$version ccsl $end" ∷ [])) ++ text_of (codes "$timescale 1 ns $end" ∷ [])) ++ text_of (codes "$scope module ccsl $end" ∷ []))
    ++ text_of (var_lines 0 (written_names K))) ++ text_of (codes "$upscope $end" ∷ [])) ++ text_of (codes "$enddefinitions $end" ∷ []))
    ≡ out ++ header_text K
header-parts out K =
    let vars : List (List ℕ) = var_lines 0 (written_names K) in
    let back : List (List ℕ) = codes "$upscope $end" ∷ codes "$enddefinitions $end" ∷ [] in
    let front : List ℕ → List ℕ = λ bs. codes "$version ccsl $end\n$timescale 1 ns $end\n$scope module ccsl $end\n" ++ bs in
    simp append_assoc (ap (λ (bs : List ℕ). out ++ front bs) (sym (text_of-append vars back)))
