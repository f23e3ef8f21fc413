-- How long a written trace is at most.
use Rattle.std.proofs.Common.{◌≡◌, ℕ, ◌+◌, ◌-◌, ◌*◌, ◌^◌, ◌≤◌, List, [], ◌∷◌, ◌++◌, length, All, true, nat_le, IsTrue, arith, length-append, codes}
use Rattle.std.specs.List.{list_all}
use Rattle.std.proofs.lemmas.Bool.{and_parts, leb-true}
use Rattle.std.proofs.lemmas.List.Elements.{All-head, All-tail}
use Rattle.ccsl_base.specs.Name.{is_word}
use Rattle.ccsl_base.specs.Clocks.{is_ascending}
use Rattle.ccsl_kernel.specs.Syntax.{System}
use Rattle.ccsl_vcd_write.specs.Code.{code_of}
use Rattle.ccsl_vcd_write.specs.Text.{text_of, var_line, var_lines, written_names, written_part, header_text, step_text, steps_text, vcd_text}
use Rattle.ccsl_vcd_write.proofs.CodeLaws.{code-short}
use Rattle.ccsl_vcd_write.proofs.Lines.{text_of-append}
use Rattle.ccsl_vcd_write.proofs.Spelling.{is_short_word}
use Rattle.ccsl_vcd_write.proofs.StepRows.{IsWithin, within, all-from-0}
use Rattle.ccsl_vcd_write.proofs.Growing.{step-length}
use Rattle.ccsl_vcd_write.proofs.Traces.{HasNames}

-- a declaration has 13 bytes in front, a code of 2, a blank, a name of 64, and 6 behind
var-length : (clock : ℕ) (name : List ℕ) → length name ≤ 64 → length (var_line clock name) + 1 ≤ 86
var-length clock name h =
    omega (
      arith,
      length-append (codes "$var event 1 " ++ code_of clock ++ codes " " ++ name) (codes " $end"),
      length-append (codes "$var event 1 " ++ code_of clock ++ codes " ") name,
      length-append (codes "$var event 1 " ++ code_of clock) (codes " "),
      length-append (codes "$var event 1 ") (code_of clock),
      code-short clock,
    )

vars-length : (clock : ℕ) (names : List (List ℕ)) → list_all is_short_word names ≡ true → length (text_of (var_lines clock names)) ≤ 86 * length names
vars-length clock [] h = omega arith
vars-length clock (name ∷ names) h =
    let p = and_parts (is_short_word name) (list_all is_short_word names) h in
    let short : length name ≤ 64 = leb-true (length name) 64 (and_parts (is_word name) (nat_le (length name) 64) p.0).1 in
    omega (
      arith,
      length-append (var_line clock name) (10 ∷ text_of (var_lines (clock + 1) names)),
      var-length clock name short,
      vars-length (clock + 1) names p.1,
    )

header-length : (K : System) → HasNames K → length (header_text K) ≤ 100000
header-length K n =
    let vars : List (List ℕ) = var_lines 0 (written_names K) in
    let back : List (List ℕ) = codes "$upscope $end" ∷ codes "$enddefinitions $end" ∷ [] in
    let joined : length (text_of (vars ++ back)) ≡ length (text_of vars) + length (text_of back) =
    rw (text_of-append vars back) (length-append (text_of vars) (text_of back)) in
    let few : K.written ≤ 1024 = n.few in
    let count : length (written_names K) ≡ K.written = n.count in
    omega (arith, joined, vars-length 0 (written_names K) n.short)

members-few : (low high : ℕ) (xs : List ℕ) → IsWithin low high xs → length xs ≤ high - low
members-few low high [] h = omega arith
members-few low high (x ∷ xs) h = let a = h.0 in let b = h.1 in omega (arith, members-few (x + 1) high xs h.2)

-- at most so many clocks of a step are written
pub written-few : (K : System) (step : List ℕ) → IsTrue (is_ascending step) → length (written_part K step) ≤ K.written
written-few K step h = omega (arith, members-few 0 K.written (written_part K step) (within 0 K.written step (all-from-0 step) h))

steps-length : (k : ℕ) (K : System) (steps : List (List ℕ)) → K.written ≤ 1024 → All (λ step. IsTrue (is_ascending step)) steps → k + length steps ≤ 2 ^ 64
    → length (steps_text k K steps) ≤ 4118 * length steps
steps-length k K [] few a h = omega arith
steps-length k K (step ∷ steps) few a h =
    let S : List ℕ → Type 0 = λ s. IsTrue (is_ascending s) in
    omega (
      arith,
      length-append (step_text k K step) (steps_text (k + 1) K steps),
      step-length k K step (omega arith),
      written-few K step (All-head S step steps a),
      steps-length (k + 1) K steps few (All-tail S step steps a) (omega arith),
    )

-- Every trace of as many steps as are simulated at most is within the bytes of a file.
pub texts-fit : (K : System) → HasNames K → (steps : List (List ℕ)) → All (λ step. IsTrue (is_ascending step)) steps → length steps ≤ 10000000
    → length (vcd_text K steps) ≤ 68719476736
texts-fit K n steps a h =
    omega (arith, length-append (header_text K) (steps_text 0 K steps), header-length K n, steps-length 0 K steps n.few a (omega arith))
