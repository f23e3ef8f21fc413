-- The lines of a written trace.
use Rattle.std.proofs.Common.{◌≡◌, ◌≢◌, ℕ, zero, suc, ◌+◌, ◌-◌, ◌/◌, ◌%◌, List, [], ◌∷◌, ◌++◌, Bool, true, false, cond, ◌==◌, length, map, nat_lt, decimal}
use Rattle.std.proofs.Common.{refl, ap, ◌∙◌, arith, ne_eqb}
use Rattle.std.specs.List.{count_by}
use Rattle.std.specs.Fmt.{digit_glyph, digits_onto, digits}
use Rattle.std.proofs.lemmas.List.Sums.{sum_by-cons, sum_by-append}
use Rattle.ccsl_kernel.specs.Syntax.{System}
use Rattle.ccsl_kernel.specs.Lives.{Step}
use Rattle.ccsl_vcd_write.specs.declared.code.TheConstants.{CODE_BYTES}
use Rattle.ccsl_vcd_write.specs.Code.{code_byte, code_of}
use Rattle.ccsl_vcd_write.specs.Text.{text_of, written_part, time_line, tick_line, step_text, steps_text, header_text, vcd_text}
use Rattle.ccsl_roundtrip.specs.Ticks.{ticks_written}

abbrev is_feed : ℕ → Bool
is_feed b = b == 10

-- how many line feeds a text has
abbrev pub feeds : List ℕ → ℕ
feeds text = count_by is_feed text

pub feeds-append : (a b : List ℕ) → feeds (a ++ b) ≡ feeds a + feeds b
feeds-append a b = sum_by-append (λ x. cond (is_feed x) 1 0) a b

feeds-cons : (x : ℕ) (a : List ℕ) → feeds (x ∷ a) ≡ cond (is_feed x) 1 0 + feeds a
feeds-cons x a = sum_by-cons (λ x. cond (is_feed x) 1 0) x a

feeds-other : (x : ℕ) (a : List ℕ) → x ≢ 10 → feeds (x ∷ a) ≡ feeds a
feeds-other x a n = let e : feeds (x ∷ a) ≡ 0 + feeds a = feeds-cons x a ∙ ap (λ t. cond t 1 0 + feeds a) (ne_eqb x 10 n) in omega (arith, e)

-- DIGITS have none
glyph-other : (d : ℕ) → digit_glyph false d ≢ 10
glyph-other d = by-test (nat_lt d 10)
  where
    by-test : (t : Bool) → cond t (48 + d) (87 + d) ≢ 10
    by-test true e = omega (arith, e)
    by-test false e = omega (arith, e)

onto-feeds : (k n : ℕ) (acc : List ℕ) → feeds acc ≡ 0 → feeds (digits_onto k 10 false n acc) ≡ 0
onto-feeds zero n acc e = e
onto-feeds (suc k) n acc e =
    let more : feeds (digit_glyph false (n % 10) ∷ acc) ≡ 0 = feeds-other (digit_glyph false (n % 10)) acc (glyph-other (n % 10)) ∙ e in
    by-test (n / 10 == 0) more (onto-feeds k (n / 10) (digit_glyph false (n % 10) ∷ acc) more)
  where
    by-test : (t : Bool) → feeds (digit_glyph false (n % 10) ∷ acc) ≡ 0 → feeds (digits_onto k 10 false (n / 10) (digit_glyph false (n % 10) ∷ acc)) ≡ 0 →
        feeds (cond t (digit_glyph false (n % 10) ∷ acc) (digits_onto k 10 false (n / 10) (digit_glyph false (n % 10) ∷ acc))) ≡ 0
    by-test true here later = here
    by-test false here later = later

time-feeds : (k : ℕ) → feeds (time_line k) ≡ 0
unfolding digits
time-feeds k = feeds-other 35 (decimal k) (λ e. omega (arith, e)) ∙ onto-feeds 64 k [] refl

-- CODES have none
code-other : (i : ℕ) → code_byte i ≢ 10
code-other i e = omega (arith, e)

code-feeds : (x : ℕ) → feeds (code_of x) ≡ 0
code-feeds x = by-test (nat_lt x CODE_BYTES)
  where
    by-test : (t : Bool) → feeds (cond t (code_byte x ∷ []) (code_byte ((x - CODE_BYTES) / CODE_BYTES) ∷ code_byte ((x - CODE_BYTES) % CODE_BYTES) ∷ [])) ≡ 0
    by-test true = feeds-other (code_byte x) [] (code-other x)
    by-test false = feeds-other (code_byte ((x - CODE_BYTES) / CODE_BYTES)) (code_byte ((x - CODE_BYTES) % CODE_BYTES) ∷ [])
        (code-other ((x - CODE_BYTES) / CODE_BYTES))
        ∙ feeds-other (code_byte ((x - CODE_BYTES) % CODE_BYTES)) [] (code-other ((x - CODE_BYTES) % CODE_BYTES))

tick-feeds : (x : ℕ) → feeds (tick_line x) ≡ 0
tick-feeds x = feeds-other 49 (code_of x) (λ e. omega (arith, e)) ∙ code-feeds x

-- A LINE ends with one
line-feeds : (line rest : List ℕ) → feeds line ≡ 0 → feeds (line ++ 10 ∷ rest) ≡ suc (feeds rest)
line-feeds line rest e =
    let a = feeds-append line (10 ∷ rest) in
    let c : feeds (10 ∷ rest) ≡ 1 + feeds rest = feeds-cons 10 rest in
    omega (arith, a, c, e)

ticks-feeds : (xs : List ℕ) → feeds (text_of (map tick_line xs)) ≡ length xs
ticks-feeds [] = refl
ticks-feeds (x ∷ xs) = line-feeds (tick_line x) (text_of (map tick_line xs)) (tick-feeds x) ∙ ap suc (ticks-feeds xs)

step-feeds : (k : ℕ) (K : System) (s : Step) → feeds (step_text k K s) ≡ suc (length (written_part K s))
step-feeds k K s = line-feeds (time_line k) (text_of (map tick_line (written_part K s))) (time-feeds k) ∙ ap suc (ticks-feeds (written_part K s))

steps-feeds : (k : ℕ) (K : System) (T : List Step) → feeds (steps_text k K T) ≡ length T + ticks_written K T
steps-feeds k K [] = refl
steps-feeds k K (s ∷ T) =
    let a = feeds-append (step_text k K s) (steps_text (k + 1) K T) in
    let b = step-feeds k K s in
    let c = steps-feeds (k + 1) K T in
    omega (arith, a, b, c)

-- a whole file has those of its header, one for each step and one for each tick
pub text-feeds : (K : System) (T : List Step) → feeds (vcd_text K T) ≡ feeds (header_text K) + (length T + ticks_written K T)
text-feeds K T = feeds-append (header_text K) (steps_text 0 K T) ∙ ap (λ n. feeds (header_text K) + n) (steps-feeds 0 K T)

-- so that the lines of the text are those of the header, one for each step and one for each tick
pub lines-counted : (K : System) (T : List Step) (text header : List ℕ) (all first steps : ℕ) → all ≡ feeds text → first ≡ feeds header → header ≡ header_text K
    → text ≡ vcd_text K T → length T ≡ steps → all ≡ first + (steps + ticks_written K T)
lines-counted K T text header all first steps a f h t n =
    let whole = text-feeds K T in
    let x : all ≡ feeds (vcd_text K T) = a ∙ ap feeds t in
    let y : first ≡ feeds (header_text K) = f ∙ ap feeds h in
    omega (arith, x, y, whole, n)
