-- A written trace as lines of words.
use Rattle.std.proofs.Common.{◌≡◌, ℕ, ◌+◌, ◌^◌, ◌≤◌, ◌<◌, List, [], ◌∷◌, ◌++◌, length, map, Bool, true, ◌&&◌, not, nat_le, refl, sym, ap, ap₂, ◌∙◌, arith, lit<}
use Rattle.std.proofs.Common.{append_assoc, decimal, codes}
use Rattle.std.specs.List.{list_all, AllByRecursion}
use Rattle.std.specs.Str.Parse.{AllDigits}
use Rattle.std.proofs.lemmas.Bool.{and_parts, le-leb, leb-true}
use Rattle.std.proofs.lemmas.Fmt.{decimal_is_IsNumeral, length-decimal-le}
use Rattle.std.proofs.lemmas.Grind.{common_steps}
use Rattle.std.proofs.lemmas.List.{map-append}
use Rattle.std.proofs.lemmas.List.Folds.{list_all-append}
use Rattle.std.proofs.lemmas.Str.Parse.{digit_from_value}
use Rattle.ccsl_base.specs.Name.{is_visible, is_word, is_name}
use Rattle.ccsl_base.specs.Letters.{is_letter, is_inner}
use Rattle.ccsl_base.specs.KeptWords.{is_reserved}
use Rattle.ccsl_kernel.specs.Syntax.{System}
use Rattle.ccsl_vcd_write.specs.Code.{code_of}
use Rattle.ccsl_vcd_write.specs.Text.{text_of, var_line, var_lines, written_names, header_lines, written_part, tick_line, steps_text, vcd_text}
use Rattle.ccsl_vcd_write.proofs.Lines.{is_spelled, spaced, is_line, are_lines, text_of-append}
use Rattle.ccsl_vcd_write.proofs.CodeLaws.{code-visible, code-some, code-short}
use Rattle.ccsl_vcd_write.proofs.HeaderStory.{var_words, vars_words}
use Rattle.ccsl_vcd_write.proofs.BodyStory.{AreBelow, step_words, steps_words}
use Rattle.ccsl_kernel.proofs.NamesInCertificates.{inner_visible}
use Rattle.ccsl_base.proofs.Digits.{digits-visible}

-- VISIBLE WORDS

letter-visible : (b : ℕ) → is_letter b ≡ true → is_visible b ≡ true
letter-visible b h = grind (arith, common_steps)

pub spelled : (w : List ℕ) → 1 ≤ length w → length w ≤ 64 → list_all is_visible w ≡ true → is_spelled w ≡ true
spelled w s l v = ap₂ (λ a b. a && b) (le-leb 1 (length w) s) (ap₂ (λ a b. a && b) (le-leb (length w) 64 l) v)

pub time-spelled : (k : ℕ) → k < 2 ^ 64 → is_spelled (35 ∷ decimal k) ≡ true
time-spelled k h =
    let short : length (decimal k) ≤ 20 = length-decimal-le 20 k (lit< tt) (omega arith) h in
    spelled (35 ∷ decimal k) (omega arith) (omega arith) (digits-visible (decimal k) (decimal_is_IsNumeral k h).0.1)

pub code-spelled : (x : ℕ) → x < 1024 → is_spelled (code_of x) ≡ true
code-spelled x h = spelled (code_of x) (code-some x) (omega (arith, code-short x)) (code-visible x h)

pub tick-spelled : (x : ℕ) → x < 1024 → is_spelled (tick_line x) ≡ true
tick-spelled x h = spelled (tick_line x) (omega arith) (omega (arith, code-short x)) (code-visible x h)

-- a name as far as it counts here
abbrev pub is_short_word : List ℕ → Bool
is_short_word name = is_word name && nat_le (length name) 64

pub short-word : (name : List ℕ) → is_name name ≡ true → is_short_word name ≡ true
short-word name h = (and_parts (is_short_word name) (not (is_reserved name)) h).0

word-spelled : (name : List ℕ) → is_short_word name ≡ true → is_spelled name ≡ true
word-spelled [] h = absurd (cc)
word-spelled (b ∷ bs) h =
    let p = and_parts (is_word (b ∷ bs)) (nat_le (length (b ∷ bs)) 64) h in
    let q = and_parts (is_letter b) (list_all is_inner bs) p.0 in
    spelled (b ∷ bs) (omega arith) (leb-true (length (b ∷ bs)) 64 p.1) (ap₂ (λ s t. s && t) (letter-visible b q.0) (inner_visible bs q.1))

pub all-words : (names : List (List ℕ)) → list_all is_short_word names ≡ true → list_all is_word names ≡ true
all-words [] h = refl
all-words (name ∷ names) h =
    let p = and_parts (is_short_word name) (list_all is_short_word names) h in
    ap₂ (λ s t. s && t) (and_parts (is_word name) (nat_le (length name) 64) p.0).0 (all-words names p.1)

-- THE LINES

abbrev pub header_words : List (List ℕ) → List (List (List ℕ))
header_words names =
    (codes "$version" ∷ codes "ccsl" ∷ codes "$end" ∷ []) ∷ (codes "$timescale" ∷ codes "1" ∷ codes "ns" ∷ codes "$end" ∷ [])
    ∷ (codes "$scope" ∷ codes "module" ∷ codes "ccsl" ∷ codes "$end" ∷ [])
    ∷ (vars_words 0 names ++ (codes "$upscope" ∷ codes "$end" ∷ []) ∷ (codes "$enddefinitions" ∷ codes "$end" ∷ []) ∷ [])

-- what a trace tells of steps
abbrev pub written_parts : System → List (List ℕ) → List (List ℕ)
written_parts K steps = map (written_part K) steps

abbrev pub trace_words : System → List (List ℕ) → List (List (List ℕ))
trace_words K steps = header_words (written_names K) ++ steps_words 0 (written_parts K steps)

-- their text

var-same : (clock : ℕ) (name : List ℕ) → spaced (var_words clock name) ≡ var_line clock name
var-same clock name = sym (simp append_assoc)

pub vars-same : (clock : ℕ) (names : List (List ℕ)) → map spaced (vars_words clock names) ≡ var_lines clock names
vars-same clock [] = refl
vars-same clock (name ∷ names) = ap₂ (λ (l : List ℕ) (ls : List (List ℕ)). l ∷ ls) (var-same clock name) (vars-same (clock + 1) names)

header-same : (K : System) → map spaced (header_words (written_names K)) ≡ header_lines K
header-same K =
    let tail : List (List (List ℕ)) = (codes "$upscope" ∷ codes "$end" ∷ []) ∷ (codes "$enddefinitions" ∷ codes "$end" ∷ []) ∷ [] in
    let front : List (List ℕ) → List (List ℕ) = λ ls. codes "$version ccsl $end" ∷ codes "$timescale 1 ns $end" ∷ codes "$scope module ccsl $end" ∷ ls in
    ap front (map-append spaced (vars_words 0 (written_names K)) tail)
    ∙ ap (λ (ls : List (List ℕ)). front (ls ++ map spaced tail)) (vars-same 0 (written_names K))

ticks-same : (xs : List ℕ) → map spaced (map (λ x. tick_line x ∷ []) xs) ≡ map tick_line xs
ticks-same [] = refl
ticks-same (x ∷ xs) = ap (λ (ls : List (List ℕ)). tick_line x ∷ ls) (ticks-same xs)

steps-same : (k : ℕ) (K : System) (steps : List (List ℕ)) → text_of (map spaced (steps_words k (written_parts K steps))) ≡ steps_text k K steps
steps-same k K [] = refl
steps-same k K (step ∷ steps) =
    let words : List (List (List ℕ)) = step_words k (written_part K step) in
    let more : List (List (List ℕ)) = steps_words (k + 1) (written_parts K steps) in
    ap text_of (map-append spaced words more) ∙ text_of-append (map spaced words) (map spaced more)
    ∙ ap₂ (λ (ls : List (List ℕ)) (bs : List ℕ). text_of ((codes "#" ++ decimal k) ∷ ls) ++ bs) (ticks-same (written_part K step)) (steps-same (k + 1) K steps)

-- A written trace is the text of its lines.
pub text-same : (K : System) (steps : List (List ℕ)) → text_of (map spaced (trace_words K steps)) ≡ vcd_text K steps
text-same K steps =
    let head : List (List (List ℕ)) = header_words (written_names K) in
    let body : List (List (List ℕ)) = steps_words 0 (written_parts K steps) in
    ap text_of (map-append spaced head body) ∙ text_of-append (map spaced head) (map spaced body)
    ∙ ap₂ (λ (ls : List (List ℕ)) (bs : List ℕ). text_of ls ++ bs) (header-same K) (steps-same 0 K steps)

-- and their words are visible

pub lines-append : (xs ys : List (List (List ℕ))) → are_lines xs ≡ true → are_lines ys ≡ true → are_lines (xs ++ ys) ≡ true
lines-append xs ys h k = list_all-append is_line xs ys ∙ ap₂ (λ a b. a && b) h k

pub vars-spelled : (clock : ℕ) (names : List (List ℕ)) → clock + length names ≤ 1024 → list_all is_short_word names ≡ true
    → are_lines (vars_words clock names) ≡ true
vars-spelled clock [] c h = refl
vars-spelled clock (name ∷ names) c h =
    let p = and_parts (is_short_word name) (list_all is_short_word names) h in
    rw (code-spelled clock (omega arith), word-spelled name p.0) (vars-spelled (clock + 1) names (omega arith) p.1)

pub ticks-spelled : (n : ℕ) (xs : List ℕ) → n ≤ 1024 → AreBelow n xs → are_lines (map (λ x. tick_line x ∷ []) xs) ≡ true
ticks-spelled n [] c h = refl
ticks-spelled n (x ∷ xs) c h = let below = h.0 in rw (tick-spelled x (omega arith)) (ticks-spelled n xs c h.1)

steps-spelled : (n k : ℕ) (steps : List (List ℕ)) → n ≤ 1024 → k + length steps ≤ 2 ^ 64 → AllByRecursion (AreBelow n) steps
    → are_lines (steps_words k steps) ≡ true
steps-spelled n k [] c l h = refl
steps-spelled n k (xs ∷ steps) c l h =
    lines-append (step_words k xs) (steps_words (k + 1) steps) (rw (time-spelled k (omega arith)) (ticks-spelled n xs c h.0))
    (steps-spelled n (k + 1) steps c (omega arith) h.1)

pub trace-spelled : (n : ℕ) (names : List (List ℕ)) (parts : List (List ℕ)) → length names ≤ 1024 → n ≤ 1024 → list_all is_short_word names ≡ true
    → length parts ≤ 2 ^ 64 → AllByRecursion (AreBelow n) parts
    → are_lines (header_words names ++ steps_words 0 parts) ≡ true
trace-spelled n names parts few c h l b =
    lines-append (header_words names) (steps_words 0 parts) (lines-append (vars_words 0 names) _ (vars-spelled 0 names (omega arith) h) refl)
    (steps-spelled n 0 parts c (omega arith) b)
