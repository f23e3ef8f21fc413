-- The story of written steps.
use Rattle.std.proofs.Common.{◌≡◌, ℕ, ◌+◌, ◌*◌, ◌-◌, ◌^◌, ◌≤◌, ◌<◌, List, [], ◌∷◌, ◌++◌, length, map, true, false, not, ◌&&◌, nat_le, cond, Some, None, refl}
use Rattle.std.proofs.Common.{sym, ap, ap₂, ◌∙◌, arith, append_assoc, append-nil, decimal}
use Rattle.std.specs.List.{list_all, AllByRecursion}
use Rattle.std.specs.Char.{digit_value}
use Rattle.std.specs.Str.Parse.{AllDigits, IsNumeral, digits_value, digits_value_after}
use Rattle.std.proofs.lemmas.Bool.{le-leb, le-ltb}
use Rattle.std.proofs.lemmas.Fmt.{decimal_is_IsNumeral}
use Rattle.std.proofs.lemmas.Str.{digit_value_digit}
use Rattle.std.proofs.lemmas.Str.Parse.{digit_from_value}
use Rattle.ccsl_base.specs.Empty.{is_empty}
use Rattle.ccsl_base.specs.Letters.{is_digit}
use Rattle.ccsl_base.specs.Decimal.{value_behind}
use Rattle.ccsl_vcd_lex.specs.Tokens.{token, word}
use Rattle.ccsl_vcd.specs.declared.limits.Limits.{Limits}
use Rattle.ccsl_vcd.specs.Words as w
use Rattle.ccsl_vcd.specs.Binding.{Wanted, Declaration, Bound}
use Rattle.ccsl_vcd.specs.Places.{Change}
use Rattle.ccsl_vcd.specs.Body.{is_declared}
use Rattle.ccsl_vcd.specs.Reading.{Story, next, says}
use Rattle.ccsl_vcd.specs.Grammar.{body_story}
use Rattle.ccsl_vcd_write.specs.Code.{code_of}
use Rattle.ccsl_vcd_write.specs.Text.{tick_line}
use Rattle.ccsl_vcd_write.proofs.Lines.{behind, all_words, all_words-append}
use Rattle.ccsl_vcd_write.proofs.CodeLaws.{code-some}
use Rattle.ccsl_vcd_write.proofs.Stories.{goes, goes-append}
use Rattle.ccsl_base.proofs.Digits.{are-digits, value-same}

-- a TIME

number-read : (most n : ℕ) (ds : List ℕ) → IsNumeral 10 ds → digits_value 10 ds ≡ n → n ≤ most → w.number most ds ≡ Some n
unfolding w.number
number-read most n [] h e l = absurd (omega (arith, h.0))
number-read most n (d ∷ ds) h e l =
    ap (λ b. cond (b && nat_le (value_behind 0 (d ∷ ds)) most) (Some (value_behind 0 (d ∷ ds))) None) (are-digits (d ∷ ds) h.1)
    ∙ ap (λ v. cond (nat_le v most) (Some v) None) (value-same 0 (d ∷ ds) h.1 ∙ e)
    ∙ ap (λ b. cond b (Some n) None) (le-leb n most l)

time-word : (k : ℕ) → k < 2 ^ 64 → w.word_of (35 ∷ decimal k) ≡ w.time k
unfolding w.word_of
time-word k h = let n = decimal_is_IsNumeral k h in ap w.time_of (number-read 18446744073709551615 k (decimal k) n.0 n.1 (omega arith))

-- a CHANGE

some-code : (code : List ℕ) → 1 ≤ length code → not (is_empty code) ≡ true
some-code [] h = absurd (omega arith)
some-code (b ∷ bs) h = refl

tick-word : (x : ℕ) → w.word_of (tick_line x) ≡ w.scalar true (code_of x)
unfolding w.word_of
tick-word x = rw (some-code (code_of x) (code-some x)) refl

abbrev pub change : ℕ → ℕ → Change
change k x = record { time = k; code = code_of x; one = true; dumped = false }

abbrev pub step_changes : ℕ → List ℕ → List Change
step_changes k xs = map (change k) xs

abbrev pub steps_changes : ℕ → List (List ℕ) → List Change
steps_changes k [] = []
steps_changes k (xs ∷ steps) = step_changes k xs ++ steps_changes (k + 1) steps

-- the words of steps, of which only the written clocks are left
abbrev pub step_words : ℕ → List ℕ → List (List (List ℕ))
step_words k xs = ((35 ∷ decimal k) ∷ []) ∷ map (λ x. tick_line x ∷ []) xs

abbrev pub steps_words : ℕ → List (List ℕ) → List (List (List ℕ))
steps_words k [] = []
steps_words k (xs ∷ steps) = step_words k xs ++ steps_words (k + 1) steps

abbrev pub time_behind : ℕ → ℕ → List (List ℕ) → ℕ
time_behind now k [] = now
time_behind now k (xs ∷ steps) = time_behind k (k + 1) steps

-- all clocks of a step are below a number
abbrev pub AreBelow : ℕ → List ℕ → Type 0
AreBelow n xs = AllByRecursion (λ x. x < n) xs

module _ (wanted : Wanted) (limits : Limits) (ds : List Declaration) (bs : List Bound) where
  time-story : (cs : List Change) (now at k : ℕ) → now ≤ k → k < 2 ^ 64
      → next wanted limits (body_story cs now ds bs) (word (token at (35 ∷ decimal k))) ≡ body_story cs k ds bs
  unfolding says
  time-story cs now at k l h = rw (time-word k h, le-ltb k now l) (ap (λ (xs : List Change). body_story xs k ds bs) (append-nil cs))

  tick-story : (cs : List Change) (now at x : ℕ) → is_declared ds (code_of x) ≡ true
      → next wanted limits (body_story cs now ds bs) (word (token at (tick_line x))) ≡ body_story (cs ++ change now x ∷ []) now ds bs
  unfolding says
  tick-story cs now at x d = rw (tick-word x, d) refl

  -- the codes of the clocks below a number are declared
  abbrev pub Declares : ℕ → Type 0
  Declares n = (x : ℕ) → x < n → is_declared ds (code_of x) ≡ true

  ticks-story : (n : ℕ) → Declares n → (cs : List Change) (now at : ℕ) (xs : List ℕ) → AreBelow n xs
      → goes wanted limits (body_story cs now ds bs) at (all_words (map (λ x. tick_line x ∷ []) xs)) ≡ body_story (cs ++ step_changes now xs) now ds bs
  ticks-story n d cs now at [] b = ap (λ (ys : List Change). body_story ys now ds bs) (sym (append-nil cs))
  ticks-story n d cs now at (x ∷ xs) b =
      let place : ℕ = behind at (tick_line x ∷ []) in
      ap (λ (s : Story). goes wanted limits s place (all_words (map (λ x. tick_line x ∷ []) xs))) (tick-story cs now at x (d x b.0))
      ∙ ticks-story n d (cs ++ change now x ∷ []) now place xs b.1
      ∙ ap (λ (ys : List Change). body_story ys now ds bs) (append_assoc cs (change now x ∷ []) (step_changes now xs))

  pub step-story : (n : ℕ) → Declares n → (cs : List Change) (now at k : ℕ) (xs : List ℕ) → now ≤ k → k < 2 ^ 64 → AreBelow n xs
      → goes wanted limits (body_story cs now ds bs) at (all_words (step_words k xs)) ≡ body_story (cs ++ step_changes k xs) k ds bs
  step-story n d cs now at k xs l h b =
      let place : ℕ = behind at ((35 ∷ decimal k) ∷ []) in
      ap (λ (s : Story). goes wanted limits s place (all_words (map (λ x. tick_line x ∷ []) xs))) (time-story cs now at k l h)
      ∙ ticks-story n d cs k place xs b

  -- The changes of the steps are made, each at its time.
  pub steps-story : (n : ℕ) → Declares n → (cs : List Change) (now at k : ℕ) (steps : List (List ℕ)) → now ≤ k → k + length steps ≤ 2 ^ 64
      → AllByRecursion (AreBelow n) steps
      → goes wanted limits (body_story cs now ds bs) at (all_words (steps_words k steps)) ≡ body_story (cs ++ steps_changes k steps) (time_behind now k steps)
      ds bs
  steps-story n d cs now at k [] l h b = ap (λ (ys : List Change). body_story ys now ds bs) (sym (append-nil cs))
  steps-story n d cs now at k (xs ∷ steps) l h b =
      let place : ℕ = behind at (all_words (step_words k xs)) in
      ap (goes wanted limits (body_story cs now ds bs) at) (all_words-append (step_words k xs) (steps_words (k + 1) steps))
      ∙ goes-append wanted limits (body_story cs now ds bs) at (all_words (step_words k xs)) (all_words (steps_words (k + 1) steps))
      ∙ ap (λ (s : Story). goes wanted limits s place (all_words (steps_words (k + 1) steps))) (step-story n d cs now at k xs l (omega arith) b.0)
      ∙ steps-story n d (cs ++ step_changes k xs) k place (k + 1) steps (omega arith) (omega arith) b.1
      ∙ ap (λ (ys : List Change). body_story ys (time_behind k (k + 1) steps) ds bs) (append_assoc cs (step_changes k xs) (steps_changes (k + 1) steps))
