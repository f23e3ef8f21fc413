-- A file whose body is one token of 65,537 bytes.
use Rattle.std.proofs.Common.{◌≡◌, ℕ, ◌<◌, List, [], ◌∷◌, ◌++◌, length, true, false, Some, nat_lt, refl, ap, ◌∙◌, arith, length-append, map}
use Rattle.std.proofs.lemmas.Bool.{le-ltb, lt-ltb}
use Rattle.ccsl_vcd_lex.specs.Tokens.{Heard, Token, token, too_long, hear, heard, tokens, tokens_from, run, is_white}
use Rattle.ccsl_vcd_lex.specs.Runs.{fresh_after}
use Rattle.ccsl_vcd_lex.specs.Lexing.{Dark}
use Rattle.ccsl_vcd_lex.proofs.Cuts.{one-token}
use Rattle.ccsl_vcd_lex.proofs.Further.{heard-split}
use Rattle.ccsl_vcd.specs.declared.fault.VcdFault.TheVariants as faults
use Rattle.ccsl_vcd.specs.Words.{word_of, number}
use Rattle.ccsl_vcd.specs.Binding.{bind}
use Rattle.ccsl_vcd.specs.Reading.{story, reading, says, ends_at}
use Rattle.ccsl_vcd.proofs.Examples.{two, limits, head}
use Rattle.ccsl_vcd_lex.proofs.Told.{long-word}

head-fresh : fresh_after true head ≡ true
unfolding fresh_after is_white
head-fresh = refl

-- the header, and a token that is too long at byte 65
head-then : (story two limits (map hear (tokens head) ++ too_long 65 ∷ [])).fault ≡ Some (faults.TokenTooLong 65)
unfolding says bind word_of number tokens_from run is_white
head-then = refl

said-long : (b : ℕ) (xs : List ℕ) → Dark (b ∷ xs) → 65536 < length (b ∷ xs) → heard (head ++ (b ∷ xs)) ≡ map hear (tokens head) ++ too_long 65 ∷ []
said-long b xs d n =
    heard-split head (b ∷ xs) head-fresh ∙ ap (λ (ts : List Token). map hear (tokens head) ++ map hear ts) (one-token 65 b xs d)
    ∙ ap (λ (h : Heard). map hear (tokens head) ++ h ∷ []) (long-word 65 (b ∷ xs) n)

pub too-long-at-65 : (b : ℕ) (xs : List ℕ) → Dark (b ∷ xs) → length (b ∷ xs) ≡ 65537
    → (reading two limits (head ++ (b ∷ xs))).fault ≡ Some (faults.TokenTooLong 65)
unfolding reading
too-long-at-65 b xs d n =
    let within : nat_lt 68719476736 (length (head ++ (b ∷ xs))) ≡ false =
    le-ltb 68719476736 (length (head ++ (b ∷ xs))) (omega (arith, length-append head (b ∷ xs), n)) in
    rw within (ap (λ (hs : List Heard). (ends_at (length (head ++ (b ∷ xs))) (story two limits hs)).fault) (said-long b xs d (omega (arith, n)))
    ∙ rw head-then refl)
