-- Times that are heard where they lie.
use Rattle.std.proofs.Common.{◌≡◌, ℕ, ◌+◌, ◌-◌, ◌^◌, ◌<◌, ◌≤◌, List, ◌∷◌, length, take, drop, get_or, true, not, Some, Ok, sym, ap, ◌∙◌}
use Rattle.std.proofs.Common.{subst, arith, length-drop, length-take-le}
use Rattle.std.specs.List.{list_all}
use Rattle.std.proofs.lemmas.Bool.{le-leb}
use Rattle.ccsl_base.specs.declared.rows.Row.{Row}
use Rattle.ccsl_vcd_lex.specs.Tokens.{is_white}
use Rattle.ccsl_vcd_lex.specs.Lexing.{is_dark}
use Rattle.ccsl_base.specs.Decimal.{value_behind}
use Rattle.ccsl_vcd.specs.Words.{number}
use Rattle.ccsl_vcd.specs.Reading.{is_changes}
use Rattle.ccsl_vcd_read.specs.declared.body.Body.{Body}
use Rattle.ccsl_vcd_read.specs.Meant.{amid_of}
use Rattle.ccsl_vcd_lex.specs.Digits.{AreDigits}
use Rattle.ccsl_vcd_lex.proofs.Digits.{digits-dark}
use Rattle.ccsl_vcd_lex.proofs.ShortCodes.{run-is}
use Rattle.ccsl_vcd_read.specs.Step.{hear_at, hear_of, word_says, time_says, Says}
use Rattle.ccsl_vcd_read.specs.Run.{Runs, Front}
use Rattle.ccsl_vcd_read.proofs.Numbers.{number-value}
use Rattle.ccsl_vcd_read.proofs.Run.{is-changes, take-first, front-word}
use Rattle.ccsl_vcd_lex.proofs.Cuts.{hash-dark}
use Rattle.ccsl_vcd.proofs.Words.{time-word}

number-is : (text : List ℕ) (value : ℕ) → 0 < length text → AreDigits text value → value < 2 ^ 64 → number 18446744073709551615 text ≡ Some value
number-is text value some d fits =
    let n : value_behind 0 text ≤ 18446744073709551615 = omega (arith, d.amount, fits) in
    number-value 18446744073709551615 text some ∙ rw (d.all, le-leb (value_behind 0 text) 18446744073709551615 n) (ap (λ (v : ℕ). Some v) (sym d.amount))

pub time-heard : (b c : Body) (at k value : ℕ) (bytes : List ℕ) (x y : List Row) → is_changes (amid_of b.amid) ≡ true → get_or bytes 0 0 ≡ 35 → 0 < k
    → AreDigits (take k (drop 1 bytes)) value → value < 2 ^ 64
    → k + 1 < length bytes → k + 1 ≤ 65536 → is_white (get_or bytes (k + 1) 0) ≡ true → Says (time_says b at value) (Ok tt) b c x y
    → Front b c at bytes (k + 1) x y
time-heard b c at k value bytes x y a first some d fits inside few white says =
    let ds : List ℕ = take k (drop 1 bytes) in
    let len : length ds ≡ k = length-take-le k (drop 1 bytes) (omega (arith, length-drop 1 bytes, inside)) in
    let back : (k + 1) - 1 ≡ k = omega arith in
    let text : take (k + 1) bytes ≡ 35 ∷ ds =
    take-first (k + 1) bytes (omega arith) (omega (arith, inside)) ∙ ap (λ (f : ℕ). f ∷ take ((k + 1) - 1) (drop 1 bytes)) first
    ∙ ap (λ (n : ℕ). 35 ∷ take n (drop 1 bytes)) back in
    let dark : list_all is_dark (take (k + 1) bytes) ≡ true = ap (list_all is_dark) text ∙ hash-dark ds (digits-dark ds d.all) in
    let heard : hear_of b at (take (k + 1) bytes) ≡ time_says b at value =
    ap (hear_of b at) text ∙ ap (hear_at b at (35 ∷ ds)) (is-changes b.amid a)
    ∙ ap (word_says b at) (time-word ds value (number-is ds value (omega (arith, len, some)) d fits)) in (
      (λ _. record {
        run = run-is is_dark (k + 1) bytes dark inside (ap not white);
        inside = inside;
        few = few;
        says = subst (λ r. Says r (Ok tt) b c x y) (sym heard) says;
      }),
      (λ z. absurd (omega (arith, z))),
    )

pub front-heard : (b c : Body) (at n : ℕ) (bytes : List ℕ) (x y : List Row) → Front b c at bytes n x y → 0 < n → Runs b c at (take (n + 1) bytes) x y
front-heard b c at n bytes x y h some =
    let s = h.0 some in
    front-word b c at n bytes x y s.run some s.inside s.few s.says

-- where two calls did nothing
pub after-same : (a b c d : Body) (at : ℕ) (part : List ℕ) (x y z : List Row) → (b ≡ a) × (y ≡ x) → c ≡ b → Runs c d at part y z → Runs a d at part x z
after-same a b c d at part x y z e f r = subst (λ v. Runs v d at part x z) (f ∙ e.0) (subst (λ rs. Runs c d at part rs z) e.1 r)
