-- Tokens that are taken where they lie: a time, and a change of a short code.
use Rattle.std.proofs.Common.{◌≡◌, ℕ, suc, ◌+◌, ◌<◌, ◌≤◌, ◌⊎◌, List, [], ◌∷◌, length, take, get_or, not, ◌&&◌, nat_le, cond, Option, Some, None, Ok, Err, refl}
use Rattle.std.proofs.Common.{sym, ap, ◌∙◌, subst, arith, length-take-le}
use Rattle.std.specs.List.{list_all, prefix_len}
use Rattle.std.proofs.lemmas.Bool.{le-leb}
use Rattle.ccsl_base.specs.Letters.{is_digit}
use Rattle.ccsl_base.specs.Decimal.{value_behind}
use Rattle.ccsl_vcd_lex.specs.Tokens.{token}
use Rattle.ccsl_vcd_lex.specs.Lexing.{is_dark}
use Rattle.ccsl_vcd_lex.specs.Digits.{AreDigits}
use Rattle.ccsl_vcd_lex.proofs.Digits.{digits-dark}
use Rattle.ccsl_vcd_lex.proofs.ShortCodes.{run-is}
use Rattle.ccsl_vcd.specs.declared.fault.VcdFault.{VcdFault}
use Rattle.ccsl_vcd.specs.declared.fault.VcdFault.TheVariants as faults
use Rattle.ccsl_vcd.specs.Words.{number, word_of}
use Rattle.ccsl_events.specs.declared.body.Body.{Body}
use Rattle.ccsl_events.specs.declared.body.Amid as k
use Rattle.ccsl_events.specs.declared.body.Amid.TheVariants.{Changes, Remark, Code, CodeSkipped}
use Rattle.ccsl_events.specs.Dump.{Plan, Place, Amid, changes, remark, code_of, code_skipped, Said, time_says, word_says, token_says}
use Rattle.ccsl_events.specs.Standing.{IsAmid, Stands, Answers}
use Rattle.ccsl_events.specs.Run.{Runs, Breaks}
use Rattle.ccsl_events.specs.Times.{IsTime}
use Rattle.ccsl_events.proofs.Run.{front-word, front-breaks}
use Rattle.ccsl_vcd_lex.proofs.Cuts.{hash-dark}
use Rattle.ccsl_vcd.proofs.Words.{time-word}

pub amid-changes : (kind : k.Amid) (letters : List ℕ) (a : Amid) → IsAmid kind letters a → kind ≡ Changes → a ≡ changes
amid-changes kind letters changes is e = refl
amid-changes kind letters remark is e = absurd (let x : Remark ≡ Changes = sym is ∙ e in cc)
amid-changes kind letters (code_of of) is e = absurd (let x : Code ≡ Changes = sym is.0 ∙ e in cc)
amid-changes kind letters code_skipped is e = absurd (let x : CodeSkipped ≡ Changes = sym is ∙ e in cc)

-- A time.

abbrev value_of : ℕ → List ℕ → Option ℕ
value_of limit ds = cond (list_all is_digit ds && nat_le (value_behind 0 ds) limit) (Some (value_behind 0 ds)) None

number-value : (limit : ℕ) (text : List ℕ) → 0 < length text → number limit text ≡ value_of limit text
unfolding number
number-value limit [] h = absurd (omega arith)
number-value limit (d ∷ ds) h = refl

number-is : (text : List ℕ) (value : ℕ) → 0 < length text → AreDigits text value → number 18446744073709551615 text ≡ Some value
number-is text value some d =
    let n : value_behind 0 text ≤ 18446744073709551615 = omega (arith, d.amount, d.fits) in
    number-value 18446744073709551615 text some ∙ rw (d.all, le-leb (value_behind 0 text) 18446744073709551615 n) (ap (λ (v : ℕ). Some v) (sym d.amount))

time-text : (k : ℕ) (bytes : List ℕ) → take (k + 1) (35 ∷ bytes) ≡ 35 ∷ take k bytes
time-text k bytes = let e : k + 1 ≡ suc k = omega arith in ap (λ (i : ℕ). take i (35 ∷ bytes)) e

time-run : (k value : ℕ) (bytes : List ℕ) → IsTime k value bytes → k + 1 ≡ prefix_len is_dark (35 ∷ bytes)
time-run k value bytes t =
    let e : k + 1 ≡ suc k = omega arith in
    run-is is_dark (k + 1) (35 ∷ bytes) (ap (list_all is_dark) (time-text k bytes) ∙ hash-dark (take k bytes) (digits-dark (take k bytes) t.digits.all))
    (omega (arith, t.inside))
    (ap (λ (i : ℕ). is_dark (get_or (35 ∷ bytes) i 0)) e ∙ ap not t.white)

time-said : (plan : Plan) (p : Place) (b : Body) (at k value : ℕ) (bytes : List ℕ) → Stands plan p b → b.amid ≡ Changes → IsTime k value bytes
    → time_says plan p at value ≡ token_says plan p (token at (take (k + 1) (35 ∷ bytes))) p.amid
time-said plan p b at k value bytes s a t =
    let len : length (take k bytes) ≡ k = length-take-le k bytes (omega (arith, t.inside)) in
    sym (ap (token_says plan p (token at (take (k + 1) (35 ∷ bytes)))) (amid-changes b.amid b.letters.items p.amid s.amid a)
    ∙ ap (λ (text : List ℕ). word_says plan p (token at text) (word_of text)) (time-text k bytes)
    ∙ ap (word_says plan p (token at (35 ∷ take k bytes))) (time-word (take k bytes) value
    (number-is (take k bytes) value (omega (arith, len, t.some)) t.digits)))

pub time-runs : (plan : Plan) (p : Place) (b c : Body) (at k value : ℕ) (bytes x y : List ℕ) → Stands plan p b → b.amid ≡ Changes → IsTime k value bytes
    → Answers plan p.written (time_says plan p at value) (Ok tt) c x y → Runs plan p at (take (k + 2) (35 ∷ bytes)) c x y
time-runs plan p b c at k value bytes x y s a t h =
    let sum : (k + 1) + 1 ≡ k + 2 = omega arith in
    subst (λ (i : ℕ). Runs plan p at (take i (35 ∷ bytes)) c x y) sum
    (front-word plan p at (k + 1) (35 ∷ bytes) c x y (time-run k value bytes t) (omega arith) (omega (arith, t.inside)) (omega (arith, t.few))
    (subst (λ (said : Said). Answers plan p.written said (Ok tt) c x y) (time-said plan p b at k value bytes s a t) h))

pub time-breaks : (plan : Plan) (p : Place) (b c : Body) (at k value : ℕ) (bytes : List ℕ) (f : VcdFault) (x y : List ℕ) → Stands plan p b → b.amid ≡ Changes
    → IsTime k value bytes
    → Answers plan p.written (time_says plan p at value) (Err f) c x y → (f ≡ faults.Memory) ⊎ Breaks plan p at (35 ∷ bytes) f p.written x y
time-breaks plan p b c at k value bytes f x y s a t h =
    front-breaks plan p at (k + 1) (35 ∷ bytes) f c x y (time-run k value bytes t) (omega arith) (omega (arith, t.inside)) (omega (arith, t.few))
    (subst (λ (said : Said). Answers plan p.written said (Err f) c x y) (time-said plan p b at k value bytes s a t) h)
