-- The front of a line, as it grows and as it becomes a line.
use Rattle.std.proofs.Common.{◌≡◌, ℕ, ◌<◌, ◌≤◌, List, [], ◌++◌, length, cond, sym, ap, ◌∙◌, ⊎_elim, arith, length-append}
use Rattle.std.specs.Str.Lines.{strip_carriage_return}
use Rattle.std.proofs.lemmas.Bool.{cases_lt, lt-ltb, le-ltb}
use Rattle.ccsl_base.specs.declared.limits.TheConstants.{MAX_LINE_BYTES}
use Rattle.ccsl_lines.specs.Lines.{Whole, Long, line_of}
use Rattle.ccsl_lines.specs.Part.{front_of, added, stripped}

front_of-long : (front : List ℕ) → MAX_LINE_BYTES < length front → front_of front ≡ Long
front_of-long front l = ap (λ b. cond b Long (Whole front)) (lt-ltb MAX_LINE_BYTES (length front) l)

front_of-short : (front : List ℕ) → length front ≤ MAX_LINE_BYTES → front_of front ≡ Whole front
front_of-short front l = ap (λ b. cond b Long (Whole front)) (le-ltb MAX_LINE_BYTES (length front) l)

pub added-front_of : (front more : List ℕ) → added (front_of front) more ≡ front_of (front ++ more)
added-front_of front more =
    ⊎_elim
    (λ long.
    ap (λ l. added l more) (front_of-long front long)
    ∙ sym (front_of-long (front ++ more) (omega (arith, length-append front more))))
    (λ short. ap (λ l. added l more) (front_of-short front short))
    (cases_lt MAX_LINE_BYTES (length front))

pub stripped-front_of : (part : List ℕ) → stripped (front_of part) ≡ line_of part
stripped-front_of part =
    ⊎_elim
    (λ long.
    ap stripped (front_of-long part long)
    ∙ sym (ap (λ b. cond b Long (Whole (strip_carriage_return part))) (lt-ltb MAX_LINE_BYTES (length part) long)))
    (λ short.
    ap stripped (front_of-short part short)
    ∙ sym (ap (λ b. cond b Long (Whole (strip_carriage_return part))) (le-ltb MAX_LINE_BYTES (length part) short)))
    (cases_lt MAX_LINE_BYTES (length part))

-- a front of which nothing is kept, and that is not too long, is empty
pub front_of-none : (front : List ℕ) → front_of front ≡ Whole [] → front ≡ []
front_of-none front e =
    ⊎_elim
    (λ long. absurd (cc (front_of-long front long)))
    (λ short. cc (front_of-short front short))
    (cases_lt MAX_LINE_BYTES (length front))
