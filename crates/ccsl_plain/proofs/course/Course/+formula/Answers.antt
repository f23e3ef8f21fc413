-- Where a row asks for one operand alone, the formula is that operand's.
use Rattle.std.proofs.Common.{◌≡◌, ℕ, Bool, IfOk, Result, Ok, Err, sym, ◌∙◌, rules}
use Rattle.ccsl_base.specs.declared.memory.Memory.{Memory}
use Rattle.ccsl_formula.specs.declared.formula.Formula.{Formula as Boxed}
use Rattle.ccsl_formula.specs.Formula.{Formula}
use Rattle.ccsl_formula.specs.Plain.{plain}
use Rattle.ccsl_plain.specs.Course.{now_of}
use Rattle.ccsl_plain.specs.Held.{held}
use Rattle.ccsl_plain.proofs.course.Course.+formula.Goals as goal

along : (r : Result Boxed Memory) (w w' : (ℕ → Bool) → Formula) → ((gone : ℕ → Bool) → w gone ≡ w' gone) → IfOk r (λ f. (gone : ℕ → Bool) → plain f ≡ w gone)
    → IfOk r (λ f. (gone : ℕ → Bool) → plain f ≡ w' gone)
along (Ok f) w w' same h = λ gone. h gone ∙ same gone
along (Err e) w w' same h = tt

pub returns-then-is_open : goal.returns-then-is_open
returns-then-is_open t c =
    along c.formula.result (λ gone. (now_of gone (held c.args.words.now c.deref-then-is_open.result.now)).formula)
    (λ gone. (now_of gone (held c.args.words.now c.args.self.now)).formula)
    (λ gone. let e = c.is_open.ensures (now_of gone (held c.args.words.now c.in-Unary.a.value)) in
    rw (c.in-Unary.is, c.deref-then-is_open.ensures) (sym (rw (c.deref.ensures.value, c.if-is_open.true) at e)))
    c.formula.ensures

pub returns-in-Left : goal.returns-in-Left
returns-in-Left t c =
    along c.formula-in-Left.result (λ gone. (now_of gone (held c.args.words.now c.deref-in-Left.result.now)).formula)
    (λ gone. (now_of gone (held c.args.words.now c.args.self.now)).formula)
    (λ gone. let e = c.connective.ensures (now_of gone (held c.args.words.now c.in-Binary.a.value)) (now_of gone (held c.args.words.now c.in-Binary.d.value)) in
    rw (c.in-Binary.is, c.deref-in-Left.ensures) (sym (rw (c.deref-in-Binary.ensures.value, c.deref-in-Binary-2.ensures.value, c.in-Left.is) at e)))
    c.formula-in-Left.ensures

pub returns-in-Right : goal.returns-in-Right
returns-in-Right t c =
    along c.formula-in-Right.result (λ gone. (now_of gone (held c.args.words.now c.deref-in-Right.result.now)).formula)
    (λ gone. (now_of gone (held c.args.words.now c.args.self.now)).formula)
    (λ gone. let e = c.connective.ensures (now_of gone (held c.args.words.now c.in-Binary.a.value)) (now_of gone (held c.args.words.now c.in-Binary.d.value)) in
    rw (c.in-Binary.is, c.deref-in-Right.ensures) (sym (rw (c.deref-in-Binary.ensures.value, c.deref-in-Binary-2.ensures.value, c.in-Right.is) at e)))
    c.formula-in-Right.ensures

pub returns-in-Then : goal.returns-in-Then
returns-in-Then t c = search rules

pub returns-in_ok-new-in-And-2 : goal.returns-in_ok-new-in-And-2
returns-in_ok-new-in-And-2 t c = search rules

pub returns-in_ok-new-in-AndNot : goal.returns-in_ok-new-in-AndNot
returns-in_ok-new-in-AndNot t c = search rules

pub returns-in_ok-new-in-Or-2 : goal.returns-in_ok-new-in-Or-2
returns-in_ok-new-in-Or-2 t c = search rules

pub returns-in_ok-new-in-RightAndLeft-2 : goal.returns-in_ok-new-in-RightAndLeft-2
returns-in_ok-new-in-RightAndLeft-2 t c = search rules
