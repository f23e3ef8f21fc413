use Rattle.std.proofs.Common.{◌∙◌, sym, arith}
use Rattle.ccsl_vcd_lex.proofs.ShortCodes.{code-one, code-two, code-three}
use Rattle.ccsl_vcd_lex.proofs.short_code.code_at_front.Goals as goal

pub returns-in-len2-up : goal.returns-in-len2-up
returns-in-len2-up c =
    code-one c.args.bytes.now c.place_of_one.result (omega (arith, c.in-len2-up.len_at_least)) (sym c.is_visible.ensures ∙ c.if-is_visible.true)
    (sym c.is_space.ensures ∙ c.if-is_space.true)
    c.place_of_one.ensures.value c.place_of_one.ensures.within

pub returns-in-len3-up : goal.returns-in-len3-up
returns-in-len3-up c =
    code-two c.args.bytes.now c.place_of_two.result (omega (arith, c.in-len3-up.len_at_least)) (sym c.is_visible-2.ensures ∙ c.if-is_visible-2.true)
    (sym c.is_visible-then-is_visible-2.ensures ∙ c.if-is_visible-3.true) (sym c.is_space-then-is_visible-3.ensures ∙ c.if-is_space-2.true)
    c.place_of_two.ensures.value c.place_of_two.ensures.within

pub returns-in-len4-up : goal.returns-in-len4-up
returns-in-len4-up c =
    code-three c.args.bytes.now c.place_of_three.result (omega (arith, c.in-len4-up.len_at_least)) (sym c.is_visible-3.ensures ∙ c.if-is_visible-4.true)
    (sym c.is_visible-then-is_visible-4.ensures ∙ c.if-is_visible-5.true) (sym c.is_visible-then-is_visible-5.ensures ∙ c.if-is_visible-6.true)
    (sym c.is_space-then-is_visible-6.ensures ∙ c.if-is_space-3.true) c.place_of_three.ensures.value c.place_of_three.ensures.within
