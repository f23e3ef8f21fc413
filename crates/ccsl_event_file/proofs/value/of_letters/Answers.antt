use Rattle.std.proofs.Common.{◌≡◌, ◌++◌, ◌==◌, ℕ, List, [], ◌∷◌, length, get_or, map, take, false, Some, sym, ap, ◌∙◌}
use Rattle.std.proofs.lemmas.List.{map-append, take_all, take_more}
use Rattle.ccsl_event_file.specs.Values.{lower, of_letters}
use Rattle.ccsl_event_file.proofs.value.of_letters.Goals as goal

some-lower : (text ls : List ℕ) → false ≡ (length text == 0) → ls ≡ map lower text → Some ls ≡ of_letters text
some-lower [] ls e is = absurd (cc)
some-lower (b ∷ bs) ls e is = ap (λ l. Some l) is

pub loop-b-preserved : goal.loop-b-preserved
loop-b-preserved c =
    let text = c.args.text.now in
    let i = c.loop-b.b-index in
    c.in_ok-push.ensures.items ∙ ap (λ ls. ls ++ lower (get_or text i 0) ∷ []) c.loop-b.invariant
    ∙ sym (map-append lower (take i text) (get_or text i 0 ∷ [])) ∙ ap (map lower) (sym (take_more text i 0 c.loop-b-test.true))

pub returns : goal.returns
returns c =
    some-lower c.args.text.now c.loop-b.letters.items c.if-is_empty.ensures
    (c.loop-b.invariant ∙ ap (map lower) (take_all c.loop-b.b-index c.args.text.now c.loop-b-test.false))
