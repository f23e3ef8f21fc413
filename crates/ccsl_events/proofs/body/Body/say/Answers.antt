use Rattle.std.proofs.Common.{◌≡◌, ◌≤◌, ◌-◌, ℕ, List, [], ◌∷◌, length, get_or, take, drop, sym, ap, subst, ◌∙◌, arith}
use Rattle.std.proofs.lemmas.List.{take_all}
use Rattle.ccsl_vcd_lex.specs.Tokens.{token}
use Rattle.ccsl_events.specs.Dump.{Plan, Place, goes, changed, code_of, word_says}
use Rattle.ccsl_events.specs.Meant.{meant, scalar_in, vector_in}
use Rattle.ccsl_events.specs.Standing.{Answers}
use Rattle.ccsl_events.proofs.Standing.{answers-still}
use Rattle.ccsl_events.proofs.body.Body.say.Goals as goal

-- what stands behind the first letter
rest : (b : ℕ) (bs : List ℕ) → take (length (b ∷ bs) - 1) bs ≡ bs
rest b bs = take_all (length (b ∷ bs) - 1) bs (omega arith)

scalar-said : (plan : Plan) (p : Place) (at : ℕ) (text : List ℕ) → 1 ≤ length text →
    changed plan p at (take (length text - 1) (drop 1 text)) (get_or text 0 0 ∷ []) ≡ word_says plan p (token at text) (scalar_in text)
scalar-said plan p at [] l = absurd (omega (arith, l))
scalar-said plan p at (b ∷ bs) l = ap (λ code. changed plan p at code (b ∷ [])) (rest b bs)

vector-said : (plan : Plan) (p : Place) (at : ℕ) (text : List ℕ) → 1 ≤ length text →
    goes (record p { amid = code_of (take (length text - 1) (drop 1 text)) }) ≡ word_says plan p (token at text) (vector_in text)
vector-said plan p at [] l = absurd (omega (arith, l))
vector-said plan p at (b ∷ bs) l = ap (λ letters. goes (record p { amid = code_of letters })) (rest b bs)

pub returns-in-len1-up : goal.returns-in-len1-up
returns-in-len1-up c plan p stands amid =
    let at = c.args.at in
    let text = c.args.text.now in
    answers-still plan p.written _ c.scalar.result c.scalar.new.self c.args.out.now.items
    (subst (λ s. Answers plan p.written s c.scalar.result c.scalar.new.self [] [])
    (scalar-said plan p at text c.in-len1-up.len_at_least ∙ ap (λ w. word_says plan p (token at text) (meant w text)) (sym c.in-Scalar.is))
    (c.scalar.ensures plan p stands amid))

pub returns-in-len1-up-text : goal.returns-in-len1-up-text
returns-in-len1-up-text c plan p stands amid =
    let at = c.args.at in
    let text = c.args.text.now in
    answers-still plan p.written _ c.vector.result c.vector.new.self c.args.out.now.items
    (subst (λ s. Answers plan p.written s c.vector.result c.vector.new.self [] [])
    (vector-said plan p at text c.in-len1-up-text.len_at_least ∙ ap (λ w. word_says plan p (token at text) (meant w text)) (sym c.in-Vector.is))
    (c.vector.ensures plan p stands))
