use Rattle.std.proofs.Common.{◌≡◌, ◌∷◌, [], ℕ, Bool, List, reverse, ap, ap₂, ◌∙◌}
use Rattle.std.proofs.lemmas.List.{reverse-append}
use Rattle.ccsl_formula.specs.declared.truth3.Truth3.TheVariants.{Open}
use Rattle.ccsl_formula.specs.Known.{known, with_truth, joined}
use Rattle.ccsl_solve.proofs.Conflicts.{resolves}
use Rattle.ccsl_solve.proofs.conflict.resolved.Goals as goal

pub returns : goal.returns
returns c =
    let x = c.args.lit.clock in
    let first = c.args.first in
    let hints = c.args.second.hints.items in
    let is : known c.join_without.new.part ≡ with_truth (joined (known c.args.second.part.value) (known first.part.value)) x Open =
    c.join_without.ensures ∙ ap₂ (λ (a b : List (ℕ × Bool)). with_truth (joined (known a) (known b)) x Open) c.deref_mut.ensures.value c.deref.ensures in
    let front : reverse c.push.new.self.items ≡ first.line ∷ reverse hints =
    ap reverse c.in_ok-push.ensures.items ∙ reverse-append hints (first.line ∷ []) in
    resolves c.args.problem.now.scope c.args.lines.now (known c.args.before.now) (known first.part.value) (known c.args.second.part.value) x first.line
    c.args.lit.positive (reverse hints) c.requires.first c.requires.first_uses c.requires.clause c.requires.second.conflict c.requires.free _ _ is front
