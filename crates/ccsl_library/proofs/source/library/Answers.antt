use Rattle.std.proofs.Common.{◌≡◌, map, sym, ap, ◌∙◌, subst, ⊎_elim}
use Rattle.ccsl_base.specs.declared.limits.TheConstants.{MAX_LEVELS}
use Rattle.ccsl_lex.specs.Tokens.{plain_token}
use Rattle.ccsl_grammar.specs.Terminals.{terminals}
use Rattle.ccsl_grammar.specs.File.{Parses}
use Rattle.ccsl_accepts.specs.Acceptance.{IsLibrary}
use Rattle.ccsl_library.specs.Library.{the_library}
use Rattle.ccsl_library.proofs.Text.{found, are-tokens, parses-as}
use Rattle.ccsl_library.proofs.Accepted.{is-library}
use Rattle.ccsl_library.proofs.source.library.Goals as goal

pub returns-in-Ok-parse-clause-tree : goal.returns-in-Ok-parse-clause-tree
returns-in-Ok-parse-clause-tree c =
    let tokens : map plain_token c.in-Ok.found.items ≡ found = ⊎_elim (λ e. e) (λ e. absurd (cc)) (c.in-Ok.ensures.each_tokens found are-tokens) in
    let parses : Parses MAX_LEVELS (terminals c.as_slice.result.now) the_library =
    parses-as c.as_slice.result.now (ap (map plain_token) c.as_slice.ensures.value ∙ tokens) in
    ⊎_elim (λ e. e) (λ e. absurd (cc)) (c.in-Ok-parse.ensures.each_tree the_library parses)

pub returns-in-Ok-parse-clause-accepted : goal.returns-in-Ok-parse-clause-accepted
returns-in-Ok-parse-clause-accepted c = subst IsLibrary (sym (returns-in-Ok-parse-clause-tree c)) is-library
