use Rattle.std.proofs.Common.{◌≡◌, ◌≤◌, ◌++◌, map, length, IfOk, subst, sym, ap, ◌∙◌}
use Rattle.ccsl_base.specs.declared.limits.TheConstants.{MAX_CLOCKS}
use Rattle.ccsl_ast.specs.Plain.{plain_definition, plain_sline}
use Rattle.ccsl_ast.specs.Files.{plain_file}
use Rattle.ccsl_kernel.specs.Plain.{plain_system}
use Rattle.ccsl_rules.specs.Spaces.{calls_space}
use Rattle.ccsl_spaces.specs.Callees.{seen_call}
use Rattle.ccsl_rules.specs.Expansion.{expand}
use Rattle.ccsl_expand.specs.Seen.{seen_block}
use Rattle.ccsl_expand.specs.Expanded.{expanded_texts}
use Rattle.ccsl_expand.proofs.Whole.{expand-whole}
use Rattle.ccsl_expand.proofs.expand_file.expand.Goals as goal
use Rattle.ccsl_expand.proofs.expand_file.expand.Goals.{After-members-3}

-- what the texts expand to
whole : (c : After-members-3)
    → expanded_texts (map seen_call c.in_ok-calls.calls) c.in_ok-texts.texts.words.items (map seen_block c.deref.result.now) c.in_ok-texts.texts.start
    (map plain_sline c.members-3.result.now) ≡ expand (plain_file c.args.library.now) (plain_file c.args.file.now)
whole c =
    let library = plain_file c.args.library.now in
    let texts = c.in_ok-texts.texts in
    let space =
    c.in_ok-calls.ensures
    ∙ (ap (λ l. calls_space 0 0 (map plain_definition l ++ map plain_definition c.members-2.result.now)) c.members.ensures
    ∙ ap (λ f. calls_space 0 0 (library.definitions ++ map plain_definition f)) c.members-2.ensures) in
    expand-whole library (plain_file c.args.file.now) texts.words.items (map seen_call c.in_ok-calls.calls) (map seen_block c.deref.result.now) texts.start
    (map plain_sline c.members-3.result.now) c.in_ok-texts.ensures.words space (ap (map seen_block) c.deref.ensures.value ∙ c.in_ok-texts.ensures.blocks)
    c.in_ok-texts.ensures.start (ap (map plain_sline) c.members-3.ensures)

pub expand_texts-requires-clause-new : goal.expand_texts-requires-clause-new
expand_texts-requires-clause-new c = λ front back name e.
    c.requires.new front back name (sym (ap (λ K. K.names) (whole (goal.at.expand_texts-requires-clause-new c).After-members-3)) ∙ e)

pub expand_texts-requires-clause-few : goal.expand_texts-requires-clause-few
expand_texts-requires-clause-few c =
    subst (λ K. length K.names ≤ MAX_CLOCKS) (sym (whole (goal.at.expand_texts-requires-clause-few c).After-members-3)) c.requires.few

pub returns : goal.returns
returns c =
    subst (λ s. IfOk c.expand_texts.result (λ parts. plain_system parts ≡ s)) (whole (goal.at.returns c).After-members-3) c.expand_texts.ensures
