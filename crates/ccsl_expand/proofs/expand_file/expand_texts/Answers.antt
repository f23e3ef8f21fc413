use Rattle.std.proofs.Common.{◌≡◌, [], map, flat_map, IfOk, subst, ap, ◌∙◌}
use Rattle.ccsl_ast.specs.Plain.{plain_sline}
use Rattle.ccsl_kernel.specs.Plain.{plain_system}
use Rattle.ccsl_rules.specs.Unfolded.{unfold_body, own_clocks}
use Rattle.ccsl_rules.specs.Expansion.{declared_names}
use Rattle.ccsl_spaces.specs.Callees.{seen_call}
use Rattle.ccsl_expand.specs.Numbered.{unfold_all}
use Rattle.ccsl_expand.specs.Seen.{seen_block}
use Rattle.ccsl_expand.specs.Items.{seen_item}
use Rattle.ccsl_expand.specs.Expanded.{expanded}
use Rattle.ccsl_expand.proofs.expand_file.expand_texts.Goals as goal

pub returns : goal.returns
returns c =
    let words = c.args.words.items in
    let calls = map seen_call c.args.calls.now in
    let blocks = map seen_block c.args.blocks.now in
    let lines = map plain_sline c.args.lines.now in
    let declared = flat_map declared_names lines in
    let whole =
    ap (λ i. expanded words calls blocks declared (map seen_item i)) c.deref-2.ensures.value
    ∙ (ap (λ i. expanded words calls blocks declared i) c.in_ok-items.ensures
    ∙ ap (λ w. expanded words calls blocks declared (unfold_body w calls (unfold_all w calls [] blocks) [] (own_clocks [] lines) c.args.start 0 lines))
    c.deref.ensures.value) in
    subst (λ s. IfOk c.parts.result (λ parts. plain_system parts ≡ s)) whole c.parts.ensures
