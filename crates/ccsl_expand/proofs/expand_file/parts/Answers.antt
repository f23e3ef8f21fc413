use Rattle.std.proofs.Common.{map, flat_map, sym, ap, ◌∙◌}
use Rattle.ccsl_ast.specs.Plain.{plain_sline}
use Rattle.ccsl_kernel.specs.Plain.{plain_expr, plain_group}
use Rattle.ccsl_rules.specs.Expansion.{declared_names}
use Rattle.ccsl_spaces.specs.Callees.{seen_call}
use Rattle.ccsl_expand.specs.Seen.{seen_block}
use Rattle.ccsl_expand.specs.Items.{seen_item}
use Rattle.ccsl_expand.specs.Expanded.{expanded}
use Rattle.ccsl_expand.proofs.Whole.{parts-whole}
use Rattle.ccsl_expand.proofs.expand_file.parts.Goals as goal

pub returns : goal.returns
returns c =
    let calls = map seen_call c.args.calls.now in
    let blocks = map seen_block c.args.blocks.now in
    let declared = flat_map declared_names (map plain_sline c.args.lines.now) in
    let items = map seen_item c.args.items.now in
    parts-whole c.deref-2.result.now calls blocks declared items c.new.result c.in_ok-names.names c.in_ok-named.named.declared c.in_ok-named.named.written
    (map plain_group c.in_ok-contents.contents.groups) (map plain_expr c.in_ok-contents.contents.definitions) c.in_ok-contents.contents.constraints
    (c.new.ensures ∙ sym c.deref-2.ensures.value) (c.in_ok-names.ensures ∙ (c.deref.ensures.value ∙ c.in_ok-named.ensures.names)) c.in_ok-named.ensures.declared
    c.in_ok-named.ensures.written
    c.in_ok-contents.ensures.groups c.in_ok-contents.ensures.definitions c.in_ok-contents.ensures.constraints
    ∙ ap (λ w. expanded w calls blocks declared items) c.deref-2.ensures.value
