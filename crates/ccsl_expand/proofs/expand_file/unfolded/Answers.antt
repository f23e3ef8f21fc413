use Rattle.std.proofs.Common.{◌≡◌, [], map, IfOk, subst, ap, ◌∙◌}
use Rattle.ccsl_ast.specs.Plain.{plain_sline}
use Rattle.ccsl_rules.specs.Unfolded.{unfold_body}
use Rattle.ccsl_spaces.specs.Callees.{seen_call}
use Rattle.ccsl_expand.specs.Numbered.{unfold_all}
use Rattle.ccsl_expand.specs.Seen.{seen_block}
use Rattle.ccsl_expand.specs.Items.{seen_item}
use Rattle.ccsl_expand.proofs.Whole.{take-whole}
use Rattle.ccsl_expand.proofs.expand_file.unfolded.Goals as goal

pub returns : goal.returns
returns c =
    let s = c.args.sources.now in
    let words = s.words.now in
    let calls = map seen_call s.calls.now in
    let lines = map plain_sline c.args.lines.now in
    let frame = c.in_ok-frame.frame in
    let whole =
    ap (λ bs. unfold_body words calls (unfold_all words calls [] bs) frame.path frame.setting.value c.args.start 0 lines) (take-whole seen_block s.blocks.now)
    ∙ (ap (λ p. unfold_body words calls (unfold_all words calls [] (map seen_block s.blocks.now)) p frame.setting.value c.args.start 0 lines)
    c.in_ok-frame.ensures.path
    ∙ ap (λ σ. unfold_body words calls (unfold_all words calls [] (map seen_block s.blocks.now)) [] σ c.args.start 0 lines) c.in_ok-frame.ensures.setting) in
    subst (λ x. IfOk c.unfold_system.result (λ v. map seen_item v.items ≡ x)) whole c.unfold_system.ensures
