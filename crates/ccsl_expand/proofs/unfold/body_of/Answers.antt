-- A call goes to an earlier definition, or becomes nothing.
use Rattle.std.proofs.Common.{◌<◌, Some, map, length, get_or, sym, ap, ◌∙◌, arith, rules}
use Rattle.std.proofs.lemmas.Option.{slice_get-get_or}
use Rattle.ccsl_ast.specs.Trees.{SLineOf}
use Rattle.ccsl_ast.specs.Plain.{plain_definition, plain_line}
use Rattle.ccsl_rules.specs.Unfolded.{unfold_block, unfold_relation}
use Rattle.ccsl_spaces.specs.Callees.{seen_callee, seen_call}
use Rattle.ccsl_expand.specs.Seen.{seen_block}
use Rattle.ccsl_expand.specs.Items.{earlier}
use Rattle.ccsl_expand.proofs.Lookups.{get-map}
use Rattle.ccsl_expand.proofs.Nested.{call-earlier, call-later, unfolding-found}
use Rattle.ccsl_expand.proofs.unfold.body_of.Goals as goal

pub returns-then-found-home-clause-items : goal.returns-then-found-home-clause-items
returns-then-found-home-clause-items c = λ path args.
    let s = c.args.sources.now in
    let calls = map seen_call s.calls.now in
    sym (call-later s.words.now calls (map seen_block s.blocks.now) c.args.home c.in_ok-found.found.block path args c.if-found-home.true)
    ∙ unfolding-found (earlier s c.args.home) calls c.args.name.now.name (Some (seen_callee c.in_ok-found.found)) c.in_ok-found.ensures path args

pub returns-in-Group-clause-items : goal.returns-in-Group-clause-items
returns-in-Group-clause-items c = λ path args.
    let s = c.args.sources.now in
    let calls = map seen_call s.calls.now in
    let d = c.in_ok-found.found.block in
    let b = get_or s.blocks.now d c.index-sources-found.result in
    let below : d < length s.blocks.now = omega arith in
    let at = get-map seen_block s.blocks.now d b (slice_get-get_or s.blocks.now d c.index-sources-found.result below) in
    let whole = call-earlier s.words.now calls (map seen_block s.blocks.now) c.args.home d (seen_block b) path args c.if-found-home.false at in
    sym (whole ∙ ap (λ x. unfold_block s.words.now calls (earlier s d) b.start (plain_definition x) path args) c.in-Group.is)
    ∙ unfolding-found (earlier s c.args.home) calls c.args.name.now.name (Some (seen_callee c.in_ok-found.found)) c.in_ok-found.ensures path args

pub returns-in-Relation-clause-items : goal.returns-in-Relation-clause-items
returns-in-Relation-clause-items c = λ path args.
    let s = c.args.sources.now in
    let calls = map seen_call s.calls.now in
    let d = c.in_ok-found.found.block in
    let b = get_or s.blocks.now d c.index-sources-found.result in
    let below : d < length s.blocks.now = omega arith in
    let at = get-map seen_block s.blocks.now d b (slice_get-get_or s.blocks.now d c.index-sources-found.result below) in
    let whole = call-earlier s.words.now calls (map seen_block s.blocks.now) c.args.home d (seen_block b) path args c.if-found-home.false at in
    ap (λ ps. unfold_relation s.words.now calls (earlier s d) b.start ps (map SLineOf (map plain_line c.members-in-Relation.result.now)) path args)
    c.members.ensures
    ∙ (ap (λ ls. unfold_relation s.words.now calls (earlier s d) b.start c.in-Relation.params (map SLineOf (map plain_line ls)) path args)
    c.members-in-Relation.ensures
    ∙ (sym (whole ∙ ap (λ x. unfold_block s.words.now calls (earlier s d) b.start (plain_definition x) path args) c.in-Relation.is)
    ∙ unfolding-found (earlier s c.args.home) calls c.args.name.now.name (Some (seen_callee c.in_ok-found.found)) c.in_ok-found.ensures path args))

pub bounds-sources-found : goal.bounds-sources-found
bounds-sources-found c = search rules

pub returns-in-Relation-clause-lower : goal.returns-in-Relation-clause-lower
returns-in-Relation-clause-lower c = search rules
