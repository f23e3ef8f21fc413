use Rattle.std.proofs.Common.{map, length, sym}
use Rattle.std.proofs.lemmas.List.{length-map}
use Rattle.ccsl_ast.specs.Plain.{plain_definition, plain_sline}
use Rattle.ccsl_faults.specs.Levels.{seen_heights}
use Rattle.ccsl_faults.proofs.Whole.{parts-joined}
use Rattle.ccsl_faults.proofs.definitions.parts_faults.Goals as goal

pub returns : goal.returns
returns c =
    parts-joined c.args.calls.now.space (seen_heights c.args.heights.now) c.args.calls.now.of_library c.args.first (length c.args.own.now)
    (map plain_definition c.args.own.now) (map plain_sline c.args.lines.now) c.earlier.ensures c.earlier-2.ensures c.repeated-declared.ensures
    c.in_ok-used.ensures
    (sym (length-map c.args.own.now plain_definition)) c.in_ok-system.ensures
