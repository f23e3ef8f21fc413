use Rattle.std.proofs.Common.{map, length, sym}
use Rattle.std.proofs.lemmas.List.{length-map}
use Rattle.ccsl_ast.specs.Plain.{plain_definition, plain_sline}
use Rattle.ccsl_spaces.specs.Callees.{seen_call}
use Rattle.ccsl_faults.specs.Levels.{seen_heights}
use Rattle.ccsl_faults.proofs.Whole.{parts-are-all}
use Rattle.ccsl_faults.proofs.definitions.least_fault.Goals as goal

pub returns : goal.returns
returns c =
    let all =
    parts-are-all (map plain_definition c.args.library.now) (map plain_definition c.args.own.now) (map plain_sline c.args.lines.now)
    (map seen_call c.in_ok-calls.calls.space) (seen_heights c.in_ok-heights.heights) c.in_ok-calls.calls.of_library (length c.args.library.now)
    c.in_ok-calls.ensures.space c.in_ok-heights.ensures.heights c.in_ok-calls.ensures.library (sym (length-map c.args.library.now plain_definition)) in
    rw (← all) c.parts_faults.ensures
