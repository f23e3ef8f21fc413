use Rattle.std.proofs.Common.{map, sym, ap}
use Rattle.std.proofs.lemmas.List.{length-map}
use Rattle.ccsl_ast.specs.Plain.{plain_definition}
use Rattle.ccsl_spaces.specs.Callees.{seen_call}
use Rattle.ccsl_spaces.proofs.Joined.{space-joined}
use Rattle.ccsl_spaces.proofs.calls.calls_space.Goals as goal

pub returns : goal.returns
returns c =
    space-joined (map plain_definition c.args.library.now) (map plain_definition c.args.file.now) _ c.in_ok-groups.groups
    (ap (map seen_call) c.new-space.ensures)
    c.in_ok-groups.ensures.added (sym (length-map c.args.library.now plain_definition)) c.in_ok-groups.ensures.next c.in_ok-add_definitions.ensures.added
