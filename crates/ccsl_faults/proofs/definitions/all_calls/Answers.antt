use Rattle.std.proofs.Common.{map, sym, ap, ◌++◌, arith}
use Rattle.std.proofs.lemmas.List.{length-map}
use Rattle.ccsl_ast.specs.Plain.{plain_definition}
use Rattle.ccsl_spaces.specs.Knowns.{known}
use Rattle.ccsl_spaces.specs.Callees.{seen_call}
use Rattle.ccsl_spaces.proofs.Joined.{space-joined}
use Rattle.ccsl_faults.proofs.Heads.{length-declared, length-space, length-within}
use Rattle.ccsl_faults.proofs.definitions.all_calls.Goals as goal

pub returns-clause-space : goal.returns-clause-space
returns-clause-space c =
    space-joined (map plain_definition c.args.library.now) (map plain_definition c.args.file.now) _ c.in_ok-groups.groups
    (ap (map seen_call) c.new-space.ensures)
    c.in_ok-groups.ensures.added (sym (length-map c.args.library.now plain_definition)) c.in_ok-groups.ensures.next c.in_ok-add_definitions.ensures.added

pub returns-clause-library : goal.returns-clause-library
returns-clause-library c =
    length-declared c.declared-of_library.result.now known c.new-space.result c.add_definitions.new.space (map plain_definition c.args.library.now)
    c.declared-of_library.ensures c.new-space.ensures c.in_ok-groups.ensures.added

pub returns-clause-within : goal.returns-clause-within
returns-clause-within c =
    let xs = map plain_definition c.args.library.now in
    let ys = map plain_definition c.args.file.now in
    omega (
      arith,
      length-declared c.declared-of_library.result.now known c.new-space.result c.add_definitions.new.space xs
          c.declared-of_library.ensures c.new-space.ensures c.in_ok-groups.ensures.added,
      length-within xs ys,
      length-space c.add_definitions-2.new.space (xs ++ ys)
          (space-joined xs ys _ c.in_ok-groups.groups (ap (map seen_call) c.new-space.ensures)
          c.in_ok-groups.ensures.added (sym (length-map c.args.library.now plain_definition)) c.in_ok-groups.ensures.next
          c.in_ok-add_definitions.ensures.added),
    )
