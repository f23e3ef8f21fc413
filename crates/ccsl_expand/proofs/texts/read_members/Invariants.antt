-- What stands in the list, and what the rest adds, is the whole.
use Rattle.std.proofs.Common.{◌≡◌, ◌++◌, drop, map, flat_map}
use Rattle.ccsl_ast.specs.Plain.{plain_member}
use Rattle.ccsl_rules.specs.Texts.{texts}
use Rattle.ccsl_expand.specs.Numbered.{word_in}
use Rattle.ccsl_expand.proofs.texts.read_members.Given as goal

abbrev pub invariant-loop-member : goal.invariant-loop-member
invariant-loop-member l =
    l.words.items ++ map word_in (flat_map (λ m. texts m.body) (map plain_member (drop l.member-index l.members))) ≡ l.fn.words.items
    ++ map word_in (flat_map (λ m. texts m.body) (map plain_member l.members))
