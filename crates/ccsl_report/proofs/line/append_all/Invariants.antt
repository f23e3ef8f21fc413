use Rattle.std.proofs.Common.{◌≡◌, ◌+◌, ◌≤◌, ◌++◌, length, drop, vec_len, vec_capacity}
use Rattle.std.specs.List.{concat}
use Rattle.ccsl_report.specs.Parts.{part_texts}
use Rattle.ccsl_report.proofs.line.append_all.Given as goal

-- what stands, and what the parts from the present one on add, is the whole
abbrev pub invariant-loop-part : goal.invariant-loop-part
invariant-loop-part l =
    (l.out.items ++ concat (part_texts (drop l.part-index l.parts)) ≡ l.initial.out.items ++ concat (part_texts l.parts))
    × (vec_len l.out + length (concat (part_texts (drop l.part-index l.parts))) ≡ vec_len l.initial.out + length (concat (part_texts l.parts)))
    × (vec_capacity l.initial.out ≤ vec_capacity l.out)
