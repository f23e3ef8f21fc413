use Rattle.std.proofs.Common.{◌≡◌, ◌+◌, [], take, drop}
use Rattle.ccsl_command.specs.Meaning.{first_fault}
use Rattle.ccsl_command.proofs.command_line.first_fault.Given as goal

-- no word before the present one is at fault
abbrev pub invariant-loop-i : goal.invariant-loop-i
invariant-loop-i l = first_fault l.name [] 1 l.pairs ≡ first_fault l.name (take l.i l.pairs) (l.i + 1) (drop l.i l.pairs)
