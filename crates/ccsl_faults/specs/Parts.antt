-- The faults of a file by its parts.
use Rattle.std.specs.Prelude.{ℕ, ◌+◌, List, [], ◌++◌, take, drop, length}
use Rattle.ccsl_ast.specs.Trees.{PlainDefinition, PlainFile, SLine}
use Rattle.ccsl_rules.specs.Faults.{Fault}
use Rattle.ccsl_rules.specs.Spaces.{Known, Callee, repeated, spots}
use Rattle.ccsl_rules.specs.Blocks.{Heights, blocks_faults, body_faults, faults}
use Rattle.ccsl_spaces.specs.Knowns.{names}

-- those of the names that are repeated from a place on, of the definitions from a number on, and of the system's lines
abbrev pub parts_faults : List (Known Callee) → Heights → ℕ → ℕ → List PlainDefinition → List SLine → List Fault
parts_faults calls heights place first blocks lines =
    repeated (take place (names calls)) (drop place (spots calls)) ++ blocks_faults calls heights first blocks
    ++ body_faults calls (first + length blocks) [] [] lines

-- the definitions and lines of a file
abbrev pub file_of : List PlainDefinition → List SLine → PlainFile
file_of definitions lines = record { version = 1; definitions = definitions; lines = lines }

-- the faults of definitions and lines behind definitions
abbrev pub faults_of : List PlainDefinition → List PlainDefinition → List SLine → List Fault
faults_of library own lines = faults (file_of library []) (file_of own lines)
