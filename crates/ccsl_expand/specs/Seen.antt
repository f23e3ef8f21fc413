-- What values of the program stand for: atoms, settings, tables and callees as the rules have them.
use Rattle.std.specs.Prelude.{Option, Some, None, map}
use Rattle.ccsl_expand.specs.declared.atom.Atom.{Atom as ProgramAtom}
use Rattle.ccsl_expand.specs.declared.atom.Atom.TheVariants as atom
use Rattle.ccsl_expand.specs.declared.tables.Tables.{Tables as ProgramTables}
use Rattle.ccsl_expand.specs.declared.texts.Block.{Block}
use Rattle.ccsl_ast.specs.Plain.{plain_definition}
use Rattle.ccsl_expand.specs.Numbered.{NumberedDefinition}
use Rattle.ccsl_spaces.specs.Callees.{seen_call}
use Rattle.ccsl_rules.specs.Settings.{Atom, AClock, ANumber, AWord, AParam}
use Rattle.ccsl_rules.specs.Resolved.{Tables}

abbrev pub seen_atom : ProgramAtom → Atom
seen_atom (atom.Clock name) = AClock name
seen_atom (atom.Number n) = ANumber n
seen_atom (atom.Word w o) = AWord w o
seen_atom (atom.Param i kind) = AParam i kind

-- what a name stands for that a setting lacks: the number 0
abbrev pub atom_or_zero : Option Atom → Atom
atom_or_zero None = ANumber 0
atom_or_zero (Some a) = a

abbrev pub seen_tables : ProgramTables → Tables
seen_tables t = record { names = t.names.now; words = t.words.now; calls = map seen_call t.calls.now }

abbrev pub seen_block : Block → NumberedDefinition
seen_block b = record { start = b.start; definition = plain_definition b.definition.now }
