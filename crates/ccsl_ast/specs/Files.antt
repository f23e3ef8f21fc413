-- Files, in the form in which definitions and clauses speak of them.
use Rattle.ccsl_ast.specs.declared.file.File.{File}
use Rattle.ccsl_ast.specs.Trees.{PlainFile}
use Rattle.ccsl_ast.specs.Plain.{plain_parts}

abbrev pub plain_file : File → PlainFile
plain_file f = plain_parts f.version f.definitions f.lines
