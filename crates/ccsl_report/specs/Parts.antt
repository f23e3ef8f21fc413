-- The pieces of a line as the program keeps them.
use Rattle.std.specs.Prelude.{ℕ, List, decimal, map}
use Rattle.ccsl_report.specs.declared.line.Part.{Part}
use Rattle.ccsl_report.specs.declared.line.Part.TheVariants as part

abbrev pub part_text : Part → List ℕ
part_text (part.Text text) = text.now
part_text (part.Name name) = name.now
part_text (part.Number n) = decimal n

abbrev pub part_texts : List Part → List (List ℕ)
part_texts parts = map part_text parts
