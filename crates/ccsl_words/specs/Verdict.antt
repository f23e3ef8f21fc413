-- What is said of a text: the word that it reads as, or its fault.
use Rattle.std.specs.Prelude.{ℕ, List, Result, Ok, Err}
use Rattle.ccsl_words.specs.declared.fault.WordFault.{WordFault}
use Rattle.ccsl_words.specs.Word.{BinaryWord}
use Rattle.ccsl_words.specs.Reads.{Reads}
use Rattle.ccsl_words.specs.Fault.{IsFault}

abbrev pub IsVerdict : List ℕ → Result BinaryWord WordFault → Type 0
IsVerdict text (Ok w) = Reads text w
IsVerdict text (Err e) = IsFault text e
