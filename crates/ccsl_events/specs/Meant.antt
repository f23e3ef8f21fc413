-- What the words of the code mean, with the token that they are of.
use Rattle.std.specs.Prelude.{ℕ, List, [], ◌∷◌, ◌==◌}
use Rattle.ccsl_vcd.specs.Words as w
use Rattle.ccsl_events.specs.declared.word.Word.{Word}
use Rattle.ccsl_events.specs.declared.word.Word.TheVariants.{Time, Scalar, Vector, Skipped, Comment, Block, Gap, End, BadTime, BadChange, Unknown}

abbrev pub scalar_in : List ℕ → w.Word
scalar_in [] = w.bad_change
scalar_in (letter ∷ code) = w.scalar (letter == 49) code

abbrev pub vector_in : List ℕ → w.Word
vector_in [] = w.bad_change
vector_in (b ∷ letters) = w.vector (w.last_of b letters == 49)

abbrev pub meant : Word → List ℕ → w.Word
meant (Time n) text = w.time n
meant Scalar text = scalar_in text
meant Vector text = vector_in text
meant Skipped text = w.skipped
meant Comment text = w.comment
meant Block text = w.dump
meant Gap text = w.gap
meant End text = w.close
meant BadTime text = w.bad_time
meant BadChange text = w.bad_change
meant Unknown text = w.unknown
