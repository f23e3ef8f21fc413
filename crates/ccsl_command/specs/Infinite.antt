-- The words of a command have a period: each is a sequence of letters without end.
use Rattle.std.specs.Prelude.{◌≡◌, false, ⊤}
use Rattle.ccsl_words.specs.Word.{is_finite}
use Rattle.ccsl_command.specs.declared.command.Command.{Command}
use Rattle.ccsl_command.specs.declared.command.Command.TheVariants as meant

abbrev pub HasInfiniteWords : Command → Type 0
HasInfiniteWords (meant.Periodic left right relation) = (is_finite left ≡ false) × (is_finite right ≡ false)
HasInfiniteWords other = ⊤
