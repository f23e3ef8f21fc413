-- THE STATUSES THAT EACH COMMAND MAY ANSWER, whatever its files hold: 0 where it is done, 1 where the answer is no, 2 to 4 where the
-- words, the specification, or another file is refused, and 8 where a simulation ended early. Beside them 5 and 6 come under each.
use Rattle.std.specs.Prelude.{ℕ, List, [], ◌∷◌, Result, Ok, Err, Contains}
use Rattle.ccsl_command.specs.declared.command.Command.{Command}
use Rattle.ccsl_command.specs.declared.command.Command.TheVariants as command
use Rattle.ccsl_command.specs.declared.usage.Usage.{Usage}

abbrev pub answers_of : Result Command Usage → List ℕ
answers_of (Err fault) = 2 ∷ []
answers_of (Ok (command.Check spec)) = 0 ∷ 3 ∷ []
answers_of (Ok (command.Judge spec trace workers)) = 0 ∷ 1 ∷ 3 ∷ 4 ∷ []
answers_of (Ok (command.Certify spec trace cert)) = 0 ∷ 1 ∷ 3 ∷ 4 ∷ []
answers_of (Ok (command.Explain spec trace cert)) = 0 ∷ 1 ∷ 3 ∷ 4 ∷ []
answers_of (Ok (command.Simulate spec policy seed steps trace cert)) = 0 ∷ 3 ∷ 8 ∷ []
answers_of (Ok (command.Session spec policy seed)) = 0 ∷ 3 ∷ 4 ∷ []
answers_of (Ok (command.Trial clocks steps seed workers)) = 0 ∷ []
answers_of (Ok (command.Periodic left right relation)) = 0 ∷ 1 ∷ []

abbrev pub IsStatusOf : Result Command Usage → ℕ → Type 0
IsStatusOf meant status = Contains (5 ∷ 6 ∷ answers_of meant) status
