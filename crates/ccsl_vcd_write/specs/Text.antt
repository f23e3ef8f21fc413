-- THE WRITTEN TRACE: a value change dump in which each clock that the system names itself is an event, and step k has time k.
-- IEEE 1364-2005, clause 18.2; which of its forms are written is this project's own.
use Rattle.std.specs.Prelude.{ℕ, ◌+◌, List, [], ◌∷◌, ◌++◌, take, map, filter, nat_lt, codes, decimal}
use Rattle.ccsl_kernel.specs.Syntax.{System}
use Rattle.ccsl_vcd_write.specs.Code.{code_of}

-- lines, each with a line feed behind it
abbrev pub text_of : List (List ℕ) → List ℕ
text_of [] = []
text_of (line ∷ lines) = line ++ 10 ∷ text_of lines

-- the declaration of a clock
abbrev pub var_line : ℕ → List ℕ → List ℕ
var_line clock name = codes "$var event 1 " ++ code_of clock ++ codes " " ++ name ++ codes " $end"

-- those of the clocks from a number on
abbrev pub var_lines : ℕ → List (List ℕ) → List (List ℕ)
var_lines clock [] = []
var_lines clock (name ∷ names) = var_line clock name ∷ var_lines (clock + 1) names

-- the clocks that are not hidden
abbrev pub written_names : System → List (List ℕ)
written_names K = take K.written K.names

abbrev pub header_lines : System → List (List ℕ)
header_lines K =
    codes "$version ccsl $end" ∷ codes "$timescale 1 ns $end" ∷ codes "$scope module ccsl $end"
    ∷ (var_lines 0 (written_names K) ++ codes "$upscope $end" ∷ codes "$enddefinitions $end" ∷ [])

-- the clocks of a step that are not hidden
abbrev pub written_part : System → List ℕ → List ℕ
written_part K step = filter (λ x. nat_lt x K.written) step

abbrev pub time_line : ℕ → List ℕ
time_line time = codes "#" ++ decimal time

abbrev pub tick_line : ℕ → List ℕ
tick_line clock = codes "1" ++ code_of clock

-- the time of step k, and a change of each clock that ticks
abbrev pub step_lines : ℕ → System → List ℕ → List (List ℕ)
step_lines k K step = time_line k ∷ map tick_line (written_part K step)

abbrev pub header_text : System → List ℕ
header_text K = text_of (header_lines K)

abbrev pub step_text : ℕ → System → List ℕ → List ℕ
step_text k K step = text_of (step_lines k K step)

-- steps from number k on
abbrev pub steps_text : ℕ → System → List (List ℕ) → List ℕ
steps_text k K [] = []
steps_text k K (step ∷ steps) = step_text k K step ++ steps_text (k + 1) K steps

-- the whole file
abbrev pub vcd_text : System → List (List ℕ) → List ℕ
vcd_text K steps = header_text K ++ steps_text 0 K steps
