-- What is written of a time: IEEE 1364-2005, clause 18.2; which name has which code is this project's own.
use Rattle.std.specs.Prelude.{ℕ, ◌+◌, ◌-◌, ◌/◌, ◌%◌, List, [], ◌∷◌, ◌++◌, nat_lt, if◌then◌else◌}

abbrev pub code_byte : ℕ → ℕ
code_byte i = 33 + i % 94

-- the first names have one byte each, and those behind them two
abbrev pub code_of : ℕ → List ℕ
code_of name = if nat_lt name 94 then code_byte name ∷ [] else code_byte ((name - 94) / 94) ∷ code_byte ((name - 94) % 94) ∷ []

-- a time, by its digits
abbrev pub time_line : List ℕ → List ℕ
time_line digits = 35 ∷ (digits ++ 10 ∷ [])

abbrev pub tick_line : ℕ → List ℕ
tick_line name = 49 ∷ (code_of name ++ 10 ∷ [])

abbrev pub tick_lines : List ℕ → List ℕ
tick_lines [] = []
tick_lines (name ∷ names) = tick_line name ++ tick_lines names

-- the line of a time and one for each name that happens at it; nothing where none does
abbrev pub row_text : List ℕ → List ℕ → List ℕ
row_text digits [] = []
row_text digits (name ∷ names) = time_line digits ++ tick_lines (name ∷ names)
