-- The identifier codes of clocks: one visible byte, or two. IEEE 1364-2005, clause 18.2.3: a code has printable characters.
-- Which clock has which code is this project's own.
use Rattle.std.specs.Prelude.{ℕ, ◌+◌, ◌-◌, ◌/◌, ◌%◌, List, [], ◌∷◌, nat_lt, if◌then◌else◌}
use Rattle.ccsl_vcd_write.specs.declared.code.TheConstants.{FIRST_CODE_BYTE, CODE_BYTES}

-- the byte number i of those that a code may have
abbrev pub code_byte : ℕ → ℕ
code_byte i = FIRST_CODE_BYTE + i

-- the first clocks have one byte each, and those behind them two
abbrev pub code_of : ℕ → List ℕ
code_of clock =
    if nat_lt clock CODE_BYTES then code_byte clock ∷ []
    else code_byte ((clock - CODE_BYTES) / CODE_BYTES) ∷ code_byte ((clock - CODE_BYTES) % CODE_BYTES) ∷ []
