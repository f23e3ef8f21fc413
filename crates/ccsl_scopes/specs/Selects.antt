-- What stands in brackets behind a name, and the bits that it means.
use Rattle.std.specs.Prelude.{ℕ, ◌+◌, ◌-◌, Option, Some, None, nat_le, nat_lt, ◌==◌, ◌&&◌, if◌then◌else◌}
use Rattle.ccsl_scopes.specs.declared.select.Select.{Select}
use Rattle.ccsl_scopes.specs.declared.select.Select.TheVariants.{Whole, Bit, Range}
use Rattle.ccsl_scopes.specs.declared.select.Bits.{Bits}

-- The place of a bit, counted from the right, in a variable that stands in the header with this range and size. A range runs
-- down or up. One that has not as many bits as the variable says nothing of them: they are counted down to 0.
abbrev pub counted : ℕ → ℕ → Option ℕ
counted size i = if nat_lt i size then Some i else None

abbrev pub place : Select → ℕ → ℕ → Option ℕ
place Whole size i = counted size i
place (Bit n) size i = if n == i then Some 0 else None
place (Range left right) size i =
    if nat_le right left && (left - right + 1 == size) then (if nat_le right i && nat_le i left then Some (i - right) else None)
    else (if nat_lt left right && (right - left + 1 == size) then (if nat_le left i && nat_le i right then Some (right - i) else None)
    else counted size i)

abbrev pub bits : ℕ → ℕ → Bits
bits low width = record { low = low; width = width }

abbrev pub one_bit : Option ℕ → Option Bits
one_bit None = None
one_bit (Some p) = Some (bits p 1)

-- from a left bit to a right one
abbrev pub between : Option ℕ → Option ℕ → Option Bits
between None q = None
between (Some p) None = None
between (Some p) (Some q) = if nat_le q p then Some (bits q (p - q + 1)) else None

-- the bits that a path means of a variable, by what stands in brackets in the header, the size, and what stands in the path's
abbrev pub bits_of : Select → ℕ → Select → Option Bits
bits_of (Bit n) size (Bit i) = if n == i then Some (bits 0 size) else None
bits_of (Bit n) size (Range left right) = None
bits_of range size Whole = Some (bits 0 size)
bits_of range size (Bit i) = one_bit (place range size i)
bits_of range size (Range left right) = between (place range size left) (place range size right)
