-- WHEN A PERSON IS TOLD of how far a run is, what of it, and in which colours.
use Rattle.std.specs.Prelude.{ℕ, ◌+◌, ◌-◌, ◌*◌, ◌^◌, ◌/◌, ◌&&◌, List, [], ◌∷◌, Bool, true, false, min, max, not, nat_eq, nat_le, nat_lt, if◌then◌else◌, codes}
use Rattle.std.specs.Str.{bytes_eq}
use Rattle.ccsl_edge.specs.declared.slot.Slot.{Slot}
use Rattle.ccsl_edge.specs.declared.slot.Slot.TheVariants.{Spec, Trace, Cert, Input, Report, TraceOut, CertOut}
use Rattle.ccsl_show_top.specs.declared.own.Colour.{Colour}
use Rattle.ccsl_show_top.specs.declared.own.Colour.TheVariants.{Always, Never, Terminal}

-- so many seconds are gone, two or more behind those at which it was told last
abbrev pub is_time : ℕ → ℕ → Bool
is_time told seconds = nat_le 2 (seconds - told)

-- the seconds at which it was told last, then
abbrev pub told_at : ℕ → ℕ → ℕ
told_at told seconds = if is_time told seconds then seconds else told

-- the bytes of a trace that are there before the first step: none, where steps are asked for
abbrev pub size_before : ℕ → ℕ → ℕ
size_before asked bytes = if nat_lt 0 asked then 0 else bytes

-- what is written of a trace begins a step: its first byte is a '#', as that of each time
abbrev pub begins_step : List ℕ → Bool
begins_step [] = false
begins_step (first ∷ rest) = nat_eq first 35

-- the steps made behind what may begin one
abbrev pub made_with : Bool → ℕ → ℕ
made_with begins made = if begins then min (made + 1) (2 ^ 64 - 1) else made

-- of a trace of so many bytes, of which so many were read, those that were read in the pass that goes on
abbrev pub read_in_pass : ℕ → ℕ → ℕ
read_in_pass size read = if nat_lt (max size 1) read then read - max size 1 else read

-- how much of a hundred is done: a whole of 0 is taken as 1
abbrev pub percent_of : ℕ → ℕ → ℕ
percent_of done whole = min (min done (max whole 1) * 100) (2 ^ 64 - 1) / max whole 1

-- the seconds that the rest takes, at a pace of so much in so many seconds
abbrev pub seconds_left : ℕ → ℕ → ℕ → ℕ → ℕ
seconds_left done whole pace seconds =
    min ((max whole 1 - min done (max whole 1)) * seconds) (2 ^ 64 - 1) / max pace 1

-- colours are shown: where they are asked for, and else where no variable of the environment refuses them and a terminal shows them
abbrev pub are_shown : Colour → Bool → Bool → Bool
are_shown Always refused terminal = true
are_shown Never refused terminal = false
are_shown Terminal refused terminal = not refused && terminal

-- a session reports that it does not know a line
abbrev pub is_unknown : Slot → List ℕ → Bool
is_unknown Report bytes = bytes_eq bytes (codes "unknown\n")
is_unknown Spec bytes = false
is_unknown Trace bytes = false
is_unknown Cert bytes = false
is_unknown Input bytes = false
is_unknown TraceOut bytes = false
is_unknown CertOut bytes = false
