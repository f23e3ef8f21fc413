-- What contracts see of a binding.
use Rattle.std.specs.Prelude.{ℕ, List, Bool, false, Option, ◌==◌, find}
use Rattle.std.specs.Option.{option_map_or, option_and_then}
use Rattle.std.specs.List.{list_all}
use Rattle.ccsl_base.specs.Names.{is_among}
use Rattle.ccsl_vcd.specs.Binding.{Bound}
use Rattle.ccsl_bind.specs.Codes.{number_of}

pub record Bindings : Type 0 where
  -- the declared codes by number, each once
  pub codes : List (List ℕ)
  -- the bound clocks in order
  pub bound : List Bound

-- what a clock is bound to, if it is bound
abbrev pub bound_to : ℕ → List Bound → Option Bound
bound_to clock bound = find (λ b. b.clock == clock) bound

-- the number of its code
abbrev pub code_number : Bindings → ℕ → Option ℕ
code_number v clock = option_and_then (λ b. number_of b.code v.codes) (bound_to clock v.bound)

-- whether it is bound, and its kind is event
abbrev pub is_bound_event : Bindings → ℕ → Bool
is_bound_event v clock = option_map_or (λ b. b.event) (bound_to clock v.bound) false

-- a clock is bound to a declared code
abbrev pub are_declared : Bindings → Bool
are_declared v = list_all (λ b. is_among b.code v.codes) v.bound
