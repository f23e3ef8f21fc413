-- What is kept for the variables that are read: each is new, and the variables of one code lead to one another.
use Rattle.std.specs.Prelude.{◌≡◌, ◌<◌, ℕ, List, [], ◌∷◌, ◌++◌, length, map, Bool, false, Option, Some, None, ◌==◌, if◌then◌else◌, slice_get}
use Rattle.std.specs.List.{list_all}
use Rattle.std.specs.Prelude.{nat_lt}
use Rattle.std.specs.declared.vec.Vec.{Vec}
use Rattle.std.specs.declared.alloc.Global.{Global}
use Rattle.ccsl_base.specs.Clocks.{ticks_in}
use Rattle.ccsl_triggers.specs.declared.watch.Watch.{Watch}
use Rattle.ccsl_triggers.specs.Triggers.{variable_of}
use Rattle.ccsl_triggers.specs.Held.{Held, new_held}
use Rattle.ccsl_events.specs.declared.binder.Source.{Source}
use Rattle.ccsl_events.specs.declared.codes.Entry.{Entry}
use Rattle.ccsl_events.specs.declared.codes.Entry.TheVariants.{Undeclared, Unused, Used}
use Rattle.ccsl_events.specs.Keeping.{held_at, chain, users_of}

-- the number of the first variable of a code
abbrev pub first_of : Entry → Option ℕ
first_of Undeclared = None
first_of Unused = None
first_of (Used first) = Some first

abbrev pub first_in : Option Entry → Option ℕ
first_in None = None
first_in (Some e) = first_of e

-- whether a variable has the code with a number
abbrev pub has_number : ℕ → Option Source → Bool
has_number code None = false
has_number code (Some s) = s.code == code

-- but for which is next
abbrev pub alone : Held → Held
alone h = record h { next = None }

-- what is kept of some variables, and known of so many codes
pub record IsLinked (codes : ℕ) (sources : List Source) (hs : List Held) (entries : List Entry) : Type 0 where
  pub new : map alone hs ≡ map (λ s. new_held s.size) sources
  pub len : length entries ≡ codes
  pub declared : (code : ℕ) → slice_get entries code ≡ Some Undeclared → ⊥
  -- each is behind the next, so that the chains end
  pub behind : (n next : ℕ) → (held_at hs n).next ≡ Some next → next < n
  pub firsts : (code first : ℕ) → slice_get entries code ≡ Some (Used first) → first < length hs
  pub chains : (code n : ℕ) → has_number code (slice_get sources n) ≡ ticks_in n (chain (length hs) (first_in (slice_get entries code)) hs)

-- each has a declared code
abbrev pub are_coded : ℕ → List Source → Bool
are_coded codes sources = list_all (λ s. nat_lt s.code codes) sources

-- each reads one of so many variables
abbrev pub are_within : ℕ → List Watch → Bool
are_within count watches = list_all (λ w. nat_lt (variable_of w.trigger) count) watches

-- the names that read a variable with one more
abbrev pub with_user : ℕ → ℕ → List (Vec ℕ Global) → ℕ → List ℕ
with_user number name users n = if n == number then users_of users n ++ name ∷ [] else users_of users n
