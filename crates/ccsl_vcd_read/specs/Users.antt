-- Which bound clocks have a code.
use Rattle.std.specs.Prelude.{◌≡◌, ℕ, List, [], ◌∷◌, Option, Some, None, ◌==◌, if◌then◌else◌, slice_get}
use Rattle.ccsl_vcd_read.specs.declared.users.Slot.{Slot}
use Rattle.ccsl_vcd_read.specs.declared.users.User.{User}
use Rattle.ccsl_vcd_read.specs.declared.users.User.TheVariants.{Nobody, One, Many}

abbrev pub with_slot : User → Slot → User
with_slot Nobody s = One s
with_slot (One t) s = Many
with_slot Many s = Many

-- who has a code, of some slots
abbrev pub user_of : ℕ → List Slot → User
user_of code [] = Nobody
user_of code (s ∷ ss) = if s.code == code then with_slot (user_of code ss) s else user_of code ss

-- past the last one nobody is
abbrev pub user_in : Option User → User
user_in None = Nobody
user_in (Some u) = u

-- a slot's code has one clock more, and the others what they had
abbrev pub IsMore : List User → List User → Slot → Type 0
IsMore old new s = (n : ℕ) → user_in (slice_get new n) ≡ (if s.code == n then with_slot (user_in (slice_get old n)) s else user_in (slice_get old n))
