-- A variable that is kept, without where its letters lie in memory.
use Rattle.std.specs.Prelude.{◌≡◌, ℕ, List, Bool, false, Option, None}
use Rattle.ccsl_triggers.specs.declared.signal.Signal.{Signal}
use Rattle.ccsl_triggers.specs.Views.{View, no_view, with_value, at_rest}
use Rattle.ccsl_triggers.specs.Triggers.{size_of, view_of}

pub record Held : Type 0 where
  pub size : ℕ
  pub view : View
  -- whether it is in the list of those that changed
  pub touched : Bool
  -- the next variable of the same code
  pub next : Option ℕ

abbrev pub held : Signal → Held
held s = record { size = size_of s.value; view = view_of s; touched = s.touched; next = s.next }

abbrev pub new_held : ℕ → Held
new_held size = record { size = size; view = no_view; touched = false; next = None }

abbrev pub set_held : List ℕ → Bool → Held → Held
set_held letters dumped h = record h { view = with_value h.size letters dumped h.view }

abbrev pub settle_held : Held → Held
settle_held h = record h { view = at_rest h.view; touched = false }

abbrev pub forget_held : Held → Held
forget_held h = record h { view = no_view }

-- a variable of which nothing was recorded at the time
pub record IsQuiet (v : View) : Type 0 where
  pub same : v.before ≡ v.after
  pub unheard : v.heard ≡ false
