-- What is known of a code, and a table of the short ones.
use Rattle.std.specs.Prelude.{◌≡◌, ℕ, ◌<◌, List, Option, Some, None, slice_get, slice_index_or}
use Rattle.ccsl_vcd_lex.specs.ShortCodes.{SHORT, place_of}
use Rattle.ccsl_base.specs.Names.{find_name}
use Rattle.ccsl_events.specs.declared.codes.Entry.{Entry}
use Rattle.ccsl_events.specs.declared.codes.Entry.TheVariants.{Undeclared}

abbrev pub entry_in : Option Entry → Entry
entry_in None = Undeclared
entry_in (Some e) = e

abbrev pub entry_at : List Entry → Option ℕ → Entry
entry_at entries None = Undeclared
entry_at entries (Some number) = entry_in (slice_get entries number)

-- the declared codes, and what is known of each by its number
pub record Known : Type 0 where
  pub names : List (List ℕ)
  pub entries : List Entry

abbrev pub entry_of : Known → List ℕ → Entry
entry_of known code = entry_at known.entries (find_name code known.names)

-- a table has at the place of each short code what is known of it
abbrev pub IsTable : List Entry → Known → Type 0
IsTable table known = (code : List ℕ) → place_of code < SHORT → slice_index_or table (place_of code) Undeclared ≡ entry_of known code
