-- THE HEADER OF A DUMP, with the names of its scopes: what its tokens say one after another, up to the one that ends it.
-- IEEE 1364-2005, clause 18.2.3.
use Rattle.std.specs.Prelude.{ℕ, List, fold}
use Rattle.ccsl_vcd_lex.specs.Tokens.{Token, Heard, word, too_long, end_of}
use Rattle.ccsl_vcd.specs.declared.fault.VcdFault.{VcdFault}
use Rattle.ccsl_vcd.specs.declared.fault.VcdFault.TheVariants as faults
use Rattle.ccsl_vcd.specs.declared.limits.Limits.{Limits}
use Rattle.ccsl_vcd.specs.Places.{Among, commands}
use Rattle.ccsl_scopes.specs.Headings.{Heading, Said, goes, over, refused, heading_says}
use Rattle.ccsl_scopes.specs.Headings as headings

-- the next token stands there in the header, with so much declared; or the header has ended right before a place; or a token was refused
pub data Opening : Type 0 where
  open_at : Among → Heading → Opening
  ended : Heading → ℕ → Opening
  broken : VcdFault → Opening

abbrev pub behind : Token → Said → Opening
behind t (goes among h) = open_at among h
behind t (over h) = ended h (end_of t)
behind t (refused f) = broken f

abbrev pub says : Limits → Among → Heading → Heard → Opening
says limits among h (too_long at) = broken (faults.TokenTooLong at)
says limits among h (word t) = behind t (heading_says limits h t among)

-- after the header, and after a fault, nothing is said of it
abbrev pub next : Limits → Opening → Heard → Opening
next limits (open_at among h) x = says limits among h x
next limits (ended h at) x = ended h at
next limits (broken f) x = broken f

abbrev pub opening_from : Limits → Opening → List Heard → Opening
opening_from limits o hs = fold (next limits) o hs

-- WHAT THE TOKENS OF A DUMP SAY OF ITS HEADER
abbrev pub opening : Limits → List Heard → Opening
opening limits hs = opening_from limits (open_at commands headings.begin) hs
