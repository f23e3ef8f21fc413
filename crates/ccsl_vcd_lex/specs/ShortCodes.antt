-- The identifier codes of one to three bytes, and where they stand in a table. IEEE 1364-2005, clause 18.2.1: a code is made of
-- the visible characters of ASCII.
use Rattle.std.specs.Prelude.{◌≡◌, ℕ, ◌+◌, ◌-◌, ◌*◌, ◌<◌, ◌≤◌, List, [], ◌∷◌, length, take, ◌&&◌, if◌then◌else◌}
use Rattle.std.specs.List.{prefix_len}
use Rattle.ccsl_base.specs.Name.{is_visible}
use Rattle.ccsl_vcd_lex.specs.Lexing.{is_dark}

-- as many places as there are codes of one to three bytes; no other has one
abbrev pub SHORT : ℕ
SHORT = 839514

-- The codes count in the base 94, with the digits 1 to 94 and the least digit first.
abbrev pub place_of : List ℕ → ℕ
place_of [] = SHORT
place_of (a ∷ []) = if is_visible a then a - 33 else SHORT
place_of (a ∷ b ∷ []) = if is_visible a && is_visible b then a - 33 + 94 * (b - 32) else SHORT
place_of (a ∷ b ∷ c ∷ []) =
    if is_visible a && (is_visible b && is_visible c) then a - 33 + 94 * (b - 32) + 8836 * (c - 32) else SHORT
place_of (a ∷ b ∷ c ∷ d ∷ more) = SHORT

-- a code of so many bytes, at most three, at the front, with white space behind it, and its place
pub record IsCode (n place : ℕ) (bytes : List ℕ) : Type 0 where
  pub some : 0 < n
  pub most : n ≤ 3
  pub run : n ≡ prefix_len is_dark bytes
  pub inside : n < length bytes
  pub at : place ≡ place_of (take n bytes)
  pub short : place < SHORT
