-- The names of the grammar: a letter or _, then letters, digits and _, at most 64 bytes, and no reserved word.
use Rattle.std.specs.Prelude.{ℕ, Bool, false, ◌&&◌, not, List, [], ◌∷◌, length, nat_le, nat_eq, codes}
use Rattle.std.specs.List.{list_all}
use Rattle.std.specs.Str.{bytes_eq}
use Rattle.ccsl_base.specs.declared.limits.TheConstants.{MAX_NAME_BYTES}
use Rattle.ccsl_base.specs.KeptWords.{is_reserved}
use Rattle.ccsl_base.specs.Letters.{is_letter, is_inner}

-- a letter and what may stand behind it
abbrev pub is_word : List ℕ → Bool
is_word [] = false
is_word (b ∷ bs) = is_letter b && list_all is_inner bs

abbrev pub is_name : List ℕ → Bool
is_name bytes = is_word bytes && nat_le (length bytes) MAX_NAME_BYTES && not (is_reserved bytes)

-- ## Names in certificates

abbrev pub is_visible : ℕ → Bool
is_visible b = nat_le 33 b && nat_le b 126

-- bytes from 33 to 126, at least one, the first one no minus, and not `from`
abbrev pub is_cert_name : List ℕ → Bool
is_cert_name [] = false
is_cert_name (b ∷ bs) = list_all is_visible (b ∷ bs) && (not (nat_eq b 45) && not (bytes_eq (b ∷ bs) (codes "from")))

abbrev pub are_cert_names : List (List ℕ) → Bool
are_cert_names names = list_all is_cert_name names
