-- The story of words.
use Rattle.std.proofs.Common.{◌≡◌, ℕ, List, [], ◌++◌, None, ap, ◌∙◌, map}
use Rattle.std.specs.Prelude.{fold}
use Rattle.std.proofs.lemmas.List.{map-append}
use Rattle.std.proofs.lemmas.Grind.{fold-append}
use Rattle.ccsl_vcd_lex.specs.Tokens.{Token, word}
use Rattle.ccsl_vcd.specs.Binding.{Wanted, Declaration}
use Rattle.ccsl_vcd.specs.declared.limits.Limits.{Limits}
use Rattle.ccsl_vcd.specs.Places.{Among, header}
use Rattle.ccsl_vcd.specs.Reading.{Story, next}
use Rattle.ccsl_vcd_write.proofs.Lines.{placed, behind, placed-append}

module _ (wanted : Wanted) (limits : Limits) where
  abbrev pub goes : Story → ℕ → List (List ℕ) → Story
  goes s at ws = fold (next wanted limits) s (map word (placed at ws))

  pub goes-append : (s : Story) (at : ℕ) (vs ws : List (List ℕ)) → goes s at (vs ++ ws) ≡ goes (goes s at vs) (behind at vs) ws
  goes-append s at vs ws =
      ap (λ (ts : List Token). fold (next wanted limits) s (map word ts)) (placed-append at vs ws)
      ∙ ap (fold (next wanted limits) s) (map-append word (placed at vs) (placed (behind at vs) ws))
      ∙ fold-append (next wanted limits) s (map word (placed at vs)) (map word (placed (behind at vs) ws))

-- a place in the header, behind declarations
abbrev pub at_header : Among → ℕ → List Declaration → Story
at_header among depth ds = record { changes = []; place = header (record { among = among; depth = depth; declared = ds }); fault = None }
