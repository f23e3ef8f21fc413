-- A worked trace, computed.
use Rattle.std.proofs.Common.{◌≡◌, ℕ, List, [], ◌∷◌, true, All, refl, sym, ◌∙◌, codes, lit≤}
use Rattle.std.proofs.lemmas.List.Elements.{All-cons, All-nil}
use Rattle.std.specs.Fmt.{digits}
use Rattle.ccsl_base.specs.Clocks.{is_ascending}
use Rattle.ccsl_kernel.specs.Syntax.{System}
use Rattle.ccsl_vcd_write.specs.Text.{vcd_text, written_part}
use Rattle.ccsl_vcd_write.specs.Code.{code_of}
use Rattle.ccsl_vcd_write.specs.ReadsBack.{IsShown, IsReadable}

-- two declared clocks
abbrev pair : System
pair = record { names = codes "a" ∷ codes "b" ∷ []; declared = 2; written = 2; groups = []; words = []; definitions = []; constraints = [] }

-- as the format of the files has it, byte for byte
pub worked : vcd_text pair ((0 ∷ []) ∷ (0 ∷ []) ∷ (1 ∷ []) ∷ [])
    ≡ codes "$version ccsl $end\n$timescale 1 ns $end\n$scope module ccsl $end\n$var event 1 ! a $end\n$var event 1 \" b $end\n$upscope $end\n$enddefinitions $end\n#0\n1!\n#1\n1!\n#2\n1\"\n"
unfolding digits
worked = refl

pub worked_codes : (code_of 93 ≡ codes "~") × (code_of 94 ≡ codes "!!") × (code_of 187 ≡ codes "!~") × (code_of 188 ≡ codes "\"!") × (code_of 1023 ≡ codes "*t")
worked_codes = (refl, refl, refl, refl, refl)

-- that trace keeps to small limits, so the law speaks of it
shown : (x : ℕ) → is_ascending (x ∷ []) ≡ true → written_part pair (x ∷ []) ≡ x ∷ [] → IsShown pair (x ∷ [])
shown x a e = record { set = a; ticks = λ none. absurd (let wrong : [] ≡ x ∷ [] = sym none ∙ e in cc) }

pub worked_readable : IsReadable pair (record { bytes = 200; vars = 2; scopes = 1 }) ((0 ∷ []) ∷ (0 ∷ []) ∷ (1 ∷ []) ∷ [])
unfolding digits
worked_readable =
    let P : List ℕ → Type 0 = IsShown pair in
    let third : All P ((1 ∷ []) ∷ []) = All-cons P (1 ∷ []) [] (shown 1 refl refl) (All-nil P) in
    let second : All P ((0 ∷ []) ∷ (1 ∷ []) ∷ []) = All-cons P (0 ∷ []) ((1 ∷ []) ∷ []) (shown 0 refl refl) third in
    record {
      shows = All-cons P (0 ∷ []) ((0 ∷ []) ∷ (1 ∷ []) ∷ []) (shown 0 refl refl) second;
      bytes = lit≤ tt;
      vars = lit≤ tt;
      scopes = lit≤ tt;
    }
