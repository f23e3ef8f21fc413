-- Headers, worked out by hand.
use Rattle.std.proofs.Common.{◌≡◌, ℕ, List, [], ◌∷◌, ◌++◌, None, refl}
use Rattle.std.specs.Prelude.{codes, fold}
use Rattle.ccsl_vcd_lex.specs.Tokens.{Token, token}
use Rattle.ccsl_vcd.specs.declared.limits.Limits.{Limits}
use Rattle.ccsl_vcd.specs.Places.{commands}
use Rattle.ccsl_scopes.specs.declared.select.Select.TheVariants.{Whole, Bit, Range}
use Rattle.ccsl_scopes.specs.declared.variable.Kind.TheVariants.{Bits}
use Rattle.ccsl_scopes.specs.References.{reference_of}
use Rattle.ccsl_scopes.specs.Headings.{Declared, Said, goes, over, refused, begin, heading_says}
use Rattle.ccsl_scopes.specs.Standing.{scope_text}

abbrev limits : Limits
limits = record { bytes = 1000; vars = 10; scopes = 10 }

abbrev next : Said → Token → Said
next (goes among h) t = heading_says limits h t among
next (over h) t = over h
next (refused f) t = refused f

-- what words say one after another
abbrev said : List (List ℕ) → Said
said words = fold next (goes commands begin) (fold (λ ts w. ts ++ token 0 w ∷ []) [] words)

abbrev opened : List (List ℕ)
opened =
    codes "$scope" ∷ codes "module" ∷ codes "top" ∷ codes "$end" ∷ codes "$scope" ∷ codes "task" ∷ codes "fill" ∷ codes "$end" ∷ []

abbrev vector : List (List ℕ)
vector =
    codes "$var" ∷ codes "wire" ∷ codes "8" ∷ codes "!" ∷ codes "data" ∷ codes "[7:0]" ∷ codes "$end" ∷ []

abbrev closed : List (List ℕ)
closed =
    codes "$upscope" ∷ codes "$end" ∷ codes "$var" ∷ codes "reg" ∷ codes "1" ∷ codes "#" ∷ codes "q[3]" ∷ codes "$end"
    ∷ codes "$enddefinitions" ∷ codes "$end" ∷ []

abbrev wide : Declared
wide = record { kind = Bits; size = 8; code = codes "!"; scopes = codes "fill" ∷ codes "top" ∷ []; first = codes "data"; more = codes "[7:0]" }

abbrev narrow : Declared
narrow = record { kind = Bits; size = 1; code = codes "#"; scopes = codes "top" ∷ []; first = codes "q[3]"; more = [] }

-- a vector in two scopes, and behind the end of the inner one a bit in the outer one
two-scopes : said (opened ++ (vector ++ closed)) ≡ over (record { scopes = codes "top" ∷ []; declared = wide ∷ narrow ∷ []; timescale = None })
two-scopes = refl

-- the outermost first
their-names : scope_text wide.scopes ≡ codes "top fill "
their-names = refl

-- brackets in a token of their own, in the token of the name, and in the name where it is escaped

apart : reference_of (codes "data") (codes "[7:0]") ≡ record { bare = 4; range = Range 7 0 }
apart = refl

together : reference_of (codes "q[3]") [] ≡ record { bare = 1; range = Bit 3 }
together = refl

escaped : reference_of (92 ∷ codes "data[7:0]") [] ≡ record { bare = 10; range = Whole }
escaped = refl
