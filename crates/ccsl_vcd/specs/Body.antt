-- The body: times, changes, dump blocks and comments. IEEE 1364-2005, clauses 18.2.1 and 18.2.3. That times do not fall, that a
-- code is declared, that blocks do not hold blocks and that $dumpoff is refused are this project's profile.
use Rattle.std.specs.Prelude.{ℕ, List, [], ◌∷◌, Bool, true, false, nat_lt, if◌then◌else◌, codes, bytes_eq}
use Rattle.std.specs.List.{list_any}
use Rattle.ccsl_vcd_lex.specs.Tokens.{Token}
use Rattle.ccsl_vcd.specs.declared.fault.VcdFault.TheVariants as faults
use Rattle.ccsl_vcd.specs.Words.{Word, time, scalar, vector, skipped, comment, dump, gap, close, bad_time, bad_change, unknown, word_of}
use Rattle.ccsl_vcd.specs.Binding.{Declaration}
use Rattle.ccsl_vcd.specs.Places.{Body, Amid, changes, remark, code_of, code_skipped, body, Said, goes, refused}

abbrev pub is_declared : List Declaration → List ℕ → Bool
is_declared ds code = list_any (λ d. bytes_eq d.code code) ds

-- a change, where its code is declared
abbrev pub changed : Body → Token → List ℕ → Bool → Said
changed b t code one =
    if is_declared b.declared code
    then goes (body (record b { amid = changes })) (record { time = b.now; code = code; one = one; dumped = b.dumping } ∷ [])
    else refused (faults.UnknownCode t.at)

-- a token in a change's place, by its word
abbrev pub change_says : Body → Token → Word → Said
change_says b t (time n) =
    if nat_lt n b.now then refused (faults.TimeBack t.at b.now n)
    else goes (body (record b { now = n })) []
change_says b t (scalar one code) = changed b t code one
change_says b t (vector one) = goes (body (record b { amid = code_of one })) []
change_says b t skipped = goes (body (record b { amid = code_skipped })) []
change_says b t comment = goes (body (record b { amid = remark })) []
change_says b t dump =
    if b.dumping then refused (faults.UnknownCommand t.at) else goes (body (record b { dumping = true })) []
change_says b t gap =
    if b.dumping then refused (faults.UnknownCommand t.at) else refused (faults.Gap t.at)
change_says b t close =
    if b.dumping then goes (body (record b { dumping = false })) [] else refused (faults.UnknownCommand t.at)
change_says b t bad_time = refused (faults.BadTime t.at)
change_says b t bad_change = refused (faults.BadChange t.at)
change_says b t unknown = refused (faults.UnknownCommand t.at)

-- a token, by its place. In a code's place every token is a code, whatever it looks like.
abbrev pub body_says : Body → Token → Amid → Said
body_says b t changes = change_says b t (word_of t.text)
body_says b t remark =
    if bytes_eq t.text (codes "$end") then goes (body (record b { amid = changes })) [] else goes (body b) []
body_says b t (code_of one) = changed b t t.text one
body_says b t code_skipped =
    if is_declared b.declared t.text then goes (body (record b { amid = changes })) [] else refused (faults.UnknownCode t.at)
