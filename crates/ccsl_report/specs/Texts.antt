-- THE TABLE OF TEXTS: every line that the program reports. All of it is this project's own. Numbers are decimal, names are as
-- they are, and the word `steps` stands for every number.
use Rattle.std.specs.Prelude.{ℕ, zero, suc, ◌+◌, ◌-◌, List, [], ◌∷◌, ◌++◌, length, codes, decimal, nat_lt, slice_index_or, if◌then◌else◌}
use Rattle.ccsl_base.specs.declared.limits.TheConstants.{MAX_CLOCKS, MAX_CONSTRAINTS, MAX_CELLS, MAX_LETTERS, MAX_SPEC_BYTES, MAX_FILE_BYTES}
use Rattle.ccsl_lex.specs.declared.fault.LexFault.{LexFault}
use Rattle.ccsl_lex.specs.declared.fault.LexFault.TheVariants as lex
use Rattle.ccsl_parse.specs.declared.fault.ParseFault.{ParseFault}
use Rattle.ccsl_parse.specs.declared.fault.ParseFault.TheVariants as parse
use Rattle.ccsl_rules.specs.declared.refusal.Refusal.{Refusal}
use Rattle.ccsl_rules.specs.declared.refusal.Refusal.TheVariants as refused
use Rattle.ccsl_vcd.specs.declared.fault.VcdFault.{VcdFault}
use Rattle.ccsl_vcd.specs.declared.fault.VcdFault.TheVariants as trace
use Rattle.ccsl_refute.specs.declared.fault.CertFault.{CertFault}
use Rattle.ccsl_refute.specs.declared.fault.CertFault.TheVariants as cert
use Rattle.ccsl_command.specs.declared.usage.Usage.{Usage}
use Rattle.ccsl_command.specs.declared.usage.Usage.TheVariants as usage
use Rattle.ccsl_command.specs.declared.table.RelationName.{RelationName}
use Rattle.ccsl_command.specs.Table.{key_text, relation_text}
use Rattle.ccsl_kernel.specs.declared.constraint.Constraint.{Constraint}
use Rattle.ccsl_kernel.specs.Syntax.{System}
use Rattle.ccsl_kernel.specs.Cells.{cells}
use Rattle.ccsl_report.specs.Line.{line}

-- NAMES of clocks and of items

-- a clock that the system does not have has none
abbrev pub clock_name : System → ℕ → List ℕ
clock_name K x = slice_index_or K.names x []

abbrev pub label_of : List Constraint → ℕ → List ℕ
label_of [] j = []
label_of (c ∷ cs) zero = c.label
label_of (c ∷ cs) (suc j) = label_of cs j

-- the call that a constraint comes from; a constraint of the system itself comes from none
abbrev pub of_label : List ℕ → List (List ℕ)
of_label [] = []
of_label (b ∷ bs) = codes " of " ∷ (b ∷ bs) ∷ []

abbrev pub constraint_pieces : System → ℕ → List (List ℕ)
constraint_pieces K j = codes "constraint " ∷ decimal j ∷ of_label (label_of K.constraints j)

abbrev pub item_pieces : System → ℕ → List (List ℕ)
item_pieces K i =
    if nat_lt i (length K.definitions) then codes "definition " ∷ clock_name K (K.declared + i) ∷ []
    else constraint_pieces K (i - length K.definitions)

-- the names of clocks, each behind a blank
abbrev pub behind_blanks : System → List ℕ → List (List ℕ)
behind_blanks K [] = []
behind_blanks K (x ∷ xs) = codes " " ∷ clock_name K x ∷ behind_blanks K xs

-- the names of clocks, parted by blanks
abbrev pub parted : System → List ℕ → List (List ℕ)
parted K [] = []
parted K (x ∷ xs) = clock_name K x ∷ behind_blanks K xs

-- ANSWERS

abbrev pub checked_text : System → List ℕ
checked_text K = line (
    codes "check: accepted, declared " ∷ decimal K.declared ∷ codes ", defined " ∷ decimal (length K.definitions)
    ∷ codes ", constraints " ∷ decimal (length K.constraints) ∷ codes ", cells " ∷ decimal (cells K) ∷ [])

abbrev pub run_yes_text : ℕ → List ℕ
run_yes_text steps = line (codes "run: yes, " ∷ decimal steps ∷ codes " steps" ∷ [])

-- a broken item: the step, its time, and the item; what was asked is `run: `, `certificate: ` or `explain: `
abbrev pub broken_text : List ℕ → ℕ → ℕ → ℕ → System → List ℕ
broken_text what step time item K =
    line (what ∷ codes "no, step " ∷ decimal step ∷ codes ", time " ∷ decimal time ∷ codes ", " ∷ item_pieces K item)

abbrev pub simulated_text : ℕ → List ℕ
simulated_text steps = line (codes "simulate: done, " ∷ decimal steps ∷ codes " steps" ∷ [])

abbrev pub deadlocked_text : ℕ → List ℕ
deadlocked_text steps = line (codes "simulate: deadlock after " ∷ decimal steps ∷ codes " steps" ∷ [])

abbrev pub cert_valid_text : ℕ → List ℕ
cert_valid_text steps = line (codes "certificate: valid, " ∷ decimal steps ∷ codes " steps" ∷ [])

abbrev pub cert_no_line_text : ℕ → List ℕ
cert_no_line_text number = line (codes "certificate: no, line " ∷ decimal number ∷ [])

abbrev pub trial_text : ℕ → ℕ → ℕ → List ℕ
trial_text clocks steps ticks = line (
    codes "trial: clocks " ∷ decimal clocks ∷ codes ", steps " ∷ decimal steps ∷ codes ", ticks " ∷ decimal ticks ∷ codes ", run: yes" ∷ [])

-- the texts of two words with the relation between them
abbrev pub related_pieces : List ℕ → List ℕ → RelationName → List (List ℕ)
related_pieces left right relation = codes "periodic: " ∷ left ∷ codes " " ∷ relation_text relation ∷ codes " " ∷ right ∷ []

abbrev pub periodic_holds_text : List ℕ → List ℕ → RelationName → List ℕ
periodic_holds_text left right relation = line (related_pieces left right relation ++ codes " holds" ∷ [])

-- the first tick at which it fails, from 1
abbrev pub periodic_fails_text : List ℕ → List ℕ → RelationName → ℕ → List ℕ
periodic_fails_text left right relation tick = line (related_pieces left right relation ++ codes " fails at tick " ∷ decimal tick ∷ [])

abbrev pub periodic_word_text : List ℕ → List ℕ
periodic_word_text word = line (codes "periodic: " ∷ word ∷ [])

abbrev pub periodic_long_text : ℕ → List ℕ
periodic_long_text letters = line (codes "periodic: " ∷ decimal letters ∷ codes " letters, at most " ∷ decimal MAX_LETTERS ∷ [])

abbrev pub explain_open_text : ℕ → List ℕ
explain_open_text steps = line (codes "explain: not blocked after " ∷ decimal steps ∷ codes " steps" ∷ [])

abbrev pub explain_blocked_text : ℕ → ℕ → List ℕ
explain_blocked_text steps items = line (codes "explain: blocked after " ∷ decimal steps ∷ codes " steps by " ∷ decimal items ∷ codes " items" ∷ [])

-- an item, and the clocks of a set
abbrev pub explain_member_text : ℕ → List ℕ → System → List ℕ
explain_member_text item set K = line (item_pieces K item ++ codes ": " ∷ parted K set)

abbrev pub session_too_long_text : List ℕ
session_too_long_text = line (codes "session: too long" ∷ [])

-- REFUSED WORDS

abbrev pub usage_pieces : Usage → List (List ℕ)
usage_pieces usage.NoCommand = codes "no command" ∷ []
usage_pieces usage.UnknownCommand = codes "unknown command" ∷ []
usage_pieces (usage.NotPair i) = codes "word " ∷ decimal i ∷ codes " is no pair" ∷ []
usage_pieces (usage.UnknownKey i) = codes "unknown key in word " ∷ decimal i ∷ []
usage_pieces (usage.Repeated i) = codes "repeated key in word " ∷ decimal i ∷ []
usage_pieces (usage.BadValue i) = codes "bad value in word " ∷ decimal i ∷ []
usage_pieces (usage.Missing key) = codes "missing " ∷ key_text key ∷ []
usage_pieces usage.SameName = codes "same name" ∷ []
usage_pieces usage.Memory = []

abbrev pub usage_text : Usage → List ℕ
usage_text usage.Memory = []
usage_text fault = line (codes "words: " ∷ usage_pieces fault)

-- REFUSED FILES

-- a fault of a kind at a place of a file
abbrev pub fault_at : List ℕ → List ℕ → ℕ → List ℕ
fault_at file kind at = line (file ∷ kind ∷ codes " at byte " ∷ decimal at ∷ [])

-- more of something than there may be
abbrev pub above_limit : ℕ → List ℕ → ℕ → List ℕ
above_limit n what most = line (codes "spec: " ∷ decimal n ∷ what ∷ codes ", at most " ∷ decimal most ∷ [])

abbrev pub spec_too_long_text : List ℕ
spec_too_long_text = line (codes "spec: more than " ∷ decimal MAX_SPEC_BYTES ∷ codes " bytes" ∷ [])

abbrev pub lex_text : LexFault → List ℕ
lex_text (lex.BadByte at) = fault_at (codes "spec: ") (codes "bad byte") at
lex_text (lex.NameTooLong at) = fault_at (codes "spec: ") (codes "name too long") at
lex_text (lex.NumberTooLarge at) = fault_at (codes "spec: ") (codes "number too large") at
lex_text (lex.OpenText at) = fault_at (codes "spec: ") (codes "open text") at
lex_text lex.Memory = []

abbrev pub parse_text : ParseFault → List ℕ
parse_text (parse.Syntax at) = fault_at (codes "spec: ") (codes "syntax") at
parse_text (parse.TooDeep at) = fault_at (codes "spec: ") (codes "too deep") at
parse_text parse.Memory = []

abbrev pub refusal_text : Refusal → List ℕ
refusal_text (refused.Duplicate at) = fault_at (codes "spec: ") (codes "duplicate name") at
refusal_text (refused.Unknown at) = fault_at (codes "spec: ") (codes "unknown name") at
refusal_text (refused.Later at) = fault_at (codes "spec: ") (codes "later name") at
refusal_text (refused.WrongKind at) = fault_at (codes "spec: ") (codes "wrong kind") at
refusal_text (refused.Unguarded at) = fault_at (codes "spec: ") (codes "unguarded call") at
refusal_text (refused.TooTall at) = fault_at (codes "spec: ") (codes "too tall") at
refusal_text (refused.Arguments at) = fault_at (codes "spec: ") (codes "wrong arguments") at
refusal_text (refused.BadWord at) = fault_at (codes "spec: ") (codes "bad word") at
refusal_text (refused.TooManyClocks n) = above_limit n (codes " clocks") MAX_CLOCKS
refusal_text (refused.TooManyConstraints n) = above_limit n (codes " constraints") MAX_CONSTRAINTS
refusal_text (refused.StateTooLarge n) = above_limit n (codes " cells") MAX_CELLS
refusal_text refused.Memory = []

abbrev pub time_back_text : ℕ → ℕ → ℕ → List ℕ
time_back_text present time at = line (
    codes "trace: time goes back from " ∷ decimal present ∷ codes " to " ∷ decimal time ∷ codes " at byte " ∷ decimal at ∷ [])

abbrev pub clock_fault : List ℕ → System → ℕ → List ℕ
clock_fault kind K clock = line (codes "trace: " ∷ kind ∷ clock_name K clock ∷ [])

abbrev pub trace_text : VcdFault → System → List ℕ
trace_text (trace.TokenTooLong at) K = fault_at (codes "trace: ") (codes "token too long") at
trace_text (trace.BadHeader at) K = fault_at (codes "trace: ") (codes "bad header") at
trace_text (trace.TooManyVars at) K = fault_at (codes "trace: ") (codes "too many variables") at
trace_text (trace.TooDeep at) K = fault_at (codes "trace: ") (codes "too deep") at
trace_text (trace.BadTime at) K = fault_at (codes "trace: ") (codes "bad time") at
trace_text (trace.BadChange at) K = fault_at (codes "trace: ") (codes "bad change") at
trace_text (trace.UnknownCode at) K = fault_at (codes "trace: ") (codes "unknown code") at
trace_text (trace.UnknownCommand at) K = fault_at (codes "trace: ") (codes "unknown command") at
trace_text (trace.Gap at) K = fault_at (codes "trace: ") (codes "gap") at
trace_text (trace.Truncated at) K = fault_at (codes "trace: ") (codes "truncated") at
trace_text (trace.TooLong at) K = fault_at (codes "trace: ") (codes "too long") at
trace_text (trace.TimeBack at present time) K = time_back_text present time at
trace_text (trace.Unbound clock) K = clock_fault (codes "unbound clock ") K clock
trace_text (trace.Ambiguous clock) K = clock_fault (codes "ambiguous clock ") K clock
trace_text trace.Memory K = []

abbrev pub cert_text : CertFault → List ℕ
cert_text (cert.Syntax at) = fault_at (codes "certificate: ") (codes "syntax") at
cert_text (cert.UnknownName at) = fault_at (codes "certificate: ") (codes "unknown name") at
cert_text cert.Memory = []

abbrev pub cert_too_long_text : List ℕ
cert_too_long_text = line (codes "certificate: more than " ∷ decimal MAX_FILE_BYTES ∷ codes " bytes" ∷ [])
