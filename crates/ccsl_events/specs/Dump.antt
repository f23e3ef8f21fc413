-- The body of a dump for some events: what its tokens say one after another, and what is written of it. IEEE 1364-2005, clauses
-- 18.2.1 and 18.2.3. That times do not fall, that a code is declared, that blocks do not hold blocks and what a gap is are
-- this project's profile.
use Rattle.std.specs.Prelude.{ℕ, ◌+◌, List, [], ◌++◌, take, drop, length, filter, map, Bool, true, false, not, Option, Some, None, nat_lt, ◌&&◌, if◌then◌else◌}
use Rattle.std.specs.Prelude.{codes, bytes_eq, decimal, slice_get, fold}
use Rattle.std.specs.List.{list_any, range_with_len}
use Rattle.ccsl_vcd_lex.specs.Tokens.{Token, Heard, word, too_long, hear, tokens_from}
use Rattle.ccsl_vcd.specs.declared.fault.VcdFault.{VcdFault}
use Rattle.ccsl_vcd.specs.declared.fault.VcdFault.TheVariants as faults
use Rattle.ccsl_vcd.specs.Words.{Word, time, scalar, vector, skipped, comment, dump, gap, close, bad_time, bad_change, unknown, word_of}
use Rattle.ccsl_triggers.specs.declared.watch.Watch.{Watch}
use Rattle.ccsl_triggers.specs.Views.{View, no_view, with_value, at_rest}
use Rattle.ccsl_triggers.specs.Triggers.{happens}
use Rattle.ccsl_triggers.specs.Output.{row_text}

-- a variable that an event reads: its code, and how many letters its values have
pub record Variable : Type 0 where
  pub code : List ℕ
  pub size : ℕ

-- What a header and a file of events say of the body: the declared codes, the variables that are read, the events, each by
-- its number, and whether gaps are skipped.
pub record Plan : Type 0 where
  pub codes : List (List ℕ)
  pub variables : List Variable
  pub watches : List Watch
  pub skips : Bool

-- in a change's place, in a comment, at the code of a vector of these letters, or at the code of a value that is skipped
pub data Amid : Type 0 where
  changes : Amid
  remark : Amid
  code_of : List ℕ → Amid
  code_skipped : Amid

-- where the next token stands, and what was said so far
pub record Place : Type 0 where
  pub amid : Amid
  -- whether a dump block is open
  pub dumping : Bool
  -- whether values are recorded
  pub recording : Bool
  -- the present time
  pub now : ℕ
  -- what is seen of each variable at the present time
  pub views : ℕ → View
  -- the rows of the times before
  pub written : List ℕ
  -- how many times have these rows
  pub times : ℕ

-- the next token stands there, or the token is refused
pub data Said : Type 0 where
  goes : Place → Said
  refused : VcdFault → Said

-- whether the event with a number happens
abbrev pub happens_in : Option Watch → (ℕ → View) → Bool
happens_in None views = false
happens_in (Some w) views = happens w views

-- the numbers of the events that happen
abbrev pub names_at : List Watch → (ℕ → View) → List ℕ
names_at watches views = filter (λ name. happens_in (slice_get watches name) views) (range_with_len 0 (length watches))

-- THE ROW OF A TIME: its names are those that happen
abbrev pub row_of : Plan → ℕ → (ℕ → View) → List ℕ
row_of plan now views = row_text (decimal now) (names_at plan.watches views)

-- a time has a row where something happens at it
abbrev pub has_row : Plan → (ℕ → View) → Bool
has_row plan views = nat_lt 0 (length (names_at plan.watches views))

-- a value of a code, for a variable or for no variable
abbrev pub heard_by : List ℕ → List ℕ → Bool → Option Variable → View → View
heard_by code letters dumped None v = v
heard_by code letters dumped (Some x) v = if bytes_eq x.code code then with_value x.size letters dumped v else v

abbrev pub heard_in : Plan → List ℕ → List ℕ → Bool → (ℕ → View) → ℕ → View
heard_in plan code letters dumped views n = heard_by code letters dumped (slice_get plan.variables n) (views n)

abbrev pub is_declared : Plan → List ℕ → Bool
is_declared plan code = list_any (bytes_eq code) plan.codes

-- a change, where its code is declared
abbrev pub changed : Plan → Place → ℕ → List ℕ → List ℕ → Said
changed plan p at code letters =
    if is_declared plan code
    then goes (record p { amid = changes; views = if p.recording then heard_in plan code letters p.dumping p.views else p.views })
    else refused (faults.UnknownCode at)

-- the present time is over
abbrev pub passed : Plan → Place → Place
passed plan p = record p {
  views = λ n. at_rest (p.views n);
  written = p.written ++ row_of plan p.now p.views;
  times = p.times + (if has_row plan p.views then 1 else 0);
}

abbrev pub time_says : Plan → Place → ℕ → ℕ → Said
time_says plan p at n =
    if nat_lt n p.now then refused (faults.TimeBack at p.now n)
    else (if nat_lt p.now n then goes (record (passed plan p) { now = n }) else goes p)

-- a dump block begins
abbrev pub block_says : Place → ℕ → Said
block_says p at = if p.dumping then refused (faults.UnknownCommand at) else goes (record p { dumping = true })

-- Values are not recorded any more, up to $dumpon: nothing is seen of a variable until it has a value again.
abbrev pub gap_says : Plan → Place → ℕ → Said
gap_says plan p at =
    if p.dumping then refused (faults.UnknownCommand at)
    else (if plan.skips then goes (record p { dumping = true; recording = false; views = λ n. no_view }) else refused (faults.Gap at))

abbrev pub end_says : Place → ℕ → Said
end_says p at = if p.dumping then goes (record p { dumping = false }) else refused (faults.UnknownCommand at)

-- a token in a change's place, by its word: the letter of a scalar is the first, and those of a vector stand behind the first
abbrev pub word_says : Plan → Place → Token → Word → Said
word_says plan p t (time n) = time_says plan p t.at n
word_says plan p t (scalar one code) = changed plan p t.at code (take 1 t.text)
word_says plan p t (vector one) = goes (record p { amid = code_of (drop 1 t.text) })
word_says plan p t skipped = goes (record p { amid = code_skipped })
word_says plan p t comment = goes (record p { amid = remark })
word_says plan p t dump = block_says (record p { recording = if bytes_eq t.text (codes "$dumpon") then true else p.recording }) t.at
word_says plan p t gap = gap_says plan p t.at
word_says plan p t close = end_says p t.at
word_says plan p t bad_time = refused (faults.BadTime t.at)
word_says plan p t bad_change = refused (faults.BadChange t.at)
word_says plan p t unknown = refused (faults.UnknownCommand t.at)

-- a token, by its place. In a code's place every token is a code, whatever it looks like.
abbrev pub token_says : Plan → Place → Token → Amid → Said
token_says plan p t changes = word_says plan p t (word_of t.text)
token_says plan p t remark = if bytes_eq t.text (codes "$end") then goes (record p { amid = changes }) else goes p
token_says plan p t (code_of letters) = changed plan p t.at t.text letters
token_says plan p t code_skipped =
    if is_declared plan t.text then goes (record p { amid = changes }) else refused (faults.UnknownCode t.at)

unfoldable pub says : Plan → Place → Heard → Said
says plan p (too_long at) = refused (faults.TokenTooLong at)
says plan p (word t) = token_says plan p t p.amid

-- the place where the next token stands, or the refused one stood, and the first refusal
pub record Story : Type 0 where
  pub place : Place
  pub fault : Option VcdFault

abbrev pub told : Place → Said → Story
told p (goes q) = record { place = q; fault = None }
told p (refused f) = record { place = p; fault = Some f }

-- after a fault nothing is said
abbrev pub next_from : Plan → Place → Option VcdFault → Heard → Story
next_from plan p None h = told p (says plan p h)
next_from plan p (Some f) h = record { place = p; fault = Some f }

abbrev pub next : Plan → Story → Heard → Story
next plan s h = next_from plan s.place s.fault h

-- before the first token nothing is seen, and the time is 0
abbrev pub begin : Place
begin = record { amid = changes; dumping = false; recording = true; now = 0; views = λ n. no_view; written = []; times = 0 }

-- WHAT THE TOKENS OF A BODY SAY one after another
unfoldable pub story : Plan → List Heard → Story
story plan hs = fold (next plan) (record { place = begin; fault = None }) hs

abbrev pub is_changes : Amid → Bool
is_changes changes = true
is_changes amid = false

-- whether a dump may end there
abbrev pub may_end : Place → Bool
may_end p = is_changes p.amid && not p.dumping

-- The end of a dump of that length: the row of the last time is written, unless the dump ends in the middle.
abbrev pub ends_at : Plan → ℕ → Place → Said
ends_at plan len p = if may_end p then goes (passed plan p) else refused (faults.Truncated len)

-- what the end of a dump says behind some tokens
abbrev pub ended : Plan → ℕ → Place → Option VcdFault → Said
ended plan len p None = ends_at plan len p
ended plan len p (Some f) = refused f

abbrev pub story_says : Plan → ℕ → Story → Said
story_says plan len s = ended plan len s.place s.fault

-- WHAT A WHOLE BODY SAYS: all its tokens, of which the last may end with the dump, and then the end. It begins at a place of
-- the dump, and the dump has that length.
abbrev pub body_says : Plan → ℕ → ℕ → List ℕ → Said
body_says plan start len bytes = story_says plan len (story plan (map hear (tokens_from true start bytes)))
