-- What a token makes of a body that is being read, and of its marks.
use Rattle.std.specs.Prelude.{◌≡◌, ℕ, List, [], ◌∷◌, ◌++◌, Bool, true, false, Option, Some, None, Result, Ok, Err, nat_lt, if◌then◌else◌, codes, bytes_eq}
use Rattle.std.specs.Prelude.{filter, map}
use Rattle.ccsl_base.specs.declared.rows.Row.{Row}
use Rattle.ccsl_vcd.specs.declared.fault.VcdFault.{VcdFault}
use Rattle.ccsl_vcd.specs.declared.fault.VcdFault.TheVariants as faults
use Rattle.ccsl_vcd.specs.Words as w
use Rattle.ccsl_vcd.specs.Rows.{has_ticks}
use Rattle.ccsl_bind.specs.Codes.{number_of}
use Rattle.ccsl_vcd_read.specs.declared.amid.Amid.{Amid}
use Rattle.ccsl_vcd_read.specs.declared.amid.Amid.TheVariants.{Changes, Remark, Code, CodeSkipped}
use Rattle.ccsl_vcd_read.specs.declared.body.Body.{Body}
use Rattle.ccsl_vcd_read.specs.Marks.{put, ticking, aged}

-- the row of the present time, if a clock ticks
abbrev pub row_of : Body → List Row
row_of b = filter has_ticks (record { time = b.present; ticks = ticking b.marks } ∷ [])

-- a new body and the rows that are given out, or a fault
abbrev pub time_says : Body → ℕ → ℕ → Result (Body × List Row) VcdFault
time_says b at n =
    if nat_lt n b.present then Err (faults.TimeBack at b.present n)
    else (if nat_lt b.present n then Ok (record b { marks = map aged b.marks; present = n }, row_of b) else Ok (b, []))

abbrev pub put_number : Body → ℕ → Bool → Option ℕ → Result (Body × List Row) VcdFault
put_number b at one (Some number) = Ok (record b { amid = Changes; marks = map (put number one b.dumping) b.marks }, [])
put_number b at one None = Err (faults.UnknownCode at)

abbrev pub changed_says : Body → ℕ → List ℕ → Bool → Result (Body × List Row) VcdFault
changed_says b at code one = put_number b at one (number_of code b.binding.codes)

abbrev pub pass_number : Body → ℕ → Option ℕ → Result (Body × List Row) VcdFault
pass_number b at (Some number) = Ok (record b { amid = Changes }, [])
pass_number b at None = Err (faults.UnknownCode at)

abbrev pub skipped_says : Body → ℕ → List ℕ → Result (Body × List Row) VcdFault
skipped_says b at code = pass_number b at (number_of code b.binding.codes)

abbrev pub remark_says : Body → List ℕ → Result (Body × List Row) VcdFault
remark_says b text = if bytes_eq text (codes "$end") then Ok (record b { amid = Changes }, []) else Ok (b, [])

-- a word in a change's place
abbrev pub word_says : Body → ℕ → w.Word → Result (Body × List Row) VcdFault
word_says b at (w.time n) = time_says b at n
word_says b at (w.scalar one code) = changed_says b at code one
word_says b at (w.vector one) = Ok (record b { amid = Code one }, [])
word_says b at w.skipped = Ok (record b { amid = CodeSkipped }, [])
word_says b at w.comment = Ok (record b { amid = Remark }, [])
word_says b at w.dump = if b.dumping then Err (faults.UnknownCommand at) else Ok (record b { dumping = true }, [])
word_says b at w.gap = if b.dumping then Err (faults.UnknownCommand at) else Err (faults.Gap at)
word_says b at w.close = if b.dumping then Ok (record b { dumping = false }, []) else Err (faults.UnknownCommand at)
word_says b at w.bad_time = Err (faults.BadTime at)
word_says b at w.bad_change = Err (faults.BadChange at)
word_says b at w.unknown = Err (faults.UnknownCommand at)

-- a token, by its place
abbrev pub hear_at : Body → ℕ → List ℕ → Amid → Result (Body × List Row) VcdFault
hear_at b at text Changes = word_says b at (w.word_of text)
hear_at b at text Remark = remark_says b text
hear_at b at text (Code one) = changed_says b at text one
hear_at b at text CodeSkipped = skipped_says b at text

abbrev pub hear_of : Body → ℕ → List ℕ → Result (Body × List Row) VcdFault
hear_of b at text = hear_at b at text b.amid

-- what was answered, and what was left, is that
abbrev pub Says : Result (Body × List Row) VcdFault → Result (Unit {0}) VcdFault → Body → Body → List Row → List Row → Type 0
Says (Ok p) (Ok u) old new rows more = (new ≡ p.0) × (more ≡ rows ++ p.1)
Says (Err f) (Err g) old new rows more = (g ≡ f) × (new ≡ old) × (more ≡ rows)
Says (Ok p) (Err g) old new rows more = ⊥
Says (Err f) (Ok u) old new rows more = ⊥
