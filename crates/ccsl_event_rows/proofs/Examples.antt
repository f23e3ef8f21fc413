-- Worked examples of times and of what they read as, computed.
use Rattle.std.proofs.Common.{◌≡◌, ℕ, List, [], ◌∷◌, map, true, false, Some, codes, refl}
use Rattle.ccsl_base.specs.declared.rows.Row.{Row}
use Rattle.ccsl_vcd_lex.specs.Tokens.{is_white, run, tokens_from}
use Rattle.ccsl_vcd.specs.Words.{number, word_of}
use Rattle.ccsl_vcd.specs.Binding.{Wanted}
use Rattle.ccsl_events.specs.Dump.{Plan, says, story}
use Rattle.ccsl_event_rows.specs.Times.{heard_from, times}
use Rattle.ccsl_event_rows.specs.ReadsBack.{is_timescale, clocks_named, clock_rows}

abbrev row : ℕ → List ℕ → Row
row time ticks = record { time = time; ticks = ticks }

-- three names; and three clocks, of which two have to be bound, in another order, and the last without a name
abbrev names : List (List ℕ)
names = codes "a" ∷ codes "c" ∷ codes "b" ∷ []

abbrev wanted : Wanted
wanted = record { names = codes "b" ∷ codes "a" ∷ codes "d" ∷ []; declared = 2 }

clocks : clocks_named wanted names ≡ 0 ∷ 1 ∷ []
clocks = refl

-- where c happens alone there is no row
rows : clock_rows wanted names (row 5 (0 ∷ 2 ∷ []) ∷ row 7 (1 ∷ []) ∷ row 9 (0 ∷ []) ∷ []) ≡ row 5 (0 ∷ 1 ∷ []) ∷ row 9 (1 ∷ []) ∷ []
rows = refl

-- the times of a body: the one that is not told, and each that is, once
abbrev plan : Plan
plan = record { codes = codes "!" ∷ []; variables = []; watches = []; skips = false }

told_times : map (λ r. r.time) (times plan (heard_from 40 (codes "0! #5 1! #5 0! #8 "))) ≡ 0 ∷ 5 ∷ 8 ∷ []
unfolding story says word_of number tokens_from run is_white
told_times = refl

a_timescale : is_timescale (Some (codes "10 ns")) ≡ true
unfolding tokens_from run is_white
a_timescale = refl

ends_early : is_timescale (Some (codes "10 $end ns")) ≡ false
unfolding tokens_from run is_white
ends_early = refl
