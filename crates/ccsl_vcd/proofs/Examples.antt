-- Worked examples, computed. White space is a blank throughout.
use Rattle.std.proofs.Common.{◌≡◌, ℕ, List, [], ◌∷◌, ◌++◌, Option, Some, None, refl}
use Rattle.std.specs.Prelude.{codes}
use Rattle.ccsl_base.specs.declared.rows.Row.{Row}
use Rattle.ccsl_vcd_lex.specs.Tokens.{tokens_from, run, is_white}
use Rattle.ccsl_vcd.specs.declared.fault.VcdFault.{VcdFault}
use Rattle.ccsl_vcd.specs.declared.fault.VcdFault.TheVariants as faults
use Rattle.ccsl_vcd.specs.declared.limits.Limits.{Limits}
use Rattle.ccsl_vcd.specs.Words.{word_of, number}
use Rattle.ccsl_vcd.specs.Binding.{Wanted, bind}
use Rattle.ccsl_vcd.specs.Reading.{so_far, reading, says}
use Rattle.ccsl_vcd.specs.Rows.{rows, recorded}

abbrev pub limits : Limits
limits = record { bytes = 68719476736; vars = 1048576; scopes = 256 }

abbrev pub two : Wanted
two = record { names = (codes "a") ∷ (codes "b") ∷ []; declared = 2 }

abbrev one : Wanted
one = record { names = (codes "a") ∷ []; declared = 1 }

abbrev pub clk : Wanted
clk = record { names = (codes "clk") ∷ []; declared = 1 }

abbrev line : ℕ → List ℕ → Row
line t xs = record { time = t; ticks = xs }

abbrev fault : Wanted → List ℕ → Option VcdFault
fault w file = (reading w limits file).fault

-- the header of two event clocks, 65 bytes
abbrev pub head : List ℕ
head = (codes "$var event 1 ! a $end $var event 1 & b $end $enddefinitions $end ")

-- faults

empty : fault two ([]) ≡ Some (faults.Truncated 0)
unfolding reading so_far says bind word_of number tokens_from run is_white rows recorded
empty = refl

no_command : fault two (codes "foo ") ≡ Some (faults.BadHeader 0)
unfolding reading so_far says bind word_of number tokens_from run is_white rows recorded
no_command = refl

unknown_code : fault two (head ++ (codes "1% ")) ≡ Some (faults.UnknownCode 65)
unfolding reading so_far says bind word_of number tokens_from run is_white rows recorded
unknown_code = refl

large_time : fault two (head ++ (codes "#18446744073709551616 ")) ≡ Some (faults.BadTime 65)
unfolding reading so_far says bind word_of number tokens_from run is_white rows recorded
large_time = refl

bad_vector : fault two (head ++ (codes "b1? ! ")) ≡ Some (faults.BadChange 65)
unfolding reading so_far says bind word_of number tokens_from run is_white rows recorded
bad_vector = refl

lone_end : fault two (head ++ (codes "$end ")) ≡ Some (faults.UnknownCommand 65)
unfolding reading so_far says bind word_of number tokens_from run is_white rows recorded
lone_end = refl

open_block : fault two (head ++ (codes "$dumpvars 1! ")) ≡ Some (faults.Truncated 78)
unfolding reading so_far says bind word_of number tokens_from run is_white rows recorded
open_block = refl

dump_off : fault two (head ++ (codes "#0 1! #1 $dumpoff $end ")) ≡ Some (faults.Gap 74)
unfolding reading so_far says bind word_of number tokens_from run is_white rows recorded
dump_off = refl

no_code : fault two (head ++ (codes "#0 1! #7 b1")) ≡ Some (faults.Truncated 76)
unfolding reading so_far says bind word_of number tokens_from run is_white rows recorded
no_code = refl

time_back : fault two (head ++ (codes "#7 1! #5 1& ")) ≡ Some (faults.TimeBack 71 7 5)
unfolding reading so_far says bind word_of number tokens_from run is_white rows recorded
time_back = refl

unbound : fault two (codes "$var event 1 ! a $end $enddefinitions $end #0 1! ") ≡ Some (faults.Unbound 1)
unfolding reading so_far says bind word_of number tokens_from run is_white rows recorded
unbound = refl

-- rows

two_rows : recorded two limits (head ++ (codes "#0 1! #5 1& ")) ≡ line 0 (0 ∷ []) ∷ line 5 (1 ∷ []) ∷ []
unfolding reading so_far says bind word_of number tokens_from run is_white rows recorded
two_rows = refl

no_rows : recorded two limits (head ++ []) ≡ []
unfolding reading so_far says bind word_of number tokens_from run is_white rows recorded
no_rows = refl

net_rows : recorded one limits (codes "$var wire 1 ! a $end $enddefinitions $end #0 1! #1 0! #2 1! #3 0! 1! 0! ") ≡ line 2 (0 ∷ []) ∷ []
unfolding reading so_far says bind word_of number tokens_from run is_white rows recorded
net_rows = refl

nested : recorded clk limits
    (codes "$scope module t $end $var wire 1 ! clk $end $scope module u $end $var wire 1 ! clk $end $upscope $end $upscope $end $enddefinitions $end #0 0! #5 1! ") ≡ line 5 (0 ∷ []) ∷ []
unfolding reading so_far says bind word_of number tokens_from run is_white rows recorded
nested = refl

outer_wins : recorded clk limits
    (codes "$scope module t $end $var wire 1 ! clk $end $scope module u $end $var wire 1 & clk $end $upscope $end $upscope $end $enddefinitions $end #0 0! #5 1! #7 1& ") ≡ line 5 (0 ∷ []) ∷ []
unfolding reading so_far says bind word_of number tokens_from run is_white rows recorded
outer_wins = refl

ambiguous : fault clk (codes "$scope module t $end $var wire 1 ! clk $end $upscope $end $scope module u $end $var wire 1 & clk $end $upscope $end $enddefinitions $end #0 0! #5 1! ") ≡ Some (faults.Ambiguous 0)
unfolding reading so_far says bind word_of number tokens_from run is_white rows recorded
ambiguous = refl

abbrev req_ack : Wanted
req_ack = record { names = (codes "req") ∷ (codes "ack") ∷ []; declared = 2 }

simulator : recorded req_ack limits
    (codes "$date    Mon Jan  5 10:00:00 2026 $end $version    Example Simulator $end $timescale    1ns $end $scope module top $end $var wire 1 ! clk $end $var reg 1 & req $end $var reg 1 # ack $end $var wire 8 $ bus [7:0] $end $upscope $end $enddefinitions $end #0 $dumpvars x! x& x# bxxxxxxxx $ $end #5 0! 0& 0# b0 $ #10 1! 1& #15 0! #20 1! 1# #25 0! 0& #30 1! 0# #40 1& #50 1# ") ≡ line 10 (0 ∷ []) ∷ line 20 (1 ∷ []) ∷ line 40 (0 ∷ []) ∷ line 50 (1 ∷ []) ∷ []
unfolding reading so_far says bind word_of number tokens_from run is_white rows recorded
simulator = refl

-- limits
abbrev small : ℕ → ℕ → ℕ → Limits
small bytes vars scopes = record { bytes = bytes; vars = vars; scopes = scopes }

abbrev fault_under : Limits → Wanted → List ℕ → Option VcdFault
fault_under l w file = (reading w l file).fault

second_var : fault_under (small 1000 1 9) two (codes "$var event 1 ! a $end $var event 1 & b $end $enddefinitions $end ") ≡ Some (faults.TooManyVars 22)
unfolding reading so_far says bind word_of number tokens_from run is_white rows recorded
second_var = refl

second_var_open : fault_under (small 1000 1 9) two (codes "$var event 1 ! a $end $var") ≡ Some (faults.TooManyVars 22)
unfolding reading so_far says bind word_of number tokens_from run is_white rows recorded
second_var_open = refl

third_scope : fault_under (small 1000 9 1) two (codes "$scope module t $end $scope module u $end") ≡ Some (faults.TooDeep 21)
unfolding reading so_far says bind word_of number tokens_from run is_white rows recorded
third_scope = refl

limit_first : fault_under (small 70 9 9) two (head ++ (codes "#0 1% xx")) ≡ Some (faults.TooLong 70)
unfolding reading so_far says bind word_of number tokens_from run is_white rows recorded
limit_first = refl

fault_first : fault_under (small 71 9 9) two (head ++ (codes "#0 1% xx")) ≡ Some (faults.UnknownCode 68)
unfolding reading so_far says bind word_of number tokens_from run is_white rows recorded
fault_first = refl

limit_just_met : fault_under (small 70 9 9) two (head ++ (codes "#0 1!")) ≡ None
unfolding reading so_far says bind word_of number tokens_from run is_white rows recorded
limit_just_met = refl

-- header

few_words : fault two (codes "$var event 1 ! $end ") ≡ Some (faults.BadHeader 15)
unfolding reading so_far says bind word_of number tokens_from run is_white rows recorded
few_words = refl

bad_size : fault two (codes "$var event x ! $end ") ≡ Some (faults.BadHeader 11)
unfolding reading so_far says bind word_of number tokens_from run is_white rows recorded
bad_size = refl

large_size : fault two (codes "$var event 4294967296 ! a $end ") ≡ Some (faults.BadHeader 11)
unfolding reading so_far says bind word_of number tokens_from run is_white rows recorded
large_size = refl

long_code : fault two (codes "$var event 1 !!!!!!!!!!!!!!!!!!!!!!!!!!!!!!!!! a $end ") ≡ Some (faults.BadHeader 13)
unfolding reading so_far says bind word_of number tokens_from run is_white rows recorded
long_code = refl

open_command : fault two (codes "$version x") ≡ Some (faults.Truncated 10)
unfolding reading so_far says bind word_of number tokens_from run is_white rows recorded
open_command = refl

end_first : fault two (codes "$end ") ≡ Some (faults.BadHeader 0)
unfolding reading so_far says bind word_of number tokens_from run is_white rows recorded
end_first = refl

bit_range : recorded one limits (codes "$upscope $end $var wire 1 ! a [0:0] $end $enddefinitions $end #0 0! #1 1! ") ≡ line 1 (0 ∷ []) ∷ []
unfolding reading so_far says bind word_of number tokens_from run is_white rows recorded
bit_range = refl

other_range : fault one (codes "$var wire 1 ! a [1:1] $end $enddefinitions $end ") ≡ Some (faults.Unbound 0)
unfolding reading so_far says bind word_of number tokens_from run is_white rows recorded
other_range = refl

wide_net : fault one (codes "$var wire 8 ! a $end $enddefinitions $end ") ≡ Some (faults.Unbound 0)
unfolding reading so_far says bind word_of number tokens_from run is_white rows recorded
wide_net = refl

-- body

lone_scalar : fault two (head ++ (codes "1 ")) ≡ Some (faults.BadChange 65)
unfolding reading so_far says bind word_of number tokens_from run is_white rows recorded
lone_scalar = refl

end_as_code : fault two (head ++ (codes "b1 $end ")) ≡ Some (faults.UnknownCode 68)
unfolding reading so_far says bind word_of number tokens_from run is_white rows recorded
end_as_code = refl

block_in_block : fault two (head ++ (codes "$dumpvars $dumpall ")) ≡ Some (faults.UnknownCommand 75)
unfolding reading so_far says bind word_of number tokens_from run is_white rows recorded
block_in_block = refl

open_comment : fault two (head ++ (codes "$comment 1! ")) ≡ Some (faults.Truncated 77)
unfolding reading so_far says bind word_of number tokens_from run is_white rows recorded
open_comment = refl

open_real : fault two (head ++ (codes "r1.5 ")) ≡ Some (faults.Truncated 70)
unfolding reading so_far says bind word_of number tokens_from run is_white rows recorded
open_real = refl

lone_time_mark : fault two (head ++ (codes "# ")) ≡ Some (faults.BadTime 65)
unfolding reading so_far says bind word_of number tokens_from run is_white rows recorded
lone_time_mark = refl

comment_in_block : recorded two limits (head ++ (codes "$dumpvars $comment 1! $end 1! $end 1& ")) ≡ line 0 (1 ∷ []) ∷ []
unfolding reading so_far says bind word_of number tokens_from run is_white rows recorded
comment_in_block = refl

event_by_vector : recorded two limits (head ++ (codes "#3 b0x ! r2.5 ! s ! #3 1! #4 ")) ≡ line 3 (0 ∷ []) ∷ []
unfolding reading so_far says bind word_of number tokens_from run is_white rows recorded
event_by_vector = refl

both_at_once : recorded two limits (head ++ (codes "#3 1& 1! #3 0! ")) ≡ line 3 (0 ∷ 1 ∷ []) ∷ []
unfolding reading so_far says bind word_of number tokens_from run is_white rows recorded
both_at_once = refl

net_from_block : recorded one limits (codes "$var wire 1 ! a $end $enddefinitions $end $dumpvars 0! $end #2 $dumpall 1! $end #3 0! 1! #4 z! #5 b01 ! ") ≡ line 2
    (0 ∷ []) ∷ line 5 (0 ∷ []) ∷ []
unfolding reading so_far says bind word_of number tokens_from run is_white rows recorded
net_from_block = refl

off_in_block : fault two (head ++ codes "$dumpvars $dumpoff ") ≡ Some (faults.UnknownCommand 75)
unfolding reading so_far says bind word_of number tokens_from run is_white rows recorded
off_in_block = refl
