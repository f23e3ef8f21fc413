-- What stands, and what the clocks that are left add, is the whole, behind what was there; and there is room for that.
use Rattle.std.proofs.Common.{◌≡◌, ◌+◌, ◌*◌, ◌≤◌, ◌++◌, length, map, filter, nat_lt, vec_len, vec_capacity}
use Rattle.ccsl_vcd_write.specs.Text.{text_of, tick_line, step_text}
use Rattle.ccsl_vcd_write.proofs.writer.step.Given as goal

abbrev pub invariant-loop-clock : goal.invariant-loop-clock
invariant-loop-clock l =
    record {
      text : l.out.items ++ text_of (map tick_line (filter (λ x. nat_lt x l.written) l.clock-iterator)) ≡ l.fn.out.items ++ step_text l.k l.system l.ticks;
      room : vec_len l.out + 4 * length (filter (λ x. nat_lt x l.written) l.clock-iterator) ≤ vec_capacity l.out;
      capacity : vec_capacity l.out ≡ vec_capacity l.initial.out;
    }
