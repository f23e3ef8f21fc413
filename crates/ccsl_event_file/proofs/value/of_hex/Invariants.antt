use Rattle.std.proofs.Common.{◌≡◌, drop}
use Rattle.std.specs.List.{list_all, flat_map}
use Rattle.ccsl_event_file.specs.Values.{is_hex, hex_bits, without_zeros}
use Rattle.ccsl_event_file.specs.Letters.{extended}
use Rattle.ccsl_event_file.proofs.value.of_hex.Given as goal

abbrev pub invariant-loop-digit : goal.invariant-loop-digit
invariant-loop-digit l = record {
  all : list_all is_hex (drop l.digit-index l.digits) ≡ list_all is_hex l.digits;
  same : extended l.letters.items (flat_map hex_bits (drop l.digit-index l.digits)) ≡ without_zeros (flat_map hex_bits l.digits);
}
