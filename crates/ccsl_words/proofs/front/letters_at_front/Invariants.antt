use Rattle.std.proofs.Common.{◌≡◌, ◌≤◌, take, vec_len}
use Rattle.ccsl_words.specs.Spelling.{digits}
use Rattle.ccsl_words.proofs.front.letters_at_front.Given as goal

abbrev pub invariant-loop-byte : goal.invariant-loop-byte
invariant-loop-byte l = record {
  read : take l.byte-index l.text ≡ digits l.letters.items;
  counted : vec_len l.letters ≡ l.byte-index;
  few : l.byte-index ≤ l.room;
}
