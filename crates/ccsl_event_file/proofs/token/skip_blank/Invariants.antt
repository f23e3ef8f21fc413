use Rattle.std.proofs.Common.{◌≡◌, ◌≤◌, ℕ, length}
use Rattle.ccsl_event_file.specs.Tokens.{token, tokens_in}
use Rattle.ccsl_event_file.proofs.Lexing.{amid}
use Rattle.ccsl_event_file.proofs.token.skip_blank.Given as goal

abbrev pub invariant-blank : goal.invariant-blank
invariant-blank l = record {
  same : (len : ℕ) → tokens_in len (amid l.is_remark) l.rest ≡ tokens_in len (token 0) l.fn.text;
  shorter : length l.rest ≤ length l.fn.text;
}

abbrev pub decreases-blank : goal.decreases-blank
decreases-blank l = length l.rest
