-- Runs of bytes of one kind.
use Rattle.std.specs.Prelude.{ℕ, Bool}
use Rattle.ccsl_base.specs.Letters.{is_digit, is_inner}
use Rattle.ccsl_lex.specs.declared.run.Run.{Run}
use Rattle.ccsl_lex.specs.declared.run.Run.TheVariants.{Inner, Digits, Remark, Quotable}
use Rattle.ccsl_base.specs.Quoted.{is_quotable}
use Rattle.ccsl_lex.specs.Tokens.{is_remark}

-- whether a byte belongs to such a run
abbrev pub belongs : Run → ℕ → Bool
belongs Inner = is_inner
belongs Digits = is_digit
belongs Remark = is_remark
belongs Quotable = is_quotable
