-- Why there is no word that filters as two do.
use Rattle.std.specs.Prelude.{◌<◌}
use Rattle.ccsl_base.specs.declared.limits.TheConstants.{MAX_LETTERS}
use Rattle.ccsl_words.specs.Word.{BinaryWord}
use Rattle.ccsl_periodic.specs.declared.filtered.OnFault.{OnFault}
use Rattle.ccsl_periodic.specs.declared.filtered.OnFault.TheVariants as fault
use Rattle.ccsl_periodic.specs.Filtered.{IsPlainLength}

-- why there is no word: its plain spelling is too long; want of memory is no such cause
abbrev pub IsCauseOf : BinaryWord → BinaryWord → OnFault → Type 0
IsCauseOf u v (fault.TooLong n) = IsPlainLength u v n × (MAX_LETTERS < n)
IsCauseOf u v fault.Memory = Unit {0}
