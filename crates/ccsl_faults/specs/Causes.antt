-- Causes of the program's type, as definitions speak of them, and back.
use Rattle.ccsl_rules.specs.Faults as rules
use Rattle.ccsl_faults.specs.declared.cause.Cause.{Cause}
use Rattle.ccsl_faults.specs.declared.cause.Cause.TheVariants.{Duplicate, Unknown, Later, WrongKind, Unguarded, TooTall, Arguments, BadWord}

abbrev pub seen_cause : Cause → rules.Cause
seen_cause Duplicate = rules.Duplicate
seen_cause Unknown = rules.Unknown
seen_cause Later = rules.Later
seen_cause WrongKind = rules.WrongKind
seen_cause Unguarded = rules.Unguarded
seen_cause TooTall = rules.TooTall
seen_cause Arguments = rules.Arguments
seen_cause BadWord = rules.BadWord

abbrev pub cause_seen : rules.Cause → Cause
cause_seen rules.Duplicate = Duplicate
cause_seen rules.Unknown = Unknown
cause_seen rules.Later = Later
cause_seen rules.WrongKind = WrongKind
cause_seen rules.Unguarded = Unguarded
cause_seen rules.TooTall = TooTall
cause_seen rules.Arguments = Arguments
cause_seen rules.BadWord = BadWord
