-- What the words of the code mean: a scalar's code is the rest of its token.
use Rattle.std.specs.Prelude.{ℕ, List, [], ◌∷◌}
use Rattle.ccsl_vcd.specs.Words as w
use Rattle.ccsl_vcd.specs.Places as p
use Rattle.ccsl_vcd_read.specs.declared.word.Word.{Word}
use Rattle.ccsl_vcd_read.specs.declared.word.Word.TheVariants.{Time, Scalar, Vector, Skipped, Comment, Dump, Gap, Close, BadTime, BadChange, Unknown}
use Rattle.ccsl_vcd.specs.Header as d
use Rattle.ccsl_vcd_read.specs.declared.command.HeaderWord.{HeaderWord}
use Rattle.ccsl_vcd_read.specs.declared.command.HeaderWord.TheVariants as h
use Rattle.ccsl_vcd_read.specs.declared.amid.Amid.{Amid}
use Rattle.ccsl_vcd_read.specs.declared.amid.Amid.TheVariants.{Changes, Remark, Code, CodeSkipped}

abbrev pub meant : Word → List ℕ → w.Word
meant (Time n) rest = w.time n
meant (Scalar one) rest = w.scalar one rest
meant (Vector one) rest = w.vector one
meant Skipped rest = w.skipped
meant Comment rest = w.comment
meant Dump rest = w.dump
meant Gap rest = w.gap
meant Close rest = w.close
meant BadTime rest = w.bad_time
meant BadChange rest = w.bad_change
meant Unknown rest = w.unknown

-- a token without its first byte
abbrev pub rest_of : List ℕ → List ℕ
rest_of [] = []
rest_of (b ∷ rest) = rest

abbrev pub amid_of : Amid → p.Amid
amid_of Changes = p.changes
amid_of Remark = p.remark
amid_of (Code one) = p.code_of one
amid_of CodeSkipped = p.code_skipped

abbrev pub header_meant : HeaderWord → d.HeaderWord
header_meant h.Var = d.var
header_meant h.Scope = d.scope
header_meant h.Upscope = d.upscope
header_meant h.EndDefinitions = d.end_definitions
header_meant h.OtherCommand = d.other_command
header_meant h.End = d.end_command
header_meant h.Plain = d.plain
