use Rattle.std.proofs.Common.{sym, subst, Ok, Err}
use Rattle.ccsl_vcd_lex.specs.Tokens.{token, word}
use Rattle.ccsl_vcd.specs.Binding.{Wanted}
use Rattle.ccsl_vcd.specs.Header as d
use Rattle.ccsl_vcd.specs.Reading.{Story, next}
use Rattle.ccsl_vcd_read.specs.Heading.{start_of, word_in, HeadShows, Refuses, Becomes}
use Rattle.ccsl_vcd_read.proofs.HeadPictures.{starts, words, goes-by, caused-by, faulty}
use Rattle.ccsl_vcd_read.proofs.heading.Heading.hear.Goals as goal

pub returns-in-Ok-clause-goes : goal.returns-in-Ok-clause-goes
returns-in-Ok-clause-goes c = λ wanted st s.
    goes-by wanted c.args.limits st (next wanted c.args.limits st (word (token c.args.at c.args.text.now)))
    (start_of c.args.limits c.args.self.now c.args.at (d.header_word c.args.text.now)) c.start.new.self
    (subst (λ (w : d.HeaderWord). Becomes (start_of c.args.limits c.args.self.now c.args.at w) (Ok tt) c.start.new.self) (sym c.header_word.ensures)
    c.in-Ok.ensures)
    (starts wanted c.args.limits c.args.self.now st c.args.at c.args.text.now s c.in-Between.is)

pub returns-in-Err-clause-refuses : goal.returns-in-Err-clause-refuses
returns-in-Err-clause-refuses c =
    caused-by (λ f. (wanted : Wanted) (st : Story) → HeadShows wanted c.args.limits c.args.self.now st
    → Refuses f st (next wanted c.args.limits st (word (token c.args.at c.args.text.now))))
    c.in-Err.fault (start_of c.args.limits c.args.self.now c.args.at (d.header_word c.args.text.now)) c.start.new.self
    (subst (λ (w : d.HeaderWord). Becomes (start_of c.args.limits c.args.self.now c.args.at w) (Err c.in-Err.fault) c.start.new.self)
    (sym c.header_word.ensures) c.in-Err.ensures)
    (faulty c.args.limits c.args.self.now (λ wanted st. next wanted c.args.limits st (word (token c.args.at c.args.text.now)))
    (start_of c.args.limits c.args.self.now c.args.at (d.header_word c.args.text.now))
    (λ wanted st s. starts wanted c.args.limits c.args.self.now st c.args.at c.args.text.now s c.in-Between.is))

pub returns-in-Ok-take_word : goal.returns-in-Ok-take_word
returns-in-Ok-take_word c = record {
  goes = λ wanted st s. goes-by wanted c.args.limits st (next wanted c.args.limits st (word (token c.args.at c.args.text.now)))
      (word_in c.args.self.now c.args.at c.args.text.now c.args.self.now.command) c.take_word.new.self c.in-Ok-take_word.ensures
      (words wanted c.args.limits c.args.self.now st c.args.at c.args.text.now s c.in_default-2.not-Between (sym c.if-is_text.ensures));
  refuses = tt;
}

pub returns-in-Err-take_word : goal.returns-in-Err-take_word
returns-in-Err-take_word c = record {
  goes = tt;
  refuses = caused-by (λ f. (wanted : Wanted) (st : Story) → HeadShows wanted c.args.limits c.args.self.now st
      → Refuses f st (next wanted c.args.limits st (word (token c.args.at c.args.text.now))))
      c.in-Err-take_word.fault (word_in c.args.self.now c.args.at c.args.text.now c.args.self.now.command) c.take_word.new.self c.in-Err-take_word.ensures
      (faulty c.args.limits c.args.self.now (λ wanted st. next wanted c.args.limits st (word (token c.args.at c.args.text.now)))
      (word_in c.args.self.now c.args.at c.args.text.now c.args.self.now.command)
      (λ wanted st s. words wanted c.args.limits c.args.self.now st c.args.at c.args.text.now s c.in_default-2.not-Between (sym c.if-is_text.ensures)));
}
