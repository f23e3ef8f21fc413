use Rattle.std.proofs.Common.{◌≡◌, ℕ, List}
use Rattle.ccsl_vcd_lex.specs.Tokens.{token, word}
use Rattle.ccsl_vcd.specs.Binding.{Wanted}
use Rattle.ccsl_vcd.specs.Header.{header_word, end_command}
use Rattle.ccsl_vcd.specs.Reading.{Story, next}
use Rattle.ccsl_vcd_read.specs.Heading.{end_in, HeadShows, Refuses}
use Rattle.ccsl_vcd_read.proofs.HeadPictures.{closes, declares, ends, goes-by, caused-by, faulty-end}
use Rattle.ccsl_vcd_read.proofs.heading.Heading.end_command.Goals as goal

pub returns-in-EndDefinitions-clause-goes : goal.returns-in-EndDefinitions-clause-goes
returns-in-EndDefinitions-clause-goes c = λ wanted st text s e. closes wanted c.args.limits c.args.self.now st c.args.at text s c.in-EndDefinitions.is e

pub returns-in-Ok-clause-goes : goal.returns-in-Ok-clause-goes
returns-in-Ok-clause-goes c = λ wanted st text s e.
    declares wanted c.args.limits c.args.self.now c.declare.new.self st c.args.at text s c.in-More.is e c.in-Ok.ensures.kept
    (c.in-Ok.ensures.declared wanted s.declared s.binds)

pub returns-in-Ok-end : goal.returns-in-Ok-end
returns-in-Ok-end c = record {
  goes = λ wanted st text s e. goes-by wanted c.args.limits st (next wanted c.args.limits st (word (token c.args.at text)))
      (end_in c.args.limits c.args.self.now c.args.at c.args.self.now.command) c.end.new.self c.in-Ok-end.ensures
      (ends wanted c.args.limits c.args.self.now st c.args.at text s c.requires.inside c.in_default.not-More c.in_default.not-EndDefinitions e);
  refuses = tt;
}

pub returns-in-Err-end : goal.returns-in-Err-end
returns-in-Err-end c = record {
  goes = tt;
  refuses = caused-by (λ f. (wanted : Wanted) (st : Story) (text : List ℕ) → HeadShows wanted c.args.limits c.args.self.now st → header_word text ≡ end_command
      → Refuses f st (next wanted c.args.limits st (word (token c.args.at text))))
      c.in-Err-end.fault (end_in c.args.limits c.args.self.now c.args.at c.args.self.now.command) c.end.new.self c.in-Err-end.ensures
      (faulty-end c.args.limits c.args.self.now (λ wanted st text. next wanted c.args.limits st (word (token c.args.at text)))
      (end_in c.args.limits c.args.self.now c.args.at c.args.self.now.command)
      (λ wanted st text s e. ends wanted c.args.limits c.args.self.now st c.args.at text s c.requires.inside c.in_default.not-More
      c.in_default.not-EndDefinitions e));
}
