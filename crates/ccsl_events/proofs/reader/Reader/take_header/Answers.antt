use Rattle.std.proofs.Common.{◌≡◌, true, false, sym, ◌∙◌}
use Rattle.ccsl_events.proofs.reader.Reader.take_header.Goals as goal

pub returns-then-not-self-clause-header : goal.returns-then-not-self-clause-header
returns-then-not-self-clause-header c limits bytes h b = absurd (let g : true ≡ false = sym b.has_ended ∙ c.if-not-self.true in cc)
