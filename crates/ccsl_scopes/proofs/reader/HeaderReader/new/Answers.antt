use Rattle.std.proofs.Common.{[], refl, ap}
use Rattle.ccsl_scopes.proofs.VariableLaws.{none-declared}
use Rattle.ccsl_scopes.specs.Standing.{text_in}
use Rattle.ccsl_scopes.proofs.reader.HeaderReader.new.Goals as goal

pub returns : goal.returns
returns c = record {
  command = refl;
  holds = record {
    limits_are = refl;
    variables = none-declared [] c.new.result.variables.items c.new.ensures.variables;
    codes = c.new.ensures.codes;
    timescale_is = ap text_in c.new.ensures.timescale;
    scopes = c.new-2.ensures.items;
    begins_are = c.new-3.ensures.items;
  };
}
