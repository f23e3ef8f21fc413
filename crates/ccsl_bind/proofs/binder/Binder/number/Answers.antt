use Rattle.std.proofs.Common.{Some, sym, ap, ◌∙◌}
use Rattle.ccsl_bind.specs.Codes.{put_code}
use Rattle.ccsl_bind.specs.Gathered.{Collected}
use Rattle.ccsl_bind.proofs.Finding.{put-there}
use Rattle.ccsl_bind.proofs.Declaring.{added-last}
use Rattle.ccsl_bind.proofs.binder.Binder.number.Goals as goal

pub returns-in-Some-clause-codes : goal.returns-in-Some-clause-codes
returns-in-Some-clause-codes c =
    let e = put-there c.args.code.now c.self.inside.codes c.in-Some.number (sym c.in-Some.ensures.place) in
    sym c.self.view_is ∙ ap (λ t. record {
      wanted = record { names = c.self.inside.names; declared = c.self.inside.declared };
      codes = t;
      found =
          c.self.inside.found.items;
    }) (sym e)
    ∙ ap (λ (x : Collected). record x { codes = put_code x.codes c.args.code.now }) c.self.view_is

pub returns-clause-there : goal.returns-clause-there
returns-clause-there c =
    added-last c.self.inside.codes c.add.new.self c.args.code.now c.in_ok-add.field-0 (sym c.find.ensures.place ∙ c.in_default.is) c.in_ok-add.ensures.added
    ∙ ap (λ n. Some n) (sym c.len-number.ensures)
