use Rattle.std.proofs.Common.{◌≡◌, length, refl, sym, ap, ◌∙◌, rules, vec_len}
use Rattle.ccsl_formula.specs.Known.{known}
use Rattle.ccsl_refute.specs.declared.line.Line.TheVariants.{Nonempty}
use Rattle.ccsl_refute.specs.Literals.{all_false}
use Rattle.ccsl_refute.specs.Validity.{fails_line}
use Rattle.ccsl_solve.proofs.Lines.{adds-line, line-last}
use Rattle.ccsl_solve.proofs.search.no_member.Goals as goal

pub broken-requires-clause-sound : goal.broken-requires-clause-sound
broken-requires-clause-sound c = record {
  posed = c.requires.sound.posed;
  valid = (adds-line c.args.problem.now Nonempty c.in_ok-push.ensures.items c.requires.sound.valid refl).valid;
  inside = c.requires.sound.inside;
}

pub broken-requires-clause-refuted : goal.broken-requires-clause-refuted
broken-requires-clause-refuted c =
    let p = known c.args.part.now in
    let size : vec_len c.push.new.self ≡ length c.push.new.self.items = search rules in
    ap (fails_line c.args.problem.now.scope.declared p) (line-last c.args.lines.now.items Nonempty (c.len-line.ensures ∙ size) c.in_ok-push.ensures.items)
    ∙ sym (ap (all_false p) c.requires.sound.posed.nonempty) ∙ c.requires.none
