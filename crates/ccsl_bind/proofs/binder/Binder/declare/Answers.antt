use Rattle.std.proofs.Common.{◌≡◌, true, false, List, Some, sym, ap, ◌∙◌, subst, arith, None}
use Rattle.ccsl_base.specs.Names.{find_name, are_distinct}
use Rattle.ccsl_vcd.specs.Binding.{Declaration}
use Rattle.ccsl_bind.specs.Candidates.{noted}
use Rattle.ccsl_bind.specs.Gathered.{Collected}
use Rattle.ccsl_bind.proofs.Finding.{few-codes}
use Rattle.ccsl_bind.proofs.Gathering.{never-binds, none-found}
use Rattle.ccsl_bind.proofs.Declaring.{passes, notes, fits}
use Rattle.ccsl_bind.proofs.binder.Binder.declare.Goals as goal
use Rattle.ccsl_bind.proofs.binder.Binder.declare.Goals.{In_ok-number}

-- what is declared
abbrev declaration : In_ok-number → Declaration
declaration c = record { depth = c.args.depth; kind = c.args.kind.now; size = c.args.size; code = c.args.code.now; reference = c.args.reference.now }

pub number-requires : goal.number-requires
number-requires c =
    let s = c.requires.2 in
    let k = few-codes c.requires.1 in
    omega (arith, k, ap Rattle.std.proofs.Common.length s.codes, c.requires.3)

pub note-requires : goal.note-requires
note-requires c =
    let d = declaration (goal.at.note-requires c).In_ok-number in
    fits c.args.self.now c.number.new.self c.requires.0 c.requires.1 d c.requires.2 c.in_ok-number.ensures.codes c.in-Some.clock
    (ap (λ (x : Collected). find_name c.args.reference.now x.wanted.names) (sym c.self.view_is) ∙ sym c.in-Some.ensures.place)

pub returns-in-Some : goal.returns-in-Some
returns-in-Some c = λ wanted ds s.
    let d = declaration (goal.at.returns-in-Some c).In_ok-number in
    notes c.args.self.now c.number.new.self wanted ds d s c.in_ok-number.ensures.codes c.note.new.self c.in-Some.clock c.in_ok-number.number
    c.in_ok-number.ensures.there
    (sym c.may_bind.ensures ∙ c.if-may_bind.true) (subst (λ (x : Collected). are_distinct x.wanted.names ≡ true) c.self.view_is c.are_distinct.ensures)
    (ap (λ (x : Collected). find_name c.args.reference.now x.wanted.names) (sym c.self.view_is) ∙ sym c.in-Some.ensures.place)
    (c.note.ensures ∙ ap (λ b. record c.number.new.self {
      found =
          Rattle.std.proofs.Math.ListN.set c.number.new.self.found c.in-Some.clock
          (Some (noted (Rattle.std.proofs.Common.get_or c.number.new.self.found c.in-Some.clock None) c.args.depth c.in_ok-number.number b));
    })
    c.is_text.ensures)

pub returns-in_default : goal.returns-in_default
returns-in_default c = λ wanted ds s.
    let d = declaration (goal.at.returns-in_default c).In_ok-number in
    passes c.args.self.now c.number.new.self wanted ds d s c.in_ok-number.ensures.codes
    (none-found d c.number.new.self.wanted.names (ap (λ (x : Collected). find_name c.args.reference.now x.wanted.names) (sym c.self.view_is)
    ∙ sym c.find.ensures.place ∙ c.in_default.is))

pub returns-else-may_bind : goal.returns-else-may_bind
returns-else-may_bind c = λ wanted ds s.
    let d = declaration (goal.at.returns-else-may_bind c).In_ok-number in
    passes c.args.self.now c.number.new.self wanted ds d s c.in_ok-number.ensures.codes
    (λ name g. never-binds d (sym c.may_bind.ensures ∙ c.if-may_bind.false) name)
