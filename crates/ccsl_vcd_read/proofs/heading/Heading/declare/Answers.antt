use Rattle.std.proofs.Common.{◌∷◌, [], ◌++◌, ap, ◌∙◌, subst}
use Rattle.ccsl_vcd.specs.Binding.{Declaration}
use Rattle.ccsl_bind.specs.Gathered.{StandsFor}
use Rattle.ccsl_vcd_read.specs.Heading.{reference_in}
use Rattle.ccsl_vcd_read.proofs.HeadPictures.{declared-same}
use Rattle.ccsl_vcd_read.proofs.heading.Heading.declare.Goals as goal

pub returns-clause-declared : goal.returns-clause-declared
returns-clause-declared c = λ wanted ds s.
    subst (λ (x : Declaration). StandsFor wanted c.declare.new.self (ds ++ x ∷ []))
    (declared-same c.args.self.now.depth c.args.self.now.size _ _ _ _ _ _ c.bytes.ensures c.bytes-2.ensures
    (c.reference_in.ensures ∙ ap (λ xs. reference_in xs c.args.self.now.first) c.bytes-3.ensures))
    (c.in_ok-declare.ensures wanted ds s)
