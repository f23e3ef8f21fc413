-- Behind the library a file without lines has the library's groups.
use Rattle.std.proofs.Common.{ap, ap₂, ◌∙◌}
use Rattle.ccsl_ast.specs.Plain.{plain_parts}
use Rattle.ccsl_kernel.specs.Syntax.{System}
use Rattle.ccsl_chain.proofs.LibraryAlone.{new, few, groups}
use Rattle.ccsl_chain.proofs.build.groups.Goals as goal

pub expand-expanded-requires-clause-new : goal.expand-expanded-requires-clause-new
expand-expanded-requires-clause-new c =
    new _ _ c.in_ok-library.ensures.tree (ap₂ (plain_parts 1) (c.new-2.ensures ∙ c.new.ensures.items) (c.new-4.ensures ∙ c.new-3.ensures.items))

pub expand-expanded-requires-clause-few : goal.expand-expanded-requires-clause-few
expand-expanded-requires-clause-few c =
    few _ _ c.in_ok-library.ensures.tree (ap₂ (plain_parts 1) (c.new-2.ensures ∙ c.new.ensures.items) (c.new-4.ensures ∙ c.new-3.ensures.items))

pub returns : goal.returns
returns c =
    ap (λ (K : System). K.groups) c.in_ok-expanded.ensures
    ∙ groups _ _ c.in_ok-library.ensures.tree (ap₂ (plain_parts 1) (c.new-2.ensures ∙ c.new.ensures.items) (c.new-4.ensures ∙ c.new-3.ensures.items))
