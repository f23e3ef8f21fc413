-- Behind the library a file without lines expands to the library's groups, and to no clock.
use Rattle.std.proofs.Common.{◌≡◌, ◌≤◌, [], ◌∷◌, length, length-append, ap, ap₂, sym, ◌∙◌, arith}
use Rattle.ccsl_base.specs.declared.limits.TheConstants.{MAX_CLOCKS}
use Rattle.ccsl_ast.specs.Trees.{PlainFile}
use Rattle.ccsl_rules.specs.Expansion.{expand}
use Rattle.ccsl_accepts.specs.Acceptance.{empty}
use Rattle.ccsl_expand.specs.Bounds.{AreNew}
use Rattle.ccsl_library.specs.Library.{the_library}
use Rattle.ccsl_library.specs.Members.{library_groups}

module _ (library file : PlainFile) (is_library : library ≡ the_library) (is_empty : file ≡ empty) where
  pub no_names : (expand library file).names ≡ []
  no_names = ap₂ (λ l f. (expand l f).names) is_library is_empty

  pub new : AreNew (expand library file).names
  new front back name e = let none = ap length (sym no_names ∙ e) in absurd (omega (arith, none, length-append front (name ∷ back)))

  pub few : length (expand library file).names ≤ MAX_CLOCKS
  few = omega (arith, ap length no_names)

  pub groups : (expand library file).groups ≡ library_groups
  groups = ap₂ (λ l f. (expand l f).groups) is_library is_empty
