-- What a value of the program's types stands for: an expression without its boxes, and what is made of expressions.
use Rattle.std.specs.Prelude.{List, map}
use Rattle.ccsl_kernel.specs.declared.expr.Expr.{Expr, Call, Binary', Delay', Await', Filter', Delayed', If'}
use Rattle.ccsl_kernel.specs.declared.expr.Expr.TheVariants.{Name, Never}
use Rattle.ccsl_kernel.specs.declared.group.Body.{Body as BoxedBody}
use Rattle.ccsl_kernel.specs.declared.group.Group.{Group}
use Rattle.ccsl_kernel.specs.declared.parts.Parts.{Parts}
use Rattle.ccsl_kernel.specs.Syntax.{Body, System, Expression, EName, ECall, ENever, EBinary, EDelay, EAwait, EFilter, EDelayed, EIf}

abbrev pub plain_expr : Expr → Expression
plain_expr (Name x) = EName x
plain_expr (Call group member args) = ECall group member args
plain_expr Never = ENever
plain_expr (Binary' op p a q d) = EBinary op (plain_expr a) (plain_expr d)
plain_expr (Delay' p a m) = EDelay (plain_expr a) m
plain_expr (Await' p a m) = EAwait (plain_expr a) m
plain_expr (Filter' p a w) = EFilter (plain_expr a) w
plain_expr (Delayed' p a m q d) = EDelayed (plain_expr a) m (plain_expr d)
plain_expr (If' q p a p' d) = EIf q (plain_expr a) (plain_expr d)

abbrev pub plain_body : BoxedBody → Body
plain_body b = record { params = b.params; root = plain_expr b.root }

abbrev pub plain_group : Group → List Body
plain_group g = map plain_body g.members

abbrev pub plain_system : Parts → System
plain_system p = record {
  names = p.names;
  declared = p.declared;
  written = p.written;
  groups = map plain_group p.groups;
  words = p.words;
  definitions = map plain_expr p.definitions;
  constraints = p.constraints;
}
