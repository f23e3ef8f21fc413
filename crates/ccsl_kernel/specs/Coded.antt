-- The code of expressions, by which a proof tells them apart: that of the boxed ones, wherever the boxes lie.
use Rattle.std.specs.Prelude.{◌≡◌, refl}
use Rattle.std.proofs.Common.{ap, ap₂}
use Rattle.std.specs.Coded.{Coded, code_by}
use Rattle.std.specs.Ptr.{null_ptr}
use Rattle.std.specs.declared.boxed.Box.{Box}
use Rattle.std.specs.declared.alloc.Global.{Global}
use Rattle.ccsl_kernel.specs.declared.expr.Expr.{Expr, Call, Binary', Delay', Await', Filter', Delayed', If'}
use Rattle.ccsl_kernel.specs.declared.expr.Expr.TheVariants.{Name, Never}
use Rattle.ccsl_kernel.specs.contracts.expr.Expr as expr
use Rattle.ccsl_kernel.specs.Syntax.{Expression, EName, ECall, ENever, EBinary, EDelay, EAwait, EFilter, EDelayed, EIf}
use Rattle.ccsl_kernel.specs.Plain.{plain_expr}

abbrev nowhere : Box (Unit {0}) Global
nowhere = record { ptr = null_ptr; alloc = record { memory = record { seal = tt } }; value = tt }

abbrev boxed : Expression → Expr
boxed (EName x) = Name x
boxed (ECall group member args) = Call group member args
boxed ENever = Never
boxed (EBinary op a d) = Binary' op nowhere (boxed a) nowhere (boxed d)
boxed (EDelay a m) = Delay' nowhere (boxed a) m
boxed (EAwait a m) = Await' nowhere (boxed a) m
boxed (EFilter a w) = Filter' nowhere (boxed a) w
boxed (EDelayed a m d) = Delayed' nowhere (boxed a) m nowhere (boxed d)
boxed (EIf q a d) = If' q nowhere (boxed a) nowhere (boxed d)

pub plain-boxed : (e : Expression) → plain_expr (boxed e) ≡ e
plain-boxed (EName x) = refl
plain-boxed (ECall group member args) = refl
plain-boxed ENever = refl
plain-boxed (EBinary op a d) = ap₂ (EBinary op) (plain-boxed a) (plain-boxed d)
plain-boxed (EDelay a m) = ap (λ a. EDelay a m) (plain-boxed a)
plain-boxed (EAwait a m) = ap (λ a. EAwait a m) (plain-boxed a)
plain-boxed (EFilter a w) = ap (λ a. EFilter a w) (plain-boxed a)
plain-boxed (EDelayed a m d) = ap₂ (λ a d. EDelayed a m d) (plain-boxed a) (plain-boxed d)
plain-boxed (EIf q a d) = ap₂ (EIf q) (plain-boxed a) (plain-boxed d)

abbrev pub coded_expression : Coded Expression
coded_expression = code_by Expr expr.the_row.coded boxed plain_expr plain-boxed
