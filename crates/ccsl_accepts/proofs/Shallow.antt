-- An expression with numbers in place of names is no deeper than its tree.
use Rattle.std.proofs.Common.{◌≡◌, ℕ, ◌+◌, ◌≤◌, length, List, Option, Some, None, refl, arith}
use Rattle.ccsl_ast.specs.Trees.{Expression, EName, ECall, ENever, EBinary, EDelay, EAwait, EFilter, EDelayed, EIf}
use Rattle.ccsl_ast.specs.Depth.{depth, operand_depth}
use Rattle.ccsl_kernel.specs.declared.expr.Value.{Value}
use Rattle.ccsl_kernel.specs.Accepted.{nesting}
use Rattle.ccsl_kernel.specs.Accepted as accepted
use Rattle.ccsl_rules.specs.Spaces.{Known, Callee, Role, relation, member, look}
use Rattle.ccsl_rules.specs.Settings.{Setting}
use Rattle.ccsl_rules.specs.Texts.{texts}
use Rattle.ccsl_rules.specs.Resolved.{Tables, resolve, resolve_call, resolve_arguments, role_call}

role-flat : (r : Role) (args : List Value) → nesting (role_call r args) ≡ 0
role-flat relation args = refl
role-flat (member g m) args = refl

call-flat : (o : Option (Known Callee)) (args : List Value) → nesting (resolve_call o args) ≡ 0
call-flat None args = refl
call-flat (Some k) args = role-flat k.what.role args

pub at-least-one : (e : Expression) → 1 ≤ depth e
at-least-one (EName s) = omega arith
at-least-one (ECall s args) = omega arith
at-least-one ENever = omega arith
at-least-one (EBinary b a d) = omega arith
at-least-one (EDelay a m) = omega arith
at-least-one (EAwait a m) = omega arith
at-least-one (EFilter a w) = omega arith
at-least-one (EDelayed a at m d) = omega arith
at-least-one (EIf q a d) = omega arith

-- an operand counts no more than its depth
operand-below : (e : Expression) → operand_depth e (depth e) ≤ depth e
operand-below (EName s) = omega arith
operand-below (ECall s args) = omega arith
operand-below ENever = omega arith
operand-below (EBinary b a d) = omega arith
operand-below (EDelay a m) = omega arith
operand-below (EAwait a m) = omega arith
operand-below (EFilter a w) = omega arith
operand-below (EDelayed a at m d) = omega arith
operand-below (EIf q a d) = omega arith

module _ (K : Tables) (σ : Setting) where
  nests : (k : ℕ) (e : Expression) → nesting (resolve K σ k e) ≤ operand_depth e (depth e)
  nests k (EName s) = omega arith
  nests k (ECall s args) = let f = call-flat (look s.name K.calls) (resolve_arguments K σ k args) in omega arith
  nests k ENever = omega arith
  nests k (EBinary b a d) = let p = nests k a in let q = nests (k + length (texts a)) d in omega arith
  nests k (EDelay a m) = let p = nests k a in omega arith
  nests k (EAwait a m) = let p = nests k a in omega arith
  nests k (EFilter a w) = let p = nests k a in omega arith
  nests k (EDelayed a at m d) = let p = nests k a in let q = nests (k + length (texts a)) d in omega arith
  nests k (EIf q a d) =
      let p = nests k a in let p' = operand-below a in let p'' = at-least-one a in
      let r = nests (k + length (texts a)) d in let r' = operand-below d in omega arith

  pub shallow : (k : ℕ) (e : Expression) → accepted.depth (resolve K σ k e) ≤ depth e
  shallow k e = let p = nests k e in let q = operand-below e in let r = at-least-one e in omega arith
