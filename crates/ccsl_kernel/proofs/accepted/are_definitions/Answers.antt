use Rattle.std.proofs.Common.{◌+◌, refl, sym, subst, ◌∙◌, arith}
use Rattle.std.proofs.lemmas.Bool.{false≢true}
use Rattle.ccsl_kernel.specs.declared.expr.Expr.{Expr}
use Rattle.ccsl_kernel.specs.Plain.{plain_expr, plain_system}
use Rattle.ccsl_kernel.specs.Accepted.{IsDefinition}
use Rattle.ccsl_kernel.proofs.EachOne.{each_made_at, each_made_from}
use Rattle.ccsl_kernel.proofs.accepted.are_definitions.Goals as goal

pub returns-then-not-is_definition : goal.returns-then-not-is_definition
returns-then-not-is_definition c =
    let K = plain_system c.args.parts.now in
    let i = c.loop-i.i in (
      λ h. absurd (false≢true h),
      λ all. absurd
          (false≢true
          (sym c.if-not-is_definition.true
          ∙ c.is_definition.ensures.1
          (subst (λ (e : Expr). IsDefinition K (c.args.declared + i) (plain_expr e)) (sym c.index-definitions-i.is)
          (each_made_at (IsDefinition K) plain_expr c.args.declared c.args.definitions.now i c.index-definitions-i.result c.loop-i-test.true all)))),
    )

pub returns : goal.returns
returns c =
    let K = plain_system c.args.parts.now in (
      λ _. each_made_from (IsDefinition K) plain_expr c.args.declared c.args.definitions.now
          (λ k d l. c.loop-i.invariant k d (omega (arith, l, c.loop-i-test.false))),
      λ _. refl,
    )
