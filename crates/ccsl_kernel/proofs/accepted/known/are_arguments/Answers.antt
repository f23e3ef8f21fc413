use Rattle.std.proofs.Common.{get_or, map, sym, subst, refl, arith, ◌∙◌}
use Rattle.std.proofs.lemmas.Bool.{false≢true}
use Rattle.ccsl_kernel.specs.declared.expr.Value.{Value}
use Rattle.ccsl_kernel.specs.declared.group.ParamKind.TheVariants as kind
use Rattle.ccsl_kernel.specs.Plain.{plain_group}
use Rattle.ccsl_kernel.specs.Accepted.{IsArgument}
use Rattle.ccsl_kernel.proofs.Arguments.{arguments_len, arguments_at, arguments_from}
use Rattle.ccsl_kernel.proofs.accepted.known.are_arguments.Goals as goal

pub returns-then-params-arguments : goal.returns-then-params-arguments
returns-then-params-arguments c =
    let here = c.args.here.now in (
      λ h. absurd (false≢true h),
      λ all. absurd (c.if-params-arguments.true
          (arguments_len (map plain_group here.groups.now) here.words.now here.clocks here.params.now c.args.params.now c.args.arguments.now all)),
    )

pub returns-then-not-is_argument : goal.returns-then-not-is_argument
returns-then-not-is_argument c =
    let here = c.args.here.now in (
      λ h. absurd (false≢true h),
      λ all. absurd
          (false≢true
          (sym c.if-not-is_argument.true
          ∙ c.is_argument.ensures.1
          (subst (λ (v : Value). IsArgument (map plain_group here.groups.now) here.words.now here.clocks here.params.now
          (get_or c.args.params.now c.loop-i.i kind.Clock) v) (sym c.index-arguments-i.is)
          (arguments_at (map plain_group here.groups.now) here.words.now here.clocks here.params.now c.args.params.now c.args.arguments.now c.loop-i.i
          kind.Clock c.index-arguments-i.result c.loop-i-test.true all)))),
    )

pub returns : goal.returns
returns c =
    let here = c.args.here.now in (
      λ _. arguments_from (map plain_group here.groups.now) here.words.now here.clocks here.params.now c.args.params.now c.args.arguments.now
          c.if-params-arguments.false
          (λ j k v l. c.loop-i.invariant j k v (omega (arith, l, c.loop-i-test.false))),
      λ _. refl,
    )
