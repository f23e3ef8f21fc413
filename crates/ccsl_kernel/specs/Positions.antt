-- The places in the body of a member: inside an operator, in tail position, or in tail position within the right operand of a
-- then in tail position.
use Rattle.ccsl_kernel.specs.declared.position.Position.{Position}
use Rattle.ccsl_kernel.specs.declared.position.Position.TheVariants.{Inner, Tail, Guarded}

-- the place of the right operand of a then
abbrev pub guarded : Position → Position
guarded Inner = Inner
guarded Tail = Guarded
guarded Guarded = Guarded
