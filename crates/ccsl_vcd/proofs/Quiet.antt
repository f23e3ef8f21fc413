-- A token in the header makes no change.
use Rattle.std.proofs.Common.{◌≡◌, ◌+◌, List, [], length, Bool, true, false, Option, Some, None, Result, Ok, Err, nat_le, cond, refl}
use Rattle.ccsl_vcd_lex.specs.Tokens.{Token}
use Rattle.ccsl_vcd.specs.declared.fault.VcdFault.{VcdFault}
use Rattle.ccsl_vcd.specs.declared.fault.VcdFault.TheVariants as faults
use Rattle.ccsl_vcd.specs.declared.limits.Limits.{Limits}
use Rattle.ccsl_vcd.specs.Binding.{Wanted, Bound, Declaration, bind}
use Rattle.ccsl_vcd.specs.Places as p
use Rattle.ccsl_vcd.specs.Header as d

-- no change is made
abbrev pub Quiet : p.Said → Type 0
Quiet (p.goes v ds) = ds ≡ []
Quiet (p.refused f) = Unit {0}

starts-quiet : (l : Limits) (h : p.Header) (t : Token) (x : d.HeaderWord) → Quiet (d.starts l h t x)
starts-quiet l h t d.end_command = tt
starts-quiet l h t d.plain = tt
starts-quiet l h t d.var =
    elim (nat_le l.vars (length h.declared)) as (λ b. Quiet
    (cond b (p.refused (faults.TooManyVars t.at)) (p.goes (p.header (record h { among = p.inside t [] })) []))) [ true ↦ tt | false ↦ refl ]
starts-quiet l h t d.scope = refl
starts-quiet l h t d.upscope = refl
starts-quiet l h t d.end_definitions = refl
starts-quiet l h t d.other_command = refl

declared-quiet : (h : p.Header) (t : Token) (o : Option Declaration) → Quiet (d.put_declared h t o)
declared-quiet h t (Some e) = refl
declared-quiet h t None = tt

opens-quiet : (ds : List Declaration) (r : Result (List Bound) VcdFault) → Quiet (d.opens ds r)
opens-quiet ds (Ok bound) = refl
opens-quiet ds (Err f) = tt

ends-quiet : (wanted : Wanted) (l : Limits) (h : p.Header) (x : d.HeaderWord) (head : Token) (words : List Token) (t : Token)
    → Quiet (d.ends wanted l h x head words t)
ends-quiet wanted l h d.var head words t = declared-quiet h t (d.declares h.depth words)
ends-quiet wanted l h d.scope head words t =
    elim (nat_le l.scopes h.depth) as (λ b. Quiet
    (cond b (p.refused (faults.TooDeep head.at)) (p.goes (p.header (record h { among = p.commands; depth = h.depth + 1 })) []))) [
      | true ↦ tt
      | false ↦ refl
    ]
ends-quiet wanted l h d.upscope head words t = refl
ends-quiet wanted l h d.end_definitions head words t = opens-quiet h.declared (bind wanted h.declared)
ends-quiet wanted l h d.other_command head words t = refl
ends-quiet wanted l h d.end_command head words t = refl
ends-quiet wanted l h d.plain head words t = refl

fits-quiet : (b : Bool) (v : p.Where) (f : VcdFault) → Quiet (cond b (p.goes v []) (p.refused f))
fits-quiet true v f = refl
fits-quiet false v f = tt

inside-quiet : (wanted : Wanted) (l : Limits) (h : p.Header) (head : Token) (words : List Token) (t : Token) (x : d.HeaderWord)
    → Quiet (d.inside_says wanted l h head words t x)
inside-quiet wanted l h head words t d.end_command = ends-quiet wanted l h (d.header_word head.text) head words t
inside-quiet wanted l h head words t d.var = fits-quiet _ _ _
inside-quiet wanted l h head words t d.scope = fits-quiet _ _ _
inside-quiet wanted l h head words t d.upscope = fits-quiet _ _ _
inside-quiet wanted l h head words t d.end_definitions = fits-quiet _ _ _
inside-quiet wanted l h head words t d.other_command = fits-quiet _ _ _
inside-quiet wanted l h head words t d.plain = fits-quiet _ _ _

pub header-quiet : (wanted : Wanted) (l : Limits) (h : p.Header) (t : Token) (a : p.Among) → Quiet (d.header_says wanted l h t a)
header-quiet wanted l h t p.commands = starts-quiet l h t (d.header_word t.text)
header-quiet wanted l h t (p.inside head words) = inside-quiet wanted l h head words t (d.header_word t.text)
