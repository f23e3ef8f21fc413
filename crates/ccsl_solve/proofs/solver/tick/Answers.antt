use Rattle.std.proofs.Common.{◌≡◌, ◌∙◌, Bool, true, false, ◌||◌, ◌&&◌, refl, sym, ap, ⊎_elim}
use Rattle.std.proofs.lemmas.Bool.{cases_eq, eq-eqb, ne_eqb}
use Rattle.ccsl_base.specs.Clocks.{ticks_in, with_clock}
use Rattle.ccsl_base.proofs.Sets.{ticks_in-with_same, ticks_in-with_other}
use Rattle.ccsl_formula.specs.Known.{known}
use Rattle.ccsl_solve.specs.Under.{is_yes}
use Rattle.ccsl_solve.proofs.solver.tick.Goals as goal

pub returns-in-Yes : goal.returns-in-Yes
returns-in-Yes c = λ x.
    let y = c.args.clock in
    let old = c.args.set.now in
    let yes : true ≡ is_yes (known c.args.part.now y) = ap is_yes c.in-Yes.ensures.value in
    ap (ticks_in x) c.insert.ensures
    ∙ ⊎_elim
    (λ same. ap (λ z. ticks_in z (with_clock y old)) same ∙ ticks_in-with_same y old
    ∙ yes ∙ true-or (is_yes (known c.args.part.now y)) (ticks_in x old) (sym yes)
    ∙ ap (λ t. (t && is_yes (known c.args.part.now y)) || ticks_in x old) (sym (eq-eqb x y same)))
    (λ other. ticks_in-with_other y x old other ∙ ap (λ t. (t && is_yes (known c.args.part.now y)) || ticks_in x old) (sym (ne_eqb x y other)))
    (cases_eq x y)
  where
    true-or : (a b : Bool) → a ≡ true → a ≡ (a || b)
    true-or true b e = refl
    true-or false b e = absurd (cc)
