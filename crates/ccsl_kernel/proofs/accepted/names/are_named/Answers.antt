use Rattle.std.proofs.Common.{◌≡◌, ℕ, List, [], get_or, nat_lt, cond, refl, sym, ap, ◌∙◌, arith}
use Rattle.std.specs.Prelude.{IsTrue}
use Rattle.std.proofs.lemmas.Bool.{false≢true}
use Rattle.std.proofs.lemmas.Option.{get_or_from_slice_get}
use Rattle.ccsl_base.specs.Name.{is_name}
use Rattle.ccsl_kernel.specs.Accepted.{is_hidden}
use Rattle.ccsl_kernel.proofs.EachOne.{each_zero_at, each_zero_from, each_below}
use Rattle.ccsl_kernel.proofs.accepted.names.are_named.Goals as goal

-- whether a name fits its clock
abbrev Fits : ℕ → ℕ → List ℕ → Type 0
Fits written i name = IsTrue (cond (nat_lt i written) (is_name name) (is_hidden name))

pub returns-then-not-fits_clock : goal.returns-then-not-fits_clock
returns-then-not-fits_clock c =
    let i = c.loop-i.i in
    let name : get_or c.args.names.now i [] ≡ c.get.result.now = get_or_from_slice_get c.args.names.now i c.get.result.now [] c.get.ensures.name in (
      λ h. absurd (false≢true h),
      λ all. absurd
          (false≢true
          (sym c.if-not-fits_clock.true
          ∙ c.fits_clock.ensures
          ∙ ap (λ (n : List ℕ). cond (nat_lt i c.args.written) (is_name n) (is_hidden n)) (sym name)
          ∙ each_zero_at (Fits c.args.written) c.args.names.now i [] (omega (arith, c.loop-i-test.true, c.len-i-end.ensures)) all)),
    )

pub loop-i-preserved : goal.loop-i-preserved
loop-i-preserved c =
    let i = c.loop-i.i in
    each_below (Fits c.args.written) i c.args.names.now c.loop-i.invariant
    (λ d. ap (λ (n : List ℕ). cond (nat_lt i c.args.written) (is_name n) (is_hidden n))
    (get_or_from_slice_get c.args.names.now i c.get.result.now d c.get.ensures.name)
    ∙ sym c.fits_clock.ensures
    ∙ c.if-not-fits_clock.false)

pub returns : goal.returns
returns c = (
  λ _. each_zero_from (Fits c.args.written) c.args.names.now (λ k d l. c.loop-i.invariant k d (omega (arith, l, c.loop-i-test.false, c.len-i-end.ensures))),
  λ _. refl,
)
