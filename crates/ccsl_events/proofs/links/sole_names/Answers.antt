use Rattle.std.proofs.Common.{◌≡◌, ◌<◌, ℕ, [], ◌∷◌, Option, Some, None, length, sym, ap, subst, ◌∙◌, arith, length-append}
use Rattle.std.specs.Prelude.{IfSome}
use Rattle.ccsl_events.specs.Keeping.{IsSoleOf, sole_at, AreSole}
use Rattle.ccsl_events.proofs.Users.{sole-more, got-users}
use Rattle.ccsl_events.proofs.links.sole_names.Goals as goal

where-some : (o : Option ℕ) (P : ℕ → Type 0) → IfSome o P → (x : ℕ) → o ≡ Some x → P x
where-some None P h x e = absurd (cc)
where-some (Some y) P h x e = let same : y ≡ x = cc in subst P same h

pub loop-number-init : goal.loop-number-init
loop-number-init c = record {
  len = sym (ap length c.in_ok-names.ensures.items);
  sole = λ n name e. absurd (let no : sole_at c.in_ok-names.names.items n ≡ None = ap (λ names. sole_at names n) c.in_ok-names.ensures.items in cc (no, e));
}

pub loop-number-preserved : goal.loop-number-preserved
loop-number-preserved c =
    let watches = c.args.watches.now in
    let users = c.args.users.now in
    let names = c.loop-number.names.items in
    let number = c.loop-number.number in
    let last = c.sole_name.result in
    let here : number < length users = omega (arith, c.loop-number-test.true, c.loop-number.auto.number-end) in
    let read = c.as_slice.ensures.value ∙ sym (got-users users number c.index-users-number.result here c.index-users-number.is) in
    record {
      len = omega (arith, ap length c.in_ok-push.ensures.items, c.loop-number.invariant.len, length-append names (last ∷ []));
      sole = subst (AreSole watches users) (sym c.in_ok-push.ensures.items)
          (sole-more watches users names last number c.loop-number.invariant.len c.loop-number.invariant.sole
          (λ name is. subst (λ us. IsSoleOf watches us number name) read
          (where-some last (IsSoleOf watches c.as_slice.result.now number) c.sole_name.ensures name is)));
    }
