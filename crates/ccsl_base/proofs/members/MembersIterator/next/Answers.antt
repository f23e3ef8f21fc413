use Rattle.std.proofs.Common.{◌≡◌, ◌≤◌, ◌+◌, ◌*◌, ap, sym, ◌∙◌, arith, refl, suc, length, [], nat_eq}
use Rattle.std.specs.Int.{w64}
use Rattle.std.proofs.lemmas.Nat.Bits.{bit_at_clear_same, bit_at_clear_other}
use Rattle.ccsl_base.specs.Bits.{members_left}
use Rattle.ccsl_base.proofs.Words.{left-skip, left-over, left-next}
use Rattle.ccsl_base.proofs.members.MembersIterator.next.Goals as goal

pub words-init : goal.words-init
words-init c = record { same = refl; few = c.self.invariant }

pub invariant_of-self : goal.invariant_of-self
invariant_of-self c = c.words.invariant.few

pub returns-in_err-word-clause-steps : goal.returns-in_err-word-clause-steps
returns-in_err-word-clause-steps c =
    let over : members_left c.words.self-inside.word c.words.self-inside.first c.words.self-inside.words.now ≡ [] =
    left-over c.words.self-inside.word c.words.self-inside.first c.words.self-inside.words.now c.words-test.true c.in_err-word.ensures.cases in
    rw c.from_residual.ensures (sym c.self.view_is ∙ sym c.words.invariant.same ∙ over, over)

pub overflow_add-self : goal.overflow_add-self
overflow_add-self c = omega (arith, c.words.invariant.few)

pub words-preserved : goal.words-preserved
words-preserved c =
    let few : length c.in_ok-word.others.now + 1 ≡ length c.words.self-inside.words.now = c.in_ok-word.ensures.cases.1 in
    let few' : c.words.self-inside.first + 64 * suc (length c.words.self-inside.words.now) ≤ 1024 = c.words.invariant.few in record {
      same = sym (ap (λ w. members_left w c.words.self-inside.first c.words.self-inside.words.now) c.words-test.true
          ∙ ap (members_left 0 c.words.self-inside.first) c.in_ok-word.ensures.cases.0
          ∙ left-skip c.in_ok-word.word.now c.words.self-inside.first c.in_ok-word.others.now)
          ∙ c.words.invariant.same;
      few = omega (arith, few, few');
    }

pub overflow_add-result : goal.overflow_add-result
overflow_add-result c = omega (arith, c.words.invariant.few, c.lowest-place.ensures.inside)

pub invariant_of-self-2 : goal.invariant_of-self-2
invariant_of-self-2 c = c.words.invariant.few

pub returns-clause-steps : goal.returns-clause-steps
returns-clause-steps c =
    sym c.self.view_is
    ∙ sym c.words.invariant.same
    ∙ left-next c.words.self-inside.word _ c.words.self-inside.first c.lowest-place.result c.words.self-inside.words.now c.lowest-place.ensures.inside
    c.lowest-place.ensures.here c.lowest-place.ensures.below
    (ap (λ b. nat_eq b 1) (bit_at_clear_same w64 _ c.lowest-place.result c.lowest-place.ensures.inside))
    (λ i l n. ap (λ b. nat_eq b 1) (bit_at_clear_other w64 _ c.lowest-place.result c.lowest-place.ensures.inside i l n))

pub returns-clause-goes : goal.returns-clause-goes
returns-clause-goes c =
    let more = ap length (returns-clause-steps c) in record {
      on = λ _. (tt, tt, omega (arith, more));
      keeps = tt;
      rests = λ _. tt;
    }
