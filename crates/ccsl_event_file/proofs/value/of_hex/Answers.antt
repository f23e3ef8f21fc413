use Rattle.std.proofs.Common.{◌≡◌, [], get_or, drop, true, Some, refl, sym, ap, ◌∙◌, arith}
use Rattle.std.specs.List.{list_all, flat_map}
use Rattle.std.proofs.lemmas.List.{drop_all}
use Rattle.std.proofs.lemmas.List.Folds.{list_all_at}
use Rattle.ccsl_event_file.specs.Values.{bits, is_hex, hex_bits, without_zeros, or_zero}
use Rattle.ccsl_event_file.specs.Letters.{extended}
use Rattle.ccsl_event_file.proofs.Bits.{hex-some, hex-none, all-more, put_digit, extended-nil}
use Rattle.ccsl_event_file.proofs.value.of_hex.Goals as goal

pub loop-digit-preserved : goal.loop-digit-preserved
loop-digit-preserved c =
    let i = c.loop-digit.digit-index in
    let digits = c.args.digits.now in
    let hex = hex-some (get_or digits i 0) c.in-Some.value c.in-Some.ensures in
    let put : c.put_bits.new.letters.items ≡ extended c.loop-digit.letters.items (bits 4 c.in-Some.value) = c.in_ok-put_bits.ensures in
    record {
      all = all-more i digits (omega arith) hex.0 ∙ c.loop-digit.invariant.all;
      same = put_digit i digits c.loop-digit.letters.items c.put_bits.new.letters.items (omega arith)
          (put ∙ ap (λ v. extended c.loop-digit.letters.items (bits 4 v)) hex.1) ∙ c.loop-digit.invariant.same;
    }

pub loop-digit-init : goal.loop-digit-init
loop-digit-init c = record {
  all = refl;
  same = ap (λ ls. extended ls (flat_map hex_bits c.args.digits.now)) c.new-letters.ensures.items;
}

pub returns-in_default : goal.returns-in_default
returns-in_default c =
    let i = c.loop-digit.digit-index in
    let digits = c.args.digits.now in
    let no = hex-none (get_or digits i 0) (sym c.in_default.is ∙ c.hex_digit.ensures) in
    rw (list_all_at is_hex digits i 0 c.loop-digit-test.true no) refl

pub returns : goal.returns
returns c =
    let digits = c.args.digits.now in
    let letters = c.loop-digit.letters.items in
    let none : drop c.loop-digit.digit-index digits ≡ [] = drop_all c.loop-digit.digit-index digits c.loop-digit-test.false in
    let all : list_all is_hex digits ≡ true = sym c.loop-digit.invariant.all ∙ ap (list_all is_hex) none in
    let same : letters ≡ without_zeros (flat_map hex_bits digits) =
    sym (extended-nil letters) ∙ ap (λ ds. extended letters (flat_map hex_bits ds)) (sym none) ∙ c.loop-digit.invariant.same in
    rw all (ap (λ ls. Some ls) (c.in_ok-or_zero.ensures ∙ ap or_zero same))
