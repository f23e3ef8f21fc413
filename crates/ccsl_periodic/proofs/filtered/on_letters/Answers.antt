use Rattle.std.proofs.Common.{◌≡◌, arith, sym, ap, ◌∙◌}
use Rattle.std.proofs.lemmas.Grind.{common_steps}
use Rattle.std.proofs.lemmas.List.FromFn.{map-range_with_len_more}
use Rattle.ccsl_words.specs.Word.{letter}
use Rattle.ccsl_periodic.specs.Filtered.{on_letter}
use Rattle.ccsl_periodic.proofs.Counts.{ones-next, byte-le}
use Rattle.ccsl_periodic.proofs.Plain.{on_yes, on_no}
use Rattle.ccsl_periodic.proofs.filtered.on_letters.Goals as goal
use Rattle.ccsl_periodic.proofs.filtered.on_letters.Goals.{After-from, then-left_ticks, else-left_ticks}

letter_is : (c : After-from) → c.if-left_ticks.push ≡ on_letter c.args.left.now c.args.right.now c.loop-k.k
letter_is c =
    let u = c.args.left.now in
    let v = c.args.right.now in
    let k = c.loop-k.k in
    elim c.if-left_ticks.branch [
      | then-left_ticks w ↦ on_yes u v k c.if-left_ticks.push (sym c.letter-left_ticks.ensures ∙ w.if-left_ticks.true)
          (w.push-is ∙ w.letter.ensures ∙ ap (letter v) c.loop-k.invariant.counted)
      | else-left_ticks w ↦ on_no u v k c.if-left_ticks.push (sym c.letter-left_ticks.ensures ∙ w.if-left_ticks.false) (w.push-is ∙ w.if-left_ticks.false)
    ]

pub loop-k-preserved : goal.loop-k-preserved
loop-k-preserved c = record {
  read =
      let more = map-range_with_len_more (on_letter c.args.left.now c.args.right.now) 0 c.loop-k.k c.loop-k.k (omega arith) in
      let last = letter_is c in
      let before = c.loop-k.invariant.read in
      grind (arith, common_steps, more, last, before);
  counted = ones-next c.args.left.now c.loop-k.k _ _ _ c.loop-k.invariant.counted c.letter-left_ticks.ensures c.from.ensures;
  few = omega (arith, c.loop-k.invariant.few, c.from.ensures, byte-le c.letter-left_ticks.result);
}
