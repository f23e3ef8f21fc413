use Rattle.std.proofs.Common.{◌≡◌, ℕ, ◌+◌, [], ◌∷◌, ◌++◌, vec_len, cond, not, get_or, sym, ap, ◌∙◌, subst, arith, rules, tests, false}
use Rattle.std.proofs.lemmas.List.{at_drop_more, at_drop_all}
use Rattle.ccsl_words.specs.Spelling.{digit, digits, is_digit}
use Rattle.ccsl_words.specs.Front.{HasLetters, begins_with_letter}
use Rattle.ccsl_words.proofs.OneMore.{one_more, front_more, leads_behind}
use Rattle.ccsl_words.proofs.front.letters_at_front.Goals as goal
use Rattle.ccsl_words.proofs.front.letters_at_front.Goals.{in-48, in-49}

pub returns-then-len-room-clause-long : goal.returns-then-len-room-clause-long
returns-then-len-room-clause-long c =
    let here : get_or c.args.text.now c.loop-byte.byte-index 0 ≡ digit c.match-byte.letter =
    elim c.match-byte.branch [ in-48 w ↦ cc (w.in-48.is, ap digit w.letter-is) | in-49 w ↦ cc (w.in-49.is, ap digit w.letter-is) ] in
    let full : c.loop-byte.byte-index ≡ c.args.room = cc in
    λ _. subst (λ (n : ℕ). HasLetters c.args.text.now (n + 1)) full
    (one_more c.args.text.now c.loop-byte.letters.items c.match-byte.letter c.loop-byte.byte-index c.loop-byte.invariant.read (cc (c.loop-byte.letters.ok.0))
    c.loop-byte-test.true here)

pub returns-in_default-clause-letters : goal.returns-in_default-clause-letters
returns-in_default-clause-letters c =
    let here : is_digit (get_or c.args.text.now c.loop-byte.byte-index 0) ≡ false = search (tests, rules) in
    leads_behind c.args.text.now c.loop-byte.letters.items c.loop-byte.byte-index c.loop-byte.invariant.read (cc (c.loop-byte.letters.ok.0))
    (at_drop_more begins_with_letter c.args.text.now c.loop-byte.byte-index 0 c.loop-byte-test.true ∙ here)

pub loop-byte-preserved : goal.loop-byte-preserved
loop-byte-preserved c =
    let old = c.loop-byte.letters in
    let letter = c.match-byte.letter in
    let here : get_or c.args.text.now c.loop-byte.byte-index 0 ≡ digit letter =
    elim c.match-byte.branch [ in-48 w ↦ cc (w.in-48.is, ap digit w.letter-is) | in-49 w ↦ cc (w.in-49.is, ap digit w.letter-is) ] in
    let pushed = c.is_err.ensures.negation ∙ ap not c.if-is_err.false in
    record {
      read = front_more c.args.text.now old.items letter c.loop-byte.byte-index c.loop-byte.invariant.read c.loop-byte-test.true here
          ∙ ap digits (sym (c.push.ensures.items ∙ ap (λ b. cond b (old.items ++ letter ∷ []) old.items) pushed));
      counted = c.push.ensures.len ∙ ap (λ b. cond b (vec_len old + 1) (vec_len old)) pushed ∙ ap (λ n. n + 1) c.loop-byte.invariant.counted;
      few = omega (arith, c.loop-byte.invariant.few, c.loop-byte.invariant.counted, c.len.ensures, c.if-len-room.false);
    }

pub returns-clause-letters : goal.returns-clause-letters
returns-clause-letters c =
    leads_behind c.args.text.now c.loop-byte.letters.items c.loop-byte.byte-index c.loop-byte.invariant.read (cc (c.loop-byte.letters.ok.0))
    (at_drop_all begins_with_letter c.args.text.now c.loop-byte.byte-index c.loop-byte-test.false)
