-- Where the first line feed stands.
use Rattle.std.proofs.Common.{◌≡◌, ℕ, ◌+◌, ◌<◌, List, ◌∷◌, ◌++◌, length, take, drop, get_or, Some, None, true, not, [], cond, position, sym, ap, ◌∙◌, ⊎_elim}
use Rattle.std.proofs.Common.{arith, length-take}
use Rattle.std.specs.List.{position_or_len}
use Rattle.std.proofs.lemmas.Bool.{cases_lt, lt-ltb, not-true, eqb-true}
use Rattle.std.proofs.lemmas.List.{take-append-drop, drop_more, get_or-take}
use Rattle.std.proofs.lemmas.List.Quantifiers.{position-Some}
use Rattle.std.proofs.lemmas.List.Sums.{prefix_len_passes}
use Rattle.ccsl_lines.specs.Lines.{is_line_feed}
use Rattle.ccsl_lines.specs.Held.{Held}
use Rattle.ccsl_lines.specs.Part.{added}
use Rattle.ccsl_lines.specs.Steps.{EndsLine, TakesAll}

cut-at : (xs : List ℕ) (at : ℕ) → at < length xs → is_line_feed (get_or xs at 0) ≡ true → xs ≡ take at xs ++ 10 ∷ drop (at + 1) xs
cut-at xs at l e =
    sym (take-append-drop at xs)
    ∙ ap (λ w. take at xs ++ w) (drop_more xs at 0 l ∙ ap (λ b. b ∷ drop (at + 1) xs) (eqb-true _ 10 e))

-- the pending bytes have a line feed there
pub ends-line : (before after : Held) (at : ℕ) → position is_line_feed before.pending ≡ Some at
    → after.pending ≡ drop (at + 1) before.pending → after.part ≡ added before.part (take at before.pending) → EndsLine before after
ends-line before after at e pending part =
    let p = position-Some is_line_feed before.pending at 0 e in
    record {
      bytes = take at before.pending;
      pending = cut-at before.pending at p.0 p.1 ∙ ap (λ w. take at before.pending ++ 10 ∷ w) (sym pending);
      unended = λ k d l.
          let below : k < at = omega (arith, length-take at before.pending) in
          ap is_line_feed (get_or-take at before.pending k d below) ∙ (position-Some is_line_feed before.pending at d e).2 k below;
      part = part;
    }

-- they have none
pub takes-all : (before after : Held) → position is_line_feed before.pending ≡ None
    → after.pending ≡ [] → after.part ≡ added before.part before.pending → TakesAll before after
takes-all before after e none part =
    let xs = before.pending in
    record {
      unended = λ k d l.
          ⊎_elim
          (λ there. absurd (cc (ap (λ b. cond b (Some (position_or_len is_line_feed xs)) None) (lt-ltb (position_or_len is_line_feed xs) (length xs) there))))
          (λ past. not-true _ (prefix_len_passes (λ b. not (is_line_feed b)) xs k d (omega arith)))
          (cases_lt (position_or_len is_line_feed xs) (length xs));
      none = none;
      part = part;
    }
