-- What a reader stands for, against the lines of the whole input.
use Rattle.std.proofs.Common.{◌≡◌, ℕ, ◌+◌, ◌-◌, ◌<◌, ◌≤◌, List, [], ◌++◌, length, take, cond, sym, ap, ◌∙◌, ⊎_elim, arith, append_assoc}
use Rattle.std.proofs.Math.Seq.{take-append-add}
use Rattle.std.proofs.lemmas.Bool.{cases_lt, lt-ltb, le-ltb}
use Rattle.std.proofs.lemmas.List.{append-nil, take_all, take-append-le}
use Rattle.ccsl_lines.specs.Lines.{Line, parts, ended_lines, all_lines, lines_taken}
use Rattle.ccsl_lines.specs.Held.{going, ended, AreLines}
use Rattle.ccsl_lines.specs.Laws.{Begins, GivenLinesAreTaken, FewBytesAreRead}
use Rattle.ccsl_lines.proofs.Parts.{lines-then-ended, lines-then-all}

pub taken-past : (limit : ℕ) (input : List ℕ) → limit < length input → lines_taken limit input ≡ ended_lines (parts (take limit input))
taken-past limit input l = ap (λ b. cond b (ended_lines (parts (take limit input))) (all_lines (parts input))) (lt-ltb limit (length input) l)

pub taken-within : (limit : ℕ) (input : List ℕ) → length input ≤ limit → lines_taken limit input ≡ all_lines (parts input)
taken-within limit input l = ap (λ b. cond b (ended_lines (parts (take limit input))) (all_lines (parts input))) (le-ltb limit (length input) l)

-- what is taken of an input begins with what is taken of its front
take-front : (limit : ℕ) (bytes rest : List ℕ) → (behind : List ℕ) × (take limit (bytes ++ rest) ≡ take limit bytes ++ behind)
take-front limit bytes rest =
    ⊎_elim
    (λ past. ([], take-append-le limit bytes rest (omega arith) ∙ sym (append-nil (take limit bytes))))
    (λ within. (
      take (limit - length bytes) rest,
      ap (λ n. take n (bytes ++ rest)) (let e : limit ≡ length bytes + (limit - length bytes) = omega arith in e)
          ∙ take-append-add bytes rest (limit - length bytes)
          ∙ ap (λ w. w ++ take (limit - length bytes) rest) (sym (take_all limit bytes within)),
    ))
    (cases_lt limit (length bytes))

-- the lines that were handed out begin those that are taken of any input that goes on
begins : (limit : ℕ) (bytes rest closed behind : List ℕ) (lines : List Line) → AreLines closed lines → take limit bytes ≡ closed ++ behind
    → Begins lines (lines_taken limit (bytes ++ rest))
begins limit bytes rest closed behind lines a e =
    let front = take-front limit bytes rest in
    let all : take limit (bytes ++ rest) ≡ closed ++ (behind ++ front.0) = front.1 ∙ ap (λ w. w ++ front.0) e ∙ append_assoc closed behind front.0 in
    ⊎_elim
    (λ past. record {
      behind = ended_lines (parts (behind ++ front.0));
      is = taken-past limit (bytes ++ rest) past ∙ ap (λ w. ended_lines (parts w)) all ∙ lines-then-ended closed (behind ++ front.0) lines a;
    })
    (λ within. record {
      behind = all_lines (parts (behind ++ front.0));
      is =
          taken-within limit (bytes ++ rest) within
          ∙ ap (λ w. all_lines (parts w)) (sym (take_all limit (bytes ++ rest) within) ∙ all)
          ∙ lines-then-all closed (behind ++ front.0) lines a;
    })
    (cases_lt limit (length (bytes ++ rest)))

pub given_lines_are_taken : GivenLinesAreTaken
given_lines_are_taken h bytes rest given (going runs g) last =
    begins h.limit bytes rest g.closed (g.front ++ h.pending) given g.are_lines (g.seen ∙ append_assoc g.closed g.front h.pending)
given_lines_are_taken h bytes rest given (ended end e) last = record {
  behind = [];
  is = ap (λ w. lines_taken h.limit (bytes ++ w)) (last end) ∙ ap (lines_taken h.limit) (append-nil bytes) ∙ e.lines_are ∙ sym (append-nil given);
}

pub few_bytes_are_read : FewBytesAreRead
few_bytes_are_read h bytes given (going runs g) = g.few
few_bytes_are_read h bytes given (ended end e) = omega (arith, e.few)
