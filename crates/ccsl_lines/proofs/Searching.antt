-- What is read in search of a line feed.
use Rattle.std.proofs.Common.{◌≡◌, ℕ, ◌+◌, ◌-◌, ◌<◌, ◌≤◌, List, ◌++◌, length, take, false, true, sym, ap, ◌∙◌, ⊎_elim, arith, append_assoc}
use Rattle.std.proofs.Math.Seq.{take-append-add, take-append_seam}
use Rattle.std.proofs.lemmas.Bool.{cases_lt}
use Rattle.std.proofs.lemmas.List.{append-nil, take_all, take-append-le}
use Rattle.std.proofs.lemmas.List.Elements.{All-append, All-take}
use Rattle.ccsl_lines.specs.Lines.{Line, is_line_feed, parts, ended_lines}
use Rattle.ccsl_lines.specs.Held.{Held, HasNoLineFeed, Goes, going, ended}
use Rattle.ccsl_lines.specs.Laws.{SearchEndsNoLine}
use Rattle.ccsl_lines.proofs.Parts.{lines-then-ended, ended-none}

module _ (h : Held) (bytes more : List ℕ) (given : List Line) (g : Goes h bytes given) where
  -- of the pending bytes and of more some are taken
  abbrev IsSeen : ℕ → Type 0
  IsSeen k = take h.limit (bytes ++ more) ≡ (g.closed ++ g.front) ++ take k (h.pending ++ more)

  seen-past : h.limit < length bytes → IsSeen (length h.pending)
  seen-past l =
      take-append-le h.limit bytes more (omega (arith, l)) ∙ g.seen
      ∙ ap (λ xs. (g.closed ++ g.front) ++ xs) (sym (take-append_seam h.pending more))

  seen-within : length bytes ≤ h.limit → IsSeen (length h.pending + (h.limit - length bytes))
  seen-within l =
      let k : ℕ = h.limit - length bytes in
      let sum : h.limit ≡ length bytes + k = omega (arith, l) in
      ap (λ n. take n (bytes ++ more)) sum ∙ take-append-add bytes more k
      ∙ ap (λ xs. xs ++ take k more) (sym (take_all h.limit bytes l) ∙ g.seen)
      ∙ append_assoc (g.closed ++ g.front) h.pending (take k more)
      ∙ ap (λ xs. (g.closed ++ g.front) ++ xs) (sym (take-append-add h.pending more k))

  none-ended : (k : ℕ) → IsSeen k → HasNoLineFeed (h.pending ++ more) → ended_lines (parts (take h.limit (bytes ++ more))) ≡ given
  none-ended k e u =
      let rest : List ℕ = take k (h.pending ++ more) in
      let none : HasNoLineFeed (g.front ++ rest) =
      All-append (λ b. is_line_feed b ≡ false) g.front rest g.unended (All-take (λ b. is_line_feed b ≡ false) k (h.pending ++ more) u) in
      ap (λ xs. ended_lines (parts xs)) (e ∙ append_assoc g.closed g.front rest)
      ∙ lines-then-ended g.closed (g.front ++ rest) given g.are_lines
      ∙ ap (λ ls. given ++ ls) (ended-none (g.front ++ rest) none)
      ∙ append-nil given

  pub ends-no-line : HasNoLineFeed (h.pending ++ more) → ended_lines (parts (take h.limit (bytes ++ more))) ≡ given
  ends-no-line u =
      ⊎_elim
      (λ past. none-ended (length h.pending) (seen-past past) u)
      (λ within. none-ended (length h.pending + (h.limit - length bytes)) (seen-within within) u)
      (cases_lt h.limit (length bytes))

pub search_ends_no_line : SearchEndsNoLine
search_ends_no_line h bytes more given (going runs goes) r u = ends-no-line h bytes more given goes u
search_ends_no_line h bytes more given (ended end all) r u = absurd (let e : true ≡ false = sym end ∙ r in cc)
