-- The lines of parts, one list of parts behind another.
use Rattle.std.proofs.Common.{◌≡◌, ℕ, ◌<◌, List, [], ◌∷◌, ◌++◌, length, map, sym, ap, ◌∙◌, refl, arith, append_assoc, length-append}
use Rattle.std.proofs.lemmas.List.{map-append}
use Rattle.std.proofs.lemmas.List.Splits.{slice_split_none, slice_split_at, length-slice_split}
use Rattle.ccsl_lines.specs.Lines.{Line, is_line_feed, parts, line_of, ended_lines, all_lines}
use Rattle.ccsl_lines.specs.Held.{HasNoLineFeed, AreLines}

ended_lines-cons : (p : List ℕ) (ps : List (List ℕ)) → 0 < length ps → ended_lines (p ∷ ps) ≡ line_of p ∷ ended_lines ps
ended_lines-cons p [] l = absurd (omega arith)
ended_lines-cons p (q ∷ ps) l = refl

all_lines-cons : (p : List ℕ) (ps : List (List ℕ)) → 0 < length ps → all_lines (p ∷ ps) ≡ line_of p ∷ all_lines ps
all_lines-cons p [] l = absurd (omega arith)
all_lines-cons [] (q ∷ ps) l = refl
all_lines-cons (b ∷ bs) (q ∷ ps) l = refl

more : (ps qs : List (List ℕ)) → 0 < length qs → 0 < length (ps ++ qs)
more ps qs l = omega (arith, length-append ps qs)

ended_lines-append : (ps qs : List (List ℕ)) → 0 < length qs → ended_lines (ps ++ qs) ≡ map line_of ps ++ ended_lines qs
ended_lines-append [] qs l = refl
ended_lines-append (p ∷ ps) qs l = ended_lines-cons p (ps ++ qs) (more ps qs l) ∙ ap (λ ls. line_of p ∷ ls) (ended_lines-append ps qs l)

all_lines-append : (ps qs : List (List ℕ)) → 0 < length qs → all_lines (ps ++ qs) ≡ map line_of ps ++ all_lines qs
all_lines-append [] qs l = refl
all_lines-append (p ∷ ps) qs l = all_lines-cons p (ps ++ qs) (more ps qs l) ∙ ap (λ ls. line_of p ∷ ls) (all_lines-append ps qs l)

some : (bytes : List ℕ) → 0 < length (parts bytes)
some bytes = omega (arith, length-slice_split is_line_feed bytes)

-- lines, and then what ends at a line feed behind them
pub lines-then-ended : (closed behind : List ℕ) (lines : List Line) → AreLines closed lines
    → ended_lines (parts (closed ++ behind)) ≡ lines ++ ended_lines (parts behind)
lines-then-ended closed behind lines a =
    ap ended_lines (a.split behind)
    ∙ ended_lines-append a.closed (parts behind) (some behind)
    ∙ ap (λ ls. ls ++ ended_lines (parts behind)) (sym a.lines_are)

-- and then all behind them
pub lines-then-all : (closed behind : List ℕ) (lines : List Line) → AreLines closed lines
    → all_lines (parts (closed ++ behind)) ≡ lines ++ all_lines (parts behind)
lines-then-all closed behind lines a =
    ap all_lines (a.split behind)
    ∙ all_lines-append a.closed (parts behind) (some behind)
    ∙ ap (λ ls. ls ++ all_lines (parts behind)) (sym a.lines_are)

-- a front without a line feed is no line that ends at one
pub ended-none : (front : List ℕ) → HasNoLineFeed front → ended_lines (parts front) ≡ []
ended-none front h = ap ended_lines (slice_split_none is_line_feed front h)

-- it is the last line, where it has a byte
pub all-last : (front : List ℕ) → HasNoLineFeed front → (front ≡ [] → ⊥) → all_lines (parts front) ≡ line_of front ∷ []
all-last [] h some = absurd (some refl)
all-last (b ∷ bs) h some = ap all_lines (slice_split_none is_line_feed (b ∷ bs) h)

-- one part more, which ends at a line feed
pub AreLines-more : (closed part : List ℕ) (lines : List Line) (line : Line) → AreLines closed lines → HasNoLineFeed part → line ≡ line_of part
    → AreLines (closed ++ (part ++ 10 ∷ [])) (lines ++ line ∷ [])
AreLines-more closed part lines line a h e = record {
  closed = a.closed ++ part ∷ [];
  split = λ more.
      ap parts (append_assoc closed (part ++ 10 ∷ []) more ∙ ap (λ w. closed ++ w) (append_assoc part (10 ∷ []) more))
      ∙ a.split (part ++ 10 ∷ more)
      ∙ ap (λ ps. a.closed ++ ps) (slice_split_at is_line_feed part 10 more h refl)
      ∙ sym (append_assoc a.closed (part ∷ []) (parts more));
  lines_are = cc (a.lines_are, e, map-append line_of a.closed (part ∷ []));
}
