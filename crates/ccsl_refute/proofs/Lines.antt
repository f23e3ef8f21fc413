-- The lines of a text, one after another.
use Rattle.std.proofs.Common.{◌≡◌, ℕ, suc, ◌+◌, ◌<◌, ◌≤◌, List, [], ◌∷◌, ◌++◌, length, take, drop, cond, Ok, Err, refl, sym, ap, ap₂, ◌∙◌, ⊎_elim, arith}
use Rattle.std.proofs.Common.{length-take}
use Rattle.std.specs.declared.result.Result.{Result}
use Rattle.std.specs.List.{slice_split, position_or_len}
use Rattle.std.specs.Str.Lines.{strip_carriage_return}
use Rattle.std.proofs.lemmas.Bool.{cases_lt, lt-ltb, le-ltb}
use Rattle.std.proofs.lemmas.List.{take_all, drop_all, drop-drop}
use Rattle.std.proofs.lemmas.List.Splits.{slice_split_first, length-slice_split}
use Rattle.ccsl_refute.specs.Text.{Piece, placed, is_line_feed, without_returns, lines_from, tokens}
use Rattle.ccsl_refute.specs.FirstLine.{line_before}
use Rattle.ccsl_refute.specs.declared.fault.CertFault.{CertFault}
use Rattle.ccsl_refute.specs.declared.line.Line.{Line}
use Rattle.ccsl_refute.specs.Reading.{read_tokens, read_more, read_line, read_lines, reading}
use Rattle.ccsl_refute.proofs.InOrder.{put_before, put_before-more}
use Rattle.ccsl_refute.proofs.Tokens.{split-last}

-- a line that ends at a line feed: another one follows
pub followed : (at : ℕ) (w : List ℕ) (k : ℕ) (parts : List (List ℕ)) → 0 < length parts →
    without_returns ((at, w) ∷ placed k parts) ≡ (at, strip_carriage_return w) ∷ without_returns (placed k parts)
followed at w k [] l = absurd (omega arith)
followed at w k (v ∷ parts) l = refl

lines-next : (at n : ℕ) (xs : List ℕ) → n ≡ position_or_len is_line_feed xs → n < length xs →
    lines_from at xs ≡ (at, strip_carriage_return (take n xs)) ∷ lines_from (suc (at + n)) (drop (n + 1) xs)
lines-next at n xs e l =
    let first : position_or_len is_line_feed xs < length xs = omega (arith, e) in
    let rest = slice_split is_line_feed (drop (n + 1) xs) in
    let long : length (take n xs) ≡ n = omega (arith, length-take n xs) in
    ap (λ parts. without_returns (placed at parts)) (slice_split_first is_line_feed xs 0 first
    ∙ ap (λ k. take k xs ∷ slice_split is_line_feed (drop (k + 1) xs)) (sym e))
    ∙ ap (λ k. without_returns ((at, take n xs) ∷ placed (suc (at + k)) rest)) long
    ∙ followed at (take n xs) (suc (at + n)) rest (omega (arith, length-slice_split is_line_feed (drop (n + 1) xs)))

lines-last : (at : ℕ) (xs : List ℕ) → length xs ≤ position_or_len is_line_feed xs → lines_from at xs ≡ (at, xs) ∷ []
lines-last at xs l = ap (λ parts. without_returns (placed at parts)) (split-last is_line_feed xs l)

-- the first line of what is left, and then the rest
pub lines-read : (names : List (List ℕ)) (at n : ℕ) (xs w : List ℕ) → n ≡ position_or_len is_line_feed xs → n ≤ length xs → w ≡ line_before n xs →
    read_lines names (lines_from at xs) ≡ read_line names (at + length w) (tokens at w) (read_lines names (lines_from (suc (at + n)) (drop (n + 1) xs)))
lines-read names at n xs w e inside f =
    ⊎_elim
    (λ below.
    let line : w ≡ strip_carriage_return (take n xs) = f ∙ ap (λ b. cond b (strip_carriage_return (take n xs)) (take n xs)) (lt-ltb n (length xs) below) in
    ap (read_lines names) (lines-next at n xs e below)
    ∙ ap (λ v. read_line names (at + length v) (tokens at v) (read_lines names (lines_from (suc (at + n)) (drop (n + 1) xs)))) (sym line))
    (λ past.
    let line : w ≡ xs = f ∙ ap (λ b. cond b (strip_carriage_return (take n xs)) (take n xs)) (le-ltb n (length xs) past) ∙ take_all n xs past in
    let nothing : drop (n + 1) xs ≡ [] = drop_all (n + 1) xs (omega arith) in
    ap (read_lines names) (lines-last at xs (omega (arith, e)))
    ∙ ap (λ v. read_line names (at + length v) (tokens at v) (Ok [])) (sym line)
    ∙ ap (λ v. read_line names (at + length w) (tokens at w) (read_lines names (lines_from (suc (at + n)) v))) (sym nothing))
    (cases_lt n (length xs))

-- what a line alone reads as tells what it reads as before others
line-none : (names : List (List ℕ)) (end : ℕ) (ts : List Piece) (rest : Result (List Line) CertFault) → read_line names end ts (Ok []) ≡ Ok []
    → read_line names end ts rest ≡ rest
line-none names end [] rest e = refl
line-none names end (t ∷ ts) rest e =
    (elim (read_tokens names end t ts) as (λ r. read_more r (Ok []) ≡ Ok [] → read_more r rest ≡ rest)
    [ Ok line ↦ λ h. absurd (cc) | Err fault ↦ λ h. absurd (cc) ]) e

line-one : (names : List (List ℕ)) (end : ℕ) (ts : List Piece) (rest : Result (List Line) CertFault) (before : List Line) (l : Line) →
    read_line names end ts (Ok []) ≡ Ok (l ∷ []) → put_before before (read_line names end ts rest) ≡ put_before (before ++ l ∷ []) rest
line-one names end [] rest before l e = absurd (cc)
line-one names end (t ∷ ts) rest before l e =
    (elim (read_tokens names end t ts) as (λ r. read_more r (Ok []) ≡ Ok (l ∷ []) → put_before before (read_more r rest) ≡ put_before (before ++ l ∷ []) rest) [
      | Ok line ↦ λ h. let same : line ≡ l = cc in put_before-more before line rest ∙ ap (λ (x : Line). put_before (before ++ x ∷ []) rest) same
      | Err fault ↦ λ h. absurd (cc)
    ]) e

line-fault : (names : List (List ℕ)) (end : ℕ) (ts : List Piece) (rest : Result (List Line) CertFault) (fault : CertFault) →
    read_line names end ts (Ok []) ≡ Err fault → read_line names end ts rest ≡ Err fault
line-fault names end [] rest fault e = absurd (cc)
line-fault names end (t ∷ ts) rest fault e =
    (elim (read_tokens names end t ts) as (λ r. read_more r (Ok []) ≡ Err fault → read_more r rest ≡ Err fault)
    [ Ok line ↦ λ h. absurd (cc) | Err early ↦ λ h. let same : early ≡ fault = cc in ap Err same ]) e

-- what follows the line of n bytes at a place
abbrev pub later : List (List ℕ) → List ℕ → ℕ → ℕ → Result (List Line) CertFault
later names text at n = read_lines names (lines_from (at + (n + 1)) (drop (at + (n + 1)) text))

module _ (names : List (List ℕ)) (text : List ℕ) (at n : ℕ) (rest w : List ℕ) (before : List Line)
    (is_rest : rest ≡ drop at text) (len : n ≡ position_or_len is_line_feed rest) (inside : n ≤ length rest) (line : w ≡ line_before n rest)
    (same : put_before before (read_lines names (lines_from at (drop at text))) ≡ reading names text) where
  step : put_before before (read_line names (at + length w) (tokens at w) (later names text at n)) ≡ reading names text
  step =
      let there : suc (at + n) ≡ at + (n + 1) = omega arith in
      let behind : drop (n + 1) rest ≡ drop (at + (n + 1)) text = ap (drop (n + 1)) is_rest ∙ drop-drop (n + 1) at text in
      sym
      (ap (put_before before)
      (ap (λ xs. read_lines names (lines_from at xs)) (sym is_rest)
      ∙ lines-read names at n rest w len inside line
      ∙ ap₂ (λ k xs. read_line names (at + length w) (tokens at w) (read_lines names (lines_from k xs))) there behind))
      ∙ same

  -- the reading goes on behind a line without tokens
  pub step-none : read_line names (at + length w) (tokens at w) (Ok []) ≡ Ok [] → put_before before (later names text at n) ≡ reading names text
  step-none e = sym (ap (put_before before) (line-none names (at + length w) (tokens at w) (later names text at n) e)) ∙ step

  -- and behind a line that was read
  pub step-one : (l : Line) → read_line names (at + length w) (tokens at w) (Ok []) ≡ Ok (l ∷ [])
      → put_before (before ++ l ∷ []) (later names text at n) ≡ reading names text
  step-one l e = sym (line-one names (at + length w) (tokens at w) (later names text at n) before l e) ∙ step

  -- and a fault of the line is the first one of the text
  pub step-fault : (fault : CertFault) → read_line names (at + length w) (tokens at w) (Ok []) ≡ Err fault → reading names text ≡ Err fault
  step-fault fault e = sym step ∙ ap (put_before before) (line-fault names (at + length w) (tokens at w) (later names text at n) fault e)
