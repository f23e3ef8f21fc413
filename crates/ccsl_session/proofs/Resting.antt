-- What a session leaves of standard input.
use Rattle.std.proofs.Common.{◌≡◌, ℕ, ◌+◌, ◌≤◌, List, [], ◌∷◌, ◌++◌, length, take, Bool, true, false, ◌||◌, if◌then◌else◌, refl, sym, ap, ◌∙◌, arith}
use Rattle.std.proofs.Common.{append_assoc}
use Rattle.std.specs.List.{list_any}
use Rattle.std.proofs.Math.Seq.{take-nil}
use Rattle.ccsl_kernel.specs.Syntax.{System}
use Rattle.ccsl_lines.specs.Lines.{Line, Whole, Long, parts, ended_lines}
use Rattle.ccsl_lines.specs.Held.{Held, StandsFor, HasNoLineFeed}
use Rattle.ccsl_lines.specs.Laws.{SearchEndsNoLine}
use Rattle.ccsl_base.specs.declared.limits.TheConstants.{PIECE}
use Rattle.ccsl_session.specs.Asked.{Asked, Fire, Unknown, set_of, asked, asked_words, tokens, is_quit}
use Rattle.ccsl_session.specs.Rest.{IsAskedFor, LeavesRest}

-- WHICH LINES END A SESSION, whatever the system

with-no-quit : (b : Bool) (asks : Asked) → is_quit asks ≡ false → is_quit (if b then asks else Unknown) ≡ false
with-no-quit true asks e = e
with-no-quit false asks e = refl

words-quit : (K L : System) (words : List (List ℕ)) → is_quit (asked_words K words) ≡ is_quit (asked_words L words)
words-quit K L [] = refl
words-quit K L (word ∷ []) = refl
words-quit K L (word ∷ name ∷ names) =
    with-no-quit _ (Fire (set_of K (name ∷ names))) refl ∙ sym (with-no-quit _ (Fire (set_of L (name ∷ names))) refl)

line-quits : (K L : System) (line : Line) → is_quit (asked K line) ≡ is_quit (asked L line)
line-quits K L (Whole bytes) = words-quit K L (tokens bytes)
line-quits K L Long = refl

lines-quit : (K L : System) (lines : List Line) → list_any (λ line. is_quit (asked K line)) lines ≡ list_any (λ line. is_quit (asked L line)) lines
lines-quit K L [] = refl
lines-quit K L (line ∷ lines) =
    ap (λ b. b || list_any (λ line. is_quit (asked K line)) lines) (line-quits K L line)
    ∙ ap (λ b. is_quit (asked L line) || b) (lines-quit K L lines)

-- NOTHING was read
pub asked-none : (limit : ℕ) → IsAskedFor limit []
asked-none limit = record {
  before = [];
  piece = [];
  all = refl;
  few = omega arith;
  within = omega arith;
  unended = λ K. ap (λ bytes. list_any (λ line. is_quit (asked K line)) (ended_lines (parts bytes))) (take-nil limit);
}

pub rest-none : (limit : ℕ) (input : List ℕ) → LeavesRest limit input input
rest-none limit input = record { bytes = []; taken = refl; asked_for = asked-none limit }

-- MORE was read in search of a line feed, and a piece behind that
pub asked-more : (limit : ℕ) (h : Held) (bytes more piece : List ℕ) (given : List Line) (K : System) → SearchEndsNoLine → h.limit ≡ limit →
    StandsFor h bytes given → h.ended ≡ false → HasNoLineFeed (h.pending ++ more) → list_any (λ line. is_quit (asked K line)) given ≡ false →
    length piece ≤ PIECE → length (bytes ++ (more ++ piece)) ≤ limit + 1 → IsAskedFor limit (bytes ++ (more ++ piece))
asked-more limit h bytes more piece given K search limit_is stands runs unended unquit few within = record {
  before = bytes ++ more;
  piece = piece;
  all = sym (append_assoc bytes more piece);
  few = few;
  within = within;
  unended = λ L.
      ap (λ n. list_any (λ line. is_quit (asked L line)) (ended_lines (parts (take n (bytes ++ more))))) (sym limit_is)
      ∙ ap (list_any (λ line. is_quit (asked L line))) (search h bytes more given stands runs unended)
      ∙ lines-quit L K given
      ∙ unquit;
}
