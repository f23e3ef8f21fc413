-- Tokens that are heard one after another.
use Rattle.std.proofs.Common.{◌≡◌, ℕ, ◌+◌, ◌-◌, ◌≤◌, ◌<◌, List, [], ◌∷◌, ◌++◌, length, take, drop, get_or, true, false, Some, None, Result, Ok, Err, cond, zero}
use Rattle.std.proofs.Common.{suc, nat_eq, ◌||◌, length-take-le, map, ◌⊎◌, inl, inr, fold, refl, sym, ap, ◌∙◌, subst, append_assoc, arith, length-append}
use Rattle.std.proofs.Common.{length-drop}
use Rattle.std.specs.List.{prefix_len}
use Rattle.std.proofs.lemmas.List.{append-nil, take-take, take_more, drop-drop}
use Rattle.std.proofs.lemmas.Bool.{eqb-true, not-true, not-false}
use Rattle.std.proofs.Math.Seq.{take-add}
use Rattle.ccsl_base.specs.declared.rows.Row.{Row}
use Rattle.ccsl_vcd_lex.specs.Tokens.{is_white, Token, token, tokens_from}
use Rattle.ccsl_vcd_lex.specs.LongTokens.{first_long}
use Rattle.ccsl_vcd_lex.specs.Runs.{fresh_after}
use Rattle.ccsl_vcd_lex.specs.Lexing.{Dark, is_dark}
use Rattle.ccsl_vcd_lex.proofs.Cuts.{tokens-cut, long-append, one-token, from-behind, fresh-behind, fresh-append, white-stop}
use Rattle.ccsl_vcd.specs.declared.fault.VcdFault.{VcdFault}
use Rattle.ccsl_vcd_read.specs.declared.body.Body.{Body}
use Rattle.ccsl_vcd_read.specs.Step.{hear_at, hear_of, word_says, put_number, Says}
use Rattle.ccsl_vcd.specs.Words.{word_of, scalar}
use Rattle.ccsl_vcd.specs.Reading.{is_changes}
use Rattle.ccsl_bind.specs.Codes.{number_of}
use Rattle.ccsl_vcd_read.specs.declared.amid.Amid.{Amid}
use Rattle.ccsl_vcd_read.specs.declared.amid.Amid.TheVariants.{Changes, Remark, Code, CodeSkipped}
use Rattle.ccsl_vcd_read.specs.Meant.{amid_of}
use Rattle.ccsl_vcd_read.specs.Marks.{put}
use Rattle.ccsl_vcd_read.specs.Run.{behind, hear_next, hear_all, Runs, Fills}
use Rattle.ccsl_vcd_read.proofs.StagePictures.{room-left}

behind-both : (xs ys : List Row) (r : Result (Body × List Row) VcdFault) → behind (xs ++ ys) r ≡ behind xs (behind ys r)
behind-both xs ys (Ok p) = ap (λ rs. Ok (p.0, rs)) (append_assoc xs ys p.1)
behind-both xs ys (Err f) = refl

next-behind : (rows : List Row) (r : Result (Body × List Row) VcdFault) (t : Token) → hear_next (behind rows r) t ≡ behind rows (hear_next r t)
next-behind rows (Ok p) t = behind-both rows p.1 (hear_of p.0 t.at t.text)
next-behind rows (Err f) t = refl

pub all-behind : (rows : List Row) (r : Result (Body × List Row) VcdFault) (ts : List Token)
    → fold hear_next (behind rows r) ts ≡ behind rows (fold hear_next r ts)
all-behind rows r [] = refl
all-behind rows r (t ∷ ts) = ap (λ q. fold hear_next q ts) (next-behind rows r t) ∙ all-behind rows (hear_next r t) ts

fold-both : (r : Result (Body × List Row) VcdFault) (xs ys : List Token) → fold hear_next r (xs ++ ys) ≡ fold hear_next (fold hear_next r xs) ys
fold-both r [] ys = refl
fold-both r (x ∷ xs) ys = fold-both (hear_next r x) xs ys

-- with rows that were given out before
pub hears-from : (b : Body) (rows : List Row) (ts : List Token) → fold hear_next (Ok (b, rows)) ts ≡ behind rows (hear_all b ts)
hears-from b rows ts = ap (λ rs. fold hear_next (Ok (b, rs)) ts) (sym (append-nil rows)) ∙ all-behind rows (Ok (b, [])) ts

pub runs-none : (b : Body) (at : ℕ) (rows : List Row) → Runs b b at [] rows rows
unfolding tokens_from fresh_after first_long
runs-none b at rows = record { pushed = []; hears = refl; rows = sym (append-nil rows); fresh = refl; short = refl; few = omega arith }

pub runs-both : (a b c : Body) (at : ℕ) (p q : List ℕ) (x y z : List Row) → Runs a b at p x y → Runs b c (at + length p) q y z → Runs a c at (p ++ q) x z
runs-both a b c at p q x y z r s =
    let cut : tokens_from true at (p ++ q) ≡ tokens_from true at p ++ tokens_from true (at + length p) q = tokens-cut true at p q r.fresh in
    record {
      pushed = r.pushed ++ s.pushed;
      hears =
          ap (hear_all a) cut ∙ fold-both (Ok (a, [])) (tokens_from true at p) (tokens_from true (at + length p) q)
          ∙ ap (λ u. fold hear_next u (tokens_from true (at + length p) q)) r.hears ∙ hears-from b r.pushed (tokens_from true (at + length p) q)
          ∙ ap (behind r.pushed) s.hears;
      rows = s.rows ∙ ap (λ rs. rs ++ s.pushed) r.rows ∙ append_assoc x r.pushed s.pushed;
      fresh = fresh-append true p q ∙ ap (λ w. fresh_after w q) r.fresh ∙ s.fresh;
      short = ap first_long cut ∙ long-append (tokens_from true at p) (tokens_from true (at + length p) q) r.short ∙ s.short;
      few = omega (arith, r.few, s.few, length-append r.pushed s.pushed, length-append p q);
    }

-- white space
pub runs-white : (b : Body) (at w : ℕ) (rows : List Row) → is_white w ≡ true → Runs b b at (w ∷ []) rows rows
unfolding tokens_from first_long
runs-white b at w rows h =
    let none : tokens_from true at (w ∷ []) ≡ [] = from-behind true at [] (w ∷ []) (h, tt) in
    record {
      pushed = [];
      hears = ap (hear_all b) none;
      rows = sym (append-nil rows);
      fresh = fresh-behind true [] (w ∷ []) (h, tt) (omega arith);
      short = ap first_long none;
      few = omega arith;
    }

short-one : (at : ℕ) (text : List ℕ) → length text ≤ 65536 → first_long (token at text ∷ []) ≡ None
unfolding first_long
short-one at text h = rw (Rattle.std.proofs.lemmas.Bool.le-ltb 65536 (length text) h) refl

-- a token, and the white space behind it
pub runs-word : (b c : Body) (at w : ℕ) (text : List ℕ) (x y : List Row) → Dark text → 0 < length text → length text ≤ 65536 → is_white w ≡ true
    → Says (hear_of b at text) (Ok tt) b c x y
    → Runs b c at (text ++ w ∷ []) x y
runs-word b c at w [] x y d n l h e = absurd (omega arith)
runs-word b c at w (t ∷ ts) x y d n l h e = go (hear_of b at (t ∷ ts)) refl e
  where
    one : tokens_from true at ((t ∷ ts) ++ w ∷ []) ≡ token at (t ∷ ts) ∷ []
    one = from-behind true at (t ∷ ts) (w ∷ []) (h, tt) ∙ one-token at t ts d

    few : length y ≤ length x + 1
    few = let m = room-left b c at (t ∷ ts) x y e in omega (arith, m)

    go : (r : Result (Body × List Row) VcdFault) → hear_of b at (t ∷ ts) ≡ r → Says r (Ok tt) b c x y → Runs b c at ((t ∷ ts) ++ w ∷ []) x y
    go (Ok p) q s = record {
      pushed = p.1;
      hears = ap (hear_all b) one ∙ ap (behind []) q ∙ ap (λ v. Ok (v, p.1)) (sym s.0);
      rows = s.1;
      fresh = fresh-behind true (t ∷ ts) (w ∷ []) (h, tt) (omega arith);
      short = ap first_long one ∙ short-one at (t ∷ ts) l;
      few = let k : length y ≡ length x + length p.1 = ap length s.1 ∙ length-append x p.1 in omega (arith, few, k, length-append (t ∷ ts) (w ∷ []));
    }
    go (Err f) q s = absurd s

-- The front of some bytes.

dark-front : (xs : List ℕ) → Dark (take (prefix_len is_dark xs) xs)
dark-front [] = tt
dark-front (x ∷ xs) =
    (elim (is_dark x) as (λ w. is_dark x ≡ w → Dark (take (cond w (1 + prefix_len is_dark xs) 0) (x ∷ xs))) [
      | true ↦ λ e. subst (λ k. Dark (take k (x ∷ xs))) (sym (one-more (prefix_len is_dark xs))) (not-true (is_white x) e, dark-front xs)
      | false ↦ λ e. tt
    ]) refl
  where
    one-more : (n : ℕ) → 1 + n ≡ suc n
    one-more n = omega arith

-- the bytes of a token, where the white space behind it is counted too
pub dark-but-last : (n : ℕ) (bytes : List ℕ) → n ≡ prefix_len is_dark bytes → Dark (take (n + 1 - 1) bytes)
dark-but-last n bytes e =
    let k : prefix_len is_dark bytes ≡ n + 1 - 1 = omega (arith, e) in
    subst (λ i. Dark (take i bytes)) k (dark-front bytes)

pub front-white : (b : Body) (at end : ℕ) (bytes : List ℕ) (rows : List Row) → end ≡ prefix_len is_dark bytes → end ≡ 0 → end < length bytes
    → Runs b b at (take 1 bytes) rows rows
front-white b at end [] rows e z l = absurd (omega arith)
front-white b at end (x ∷ xs) rows e z l =
    let k : prefix_len is_dark (x ∷ xs) ≡ 0 = sym e ∙ z in
    runs-white b at x rows (subst (λ i. is_white (get_or (x ∷ xs) i 0) ≡ true) k (white-stop (x ∷ xs) (omega (arith, e, l))))

pub front-word : (b c : Body) (at end : ℕ) (bytes : List ℕ) (x y : List Row) → end ≡ prefix_len is_dark bytes → 0 < end → end < length bytes → end ≤ 65536
    → Says (hear_of b at (take end bytes)) (Ok tt) b c x y → Runs b c at (take (end + 1) bytes) x y
front-word b c at end bytes x y e n l m s =
    let k : length (take end bytes) ≡ end = length-take-le end bytes (omega (arith, l)) in
    subst (λ part. Runs b c at part x y) (sym (take_more bytes end 0 l))
    (runs-word b c at (get_or bytes end 0) (take end bytes) x y (subst (λ i. Dark (take i bytes)) (sym e) (dark-front bytes)) (omega (arith, k, n))
    (omega (arith, k, m))
    (subst (λ i. is_white (get_or bytes i 0) ≡ true) (sym e) (white-stop bytes (omega (arith, e, l)))) s)

-- the rest of a piece, as a slice gives it
pub runs-on : (a b c : Body) (at i n : ℕ) (piece rest : List ℕ) (x y z : List Row) → i ≤ length piece → rest ≡ drop i piece → Runs a b at (take i piece) x y
    → Runs b c (at + i) (take n rest) y z → Runs a c at (take (i + n) piece) x z
runs-on a b c at i n piece rest x y z l e r s =
    let k : length (take i piece) ≡ i = length-take-le i piece l in
    subst (λ part. Runs a c at part x z) (ap (λ xs. take i piece ++ take n xs) e ∙ sym (take-add i n piece))
    (runs-both a b c at (take i piece) (take n rest) x y z r (subst (λ j. Runs b c (at + j) (take n rest) y z) (sym k) s))

-- The bytes in front of the rest were heard.
abbrev pub RunsBefore : Body → Body → ℕ → List ℕ → List ℕ → List Row → List Row → Type 0
RunsBefore a b at piece rest x y = record {
  runs : Runs a b at (take (length piece - length rest) piece) x y;
  fits : length rest ≤ length piece;
  rest : rest ≡ drop (length piece - length rest) piece;
}

pub runs-before-none : (a : Body) (at : ℕ) (piece : List ℕ) (x : List Row) → RunsBefore a a at piece piece x x
runs-before-none a at piece x =
    let zero_ : 0 ≡ length piece - length piece = omega arith in
    record {
      runs = subst (λ i. Runs a a at (take i piece) x x) zero_ (runs-none a at x);
      fits = omega arith;
      rest = ap (λ i. drop i piece) zero_;
    }

pub runs-before-more : (a b c : Body) (at k : ℕ) (piece rest more : List ℕ) (x y z : List Row) → RunsBefore a b at piece rest x y → k ≤ length rest
    → Runs b c (at + (length piece - length rest)) (take k rest) y z → more ≡ drop k rest → RunsBefore a c at piece more x z
runs-before-more a b c at k piece rest more x y z so within on cut =
    let n : ℕ = length piece - length rest in
    let len : length more ≡ length rest - k = ap length cut ∙ length-drop k rest in
    let sum : n + k ≡ length piece - length more = omega (arith, so.fits, within, len) in
    let fits : n ≤ length piece = omega arith in
    record {
      runs = subst (λ i. Runs a c at (take i piece) x z) sum (runs-on a b c at n k piece rest x y z fits so.rest so.runs on);
      fits = omega (arith, so.fits, len);
      rest = cut ∙ ap (drop k) so.rest ∙ drop-drop k n piece ∙ ap (λ i. drop i piece) sum;
    }

pub runs-before-end : (a b c : Body) (at k : ℕ) (piece rest : List ℕ) (x y z : List Row) → RunsBefore a b at piece rest x y
    → Runs b c (at + (length piece - length rest)) (take k rest) y z → k ≡ 0 → Runs a c at (take (length piece - length rest) piece) x z
runs-before-end a b c at k piece rest x y z so on none_ =
    let n : ℕ = length piece - length rest in
    let same : n + k ≡ n = omega (arith, none_) in
    let fits : n ≤ length piece = omega arith in
    subst (λ i. Runs a c at (take i piece) x z) same (runs-on a b c at n k piece rest x y z fits so.rest so.runs on)

pub runs-nothing : (b c : Body) (at k : ℕ) (rest : List ℕ) (y z : List Row) → Runs b c at (take k rest) y z → k ≡ 0 → length z ≡ length y
runs-nothing b c at k rest y z r e =
    let few : length r.pushed ≤ length (take k rest) = r.few in
    let none : length (take k rest) ≡ 0 = ap (λ i. length (take i rest)) e in
    omega (arith, few, none, ap length r.rows ∙ length-append y r.pushed)

-- The next bytes, which end one token by their last, come behind bytes that left room.
pub fills-last : (a b : Body) (at k : ℕ) (piece rest more : List ℕ) (x y : List Row) (room : ℕ) → RunsBefore a b at piece rest x y → k ≤ length rest → 0 < k
    → length y < room → Dark (take (k - 1) rest)
    → more ≡ drop k rest → Fills a at (take (length piece - length more) piece) x room
fills-last a b at k piece rest more x y room so within some left one cut =
    let n : ℕ = length piece - length rest in
    let len : length more ≡ length rest - k = ap length cut ∙ length-drop k rest in
    let sum : n + k ≡ length piece - length more = omega (arith, so.fits, within, len) in
    let size : length (take k rest) ≡ k = length-take-le k rest within in
    record {
      front = take n piece;
      last = take k rest;
      is = ap (λ i. take i piece) (sym sum) ∙ take-add n k piece ∙ ap (λ xs. take n piece ++ take k xs) (sym so.rest);
      some = omega (arith, size, some);
      mid = b;
      rows = y;
      runs = so.runs;
      left = left;
      one = subst Dark (sym (ap (λ i. take (i - 1) (take k rest)) size ∙ take-take (k - 1) k rest (omega arith))) one;
    }

-- where nothing was done
pub runs-still : (b c : Body) (at : ℕ) (x y : List Row) → c ≡ b → y ≡ x → Runs b c at [] x y
runs-still b c at x y e f = subst (λ v. Runs b v at [] x y) (sym e) (subst (λ rs. Runs b b at [] x rs) (sym f) (runs-none b at x))

-- a token that is refused
pub runs-same : (r : Result (Body × List Row) VcdFault) (f : VcdFault) (b c : Body) (at : ℕ) (x y : List Row) → Says r (Err f) b c x y → Runs b c at [] x y
runs-same (Ok p) f b c at x y s = absurd s
runs-same (Err g) f b c at x y s = runs-still b c at x y s.1 s.2

-- A short token.

pub is-changes : (a : Amid) → is_changes (amid_of a) ≡ true → a ≡ Changes
is-changes Changes h = refl
is-changes Remark h = absurd (cc)
is-changes (Code one) h = absurd (cc)
is-changes CodeSkipped h = absurd (cc)

short-word : (first : ℕ) (code : List ℕ) → (first ≡ 48) ⊎ (first ≡ 49) → 0 < length code → word_of (first ∷ code) ≡ scalar (nat_eq first 49) code
unfolding word_of
short-word first [] w n = absurd (omega arith)
short-word first (c ∷ cs) (inl e) n = rw e refl
short-word first (c ∷ cs) (inr e) n = rw e refl

pub short-says : (b c : Body) (first number : ℕ) (code : List ℕ) → is_changes (amid_of b.amid) ≡ true → (first ≡ 48) ⊎ (first ≡ 49) → 0 < length code
    → number_of code b.binding.codes ≡ Some number
    → c ≡ record b { marks = map (put number (nat_eq first 49) b.dumping) b.marks } → (at : ℕ) (rows : List Row)
    → Says (hear_of b at (first ∷ code)) (Ok tt) b c rows rows
short-says b c first number code a w n f e at rows =
    let amid : b.amid ≡ Changes = is-changes b.amid a in
    let said : hear_of b at (first ∷ code) ≡ Ok (record b { amid = Changes; marks = map (put number (nat_eq first 49) b.dumping) b.marks }, []) =
    ap (hear_at b at (first ∷ code)) amid ∙ ap (word_says b at) (short-word first code w n) ∙ ap (put_number b at (nat_eq first 49)) f in
    rw said (e ∙ ap (λ (x : Amid). record b { amid = x; marks = map (put number (nat_eq first 49) b.dumping) b.marks }) amid, sym (append-nil rows))

pub bit-of : (x : ℕ) → (nat_eq x 48 || nat_eq x 49) ≡ true → (x ≡ 48) ⊎ (x ≡ 49)
bit-of x h = (elim (nat_eq x 48) as (λ w. nat_eq x 48 ≡ w → (w || nat_eq x 49) ≡ true → (x ≡ 48) ⊎ (x ≡ 49)) [
  | true ↦ λ e _. inl (eqb-true x 48 e)
  | false ↦ λ _ g. inr (eqb-true x 49 g)
]) refl h

pub take-first : (n : ℕ) (bytes : List ℕ) → 0 < n → 0 < length bytes → take n bytes ≡ get_or bytes 0 0 ∷ take (n - 1) (drop 1 bytes)
take-first n [] some l = absurd (omega arith)
take-first zero (x ∷ xs) some l = absurd (omega arith)
take-first (suc n) (x ∷ xs) some l = ap (λ k. x ∷ take k xs) (let k : n ≡ suc n - 1 = omega arith in k)
