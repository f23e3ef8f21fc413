-- What a tokenizer stands for, step by step. A step takes some bytes that are not white, or some white space.
use Rattle.std.proofs.Common.{◌≡◌, ℕ, ◌+◌, ◌≤◌, ◌<◌, List, [], ◌∷◌, ◌++◌, length, Bool, true, false, Some, None, nat_lt, refl, sym, ap, ◌∙◌, append_assoc}
use Rattle.std.proofs.Common.{arith, length-append, filter, zero-add}
use Rattle.std.proofs.lemmas.List.{append-nil}
use Rattle.std.proofs.lemmas.Grind.{common_steps}
use Rattle.std.proofs.lemmas.Bool.{lt-ltb}
use Rattle.ccsl_vcd_lex.specs.Tokens.{Token, token, run, tokens_from, tokens, closed, is_long}
use Rattle.ccsl_vcd_lex.specs.LongTokens.{first_long}
use Rattle.ccsl_vcd_lex.specs.Runs.{fresh_after}
use Rattle.ccsl_vcd_lex.specs.Lexing.{Dark, Lexing, StandsFor, GoesOn}
use Rattle.ccsl_vcd_lex.proofs.Cuts.{White, one, fresh-behind, tokens-cut, tokens-parts, closed-parts, dark-append, long-append, one-token-more, from-behind}

-- the bytes that a tokenizer stands for, while no token was too long
pub parts : (v : Lexing) (bytes : List ℕ) (s : StandsFor v bytes) → v.failed ≡ false → bytes ≡ s.before ++ v.open_text
parts v bytes s h = s.whole ∙ rw (s.running h) (ap (λ (xs : List ℕ). s.before ++ xs) (append-nil v.open_text))

one-short : (at : ℕ) (text : List ℕ) → length text ≤ 65536 → first_long (one at text) ≡ None
unfolding first_long
one-short at [] h = refl
one-short at (b ∷ xs) h =
    let n : nat_lt 65536 (length (b ∷ xs)) ≡ false = grind (arith, common_steps) in
    rw n refl

one-dropped : (at : ℕ) (text : List ℕ) → length text ≤ 65536 → filter is_long (one at text) ≡ []
one-dropped at [] h = refl
one-dropped at (b ∷ xs) h =
    let n : nat_lt 65536 (length (b ∷ xs)) ≡ false = grind (arith, common_steps) in
    rw n refl

pub closed-now : (v : Lexing) (bytes : List ℕ) (s : StandsFor v bytes) → v.failed ≡ false → closed bytes ≡ tokens s.before
closed-now v bytes s h =
    ap closed (parts v bytes s h) ∙ closed-parts s.before v.open_text [] s.fresh s.dark (one-dropped (length s.before) v.open_text s.fits)
    ∙ append-nil (tokens s.before)

tokens-short : (p text : List ℕ) → fresh_after true p ≡ true → Dark text → first_long (tokens p) ≡ None → length text ≤ 65536
    → first_long (tokens (p ++ text)) ≡ None
tokens-short p text f d s h = ap first_long (tokens-parts p text f d) ∙ long-append (tokens p) (one (length p) text) s ∙ one-short (length p) text h

-- without a token that was too long there is none in the bytes
pub short-now : (v : Lexing) (bytes : List ℕ) → StandsFor v bytes → v.failed ≡ false → first_long (tokens bytes) ≡ None
short-now v bytes s h = ap (λ (xs : List ℕ). first_long (tokens xs)) (parts v bytes s h) ∙ tokens-short s.before v.open_text s.fresh s.dark s.short s.fits

-- the open token goes on, and is kept
pub record Grows (old new : Lexing) (xs : List ℕ) : Type 0 where
  pub begin : new.begin ≡ old.begin
  pub text : new.open_text ≡ old.open_text ++ xs
  pub old_runs : old.failed ≡ false
  pub new_runs : new.failed ≡ false
  pub dark : Dark xs
  pub room : length old.open_text + length xs ≤ 65536

pub grows : (old new : Lexing) (xs : List ℕ) → Grows old new xs → (bytes : List ℕ) → StandsFor old bytes → StandsFor new (bytes ++ xs)
grows old new xs g bytes s =
    let w : bytes ++ xs ≡ s.before ++ (new.open_text ++ []) =
    ap (λ (ys : List ℕ). ys ++ xs) (parts old bytes s g.old_runs) ∙ append_assoc s.before old.open_text xs
    ∙ ap (λ (ys : List ℕ). s.before ++ ys) (sym g.text ∙ sym (append-nil new.open_text)) in
    record {
      before = s.before;
      more = [];
      whole = w;
      fresh = s.fresh;
      short = s.short;
      dark = rw g.text (dark-append old.open_text xs s.dark g.dark);
      fits = rw g.text (omega (arith, length-append old.open_text xs, g.room));
      begin = g.begin ∙ s.begin;
      running = λ _. refl;
      too_long = λ h. absurd (let e : false ≡ true = sym g.new_runs ∙ h in cc);
    }

-- white space: nothing is open any more
pub record Ends (old new : Lexing) (ws : List ℕ) : Type 0 where
  pub begin : new.begin ≡ old.begin + length old.open_text + length ws
  pub text : new.open_text ≡ []
  pub old_runs : old.failed ≡ false
  pub new_runs : new.failed ≡ false
  pub white : White ws
  pub some : 0 < length ws

behind : (p ws : List ℕ) → White ws → tokens (p ++ ws) ≡ tokens p
behind p ws w = from-behind true 0 p ws w

pub ends : (old new : Lexing) (ws : List ℕ) → Ends old new ws → (bytes : List ℕ) → StandsFor old bytes → StandsFor new (bytes ++ ws)
ends old new ws g bytes s =
    let n : length bytes ≡ length s.before + length old.open_text = ap length (parts old bytes s g.old_runs) ∙ length-append s.before old.open_text in
    let count : old.begin + length old.open_text + length ws ≡ length (bytes ++ ws) = omega (arith, length-append bytes ws, n, s.begin) in
    record {
      before = bytes ++ ws;
      more = [];
      whole = rw g.text (sym (append-nil (bytes ++ ws)));
      fresh = fresh-behind true bytes ws g.white g.some;
      short = ap first_long (behind bytes ws g.white) ∙ short-now old bytes s g.old_runs;
      dark = rw g.text tt;
      fits = rw g.text (omega arith);
      begin = g.begin ∙ count;
      running = λ _. refl;
      too_long = λ h. absurd (let e : false ≡ true = sym g.new_runs ∙ h in cc);
    }

-- the open token goes on past 65,536 bytes, and these are not kept
pub record Breaks (old new : Lexing) (xs : List ℕ) : Type 0 where
  pub begin : new.begin ≡ old.begin
  pub text : new.open_text ≡ old.open_text
  pub old_runs : old.failed ≡ false
  pub new_failed : new.failed ≡ true
  pub dark : Dark xs
  pub long : 65536 < length old.open_text + length xs

pub breaks : (old new : Lexing) (xs : List ℕ) → Breaks old new xs → (bytes : List ℕ) → StandsFor old bytes → StandsFor new (bytes ++ xs)
breaks old new xs g bytes s =
    let w : bytes ++ xs ≡ s.before ++ (new.open_text ++ xs) =
    ap (λ (ys : List ℕ). ys ++ xs) (parts old bytes s g.old_runs) ∙ append_assoc s.before old.open_text xs
    ∙ ap (λ (ys : List ℕ). s.before ++ (ys ++ xs)) (sym g.text) in
    record {
      before = s.before;
      more = xs;
      whole = w;
      fresh = s.fresh;
      short = s.short;
      dark = rw g.text s.dark;
      fits = rw g.text s.fits;
      begin = g.begin ∙ s.begin;
      running = λ h. absurd (let e : true ≡ false = sym g.new_failed ∙ h in cc);
      too_long = λ _. record {
        next = xs;
        rest = [];
        is = sym (append-nil xs);
        dark = g.dark;
        long = rw g.text (omega (arith, length-append old.open_text xs, g.long));
      };
    }

-- whatever comes behind a token that was too long
pub stays : (v : Lexing) (xs : List ℕ) → v.failed ≡ true → (bytes : List ℕ) → StandsFor v bytes → StandsFor v (bytes ++ xs)
stays v xs f bytes s =
    let g : GoesOn v.open_text s.more = s.too_long f in
    record {
      before = s.before;
      more = s.more ++ xs;
      whole = ap (λ (ys : List ℕ). ys ++ xs) s.whole ∙ append_assoc s.before (v.open_text ++ s.more) xs
          ∙ ap (λ (ys : List ℕ). s.before ++ ys) (append_assoc v.open_text s.more xs);
      fresh = s.fresh;
      short = s.short;
      dark = s.dark;
      fits = s.fits;
      begin = s.begin;
      running = λ h. absurd (let e : true ≡ false = sym f ∙ h in cc);
      too_long = λ _. record {
        next = g.next;
        rest = g.rest ++ xs;
        is = ap (λ (ys : List ℕ). ys ++ xs) g.is ∙ append_assoc g.next g.rest xs;
        dark =
            g.dark;
        long = g.long;
      };
    }

first-is : (at : ℕ) (text rest : List ℕ) → Dark text → 65536 < length text → first_long (tokens_from true at (text ++ rest)) ≡ Some at
unfolding first_long
first-is at [] rest d n = absurd (omega arith)
first-is at (b ∷ xs) rest d n =
    let t = one-token-more at b xs rest d in
    let l : nat_lt 65536 (length ((b ∷ xs) ++ run rest)) ≡ true = lt-ltb 65536 _ (rw (length-append (b ∷ xs) (run rest)) (omega (arith, n))) in
    rw (t.1, l) refl

-- the place of the first token that was too long
pub long-now : (v : Lexing) (bytes : List ℕ) → StandsFor v bytes → v.failed ≡ true → first_long (tokens bytes) ≡ Some v.begin
long-now v bytes s f =
    let g : GoesOn v.open_text s.more = s.too_long f in
    let w : bytes ≡ s.before ++ ((v.open_text ++ g.next) ++ g.rest) =
    s.whole ∙ ap (λ (ys : List ℕ). s.before ++ (v.open_text ++ ys)) g.is
    ∙ ap (λ (ys : List ℕ). s.before ++ ys) (sym (append_assoc v.open_text g.next g.rest)) in
    ap (λ (ys : List ℕ). first_long (tokens ys)) w
    ∙ ap first_long (tokens-cut true 0 s.before ((v.open_text ++ g.next) ++ g.rest) s.fresh)
    ∙ long-append (tokens s.before) _ s.short
    ∙ first-is (0 + length s.before) (v.open_text ++ g.next) g.rest (dark-append v.open_text g.next s.dark g.dark) g.long
    ∙ ap (λ (k : ℕ). Some k) (zero-add (length s.before) ∙ sym s.begin)

-- bytes that are not white settle no token
pub grows-closed : (old new : Lexing) (xs : List ℕ) → Grows old new xs → (bytes : List ℕ) → StandsFor old bytes → closed (bytes ++ xs) ≡ closed bytes
unfolding grows
grows-closed old new xs g bytes s = closed-now new (bytes ++ xs) (grows old new xs g bytes s) g.new_runs ∙ sym (closed-now old bytes s g.old_runs)

-- white space ends the open token, if there is one
pub ends-closed : (old new : Lexing) (ws : List ℕ) → Ends old new ws → (bytes : List ℕ) → StandsFor old bytes
    → closed (bytes ++ ws) ≡ closed bytes ++ one old.begin old.open_text
unfolding ends
ends-closed old new ws g bytes s =
    closed-now new (bytes ++ ws) (ends old new ws g bytes s) g.new_runs
    ∙ behind bytes ws g.white ∙ ap tokens (parts old bytes s g.old_runs) ∙ tokens-parts s.before old.open_text s.fresh s.dark
    ∙ ap (λ (k : ℕ). tokens s.before ++ one k old.open_text) (sym s.begin)
    ∙ ap (λ (ts : List Token). ts ++ one old.begin old.open_text) (sym (closed-now old bytes s g.old_runs))

one-kept : (at : ℕ) (text : List ℕ) → 65536 < length text → filter is_long (one at text) ≡ token at text ∷ []
one-kept at [] e = absurd (omega (arith, e))
one-kept at (c ∷ xs) e = rw (lt-ltb 65536 (length (c ∷ xs)) e) refl

-- byte 65,537 settles its token
pub breaks-closed : (old new : Lexing) (xs : List ℕ) → Breaks old new xs → (bytes : List ℕ) → StandsFor old bytes
    → closed (bytes ++ xs) ≡ closed bytes ++ token old.begin (old.open_text ++ xs) ∷ []
breaks-closed old new xs g bytes s =
    let n : 65536 < length (old.open_text ++ xs) = omega (arith, length-append old.open_text xs, g.long) in
    ap (λ (ys : List ℕ). closed (ys ++ xs)) (parts old bytes s g.old_runs) ∙ ap closed (append_assoc s.before old.open_text xs)
    ∙ closed-parts s.before (old.open_text ++ xs) _ s.fresh (dark-append old.open_text xs s.dark g.dark) (one-kept (length s.before) (old.open_text ++ xs) n)
    ∙ ap (λ (ts : List Token). ts ++ token (length s.before) (old.open_text ++ xs) ∷ []) (sym (closed-now old bytes s g.old_runs))
    ∙ ap (λ (k : ℕ). closed bytes ++ token k (old.open_text ++ xs) ∷ []) (sym s.begin)

-- bytes without a token that is too long leave no failed tokenizer
pub runs : (v : Lexing) (bytes : List ℕ) → StandsFor v bytes → first_long (tokens bytes) ≡ None → v.failed ≡ false
runs v bytes s none = go v.failed refl
  where
    go : (f : Bool) → v.failed ≡ f → v.failed ≡ false
    go false e = e
    go true e = absurd (let x : None ≡ Some v.begin = sym none ∙ long-now v bytes s e in cc)

-- all tokens are those that are closed and the open one
pub all-now : (v : Lexing) (bytes : List ℕ) → StandsFor v bytes → v.failed ≡ false → tokens bytes ≡ closed bytes ++ one v.begin v.open_text
all-now v bytes s f =
    ap tokens (parts v bytes s f) ∙ tokens-parts s.before v.open_text s.fresh s.dark
    ∙ ap (λ (k : ℕ). tokens s.before ++ one k v.open_text) (sym s.begin)
    ∙ ap (λ (ts : List Token). ts ++ one v.begin v.open_text) (sym (closed-now v bytes s f))
