-- Changes that are made where they lie.
use Rattle.std.proofs.Common.{◌≡◌, ℕ, ◌+◌, ◌-◌, ◌<◌, ◌≤◌, ◌⊎◌, inl, inr, List, [], ◌∷◌, length, take, drop, get_or, map, Bool, true, false, not, nat_eq}
use Rattle.std.proofs.Common.{◌||◌, cond, Some, Ok, refl, sym, ap, ◌∙◌, subst, arith, length-drop, length-take-le}
use Rattle.std.specs.List.{list_all, prefix_len}
use Rattle.std.proofs.lemmas.Bool.{and_parts}
use Rattle.std.proofs.lemmas.List.{append-nil, drop-drop}
use Rattle.std.proofs.lemmas.List.Sums.{prefix_len-le-length}
use Rattle.std.proofs.Math.Seq.{take-add}
use Rattle.ccsl_base.specs.declared.rows.Row.{Row}
use Rattle.ccsl_vcd_lex.specs.Tokens.{is_white}
use Rattle.ccsl_vcd_lex.specs.Lexing.{is_dark}
use Rattle.ccsl_vcd.specs.Words.{word_of, vector, last_of}
use Rattle.ccsl_vcd.specs.Reading.{is_changes}
use Rattle.ccsl_bind.specs.Codes.{number_of}
use Rattle.ccsl_vcd_read.specs.declared.amid.Amid.{Amid}
use Rattle.ccsl_vcd_read.specs.declared.amid.Amid.TheVariants.{Changes, Code}
use Rattle.ccsl_vcd_read.specs.declared.body.Body.{Body}
use Rattle.ccsl_vcd_read.specs.Letters.{is_bit, is_other}
use Rattle.ccsl_vcd_read.specs.Marks.{put}
use Rattle.ccsl_vcd_read.specs.Meant.{amid_of}
use Rattle.ccsl_vcd_lex.specs.ShortCodes.{IsCode}
use Rattle.ccsl_vcd_read.specs.Step.{hear_at, hear_of, word_says, put_number, Says}
use Rattle.ccsl_vcd_read.specs.Run.{Made}
use Rattle.ccsl_vcd_read.proofs.Letters.{all-both, bits-scalar}
use Rattle.ccsl_vcd_read.proofs.Run.{runs-none, runs-on, front-word, is-changes, bit-of, take-first, short-says}
use Rattle.ccsl_vcd_lex.proofs.ShortCodes.{run-is}
use Rattle.ccsl_base.proofs.Cases.{one_more}

pub none-made : (b : Body) (bytes : List ℕ) → Made b b bytes 0
none-made b bytes = record { within = omega arith; runs = λ at rows. runs-none b at rows; none = λ _. refl }

-- a word that was heard at the front
made-word : (b c : Body) (end : ℕ) (bytes : List ℕ) → end ≡ prefix_len is_dark bytes → 0 < end → end < length bytes → end ≤ 65536
    → ((at : ℕ) (rows : List Row) → Says (hear_of b at (take end bytes)) (Ok tt) b c rows rows) → Made b c bytes (end + 1)
made-word b c end bytes e n l m s = record {
  within = omega (arith, l);
  runs = λ at rows. front-word b c at end bytes rows rows e n l m (s at rows);
  none = λ z. absurd (omega (arith, z));
}

-- what is made behind it
pub made-both : (a b c : Body) (i n : ℕ) (bytes rest : List ℕ) → rest ≡ drop i bytes → Made a b bytes i → Made b c rest n → Made a c bytes (i + n)
made-both a b c i n bytes rest e p q = record {
  within = omega (arith, p.within, q.within, ap length e, length-drop i bytes);
  runs = λ at rows. runs-on a b c at i n bytes rest rows rows rows p.within e (p.runs at rows) (q.runs (at + i) rows);
  none = λ z. q.none (omega (arith, z)) ∙ p.none (omega (arith, z));
}

-- The changes in front of the rest.

abbrev pub MadeTo : Body → Body → List ℕ → List ℕ → Type 0
MadeTo a b bytes rest = record {
  made : Made a b bytes (length bytes - length rest);
  fits : length rest ≤ length bytes;
  rest : rest ≡ drop (length bytes - length rest) bytes;
}

pub made-to-none : (a : Body) (bytes : List ℕ) → MadeTo a a bytes bytes
made-to-none a bytes =
    let zero_ : 0 ≡ length bytes - length bytes = omega arith in
    record {
      made = subst (Made a a bytes) zero_ (none-made a bytes);
      fits = omega arith;
      rest = ap (λ i. drop i bytes) zero_;
    }

pub made-to-more : (a b c : Body) (bytes rest more : List ℕ) (k : ℕ) → MadeTo a b bytes rest → Made b c rest k → more ≡ drop k rest → MadeTo a c bytes more
made-to-more a b c bytes rest more k so on cut =
    let n : ℕ = length bytes - length rest in
    let len : length more ≡ length rest - k = ap length cut ∙ length-drop k rest in
    let sum : n + k ≡ length bytes - length more = omega (arith, so.fits, on.within, len) in
    record {
      made = subst (Made a c bytes) sum (made-both a b c n k bytes rest so.rest so.made on);
      fits = omega (arith, so.fits, len);
      rest = cut ∙ ap (drop k) so.rest ∙ drop-drop k n bytes ∙ ap (λ i. drop i bytes) sum;
    }

-- A change of a bit.

bit-dark : (b : ℕ) → (b ≡ 48) ⊎ (b ≡ 49) → is_dark b ≡ true
unfolding is_white
bit-dark b (inl e) = rw e refl
bit-dark b (inr e) = rw e refl

one-more : (q : ℕ → Bool) (n : ℕ) (bytes : List ℕ) → 0 < length bytes → q (get_or bytes 0 0) ≡ true → n ≡ prefix_len q (drop 1 bytes)
    → n + 1 ≡ prefix_len q bytes
one-more q n [] l h e = absurd (omega arith)
one-more q n (x ∷ xs) l h e = rw h (let k : n + 1 ≡ 1 + prefix_len q xs = omega (arith, e) in k)

pub bit-made : (b c : Body) (n place number : ℕ) (bytes : List ℕ) → IsCode n place (drop 1 bytes) → is_changes (amid_of b.amid) ≡ true
    → (nat_eq (get_or bytes 0 0) 48 || nat_eq (get_or bytes 0 0) 49) ≡ true → number_of (take n (drop 1 bytes)) b.binding.codes ≡ Some number
    → c ≡ record b { marks = map (put number (nat_eq (get_or bytes 0 0) 49) b.dumping) b.marks } → Made b c bytes (n + 2)
bit-made b c n place number bytes s a w f e =
    let first : ℕ = get_or bytes 0 0 in
    let code : List ℕ = take n (drop 1 bytes) in
    let rest : length (drop 1 bytes) ≡ length bytes - 1 = length-drop 1 bytes in
    let len : length code ≡ n = length-take-le n (drop 1 bytes) (omega (arith, s.inside)) in
    let some : 0 < length bytes = omega (arith, s.inside, rest) in
    let back : (n + 1) - 1 ≡ n = omega arith in
    let sum : (n + 1) + 1 ≡ n + 2 = omega arith in
    let text : take (n + 1) bytes ≡ first ∷ code = take-first (n + 1) bytes (omega arith) some ∙ ap (λ (k : ℕ). first ∷ take k (drop 1 bytes)) back in
    subst (Made b c bytes) sum
    (made-word b c (n + 1) bytes (one-more is_dark n bytes some (bit-dark first (bit-of first w)) s.run) (omega arith) (omega (arith, s.inside, rest))
    (omega (arith, s.most))
    (λ at rows. subst (λ (t : List ℕ). Says (hear_of b at t) (Ok tt) b c rows rows) (sym text)
    (short-says b c first number code a (bit-of first w) (omega (arith, len, s.some)) f e at rows)))

-- A change of a vector.

head-dark : (first : ℕ) → first ≡ 98 → is_dark first ≡ true
unfolding is_white
head-dark first e = rw e refl

bits-dark : (xs : List ℕ) → list_all is_bit xs ≡ true → list_all is_dark xs ≡ true
bits-dark [] h = refl
bits-dark (x ∷ xs) h =
    let p = and_parts (is_bit x) (list_all is_bit xs) h in
    rw (bit-dark x (bit-of x p.0)) (bits-dark xs p.1)

vector-word : (letters : List ℕ) → 0 < length letters → list_all is_bit letters ≡ true → word_of (98 ∷ letters) ≡ vector (nat_eq (last_of 98 letters) 49)
unfolding word_of
vector-word [] n h = absurd (omega arith)
vector-word (l ∷ ls) n h = let s = bits-scalar (l ∷ ls) h in rw s refl

vector-says : (b : Body) (letters : List ℕ) → is_changes (amid_of b.amid) ≡ true → 0 < length letters → list_all is_bit letters ≡ true
    → (at : ℕ) (rows : List Row)
    → Says (hear_of b at (98 ∷ letters)) (Ok tt) b (record b { amid = Code (nat_eq (last_of 98 letters) 49) }) rows rows
vector-says b letters a n h at rows =
    let said : hear_of b at (98 ∷ letters) ≡ Ok (record b { amid = Code (nat_eq (last_of 98 letters) 49) }, []) =
    ap (hear_at b at (98 ∷ letters)) (is-changes b.amid a) ∙ ap (word_says b at) (vector-word letters n h) in
    rw said (refl, sym (append-nil rows))

code-says : (b c : Body) (one : Bool) (number : ℕ) (code : List ℕ) → is_changes (amid_of b.amid) ≡ true → number_of code b.binding.codes ≡ Some number
    → c ≡ record b { marks = map (put number one b.dumping) b.marks } → (at : ℕ) (rows : List Row)
    → Says (hear_of (record b { amid = Code one }) at code) (Ok tt) (record b { amid = Code one }) c rows rows
code-says b c one number code a f e at rows =
    let said : hear_of (record b { amid = Code one }) at code ≡ Ok (record b { amid = Changes; marks = map (put number one b.dumping) b.marks }, []) =
    ap (put_number (record b { amid = Code one }) at one) f in
    rw said (e ∙ ap (λ (x : Amid). record b { amid = x; marks = map (put number one b.dumping) b.marks }) (is-changes b.amid a), sym (append-nil rows))

pub vector-made : (b c : Body) (k n place number : ℕ) (bytes rest : List ℕ) → is_changes (amid_of b.amid) ≡ true → get_or bytes 0 0 ≡ 98 → 0 < k
    → list_all is_bit (take k (drop 1 bytes)) ≡ true
    → k + 1 < length bytes → k + 1 ≤ 65536 → is_white (get_or bytes (k + 1) 0) ≡ true → rest ≡ drop (k + 2) bytes → IsCode n place rest
    → number_of (take n rest) b.binding.codes ≡ Some number
    → c ≡ record b { marks = map (put number (nat_eq (last_of 98 (take k (drop 1 bytes))) 49) b.dumping) b.marks } → Made b c bytes ((k + 2) + (n + 1))
vector-made b c k n place number bytes rest a first some bits inside few white after s f e =
    let letters : List ℕ = take k (drop 1 bytes) in
    let len : length letters ≡ k = length-take-le k (drop 1 bytes) (omega (arith, length-drop 1 bytes, inside)) in
    let back : (k + 1) - 1 ≡ k = omega arith in
    let sum : (k + 1) + 1 ≡ k + 2 = omega arith in
    let text : take (k + 1) bytes ≡ 98 ∷ letters =
    take-first (k + 1) bytes (omega arith) (omega (arith, inside)) ∙ ap (λ (x : ℕ). x ∷ take ((k + 1) - 1) (drop 1 bytes)) first
    ∙ ap (λ (i : ℕ). 98 ∷ take i (drop 1 bytes)) back in
    let dark : list_all is_dark (take (k + 1) bytes) ≡ true = ap (list_all is_dark) text ∙ all-dark letters bits in
    let mid : Body = record b { amid = Code (nat_eq (last_of 98 letters) 49) } in
    made-both b mid c (k + 2) (n + 1) bytes rest after
    (subst (Made b mid bytes) sum
    (made-word b mid (k + 1) bytes (run-is is_dark (k + 1) bytes dark inside (ap not white)) (omega arith) inside few
    (λ at rows. subst (λ (t : List ℕ). Says (hear_of b at t) (Ok tt) b mid rows rows) (sym text)
    (vector-says b letters a (omega (arith, len, some)) bits at rows))))
    (made-word mid c n rest s.run s.some s.inside (omega (arith, s.most)) (code-says b c (nat_eq (last_of 98 letters) 49) number (take n rest) a f e))
  where
    all-dark : (xs : List ℕ) → list_all is_bit xs ≡ true → list_all is_dark (98 ∷ xs) ≡ true
    all-dark xs h = rw (head-dark 98 refl) (bits-dark xs h)

-- Letters of bits that a vector of bytes shows.

passed-bits : (xs : List ℕ) → list_all is_bit (take (prefix_len (λ b. not (is_other b)) xs) xs) ≡ true
passed-bits [] = refl
passed-bits (x ∷ xs) = (elim (is_bit x) as (λ w. is_bit x ≡ w
    → list_all is_bit (take (cond (not (not w)) (1 + prefix_len (λ b. not (is_other b)) xs) 0) (x ∷ xs)) ≡ true) [
      | true ↦ λ h. subst (λ n. list_all is_bit (take n (x ∷ xs)) ≡ true) (sym (one_more (prefix_len (λ b. not (is_other b)) xs))) (rw h (passed-bits xs))
      | false ↦ λ h. refl
    ]) refl

front-bits : (k : ℕ) (xs : List ℕ) → k ≡ prefix_len (λ b. not (is_other b)) xs → list_all is_bit (take k xs) ≡ true
front-bits k xs e = subst (λ n. list_all is_bit (take n xs) ≡ true) (sym e) (passed-bits xs)

pub bits-stop : (d : List ℕ) (i k : ℕ) → list_all is_bit (take i d) ≡ true → i ≤ length d → k ≡ prefix_len (λ b. not (is_other b)) (drop i d)
    → (list_all is_bit (take (i + k) d) ≡ true) × (i + k ≤ length d)
bits-stop d i k h l e = (
  ap (list_all is_bit) (take-add i k d) ∙ all-both is_bit (take i d) (take k (drop i d)) h (front-bits k (drop i d) e),
  omega (arith, l, e, prefix_len-le-length (λ b. not (is_other b)) (drop i d), length-drop i d),
)
