-- Changes of short codes that are taken where they lie.
use Rattle.std.proofs.Common.{◌≡◌, ℕ, suc, ◌+◌, ◌<◌, List, [], ◌∷◌, ◌++◌, length, take, drop, Bool, true, false, not, ◌||◌, nat_eq, Ok, if◌then◌else◌, refl}
use Rattle.std.proofs.Common.{sym, ap, ◌∙◌, subst, arith, length-take-le}
use Rattle.std.specs.List.{list_all, prefix_len}
use Rattle.std.proofs.lemmas.Bool.{agree_below_at, eqb-true}
use Rattle.std.proofs.Math.Seq.{take-add}
use Rattle.ccsl_vcd_lex.specs.Tokens.{is_white, token}
use Rattle.ccsl_vcd_lex.specs.Runs.{fresh_after}
use Rattle.ccsl_vcd_lex.specs.Lexing.{is_dark}
use Rattle.ccsl_vcd.specs.declared.fault.VcdFault.TheVariants as faults
use Rattle.ccsl_vcd.specs.Words.{word_of, scalar, vector, last_of, is_scalar}
use Rattle.ccsl_events.specs.declared.body.Body.{Body}
use Rattle.ccsl_events.specs.declared.body.Amid.TheVariants.{Changes}
use Rattle.ccsl_events.specs.declared.values.Values.{Values}
use Rattle.ccsl_events.specs.Dump.{Plan, Place, changes, code_of, Said, goes, refused, word_says, token_says, changed, is_declared, heard_in}
use Rattle.ccsl_events.specs.Keeping.{Keeps}
use Rattle.ccsl_vcd_lex.specs.ShortCodes.{IsCode}
use Rattle.ccsl_events.specs.Standing.{Stands, Answers}
use Rattle.ccsl_events.specs.Run.{Runs}
use Rattle.ccsl_events.proofs.Standing.{follows-still}
use Rattle.ccsl_events.proofs.Run.{front-word, front-told, told-on}
use Rattle.ccsl_events.proofs.Quick.{amid-changes}
use Rattle.ccsl_vcd_lex.proofs.Cuts.{fresh-append}

other : (b n : ℕ) → is_scalar n ≡ false → is_scalar b ≡ true → nat_eq b n ≡ false
other b n f s = (elim (nat_eq b n) as (λ w. nat_eq b n ≡ w → w ≡ false) [
  | true ↦ λ e. absurd (let x : true ≡ false = sym s ∙ ap is_scalar (eqb-true b n e) ∙ f in cc)
  | false ↦ λ e. refl
]) refl

scalar-word : (letter : ℕ) (code : List ℕ) → is_scalar letter ≡ true → 0 < length code → word_of (letter ∷ code) ≡ scalar (nat_eq letter 49) code
unfolding word_of
scalar-word letter [] s n = absurd (omega arith)
scalar-word letter (c ∷ cs) s n = rw (other letter 35 refl s, other letter 36 refl s, s) refl

letter-dark : (b : ℕ) → b < 256 → is_scalar b ≡ true → is_dark b ≡ true
unfolding is_white
letter-dark b h s =
    let t : (not (is_scalar b) || is_dark b) ≡ true = agree_below_at (λ x. not (is_scalar x) || is_dark x) (λ x. true) 256 b refl h in
    sym (ap (λ (w : Bool). not w || is_dark b) s) ∙ t

-- the place behind a change
abbrev behind : Plan → Place → List ℕ → List ℕ → Place
behind plan p code letters = record p { amid = changes; views = if p.recording then heard_in plan code letters p.dumping p.views else p.views }

declared-goes : (plan : Plan) (p : Place) (at : ℕ) (code letters : List ℕ) → is_declared plan code ≡ true
    → changed plan p at code letters ≡ goes (behind plan p code letters)
declared-goes plan p at code letters d = ap (λ (w : Bool). if w then goes (behind plan p code letters) else refused (faults.UnknownCode at)) d

stands-behind : (plan : Plan) (p : Place) (b : Body) (v : Values) (code letters : List ℕ) → Stands plan p b → b.amid ≡ Changes
    → Keeps plan (if b.is_on then heard_in plan code letters b.is_dumping p.views else p.views) v → Stands plan (behind plan p code letters)
    (record b { values = v })
stands-behind plan p b v code letters s a k = record {
  keeps =
      subst (λ (r : Bool). Keeps plan (if r then heard_in plan code letters p.dumping p.views else p.views) v) s.recording
      (subst (λ (d : Bool). Keeps plan (if b.is_on then heard_in plan code letters d p.views else p.views) v) s.dumping k);
  amid = a;
  dumping = s.dumping;
  recording = s.recording;
  now = s.now;
  skips = s.skips;
  times = s.times;
}

change-text : (n letter : ℕ) (bytes : List ℕ) → take (n + 1) (letter ∷ bytes) ≡ letter ∷ take n bytes
change-text n letter bytes = let e : n + 1 ≡ suc n = omega arith in ap (λ (i : ℕ). take i (letter ∷ bytes)) e

change-run : (n place letter : ℕ) (bytes : List ℕ) → letter < 256 → is_scalar letter ≡ true → IsCode n place bytes → n + 1 ≡ prefix_len is_dark (letter ∷ bytes)
change-run n place letter bytes h l is =
    let e : n + 1 ≡ 1 + prefix_len is_dark bytes = omega (arith, is.run) in
    rw (letter-dark letter h l) e

pub change-runs : (plan : Plan) (p : Place) (b : Body) (v : Values) (at n place letter : ℕ) (bytes out : List ℕ) → Stands plan p b → b.amid ≡ Changes
    → letter < 256 → is_scalar letter ≡ true → IsCode n place bytes
    → is_declared plan (take n bytes) ≡ true → Keeps plan (if b.is_on then heard_in plan (take n bytes) (letter ∷ []) b.is_dumping p.views else p.views) v
    → Runs plan p at (take (n + 2) (letter ∷ bytes)) (record b { values = v }) out out
change-runs plan p b v at n place letter bytes out s a h l is d k =
    let code : List ℕ = take n bytes in
    let len : length code ≡ n = length-take-le n bytes (omega (arith, is.inside)) in
    let q : Place = behind plan p code (letter ∷ []) in
    let said : goes q ≡ token_says plan p (token at (take (n + 1) (letter ∷ bytes))) p.amid =
    sym (ap (token_says plan p (token at (take (n + 1) (letter ∷ bytes)))) (amid-changes b.amid b.letters.items p.amid s.amid a)
    ∙ ap (λ (text : List ℕ). word_says plan p (token at text) (word_of text)) (change-text n letter bytes)
    ∙ ap (word_says plan p (token at (letter ∷ code))) (scalar-word letter code l (omega (arith, len, is.some)))
    ∙ declared-goes plan p at code (letter ∷ []) d) in
    let sum : (n + 1) + 1 ≡ n + 2 = omega arith in
    subst (λ (i : ℕ). Runs plan p at (take i (letter ∷ bytes)) (record b { values = v }) out out) sum
    (front-word plan p at (n + 1) (letter ∷ bytes) (record b { values = v }) out out (change-run n place letter bytes h l is) (omega arith)
    (omega (arith, is.inside)) (omega (arith, is.most))
    (subst (λ (w : Said). Answers plan p.written w (Ok tt) (record b { values = v }) out out) said
    (follows-still plan q (record b { values = v }) out (stands-behind plan p b v code (letter ∷ []) s a k))))

-- A vector and its code.

vector-word : (letters : List ℕ) → 0 < length letters → list_all is_scalar letters ≡ true → word_of (98 ∷ letters) ≡ vector (nat_eq (last_of 98 letters) 49)
unfolding word_of
vector-word [] n h = absurd (omega arith)
vector-word (l ∷ ls) n h = rw h refl

b-dark : is_dark 98 ≡ true
unfolding is_white
b-dark = refl

vector-run : (end : ℕ) (bytes : List ℕ) → end ≡ prefix_len is_dark bytes → end + 1 ≡ prefix_len is_dark (98 ∷ bytes)
vector-run end bytes e = let k : end + 1 ≡ 1 + prefix_len is_dark bytes = omega (arith, e) in rw b-dark k

pub vector-runs : (plan : Plan) (p : Place) (b : Body) (v : Values) (at end n place : ℕ) (bytes rest out : List ℕ) → Stands plan p b → b.amid ≡ Changes
    → 0 < end → end < length bytes → end < 65536
    → end ≡ prefix_len is_dark bytes → list_all is_scalar (take end bytes) ≡ true → rest ≡ drop (end + 1) bytes → IsCode n place rest → is_declared plan
    (take n rest) ≡ true
    → Keeps plan (if b.is_on then heard_in plan (take n rest) (take end bytes) b.is_dumping p.views else p.views) v → Runs plan p at
    (take (end + n + 3) (98 ∷ bytes)) (record b { values = v }) out out
vector-runs plan p b v at end n place bytes rest out s a some inside few run all cut is d k =
    let letters : List ℕ = take end bytes in
    let code : List ℕ = take n rest in
    let len : length letters ≡ end = length-take-le end bytes (omega (arith, inside)) in
    let mid : Place = record p { amid = code_of letters } in
    let q : Place = behind plan p code letters in
    let all_bytes : List ℕ = 98 ∷ bytes in
    let xs : List ℕ = take ((end + 1) + 1) all_bytes in
    let first : token_says plan p (token at (take (end + 1) all_bytes)) p.amid ≡ goes mid =
    ap (token_says plan p (token at (take (end + 1) all_bytes))) (amid-changes b.amid b.letters.items p.amid s.amid a)
    ∙ ap (λ (text : List ℕ). word_says plan p (token at text) (word_of text)) (change-text end 98 bytes)
    ∙ ap (word_says plan p (token at (98 ∷ letters))) (vector-word letters (omega (arith, len, some)) all) in
    let one = front-told plan p mid at (end + 1) all_bytes (vector-run end bytes run) (omega arith) (omega (arith, inside)) (omega (arith, few)) first in
    let two = front-told plan mid q (at + length xs) n rest is.run is.some is.inside (omega (arith, is.most))
    (declared-goes plan mid (at + length xs) code letters d) in
    let sum : ((end + 1) + 1) + (n + 1) ≡ end + n + 3 = omega arith in
    let back : (end + 1) + 1 ≡ suc (end + 1) = omega arith in
    let parts : take (end + n + 3) all_bytes ≡ xs ++ take (n + 1) rest =
    ap (λ (i : ℕ). take i all_bytes) (sym sum) ∙ take-add ((end + 1) + 1) (n + 1) all_bytes
    ∙ ap (λ (ys : List ℕ). xs ++ take (n + 1) ys) (ap (λ (i : ℕ). drop i all_bytes) back ∙ sym cut) in
    subst (λ (part : List ℕ). Runs plan p at part (record b { values = v }) out out) (sym parts) (record {
      place = q;
      told = told-on plan p mid at xs (take (n + 1) rest) one.1 one.0 ∙ two.0;
      fresh = fresh-append true xs (take (n + 1) rest) ∙ ap (λ w. fresh_after w (take (n + 1) rest)) one.1 ∙ two.1;
      follows = follows-still plan q (record b { values = v }) out (stands-behind plan p b v code letters s a k);
    })
