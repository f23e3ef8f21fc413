-- A piece, taken part by part.
use Rattle.std.proofs.Common.{◌≡◌, ℕ, zero, suc, Bool, ◌+◌, ◌-◌, ◌<◌, ◌≤◌, true, false, Some, None, List, [], ◌∷◌, ◌++◌, length, take, drop, get_or, refl, sym}
use Rattle.std.proofs.Common.{ap, ◌∙◌, arith, subst, append_assoc, add-zero, length-append}
use Rattle.std.specs.List.{prefix_len, slice_range}
use Rattle.std.proofs.Math.Seq.{take-add}
use Rattle.std.proofs.lemmas.List.{append-nil, take-append-drop, take-take, length-take-le, length-drop, get_or-drop, get_or-take, take_more}
use Rattle.ccsl_vcd_lex.specs.Tokens.{is_white, token, tokens, settled, Heard, word, too_long}
use Rattle.ccsl_vcd_lex.specs.LongTokens.{first_long}
use Rattle.ccsl_vcd_lex.specs.Lexing.{Dark, is_dark, Lexing, StandsFor, BreaksWithin}
use Rattle.ccsl_vcd_lex.proofs.Cuts.{White}
use Rattle.ccsl_vcd_lex.proofs.Steps.{stays, short-now, long-now}
use Rattle.ccsl_vcd_lex.proofs.Told.{Told, goes-on, ends-one, ends-none, goes-past}
use Rattle.ccsl_vcd_lex.proofs.Views.{Seen, pushed, skipped, ended, refused}
use Rattle.ccsl_vcd_lex.proofs.Parts.{Cut, cut}

nothing : (v : Lexing) → v.failed ≡ false → Told v v [] []
nothing v f = record {
  stands = λ bytes s. subst (StandsFor v) (sym (append-nil bytes)) s;
  settles = λ bytes s. ap settled (append-nil bytes) ∙ sym (append-nil (settled bytes));
  short = λ bytes s. ap (λ (xs : List ℕ). first_long (tokens xs)) (append-nil bytes) ∙ short-now v bytes s f;
}

-- one step that settles nothing, and then another
after : (a b c : Lexing) (xs ys : List ℕ) (hs : List Heard) → Told a b xs [] → Told b c ys hs → Told a c (xs ++ ys) hs
after a b c xs ys hs r t = record {
  stands = λ bytes s. subst (StandsFor c) (append_assoc bytes xs ys) (t.stands (bytes ++ xs) (r.stands bytes s));
  settles = λ bytes s. ap settled (sym (append_assoc bytes xs ys)) ∙ t.settles (bytes ++ xs) (r.stands bytes s)
      ∙ ap (λ (us : List Heard). us ++ hs) (r.settles bytes s ∙ append-nil (settled bytes));
  short = λ bytes s. ap (λ (us : List ℕ). first_long (tokens us)) (sym (append_assoc bytes xs ys)) ∙ t.short (bytes ++ xs) (r.stands bytes s);
}

-- white space, if there is any, where no token is open
skips : (old new : Lexing) (ws : List ℕ) → new ≡ record old { begin = old.begin + length ws } → old.failed ≡ false → White ws
    → (0 < length ws → old.open_text ≡ []) → Told old new ws []
skips old new [] e f w none = subst (λ (v : Lexing). Told old v [] []) (sym (e ∙ ap (λ (k : ℕ). record old { begin = k }) (add-zero old.begin))) (nothing old f)
skips old new (x ∷ ws) e f w none =
    let blank = none (omega arith) in
    ends-none old new (x ∷ ws) (skipped old new (x ∷ ws) e f blank w (omega arith)) blank

up-to : (piece : List ℕ) (start end : ℕ) → start ≤ end → take end piece ≡ take start piece ++ slice_range piece start end
up-to piece start end le = ap (λ (k : ℕ). take k piece) (let e : end ≡ start + (end - start) = omega arith in e) ∙ take-add start (end - start) piece

length-part : (piece : List ℕ) (start end : ℕ) → start ≤ end → end ≤ length piece → length (slice_range piece start end) ≡ end - start
length-part piece start end le within = length-take-le (end - start) (drop start piece) (omega (arith, length-drop start piece))

-- The white space at the front of a piece was passed, and the end of the run behind it was found.
pub record Found (old a : Lexing) (piece : List ℕ) (start end kept : ℕ) : Type 0 where
  pub after : a ≡ record old { begin = old.begin + start }
  pub parts : Cut old.open_text piece start end
  pub old_runs : old.failed ≡ false
  pub runs : a.failed ≡ false
  pub count : length old.open_text ≡ kept
  pub same : length a.open_text ≡ length old.open_text
  pub run : length (slice_range piece start end) ≡ end - start

pub found : (old a : Lexing) (piece : List ℕ) (start end at n : ℕ) (stopped : Bool) (next kept : ℕ) (stopped_next : Bool) → Seen old at n stopped
    → stopped ≡ false
    → Seen a next kept stopped_next → a ≡ record old { begin = old.begin + start } → start ≤ length piece → (0 < length old.open_text → start ≡ 0)
    → (old.open_text ≡ [] → start ≡ prefix_len is_white piece) → end ≡ start + prefix_len is_dark (drop start piece) → Found old a piece start end kept
found old a piece start end at n stopped next kept stopped_next v f w e within some none run =
    let parts = cut old.open_text piece start end within some none run in
    let same : length a.open_text ≡ length old.open_text = ap (λ (x : Lexing). length x.open_text) e in
    record {
      after = e;
      parts = parts;
      old_runs = v.failed ∙ f;
      runs = ap (λ (x : Lexing). x.failed) e ∙ v.failed ∙ f;
      count = sym same ∙ w.count;
      same = same;
      run = length-part piece start end parts.ordered parts.within;
    }

passes-front : (old a : Lexing) (piece : List ℕ) (start end kept : ℕ) → Found old a piece start end kept → Told old a (take start piece) []
passes-front old a piece start end kept k =
    let n : length (take start piece) ≡ start = length-take-le start piece (omega (arith, k.parts.ordered, k.parts.within)) in
    skips old a (take start piece) (k.after ∙ ap (λ (m : ℕ). record old { begin = old.begin + m }) (sym n)) k.old_runs k.parts.white
    (λ h. k.parts.only_blank (omega (arith, n)))

pub length-run : (old a b : Lexing) (piece : List ℕ) (start end kept : ℕ) → Found old a piece start end kept
    → b ≡ record a { open_text = a.open_text ++ slice_range piece start end }
    → length b.open_text ≡ kept + (end - start)
length-run old a b piece start end kept k e =
    ap (λ (v : Lexing). length v.open_text) e ∙ length-append a.open_text (slice_range piece start end) ∙ omega (arith, k.count, k.same, k.run)

-- the run was kept
pub runs-to : (old a b : Lexing) (piece : List ℕ) (start end kept : ℕ) → Found old a piece start end kept
    → b ≡ record a { open_text = a.open_text ++ slice_range piece start end }
    → kept + (end - start) ≤ 65536 → Told old b (take end piece) []
runs-to old a b piece start end kept k e room =
    let run = slice_range piece start end in
    let grown = goes-on a b run (pushed a b run e k.runs k.parts.dark (omega (arith, k.run, k.same, k.count))) in
    subst (λ (xs : List ℕ). Told old b xs []) (sym (up-to piece start end k.parts.ordered))
    (after old a b (take start piece) run [] (passes-front old a piece start end kept k) grown)

-- and the white space behind that ended the token
pub ends-run : (old b c : Lexing) (piece : List ℕ) (end : ℕ) → Told old b (take end piece) []
    → c ≡ record b { begin = b.begin + length b.open_text + 1; open_text = []; last = b.open_text } → b.failed ≡ false
    → is_white (get_or piece end 0) ≡ true → end < length piece → 0 < length b.open_text → length b.open_text ≤ 65536
    → Told old c (take (end + 1) piece) (word (token b.begin b.open_text) ∷ [])
ends-run old b c piece end r e f w l some fits =
    let x = get_or piece end 0 in
    subst (λ (xs : List ℕ). Told old c xs (word (token b.begin b.open_text) ∷ [])) (sym (take_more piece end 0 l))
    (after old b c (take end piece) (x ∷ []) (word (token b.begin b.open_text) ∷ []) r (ends-one b c (x ∷ []) (ended b c x e f w) some fits))

-- The piece is taken, and the token that begins there is too long. If it was not so before, some byte of the piece decides it.
pub record RefusedPiece (old new : Lexing) (piece : List ℕ) (at : ℕ) : Type 0 where
  pub still : (bytes : List ℕ) → StandsFor old bytes → StandsFor new (bytes ++ piece)
  pub long : (bytes : List ℕ) → StandsFor old bytes → first_long (tokens (bytes ++ piece)) ≡ Some at
  pub broke : (bytes : List ℕ) → StandsFor old bytes → first_long (tokens bytes) ≡ None → BreaksWithin bytes piece at

pub refused-before : (v : Lexing) (piece : List ℕ) → v.failed ≡ true → RefusedPiece v v piece v.begin
refused-before v piece f = record {
  still = stays v piece f;
  long = λ bytes s. long-now v (bytes ++ piece) (stays v piece f bytes s) f;
  broke = λ bytes s none. absurd (let e : None ≡ Some v.begin = sym none ∙ long-now v bytes s f in cc);
}

dark-at : (xs : List ℕ) (k : ℕ) → Dark xs → k < length xs → is_white (get_or xs k 0) ≡ false
dark-at [] k d l = absurd (omega arith)
dark-at (x ∷ xs) zero d l = d.0
dark-at (x ∷ xs) (suc k) d l = dark-at xs k d.1 (omega arith)

dark-take : (n : ℕ) (xs : List ℕ) → Dark xs → Dark (take n xs)
dark-take zero xs d = tt
dark-take (suc n) [] d = tt
dark-take (suc n) (x ∷ xs) d = (d.0, dark-take n xs d.1)

-- the byte of the piece that is byte 65,537 of the open token
breaks-within : (old a : Lexing) (piece : List ℕ) (start end kept : ℕ) → Found old a piece start end kept → kept ≤ 65536 → 65536 < kept + (end - start)
    → (bytes : List ℕ) → StandsFor old bytes → BreaksWithin bytes piece a.begin
breaks-within old a piece start end kept k fits long bytes s =
    let n = 65536 - kept in
    let less : n < end - start = omega arith in
    let run = slice_range piece start end in
    let x = get_or piece (start + n) 0 in
    let count : length (take n run) ≡ n = length-take-le n run (omega (arith, k.run)) in
    let mid : Lexing = record a { open_text = a.open_text ++ take n run } in
    let grown = goes-on a mid (take n run) (pushed a mid (take n run) refl k.runs (dark-take n run k.parts.dark) (omega (arith, count, k.same, k.count))) in
    let front : take start piece ++ take n run ≡ take (start + n) piece =
    ap (λ (xs : List ℕ). take start piece ++ xs) (take-take n (end - start) (drop start piece) (omega arith)) ∙ sym (take-add start n piece) in
    let told = subst (λ (xs : List ℕ). Told old mid xs []) front
    (after old a mid (take start piece) (take n run) [] (passes-front old a piece start end kept k) grown) in
    let dark : is_white x ≡ false =
    ap is_white (sym (get_or-drop start piece n 0) ∙ sym (get_or-take (end - start) (drop start piece) n 0 less))
    ∙ dark-at run n k.parts.dark (omega (arith, k.run)) in
    let over : 65536 < length mid.open_text + length (x ∷ []) = omega (arith, length-append a.open_text (take n run), count, k.same, k.count) in
    let past = goes-past mid (record mid { failed = true }) (x ∷ []) (refused mid (record mid { failed = true }) (x ∷ []) refl k.runs (dark, tt) over) in
    let before : settled (bytes ++ take (start + n) piece) ≡ settled bytes = told.settles bytes s ∙ append-nil (settled bytes) in
    let inside : start + n < length piece = omega (arith, k.parts.ordered, k.parts.within) in
    record {
      taken = start + n;
      within = inside;
      before = before;
      broke =
          ap (λ (xs : List ℕ). settled (bytes ++ xs)) (take_more piece (start + n) 0 inside)
          ∙ ap settled (sym (append_assoc bytes (take (start + n) piece) (x ∷ [])))
          ∙ past.broke (bytes ++ take (start + n) piece) (told.stands bytes s) (told.short bytes s)
          ∙ ap (λ (hs : List Heard). hs ++ too_long a.begin ∷ []) before;
    }

-- the run makes the open token too long
pub breaks-run : (old a c : Lexing) (piece : List ℕ) (start end kept : ℕ) → Found old a piece start end kept → c ≡ record a { failed = true }
    → kept ≤ 65536 → 65536 < kept + (end - start) → RefusedPiece old c piece a.begin
breaks-run old a c piece start end kept k e fits long =
    let run = slice_range piece start end in
    let stopped : c.failed ≡ true = ap (λ (v : Lexing). v.failed) e in
    let past = goes-past a c run (refused a c run e k.runs k.parts.dark (omega (arith, k.run, k.same, k.count))) in
    let front = passes-front old a piece start end kept k in
    let whole : (bytes : List ℕ) → ((bytes ++ take start piece) ++ run) ++ drop end piece ≡ bytes ++ piece =
    λ bytes. ap (λ (xs : List ℕ). xs ++ drop end piece)
    (append_assoc bytes (take start piece) run ∙ ap (λ (xs : List ℕ). bytes ++ xs) (sym (up-to piece start end k.parts.ordered)))
    ∙ append_assoc bytes (take end piece) (drop end piece) ∙ ap (λ (xs : List ℕ). bytes ++ xs) (take-append-drop end piece) in
    let still : (bytes : List ℕ) → StandsFor old bytes → StandsFor c (bytes ++ piece) =
    λ bytes s. subst (StandsFor c) (whole bytes)
    (stays c (drop end piece) stopped ((bytes ++ take start piece) ++ run) (past.stands (bytes ++ take start piece) (front.stands bytes s))) in
    record {
      still = still;
      long = λ bytes s. long-now c (bytes ++ piece) (still bytes s) stopped ∙ ap (λ (m : ℕ). Some m) (ap (λ (v : Lexing). v.begin) e);
      broke = λ bytes s _. breaks-within old a piece start end kept k fits long bytes s;
    }
