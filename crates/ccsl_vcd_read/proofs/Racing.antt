-- What a reader stands for behind tokens that were heard one after another.
use Rattle.std.proofs.Common.{◌≡◌, ℕ, ◌+◌, ◌-◌, ◌≤◌, ◌<◌, List, [], ◌∷◌, ◌++◌, length, take, true, false, cond, Some, None, Result, Ok, Err, fold, map, get_or}
use Rattle.std.proofs.Common.{refl, sym, ap, ap₂, ◌∙◌, subst, append_assoc, arith, length-append, zero-add}
use Rattle.std.proofs.lemmas.List.{append-nil, take_more}
use Rattle.ccsl_base.specs.declared.rows.Row.{Row}
use Rattle.ccsl_vcd_lex.specs.Tokens.{is_white, Token, tokens_from, tokens, hear, word, too_long, settled, is_long}
use Rattle.ccsl_vcd_lex.specs.LongTokens.{first_long}
use Rattle.ccsl_vcd_lex.specs.Runs.{fresh_after}
use Rattle.ccsl_vcd_lex.proofs.Cuts.{tokens-cut, ends-before, all-kept, long-append, fresh-behind, fresh-append}
use Rattle.ccsl_vcd.specs.declared.fault.VcdFault.{VcdFault}
use Rattle.ccsl_vcd.specs.declared.limits.Limits.{Limits}
use Rattle.ccsl_vcd.specs.Binding.{Wanted}
use Rattle.ccsl_vcd.specs.Reading.{Story, next, story}
use Rattle.ccsl_vcd.specs.Completed.{complete, done}
use Rattle.ccsl_vcd.proofs.Decided.{story-more}
use Rattle.ccsl_vcd_read.specs.declared.body.Body.{Body}
use Rattle.ccsl_vcd_read.specs.declared.stage.Stage.{Stage}
use Rattle.ccsl_vcd_read.specs.declared.stage.Stage.TheVariants as stage
use Rattle.ccsl_vcd_read.specs.Passing.{Passing, Lexes}
use Rattle.ccsl_vcd_read.specs.Picture.{Shows}
use Rattle.ccsl_vcd_read.specs.Step.{hear_of}
use Rattle.ccsl_vcd_read.specs.Run.{behind, hear_next, hear_all, Runs}
use Rattle.ccsl_vcd_read.specs.Staging.{is_body, RunsIn}
use Rattle.ccsl_vcd_read.specs.Reading.{Reading, FewRows, Running, Pushes, past_header}
use Rattle.ccsl_vcd_read.proofs.BodyPictures.{Hears, hears}
use Rattle.ccsl_vcd_read.proofs.Passing.{settled-at, settles_at, fresh-open}
use Rattle.ccsl_vcd_read.proofs.Run.{hears-from}
use Rattle.ccsl_vcd_read.proofs.Taking.{done-within, runs-past}
use Rattle.ccsl_vcd_read.proofs.Faults.{Taken}

-- What tokens make of a story.

abbrev told : Wanted → Limits → Story → List Token → Story
told wanted limits st ts = fold (next wanted limits) st (map word ts)

-- a body shows the story, and these rows were completed
abbrev Kept : Story → Story → Body → List Row → Type 0
Kept st next c rows = Shows c next × (complete next ≡ complete st ++ rows)

abbrev fine : Body × List Row → Result (Body × List Row) VcdFault
fine p = Ok p

same-fine : (p q : Body × List Row) → fine p ≡ fine q → p ≡ q
same-fine p q e = cc

same-parts : (b c : Body) (xs ys : List Row) → fine (b, xs) ≡ fine (c, ys) → (b ≡ c) × (xs ≡ ys)
same-parts b c xs ys e = (ap (λ (p : Body × List Row). p.0) (same-fine (b, xs) (c, ys) e), ap (λ (p : Body × List Row). p.1) (same-fine (b, xs) (c, ys) e))

err-stays : (f : VcdFault) (ts : List Token) → fold hear_next (Err f) ts ≡ Err f
err-stays f [] = refl
err-stays f (t ∷ ts) = err-stays f ts

no-err : (f : VcdFault) (p : Body × List Row) → Err f ≡ fine p → ⊥
no-err f p e = cc

-- a token, and those behind it
module _ (wanted : Wanted) (limits : Limits) (ts : List Token) (c : Body) (rows : List Row) (st mid : Story)
    (each : (b d : Body) (more : List Row) → Shows b mid → hear_all b ts ≡ Ok (d, more) → Kept mid (told wanted limits mid ts) d more) where
  rest : (q r : Body × List Row) → Kept st mid q.0 q.1 → hear_all q.0 ts ≡ Ok r → fine (r.0, q.1 ++ r.1) ≡ fine (c, rows)
      → Kept st (told wanted limits mid ts) c rows
  rest q r k h g =
      let n = each q.0 r.0 r.1 k.0 h in
      let p = same-parts r.0 c (q.1 ++ r.1) rows g in (
        subst (λ x. Shows x (told wanted limits mid ts)) p.0 n.0,
        n.1 ∙ ap (λ rs. rs ++ r.1) k.1 ∙ append_assoc (complete st) q.1 r.1
            ∙ ap (λ rs. complete st ++ rs) p.1,
      )

  more : (q : Body × List Row) → Kept st mid q.0 q.1 → (v : Result (Body × List Row) VcdFault) → hear_all q.0 ts ≡ v → behind q.1 v ≡ Ok (c, rows)
      → Kept st (told wanted limits mid ts) c rows
  more q k (Ok r) h g = rest q r k h g
  more q k (Err f) h g = absurd (no-err f (c, rows) g)

  one-told : (r : Result (Body × List Row) VcdFault) → Hears st mid r → fold hear_next (behind [] r) ts ≡ Ok (c, rows)
      → Kept st (told wanted limits mid ts) c rows
  one-told (Ok q) k g = more q k (hear_all q.0 ts) refl (sym (hears-from q.0 q.1 ts) ∙ g)
  one-told (Err f) k g = absurd (no-err f (c, rows) (sym (err-stays f ts) ∙ g))

all-told : (wanted : Wanted) (limits : Limits) (ts : List Token) (b c : Body) (st : Story) (rows : List Row) → Shows b st → hear_all b ts ≡ Ok (c, rows)
    → Kept st (told wanted limits st ts) c rows
all-told wanted limits [] b c st rows s e =
    let p = same-parts b c [] rows e in
    (subst (λ x. Shows x st) p.0 s, sym (append-nil (complete st)) ∙ ap (λ rs. complete st ++ rs) p.1)
all-told wanted limits (t ∷ ts) b c st rows s e =
    let mid = next wanted limits st (word t) in
    one-told wanted limits ts c rows st mid (λ b' d more x h. all-told wanted limits ts b' d mid more x h) (hear_of b t.at t.text)
    (hears wanted limits b st s t.at t.text) e

-- What bytes behind a token settle.

words : (ts : List Token) → first_long ts ≡ None → map hear ts ≡ map word ts
unfolding first_long
words [] h = refl
words (t ∷ ts) h =
    (elim (is_long t) as (λ w. cond w (Some t.at) (first_long ts) ≡ None → (cond w (too_long t.at) (word t) ∷ map hear ts) ≡ (word t ∷ map word ts)) [
      | true ↦ λ e. absurd (cc)
      | false ↦ λ e. ap (λ hs. word t ∷ hs) (words ts e)
    ]) h

nothing-at : (n : ℕ) → settles_at n [] ≡ []
unfolding tokens_from
nothing-at n = refl

all-settled : (bytes : List ℕ) → fresh_after true bytes ≡ true → settled bytes ≡ map hear (tokens bytes)
all-settled bytes f = ap settled (sym (append-nil bytes)) ∙ settled-at bytes [] f ∙ ap (λ hs. map hear (tokens bytes) ++ hs) (nothing-at (length bytes))
    ∙ append-nil (map hear (tokens bytes))

settles-part : (n : ℕ) (part : List ℕ) → fresh_after true part ≡ true → first_long (tokens_from true n part) ≡ None
    → settles_at n part ≡ map word (tokens_from true n part)
settles-part n part f h = ap (map hear) (all-kept (n + length part) (tokens_from true n part) (ends-before true n part f)) ∙ words (tokens_from true n part) h

pub settles-run : (bytes part : List ℕ) → fresh_after true bytes ≡ true → fresh_after true part ≡ true
    → first_long (tokens_from true (length bytes) part) ≡ None
    → settled (bytes ++ part) ≡ settled bytes ++ map word (tokens_from true (length bytes) part)
settles-run bytes part f g h =
    settled-at bytes part f ∙ ap (λ hs. hs ++ settles_at (length bytes) part) (sym (all-settled bytes f))
    ∙ ap (λ hs. settled bytes ++ hs) (settles-part (length bytes) part g h)

pub short-run : (bytes part : List ℕ) → fresh_after true bytes ≡ true → first_long (tokens bytes) ≡ None
    → first_long (tokens_from true (length bytes) part) ≡ None → first_long (tokens (bytes ++ part)) ≡ None
short-run bytes part f n h =
    ap first_long (tokens-cut true 0 bytes part f ∙ ap (λ k. tokens bytes ++ tokens_from true k part) (zero-add (length bytes)))
    ∙ long-append (tokens bytes) (tokens_from true (length bytes) part) n ∙ h

-- the rows that a part of a body completes
pub part-rows : (wanted : Wanted) (v : Reading) (bytes part : List ℕ) (b c : Body) (x y : List Row) → Running wanted v bytes → v.stage ≡ stage.Body b
    → (r : Runs b c (length bytes) part x y) → fresh_after true bytes ≡ true
    → complete (story wanted v.limits (settled (bytes ++ part))) ≡ complete (story wanted v.limits (settled bytes)) ++ r.pushed
part-rows wanted v bytes part b c x y s e r f =
    let shows : Shows b (story wanted v.limits (settled bytes)) =
    subst (λ (t : Stage). Rattle.ccsl_vcd_read.specs.Staging.Pictures wanted v.limits t (story wanted v.limits (settled bytes))) e s.pictures in
    ap complete (ap (story wanted v.limits) (settles-run bytes part f r.fresh r.short)
    ∙ story-more wanted v.limits (settled bytes) (map word (tokens_from true (length bytes) part)))
    ∙ (all-told wanted v.limits (tokens_from true (length bytes) part) b c (story wanted v.limits (settled bytes)) r.pushed shows r.hears).1

-- A reader of a body goes on.
pub record Races (wanted : Wanted) (v w : Reading) (bytes more : List ℕ) (before after : List Row) : Type 0 where
  pub runs : Running wanted w more
  pub pushes : Pushes (done wanted v.limits bytes) (done wanted v.limits more) before after
  pub past : past_header wanted v.limits more ≡ past_header wanted v.limits bytes

module _ (wanted : Wanted) (v : Reading) (lx : Passing) (bytes part : List ℕ) (b c : Body) (n : ℕ) (x y : List Row) (s : Running wanted v bytes)
    (e : v.stage ≡ stage.Body b) (r : Runs b c v.taken part x y) (f : fresh_after true bytes ≡ true)
    (k : length part ≡ n) (l : Lexes lx (bytes ++ part)) (m : length (bytes ++ part) ≤ v.limits.bytes) where
  here : Runs b c (length bytes) part x y
  here = subst (λ i. Runs b c i part x y) s.taken r

  shows : Shows b (story wanted v.limits (settled bytes))
  shows = subst (λ (t : Stage). Rattle.ccsl_vcd_read.specs.Staging.Pictures wanted v.limits t (story wanted v.limits (settled bytes))) e s.pictures

  abbrev heard-part : List Token
  heard-part = tokens_from true (length bytes) part

  more-story : story wanted v.limits (settled (bytes ++ part)) ≡ told wanted v.limits (story wanted v.limits (settled bytes)) heard-part
  more-story = ap (story wanted v.limits) (settles-run bytes part f here.fresh here.short) ∙ story-more wanted v.limits (settled bytes) (map word heard-part)

  kept : Kept (story wanted v.limits (settled bytes)) (told wanted v.limits (story wanted v.limits (settled bytes)) heard-part) c here.pushed
  kept = all-told wanted v.limits heard-part b c (story wanted v.limits (settled bytes)) here.pushed shows here.hears

  more-rows : complete (story wanted v.limits (settled (bytes ++ part))) ≡ complete (story wanted v.limits (settled bytes)) ++ here.pushed
  more-rows = ap complete more-story ∙ kept.1

  pushed-length : length y - length x ≡ length here.pushed
  pushed-length = let q : length y ≡ length x + length here.pushed = ap length here.rows ∙ length-append x here.pushed in omega arith

  is-past : is_body v.stage ≡ true
  is-past = ap is_body e

  abbrev pub after : Reading
  after = record v { lexing = lx; taken = v.taken + n; stage = stage.Body c; rows = v.rows + (length y - length x) }

  few-now : v.rows < v.taken
  few-now = subst (λ w. FewRows w v.rows v.taken) is-past s.few

  goes : Running wanted after (bytes ++ part)
  goes = record {
    lexes = l;
    short = short-run bytes part f s.short here.short;
    taken = ap (λ i. i + n) s.taken ∙ ap (λ i. length bytes + i) (sym k) ∙ sym (length-append bytes part);
    within = m;
    pictures = subst (λ st. Shows c st) (sym more-story) kept.0;
    rows =
        ap (λ i. v.rows + i) pushed-length ∙ ap (λ i. i + length here.pushed) s.rows
        ∙ sym (length-append (complete (story wanted v.limits (settled bytes))) here.pushed) ∙ ap length (sym more-rows);
    few = omega (arith, few-now, pushed-length, here.few, k);
  }

  pub races : Races wanted v after bytes (bytes ++ part) x y
  races = record {
    runs = goes;
    pushes = record {
      pushed = here.pushed;
      rows = done-within wanted v.limits (bytes ++ part) m ∙ more-rows ∙ ap (λ rs. rs ++ here.pushed) (sym (done-within wanted v.limits bytes s.within));
      block = here.rows;
    };
    past = runs-past wanted after (bytes ++ part) goes ∙ sym (runs-past wanted v bytes s ∙ is-past);
  }

-- The same, by what the code did.

pub record Bodies (s t : Stage) (at : ℕ) (part : List ℕ) (x y : List Row) : Type 0 where
  pub b : Body
  pub c : Body
  pub old : s ≡ stage.Body b
  pub new : t ≡ stage.Body c
  pub ran : Runs b c at part x y

pub bodies : (s t : Stage) (at : ℕ) (part : List ℕ) (x y : List Row) → RunsIn s t at part x y → Bodies s t at part x y
bodies (stage.Body b) (stage.Body c) at part x y h = record { b = b; c = c; old = refl; new = refl; ran = h }
bodies (stage.Body b) (stage.Header g) at part x y h = absurd h
bodies (stage.Body b) stage.Unbound at part x y h = absurd h
bodies (stage.Header g) t at part x y h = absurd h
bodies stage.Unbound t at part x y h = absurd h

-- the lexer passed over the bytes
abbrev Passes : Passing → Passing → ℕ → Type 0
Passes v w n = (bytes part : List ℕ) → Lexes v bytes → first_long (tokens bytes) ≡ None → length part ≡ n → fresh_after true (bytes ++ part) ≡ true
    → first_long (tokens (bytes ++ part)) ≡ None → Lexes w (bytes ++ part)

pub race-on : (wanted : Wanted) (v : Reading) (lx : Passing) (bytes part : List ℕ) (t : Stage) (n : ℕ) (x y : List Row) → Running wanted v bytes
    → RunsIn v.stage t v.taken part x y → v.lexing.inner.open_text ≡ [] → Passes v.lexing lx n
    → length part ≡ n → length (bytes ++ part) ≤ v.limits.bytes
    → Races wanted v (record v { lexing = lx; taken = v.taken + n; stage = t; rows = v.rows + (length y - length x) }) bytes (bytes ++ part) x y
race-on wanted v lx bytes part t n x y s h o p k m =
    let q = bodies v.stage t v.taken part x y h in
    let r : Runs q.b q.c (length bytes) part x y = subst (λ i. Runs q.b q.c i part x y) s.taken q.ran in
    let f : fresh_after true bytes ≡ true = fresh-open v.lexing bytes s.lexes s.short o in
    let l : Lexes lx (bytes ++ part) =
    p bytes part s.lexes s.short k (fresh-append true bytes part ∙ ap (λ w. fresh_after w part) f ∙ r.fresh) (short-run bytes part f s.short r.short) in
    subst (λ (u : Stage). Races wanted v (record v { lexing = lx; taken = v.taken + n; stage = u; rows = v.rows + (length y - length x) }) bytes (bytes ++ part)
    x y) (sym q.new)
    (races wanted v lx bytes part q.b q.c n x y s q.old q.ran f k l m)

-- few rows were given out
pub few-pushed : (s t : Stage) (at : ℕ) (part : List ℕ) (x y : List Row) → RunsIn s t at part x y → (length x ≤ length y) × (length y - length x ≤ length part)
few-pushed s t at part x y h =
    let q = bodies s t at part x y h in
    let r : Runs q.b q.c at part x y = q.ran in
    let e : length y ≡ length x + length r.pushed = ap length r.rows ∙ length-append x r.pushed in
    let l : length r.pushed ≤ length part = r.few in
    (omega arith, omega arith)

-- a reader of a body has given out fewer rows than it took bytes
pub rows-less : (wanted : Wanted) (v : Reading) (bytes : List ℕ) → Running wanted v bytes → is_body v.stage ≡ true → v.rows < v.taken
rows-less wanted v bytes s e = subst (λ w. FewRows w v.rows v.taken) e s.few

pub raced : (wanted : Wanted) (v : Reading) (lx : Passing) (bytes piece cut : List ℕ) (t : Stage) (count a b : ℕ) (x y : List Row) → Running wanted v bytes →
    Taken (v.limits.bytes - v.taken) piece cut count → RunsIn v.stage t v.taken (take count cut) x y → v.lexing.inner.open_text ≡ [] →
    Passes v.lexing lx count → a ≡ length y → b ≡ length x →
    Races wanted v (record v { lexing = lx; taken = v.taken + count; stage = t; rows = v.rows + (a - b) }) bytes (bytes ++ take count piece) x y
raced wanted v lx bytes piece cut t count a b x y s k h o p ea eb =
    let few : count ≤ v.limits.bytes - v.taken = k.few in
    let size : length (take count cut) ≡ count = k.size in
    let fits : length (bytes ++ take count cut) ≤ v.limits.bytes = omega (arith, length-append bytes (take count cut), size, few, s.taken, s.within) in
    let r = race-on wanted v lx bytes (take count cut) t count x y s h o p k.size fits in
    let n : v.rows + (length y - length x) ≡ v.rows + (a - b) = ap₂ (λ i j. v.rows + (i - j)) (sym ea) (sym eb) in
    let new : ℕ → Reading = λ i. record v { lexing = lx; taken = v.taken + count; stage = t; rows = i } in
    subst (λ part. Races wanted v (new (v.rows + (a - b))) bytes (bytes ++ part) x y) k.same
    (subst (λ i. Races wanted v (new i) bytes (bytes ++ take count cut) x y) n r)

-- white space was taken last
pub white-last : (bytes piece : List ℕ) (n : ℕ) → 0 < n → n ≤ length piece → is_white (get_or piece (n - 1) 0) ≡ true
    → fresh_after true (bytes ++ take n piece) ≡ true
white-last bytes piece n some within w =
    let k : n ≡ n - 1 + 1 = omega (arith, some) in
    let x = get_or piece (n - 1) 0 in
    ap (λ i. fresh_after true (bytes ++ take i piece)) k ∙ ap (λ xs. fresh_after true (bytes ++ xs)) (take_more piece (n - 1) 0 (omega (arith, some, within)))
    ∙ ap (fresh_after true) (sym (append_assoc bytes (take (n - 1) piece) (x ∷ [])))
    ∙ fresh-behind true (bytes ++ take (n - 1) piece) (x ∷ []) (w, tt) (omega arith)
