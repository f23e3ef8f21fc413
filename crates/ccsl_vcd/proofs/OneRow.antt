-- A byte completes at most one row, and so does the end of a file.
use Rattle.std.proofs.Common.{◌≡◌, ℕ, ◌+◌, ◌≤◌, ◌<◌, List, [], ◌∷◌, ◌++◌, length, Bool, true, false, Option, Some, None, ◌⊎◌, inl, inr, nat_lt, if◌then◌else◌}
use Rattle.std.proofs.Common.{refl, sym, ap, ◌∙◌, append_assoc, length-append, arith, subst, take, filter, map}
use Rattle.std.specs.Prelude.{fold, bytes_eq, codes}
use Rattle.std.proofs.lemmas.Bool.{lt-ltb, ltb-true, ltb-false}
use Rattle.std.proofs.lemmas.List.{append-nil, map-append, take_all, take-append-le}
use Rattle.std.proofs.lemmas.Grind.{fold-append}
use Rattle.ccsl_base.specs.declared.rows.Row.{Row}
use Rattle.ccsl_vcd_lex.specs.Tokens.{is_white, Token, token, Heard, word, too_long, hear, heard, settled, tokens, is_long}
use Rattle.ccsl_vcd_lex.proofs.Cuts.{one, fresh-behind, tokens-parts, closed-parts, dark-append, from-behind}
use Rattle.ccsl_vcd_lex.proofs.Further.{split}
use Rattle.ccsl_vcd.specs.declared.fault.VcdFault.{VcdFault}
use Rattle.ccsl_vcd.specs.declared.fault.VcdFault.TheVariants as faults
use Rattle.ccsl_vcd.specs.declared.limits.Limits.{Limits}
use Rattle.ccsl_vcd.specs.Binding.{Wanted, Bound}
use Rattle.ccsl_vcd.specs.Places as p
use Rattle.ccsl_vcd.specs.Words as w
use Rattle.ccsl_vcd.specs.Body.{is_declared, changed, change_says, body_says}
use Rattle.ccsl_vcd.specs.Reading.{says, Story, told, next_from, next, begin, story, decides, is_over, so_far, ends_at, reading}
use Rattle.ccsl_vcd.specs.Rows.{row, rows, rows_of, has_ticks, bound_at, recorded}
use Rattle.ccsl_vcd.specs.Completed.{is_before, now_at, complete, done}
use Rattle.ccsl_vcd.proofs.RowLaws.{Earlier, Now, row_now, rows-all, rows-done}
use Rattle.ccsl_vcd.proofs.Quiet.{Quiet, header-quiet}

-- WHAT A BYTE SETTLES

-- at most one token more is settled
pub record Adds (old new : List Heard) : Type 0 where
  pub rest : List Heard
  pub is : new ≡ old ++ rest
  pub few : length rest ≤ 1

none-added : (hs : List Heard) → Adds hs hs
none-added hs = record { rest = []; is = sym (append-nil hs); few = omega arith }

one-added : (front : List Token) (t : Token) → Adds (map hear (front ++ [])) (map hear (front ++ t ∷ []))
one-added front t = record {
  rest = hear t ∷ [];
  is = map-append hear front (t ∷ []) ∙ ap (λ (ts : List Token). map hear ts ++ hear t ∷ []) (sym (append-nil front));
  few = omega arith;
}

-- the last token ends
one-closed : (n : ℕ) (text : List ℕ) (front : List Token) → Adds (map hear (front ++ filter is_long (one n text))) (map hear (front ++ one n text))
one-closed n [] front = none-added _
one-closed n (b ∷ xs) front =
    elim (is_long (token n (b ∷ xs))) as (λ x. Adds (map hear (front ++ (if x then token n (b ∷ xs) ∷ [] else [])))
    (map hear (front ++ token n (b ∷ xs) ∷ []))) [
      | true ↦ none-added _
      | false ↦ one-added front (token n (b ∷ xs))
    ]

long-heard : (n : ℕ) (text : List ℕ) (front : List Token) → is_long (token n text) ≡ true
    → map hear (front ++ token n text ∷ []) ≡ map hear front ++ too_long n ∷ []
long-heard n text front e = map-append hear front (token n text ∷ []) ∙ rw e refl

-- it grows
one-grows : (n b : ℕ) (text : List ℕ) (front : List Token)
    → Adds (map hear (front ++ filter is_long (one n text))) (map hear (front ++ filter is_long (one n (text ++ b ∷ []))))
one-grows n b [] front = none-added _
one-grows n b (c ∷ xs) front =
    let old : Token = token n (c ∷ xs) in
    let new : Token = token n (c ∷ (xs ++ b ∷ [])) in
    (elim (is_long old) as (λ x. is_long old ≡ x
    → Adds (map hear (front ++ (if x then old ∷ [] else []))) (map hear (front ++ (if is_long new then new ∷ [] else [])))) [
      | true ↦ λ e.
          let l : 65536 < length (c ∷ xs) = ltb-true 65536 (length (c ∷ xs)) e in
          let more : is_long new ≡ true = lt-ltb 65536 (length (c ∷ (xs ++ b ∷ []))) (omega (arith, length-append xs (b ∷ []), l)) in
          rw more (subst (λ hs. Adds (map hear (front ++ old ∷ [])) hs) (long-heard n (c ∷ xs) front e ∙ sym (long-heard n (c ∷ (xs ++ b ∷ [])) front more))
          (none-added (map hear (front ++ old ∷ []))))
      | false ↦ λ e.
          elim (is_long new) as (λ x. Adds (map hear (front ++ [])) (map hear (front ++ (if x then new ∷ [] else [])))) [
            | true ↦ one-added front new
            | false ↦ none-added _
          ]
    ]) refl

module _ (bytes : List ℕ) where
  abbrev s : Rattle.ccsl_vcd_lex.proofs.Further.Split true bytes
  s = split bytes

  settled-now : settled bytes ≡ map hear (tokens s.before ++ filter is_long (one (length s.before) s.text))
  settled-now = ap settled s.whole ∙ ap (map hear) (closed-parts s.before s.text _ s.fresh s.dark refl)

  all-now : tokens bytes ≡ tokens s.before ++ one (length s.before) s.text
  all-now = ap tokens s.whole ∙ tokens-parts s.before s.text s.fresh s.dark

  pub heard-adds : Adds (settled bytes) (heard bytes)
  heard-adds =
      subst (λ hs. Adds hs (heard bytes)) (sym settled-now)
      (subst (λ ts. Adds (map hear (tokens s.before ++ filter is_long (one (length s.before) s.text))) (map hear ts)) (sym all-now)
      (one-closed (length s.before) s.text (tokens s.before)))

  ended : (b : ℕ) → is_white b ≡ true → settled (bytes ++ b ∷ []) ≡ heard bytes
  ended b white =
      let fresh = fresh-behind true bytes (b ∷ []) (white, tt) (omega arith) in
      ap settled (sym (append-nil (bytes ++ b ∷ []))) ∙ ap (map hear)
      (closed-parts (bytes ++ b ∷ []) [] [] fresh tt refl ∙ append-nil (tokens (bytes ++ b ∷ [])))
      ∙ ap (map hear) (from-behind true 0 bytes (b ∷ []) (white, tt))

  grown : (b : ℕ) → is_white b ≡ false → settled (bytes ++ b ∷ []) ≡ map hear (tokens s.before ++ filter is_long (one (length s.before) (s.text ++ b ∷ [])))
  grown b dark =
      ap (λ xs. settled (xs ++ b ∷ [])) s.whole ∙ ap settled (append_assoc s.before s.text (b ∷ []))
      ∙ ap (map hear) (closed-parts s.before (s.text ++ b ∷ []) _ s.fresh (dark-append s.text (b ∷ []) s.dark (dark, tt)) refl)

  pub byte-adds : (b : ℕ) → Adds (settled bytes) (settled (bytes ++ b ∷ []))
  byte-adds b =
      (elim (is_white b) as (λ x. is_white b ≡ x → Adds (settled bytes) (settled (bytes ++ b ∷ []))) [
        | true ↦ λ e. subst (Adds (settled bytes)) (sym (ended b e)) heard-adds
        | false ↦ λ e.
            subst (Adds (settled bytes)) (sym (grown b e))
            (subst (λ hs. Adds hs (map hear (tokens s.before ++ filter is_long (one (length s.before) (s.text ++ b ∷ []))))) (sym settled-now)
            (one-grows (length s.before) b s.text (tokens s.before)))
      ]) refl

-- WHAT A TOKEN COMPLETES

-- the changes before the present time, and those at it
record Parts (now : ℕ) (cs : List p.Change) : Type 0 where
  pub old : List p.Change
  pub cur : List p.Change
  pub is : cs ≡ old ++ cur
  pub earlier : Earlier now old
  pub current : Now now cur

-- in the header none is made
abbrev Stands : p.Where → List p.Change → Type 0
Stands (p.header h) cs = cs ≡ []
Stands (p.body b) cs = Parts b.now cs

few-now : (bound : List Bound) (now : ℕ) (cur old : List p.Change) → length (row_now bound now cur old) ≤ 1
few-now bound now cur old =
    elim (has_ticks (row bound now cur old)) as (λ x. length (if x then row bound now cur old ∷ [] else []) ≤ 1) [ true ↦ omega arith | false ↦ omega arith ]

now-both : (now : ℕ) (xs ys : List p.Change) → Now now xs → Now now ys → Now now (xs ++ ys)
now-both now [] ys k h = h
now-both now (x ∷ xs) ys k h = (k.0, now-both now xs ys k.1 h)

module _ (bound : List Bound) (now : ℕ) (cs : List p.Change) (q : Parts now cs) where
  rows-now : rows bound cs ≡ rows bound q.old ++ row_now bound now q.cur q.old
  rows-now = ap (rows bound) q.is ∙ rows-all bound now q.old q.cur q.earlier q.current

  done-now : filter (is_before now) (rows bound cs) ≡ rows bound q.old
  done-now = ap (λ xs. filter (is_before now) (rows bound xs)) q.is ∙ rows-done bound now q.old q.cur q.earlier q.current

  few-more : length (rows bound cs) ≤ length (filter (is_before now) (rows bound cs)) + 1
  few-more =
      let n = few-now bound now q.cur q.old in
      omega (arith, ap length rows-now ∙ length-append (rows bound q.old) (row_now bound now q.cur q.old), ap length done-now, n)

  whole-is : (ds : List p.Change) → cs ++ ds ≡ q.old ++ (q.cur ++ ds)
  whole-is ds = ap (λ xs. xs ++ ds) q.is ∙ append_assoc q.old q.cur ds

  now-append : (ds : List p.Change) → Now now ds → Parts now (cs ++ ds)
  now-append ds h = record { old = q.old; cur = q.cur ++ ds; is = whole-is ds; earlier = q.earlier; current = now-both now q.cur ds q.current h }

  -- with changes at the present time the complete rows are the same, and there is at most one more
  few-same : (ds : List p.Change) → Now now ds → length (rows bound (cs ++ ds)) ≤ length (filter (is_before now) (rows bound cs)) + 1
  few-same ds h =
      let n = few-now bound now (q.cur ++ ds) q.old in
      let all : rows bound (cs ++ ds) ≡ rows bound q.old ++ row_now bound now (q.cur ++ ds) q.old =
      ap (rows bound) (whole-is ds) ∙ rows-all bound now q.old (q.cur ++ ds) q.earlier (now-both now q.cur ds q.current h) in
      omega (arith, ap length all ∙ length-append (rows bound q.old) (row_now bound now (q.cur ++ ds) q.old), ap length done-now, n)

  -- a greater time
  later : (m : ℕ) → now < m → Parts m cs
  later m l = record { old = cs; cur = []; is = sym (append-nil cs); earlier = subst (Earlier m) (sym q.is) (below q.old q.earlier); current = tt }
    where
      at-last : (xs : List p.Change) → Now now xs → Earlier m xs
      at-last [] k = tt
      at-last (x ∷ xs) k = (omega (arith, k.0, l), at-last xs k.1)

      below : (xs : List p.Change) → Earlier now xs → Earlier m (xs ++ q.cur)
      below [] k = at-last q.cur q.current
      below (x ∷ xs) k = (omega (arith, k.0, l), below xs k.1)

-- a token of a body: the clocks stay bound, and either changes are made at the present time, or the time grows
abbrev Moves : p.Body → p.Said → Type 0
Moves b (p.refused f) = Unit {0}
Moves b (p.goes (p.header h) ds) = ⊥
Moves b (p.goes (p.body c) ds) = (c.bound ≡ b.bound) × (((c.now ≡ b.now) × Now b.now ds) ⊎ ((b.now < c.now) × (ds ≡ [])))

either-moves : (b : p.Body) (x : Bool) (r s : p.Said) → Moves b r → Moves b s → Moves b (if x then r else s)
either-moves b true r s h k = h
either-moves b false r s h k = k

changed-moves : (b : p.Body) (t : Token) (code : List ℕ) (one : Bool) → Moves b (changed b t code one)
changed-moves b t code one = either-moves b (is_declared b.declared code) _ _ (refl, inl (refl, (refl, tt))) tt

time-moves : (b : p.Body) (n : ℕ) → b.now ≤ n → Moves b (p.goes (p.body (record b { now = n })) [])
time-moves b n l =
    (elim (nat_lt b.now n) as (λ x. nat_lt b.now n ≡ x → Moves b (p.goes (p.body (record b { now = n })) [])) [
      | true ↦ λ e. (refl, inr (ltb-true b.now n e, refl))
      | false ↦ λ e. let k : n ≤ b.now = ltb-false b.now n e in (refl, inl (omega (arith, k, l), tt))
    ]) refl

change-moves : (b : p.Body) (t : Token) (x : w.Word) → Moves b (change_says b t x)
change-moves b t (w.time n) =
    (elim (nat_lt n b.now) as (λ y. nat_lt n b.now ≡ y
    → Moves b (if y then p.refused (faults.TimeBack t.at b.now n) else p.goes (p.body (record b { now = n })) [])) [
      | true ↦ λ e. tt
      | false ↦ λ e. time-moves b n (ltb-false n b.now e)
    ]) refl
change-moves b t (w.scalar one code) = changed-moves b t code one
change-moves b t (w.vector one) = (refl, inl (refl, tt))
change-moves b t w.skipped = (refl, inl (refl, tt))
change-moves b t w.comment = (refl, inl (refl, tt))
change-moves b t w.dump = either-moves b b.dumping _ _ tt (refl, inl (refl, tt))
change-moves b t w.gap = either-moves b b.dumping _ _ tt tt
change-moves b t w.close = either-moves b b.dumping _ _ (refl, inl (refl, tt)) tt
change-moves b t w.bad_time = tt
change-moves b t w.bad_change = tt
change-moves b t w.unknown = tt

body-moves : (b : p.Body) (t : Token) (a : p.Amid) → Moves b (body_says b t a)
body-moves b t p.changes = change-moves b t (w.word_of t.text)
body-moves b t p.remark = either-moves b (bytes_eq t.text (codes "$end")) _ _ (refl, inl (refl, tt)) (refl, inl (refl, tt))
body-moves b t (p.code_of one) = changed-moves b t t.text one
body-moves b t p.code_skipped = either-moves b (is_declared b.declared t.text) _ _ (refl, inl (refl, tt)) tt

abbrev Standing : Story → Type 0
Standing s = Stands s.place s.changes

-- all rows of a story, the present one with them, are at most one more than were complete before
record Goes (before s : Story) : Type 0 where
  pub stands : Standing s
  pub few : length (rows_of s) ≤ length (complete before) + 1

-- without changes there are no rows
none-rows : (bound other : List Bound) (n : ℕ) → length (rows bound []) ≤ length (filter (is_before n) (rows other [])) + 1
unfolding rows
none-rows bound other n = omega arith

told-header : (h : p.Header) (cs : List p.Change) (f : Option VcdFault) (said : p.Said) → cs ≡ [] → Quiet said
    → Goes (record { changes = cs; place = p.header h; fault = f }) (told cs (p.header h) said)
told-header h [] f (p.refused g) e q = record { stands = refl; few = none-rows [] [] 0 }
told-header h [] f (p.goes v (c ∷ ds)) e q = absurd (let x : c ∷ ds ≡ [] = q in cc)
told-header h [] f (p.goes (p.header g) []) e q = record { stands = refl; few = none-rows [] [] 0 }
told-header h [] f (p.goes (p.body b) []) e q = record {
  stands = record { old = []; cur = []; is = refl; earlier = tt; current = tt };
  few = none-rows b.bound [] 0;
}
told-header h (c ∷ cs) f said e q = absurd (cc)

told-body : (b : p.Body) (cs : List p.Change) (f : Option VcdFault) (said : p.Said) → Parts b.now cs → Moves b said
    → Goes (record { changes = cs; place = p.body b; fault = f }) (told cs (p.body b) said)
told-body b cs f (p.refused g) q m = record { stands = q; few = few-more b.bound b.now cs q }
told-body b cs f (p.goes (p.header h) ds) q m = absurd m
told-body b cs f (p.goes (p.body c) ds) q m = on m.1
  where
    on : ((c.now ≡ b.now) × Now b.now ds) ⊎ ((b.now < c.now) × (ds ≡ []))
        → Goes (record { changes = cs; place = p.body b; fault = f }) (told cs (p.body b) (p.goes (p.body c) ds))
    on (inl k) = record {
      stands = subst (λ n. Parts n (cs ++ ds)) (sym k.0) (now-append b.bound b.now cs q ds k.1);
      few = subst (λ xs. length (rows xs (cs ++ ds)) ≤ length (filter (is_before b.now) (rows b.bound cs)) + 1) (sym m.0) (few-same b.bound b.now cs q ds k.1);
    }
    on (inr k) =
        let none : cs ++ ds ≡ cs = ap (λ xs. cs ++ xs) k.1 ∙ append-nil cs in
        record {
          stands = subst (Parts c.now) (sym none) (later b.bound b.now cs q c.now k.0);
          few =
              subst (λ xs. length (rows xs (cs ++ ds)) ≤ length (filter (is_before b.now) (rows b.bound cs)) + 1) (sym m.0)
              (subst (λ xs. length (rows b.bound xs) ≤ length (filter (is_before b.now) (rows b.bound cs)) + 1) (sym none) (few-more b.bound b.now cs q));
        }

-- where no token ends
same-few : (s : Story) → Standing s → length (rows_of s) ≤ length (complete s) + 1
same-few s k = on s.place k
  where
    on : (v : p.Where) → Stands v s.changes → length (rows (bound_at v) s.changes) ≤ length (filter (is_before (now_at v)) (rows (bound_at v) s.changes)) + 1
    on (p.header h) e = subst (λ cs. length (rows [] cs) ≤ length (filter (is_before 0) (rows [] cs)) + 1) (sym e) (none-rows [] [] 0)
    on (p.body b) q = few-more b.bound b.now s.changes q

module _ (wanted : Wanted) (l : Limits) where
  place-told : (cs : List p.Change) (v : p.Where) (f : Option VcdFault) (h : Heard) → Stands v cs
      → Goes (record { changes = cs; place = v; fault = f }) (told cs v (says wanted l v h))
  unfolding says
  place-told cs (p.header h) f (too_long at) k = told-header h cs f (p.refused (faults.TokenTooLong at)) k tt
  place-told cs (p.body b) f (too_long at) k = told-body b cs f (p.refused (faults.TokenTooLong at)) k tt
  place-told cs (p.header h) f (word t) k = told-header h cs f _ k (header-quiet wanted l h t h.among)
  place-told cs (p.body b) f (word t) k = told-body b cs f _ k (body-moves b t b.amid)

  next-goes : (s : Story) (h : Heard) → Standing s → Goes s (next wanted l s h)
  next-goes s h k = on s.changes s.place s.fault k
    where
      on : (cs : List p.Change) (v : p.Where) (o : Option VcdFault) → Stands v cs
          → Goes (record { changes = cs; place = v; fault = o }) (next_from wanted l cs v o h)
      on cs v None q = place-told cs v None h q
      on cs v (Some f) q = record { stands = q; few = same-few (record { changes = cs; place = v; fault = Some f }) q }

  fold-stands : (s : Story) (hs : List Heard) → Standing s → Standing (fold (next wanted l) s hs)
  fold-stands s [] k = k
  fold-stands s (h ∷ hs) k = fold-stands (next wanted l s h) hs (next-goes s h k).stands

  story-stands : (hs : List Heard) → Standing (story wanted l hs)
  story-stands hs = fold-stands begin hs refl

  -- with at most one token more
  few-behind : (s : Story) (hs : List Heard) → Standing s → length hs ≤ 1 → length (rows_of (fold (next wanted l) s hs)) ≤ length (complete s) + 1
  few-behind s [] k n = same-few s k
  few-behind s (h ∷ []) k n = (next-goes s h k).few
  few-behind s (h ∷ i ∷ hs) k n = absurd (omega (arith, n))

  pub few-added : (old new : List Heard) → Adds old new → length (rows_of (story wanted l new)) ≤ length (complete (story wanted l old)) + 1
  few-added old new a =
      subst (λ hs. length (rows_of (story wanted l hs)) ≤ length (complete (story wanted l old)) + 1) (sym a.is)
      (subst (λ (s : Story). length (rows_of s) ≤ length (complete (story wanted l old)) + 1) (sym (fold-append (next wanted l) begin old a.rest))
      (few-behind (story wanted l old) a.rest (story-stands old) a.few))

-- WHAT BYTES COMPLETE

shorter : (q : Row → Bool) (rs : List Row) → length (filter q rs) ≤ length rs
shorter q [] = omega arith
shorter q (r ∷ rs) =
    let ih = shorter q rs in
    elim (q r) as (λ x. length (if x then r ∷ filter q rs else filter q rs) ≤ length (r ∷ rs)) [ true ↦ omega (arith, ih) | false ↦ omega (arith, ih) ]

few-complete : (s : Story) (n : ℕ) → length (rows_of s) ≤ n → length (complete s) ≤ n
few-complete s n h = omega (arith, h, shorter (is_before (now_at s.place)) (rows_of s))

module _ (w : Wanted) (l : Limits) where
  abbrev cut : List ℕ → Story
  cut bytes = story w l (settled (take l.bytes bytes))

  -- past the limit no byte completes a row
  done-cut : (bytes : List ℕ) → done w l bytes ≡ complete (cut bytes)
  unfolding done so_far
  done-cut bytes =
      (elim (is_over l bytes) as (λ o. is_over l bytes ≡ o
      → complete (if o then decides (cut bytes) (Some (faults.TooLong l.bytes)) else story w l (settled bytes)) ≡ complete (cut bytes)) [
        | true ↦ λ e. refl
        | false ↦ λ e. ap (λ xs. complete (story w l (settled xs))) (sym (take_all l.bytes bytes (ltb-false l.bytes (length bytes) e)))
      ]) refl

  pub one-row-a-byte : (bytes : List ℕ) (b : ℕ) → length (done w l (bytes ++ b ∷ [])) ≤ length (done w l bytes) + 1
  one-row-a-byte bytes b =
      rw (done-cut bytes, done-cut (bytes ++ b ∷ []))
      ((elim (nat_lt (length bytes) l.bytes) as (λ x. nat_lt (length bytes) l.bytes ≡ x
      → length (complete (cut (bytes ++ b ∷ []))) ≤ length (complete (cut bytes)) + 1) [
        | true ↦ λ e.
            let k : length bytes < l.bytes = ltb-true (length bytes) l.bytes e in
            let more : take l.bytes (bytes ++ b ∷ []) ≡ bytes ++ b ∷ [] = take_all l.bytes (bytes ++ b ∷ []) (omega (arith, length-append bytes (b ∷ []), k)) in
            let same : take l.bytes bytes ≡ bytes = take_all l.bytes bytes (omega (arith, k)) in
            rw (more, same)
            (few-complete (story w l (settled (bytes ++ b ∷ []))) (length (complete (story w l (settled bytes))) + 1)
            (few-added w l (settled bytes) (settled (bytes ++ b ∷ [])) (byte-adds bytes b)))
        | false ↦ λ e.
            let k : l.bytes ≤ length bytes = ltb-false (length bytes) l.bytes e in
            rw (take-append-le l.bytes bytes (b ∷ []) k) (omega arith)
      ]) refl)

  pub one-row-at-the-end : (file : List ℕ) → length (recorded w l file) ≤ length (done w l file) + 1
  unfolding recorded reading done so_far
  one-row-at-the-end file =
      elim (is_over l file) as (λ o. length
      (rows_of (if o then (if o then decides (cut file) (Some (faults.TooLong l.bytes)) else story w l (settled file)) else ends_at (length file)
      (story w l (heard file))))
      ≤ length (complete (if o then decides (cut file) (Some (faults.TooLong l.bytes)) else story w l (settled file))) + 1) [
        | true ↦ same-few (cut file) (story-stands w l (settled (take l.bytes file)))
        | false ↦ few-added w l (settled file) (heard file) (heard-adds file)
      ]
