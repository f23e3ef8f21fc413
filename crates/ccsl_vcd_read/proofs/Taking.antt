-- What a reader stands for, token by token.
use Rattle.std.proofs.Common.{◌≡◌, ℕ, ◌+◌, ◌-◌, ◌≤◌, ◌<◌, List, [], ◌∷◌, ◌++◌, length, take, Bool, true, false, not, ◌&&◌, Option, Some, None, refl, sym, ap}
use Rattle.std.proofs.Common.{◌∙◌, subst, arith, length-append}
use Rattle.std.proofs.lemmas.List.{append-nil}
use Rattle.std.proofs.lemmas.Bool.{le-ltb}
use Rattle.ccsl_base.specs.declared.rows.Row.{Row}
use Rattle.ccsl_vcd_lex.specs.Tokens.{token, Heard as Said, word, tokens, settled}
use Rattle.ccsl_vcd_lex.specs.LongTokens.{first_long}
use Rattle.ccsl_vcd_read.specs.Passing.{Passing, Lexes}
use Rattle.ccsl_vcd.specs.declared.fault.VcdFault.{VcdFault}
use Rattle.ccsl_vcd.specs.declared.limits.Limits.{Limits}
use Rattle.ccsl_vcd.specs.Binding.{Wanted}
use Rattle.ccsl_vcd.specs.Reading.{Story, next, story, so_far}
use Rattle.ccsl_vcd.specs.Rows.{rows}
use Rattle.ccsl_vcd.specs.Completed.{complete, done}
use Rattle.ccsl_vcd.proofs.Decided.{story-more}
use Rattle.ccsl_vcd_read.specs.declared.stage.Stage.{Stage}
use Rattle.ccsl_vcd_read.specs.declared.stage.Stage.TheVariants as stage
use Rattle.ccsl_vcd_read.specs.Heading.{Caused, Refuses}
use Rattle.ccsl_vcd_read.specs.Staging.{Pictures, Heard, is_body, shown, shown_at}
use Rattle.ccsl_vcd_read.specs.Reading.{Reading, FewRows, Running, Stopped, Stands, StandsFor, Pushes, is_past, past_header, HeaderSo}

pub running-of : (wanted : Wanted) (v : Reading) (bytes : List ℕ) → v.fault ≡ None → StandsFor wanted v bytes → Running wanted v bytes
unfolding StandsFor
running-of wanted v bytes e s = subst (λ (o : Option VcdFault). Stands o wanted v bytes) e s

pub stands-of : (wanted : Wanted) (v : Reading) (bytes : List ℕ) → v.fault ≡ None → Running wanted v bytes → StandsFor wanted v bytes
unfolding StandsFor
stands-of wanted v bytes e s = subst (λ (o : Option VcdFault). Stands o wanted v bytes) (sym e) s

pub stands-stopped : (wanted : Wanted) (v : Reading) (f : VcdFault) (bytes : List ℕ) → v.fault ≡ Some f → Caused f (Stopped wanted v f bytes)
    → StandsFor wanted v bytes
unfolding StandsFor
stands-stopped wanted v f bytes e s = subst (λ (o : Option VcdFault). Stands o wanted v bytes) (sym e) s

pub stopped-is : (wanted : Wanted) (v : Reading) (f : VcdFault) (bytes : List ℕ) → v.fault ≡ Some f → StandsFor wanted v bytes
    → Caused f (Stopped wanted v f bytes)
unfolding StandsFor
stopped-is wanted v f bytes e s = subst (λ (o : Option VcdFault). Stands o wanted v bytes) e s

pub so_far-within : (wanted : Wanted) (limits : Limits) (bytes : List ℕ) → length bytes ≤ limits.bytes
    → so_far wanted limits bytes ≡ story wanted limits (settled bytes)
unfolding so_far
so_far-within wanted limits bytes h = rw (le-ltb limits.bytes (length bytes) h) refl

pub done-within : (wanted : Wanted) (limits : Limits) (bytes : List ℕ) → length bytes ≤ limits.bytes
    → done wanted limits bytes ≡ complete (story wanted limits (settled bytes))
unfolding done
done-within wanted limits bytes h = ap complete (so_far-within wanted limits bytes h)

pub done-told : (wanted : Wanted) (limits : Limits) (bytes : List ℕ) (st : Story) → so_far wanted limits bytes ≡ st → done wanted limits bytes ≡ complete st
unfolding done
done-told wanted limits bytes st e = ap complete e

-- a story of which something is kept has no fault, and is in the header or the body as what is kept
pub no-fault : (wanted : Wanted) (limits : Limits) (s : Stage) (st : Story) → Pictures wanted limits s st → st.fault ≡ None
no-fault wanted limits (stage.Header h) st x = ap (λ (y : Story). y.fault) x.told
no-fault wanted limits (stage.Body b) st x = ap (λ (y : Story). y.fault) x.told
no-fault wanted limits stage.Unbound st x = absurd x

pub same-past : (wanted : Wanted) (limits : Limits) (s : Stage) (st : Story) → Pictures wanted limits s st → is_past st.place ≡ is_body s
same-past wanted limits (stage.Header h) st x = ap (λ (y : Story). is_past y.place) x.told
same-past wanted limits (stage.Body b) st x = ap (λ (y : Story). is_past y.place) x.told
same-past wanted limits stage.Unbound st x = absurd x

pub same-shown : (wanted : Wanted) (limits : Limits) (s : Stage) (st : Story) → Pictures wanted limits s st → shown s ≡ shown_at st.place
same-shown wanted limits (stage.Header h) st x = sym (ap (λ (y : Story). shown_at y.place) x.told)
same-shown wanted limits (stage.Body b) st x = sym (ap (λ (y : Story). shown_at y.place) x.told)
same-shown wanted limits stage.Unbound st x = absurd x

-- the header has ended where a body is kept
pub runs-past : (wanted : Wanted) (v : Reading) (bytes : List ℕ) → Running wanted v bytes → past_header wanted v.limits bytes ≡ is_body v.stage
runs-past wanted v bytes s =
    ap (λ (x : Story). is_past x.place) (so_far-within wanted v.limits bytes s.within)
    ∙ same-past wanted v.limits v.stage (story wanted v.limits (settled bytes)) s.pictures

-- what the tokenizer made of more bytes
pub record Fed (v : Reading) (lx : Passing) (bytes more : List ℕ) (n : ℕ) (hs : List Said) : Type 0 where
  pub lexes : Lexes lx more
  pub short : first_long (tokens more) ≡ None
  pub settles : settled more ≡ settled bytes ++ hs
  pub len : length more ≡ length bytes + n
  pub some : 0 < n
  pub within : length more ≤ v.limits.bytes

more-few : (b : Bool) (r t n : ℕ) → FewRows b r t → FewRows b r (t + n)
more-few false r t n h = h
more-few true r t n h = omega arith

-- Bytes that end no token.
module _ (wanted : Wanted) (v : Reading) (lx : Passing) (bytes more : List ℕ) (n : ℕ) (s : Running wanted v bytes) (f : Fed v lx bytes more n []) where
  same-settled : settled more ≡ settled bytes
  same-settled = f.settles ∙ append-nil (settled bytes)

  pub quiet : Running wanted (record v { lexing = lx; taken = v.taken + n }) more
  quiet = record {
    lexes = f.lexes;
    short = f.short;
    taken = ap (λ k. k + n) s.taken ∙ sym f.len;
    within = f.within;
    pictures = subst (λ (hs : List Said). Pictures wanted v.limits v.stage (story wanted v.limits hs)) (sym same-settled) s.pictures;
    rows = s.rows ∙ ap (λ hs. length (complete (story wanted v.limits hs))) (sym same-settled);
    few = more-few (is_body v.stage) v.rows v.taken n s.few;
  }

  same-so_far : so_far wanted v.limits more ≡ so_far wanted v.limits bytes
  same-so_far = so_far-within wanted v.limits more f.within ∙ ap (story wanted v.limits) same-settled ∙ sym (so_far-within wanted v.limits bytes s.within)

  pub quiet-pushes : (rows : List Row) → Pushes (done wanted v.limits bytes) (done wanted v.limits more) rows rows
  unfolding done
  quiet-pushes rows = record {
    pushed = [];
    rows = ap complete same-so_far ∙ sym (append-nil (done wanted v.limits bytes));
    block = sym (append-nil rows);
  }

  pub quiet-past : past_header wanted v.limits more ≡ past_header wanted v.limits bytes
  quiet-past = ap (λ (x : Story). is_past x.place) same-so_far

few-heard : (old new : Bool) (r t n k : ℕ) → FewRows old r t → 0 < n → k ≤ 1 → (old ≡ false → k ≡ 0) → (old ≡ true → new ≡ true) → FewRows new (r + k) (t + n)
few-heard true true r t n k h s l none stays = omega arith
few-heard true false r t n k h s l none stays = absurd (let e : false ≡ true = stays refl in cc)
few-heard false true r t n k h s l none stays = let z : k ≡ 0 = none refl in omega arith
few-heard false false r t n k h s l none stays = let z : k ≡ 0 = none refl in omega arith

-- Bytes that end a token.
module _ (wanted : Wanted) (v : Reading) (lx : Passing) (bytes more : List ℕ) (n at : ℕ) (text : List ℕ) (s : Running wanted v bytes)
    (f : Fed v lx bytes more n (word (token at text) ∷ [])) where
  pub story-word : story wanted v.limits (settled more) ≡ next wanted v.limits (story wanted v.limits (settled bytes)) (word (token at text))
  story-word = ap (story wanted v.limits) f.settles ∙ story-more wanted v.limits (settled bytes) (word (token at text) ∷ [])

  abbrev pub Token : Stage → Bool → List Row → List Row → Type 0
  Token t ended old new = Heard wanted v.limits v.stage t ended (story wanted v.limits (settled bytes))
      (next wanted v.limits (story wanted v.limits (settled bytes)) (word (token at text))) old new

  word-complete : (t : Stage) (ended : Bool) (old new : List Row) (h : Token t ended old new)
      → complete (story wanted v.limits (settled more)) ≡ complete (story wanted v.limits (settled bytes)) ++ h.pushed
  word-complete t ended old new h = ap complete story-word ∙ h.rows

  pushed-length : (t : Stage) (ended : Bool) (old new : List Row) (h : Token t ended old new) → length new - length old ≡ length h.pushed
  pushed-length t ended old new h = let e : length new ≡ length old + length h.pushed = ap length h.block ∙ length-append old h.pushed in omega arith

  pub word-runs : (t : Stage) (ended : Bool) (old new : List Row) → Token t ended old new
      → Running wanted (record v { lexing = lx; taken = v.taken + n; stage = t; rows = v.rows + (length new - length old) }) more
  word-runs t ended old new h = record {
    lexes = f.lexes;
    short = f.short;
    taken = ap (λ k. k + n) s.taken ∙ sym f.len;
    within = f.within;
    pictures = subst (λ (x : Story). Pictures wanted v.limits t x) (sym story-word) h.pictures;
    rows = ap (λ k. v.rows + k) (pushed-length t ended old new h) ∙ ap (λ k. k + length h.pushed) s.rows
        ∙ sym (length-append (complete (story wanted v.limits (settled bytes))) h.pushed) ∙ ap length (sym (word-complete t ended old new h));
    few = subst (λ k. FewRows (is_body t) (v.rows + k) (v.taken + n)) (sym (pushed-length t ended old new h))
        (few-heard (is_body v.stage) (is_body t) v.rows v.taken n (length h.pushed) s.few f.some h.few (λ e. ap length (h.none e)) h.stays);
  }

  pub word-pushes : (t : Stage) (ended : Bool) (old new : List Row) → Token t ended old new
      → Pushes (done wanted v.limits bytes) (done wanted v.limits more) old new
  word-pushes t ended old new h = record {
    pushed = h.pushed;
    rows = done-within wanted v.limits more f.within ∙ word-complete t ended old new h
        ∙ ap (λ rs. rs ++ h.pushed) (sym (done-within wanted v.limits bytes s.within));
    block = h.block;
  }

  past-before : past_header wanted v.limits bytes ≡ is_body v.stage
  past-before = runs-past wanted v bytes s

  past-after : (t : Stage) (ended : Bool) (old new : List Row) → Token t ended old new → past_header wanted v.limits more ≡ is_body t
  past-after t ended old new h =
      ap (λ (x : Story). is_past x.place) (so_far-within wanted v.limits more f.within ∙ story-word)
      ∙ same-past wanted v.limits t (next wanted v.limits (story wanted v.limits (settled bytes)) (word (token at text))) h.pictures

  -- where the header ends, by the last byte
  pub word-header : (t : Stage) (ended : Bool) (old new : List Row) (piece : List ℕ) → Token t ended old new → more ≡ bytes ++ take n piece
      → length (bytes ++ take (n - 1) piece) ≤ v.limits.bytes → settled (bytes ++ take (n - 1) piece) ≡ settled bytes
      → HeaderSo ended wanted v.limits bytes piece n
  word-header t ended old new piece h e l q = by-stages (is_body v.stage) (is_body t) ended refl refl h.ends
    where
      back : (y : Bool) → is_body v.stage ≡ y → past_header wanted v.limits (bytes ++ take (n - 1) piece) ≡ y
      back y z = ap (λ (x : Story). is_past x.place) (so_far-within wanted v.limits (bytes ++ take (n - 1) piece) l ∙ ap (story wanted v.limits) q
          ∙ sym (so_far-within wanted v.limits bytes s.within)) ∙ past-before ∙ z

      now : (y : Bool) → is_body t ≡ y → past_header wanted v.limits (bytes ++ take n piece) ≡ y
      now y z = ap (past_header wanted v.limits) (sym e) ∙ past-after t ended old new h ∙ z

      by-stages : (a b w : Bool) → is_body v.stage ≡ a → is_body t ≡ b → w ≡ (not (is_body v.stage) && is_body t) → HeaderSo w wanted v.limits bytes piece n
      by-stages false true true x y z = record { first = past-before ∙ x; some = f.some; before = back false x; now = now true y }
      by-stages false true false x y z = absurd (let g : false ≡ (not false && true) = z ∙ ap (λ u. not u && is_body t) x ∙ ap (λ u. not false && u) y in cc)
      by-stages false false true x y z = absurd (let g : true ≡ (not false && false) = z ∙ ap (λ u. not u && is_body t) x ∙ ap (λ u. not false && u) y in cc)
      by-stages false false false x y z = now false y ∙ sym (past-before ∙ x)
      by-stages true b true x y z = absurd (let g : true ≡ false = z ∙ ap (λ u. not u && is_body t) x in cc)
      by-stages true b false x y z = now true (h.stays x) ∙ sym (past-before ∙ x)

  -- A token that is refused.
  pub word-fault : (g : VcdFault)
      → Refuses g (story wanted v.limits (settled bytes)) (next wanted v.limits (story wanted v.limits (settled bytes)) (word (token at text)))
      → (so_far wanted v.limits more).fault ≡ Some g
  word-fault g r = ap (λ (x : Story). x.fault) (so_far-within wanted v.limits more f.within ∙ story-word) ∙ r.fault

  pub word-shown : (g : VcdFault)
      → Refuses g (story wanted v.limits (settled bytes)) (next wanted v.limits (story wanted v.limits (settled bytes)) (word (token at text)))
      → shown v.stage ≡ shown_at (so_far wanted v.limits more).place
  word-shown g r =
      same-shown wanted v.limits v.stage (story wanted v.limits (settled bytes)) s.pictures ∙ ap shown_at (sym r.place)
      ∙ sym (ap (λ (x : Story). shown_at x.place) (so_far-within wanted v.limits more f.within ∙ story-word))

  pub refused-pushes : (g : VcdFault) (rows : List Row)
      → Refuses g (story wanted v.limits (settled bytes)) (next wanted v.limits (story wanted v.limits (settled bytes)) (word (token at text)))
      → Pushes (done wanted v.limits bytes) (done wanted v.limits more) rows rows
  refused-pushes g rows r = record {
    pushed = [];
    rows = done-within wanted v.limits more f.within ∙ ap complete story-word ∙ r.rows ∙ sym (done-within wanted v.limits bytes s.within)
        ∙ sym (append-nil (done wanted v.limits bytes));
    block = sym (append-nil rows);
  }
