-- The time scale of a header that was read has the words that it may have.
use Rattle.std.proofs.Common.{◌≡◌, ℕ, ◌+◌, List, [], ◌∷◌, ◌++◌, length, map, fold, Bool, true, false, ◌&&◌, ◌||◌, not, nat_le, cond, Option, Some, None}
use Rattle.std.proofs.Common.{refl, ap, ap₂, ◌∙◌, subst}
use Rattle.std.specs.List.{list_all, AllByRecursion}
use Rattle.std.proofs.lemmas.List.Folds.{list_all-append}
use Rattle.ccsl_base.specs.Empty.{is_empty}
use Rattle.ccsl_vcd_lex.specs.Tokens.{is_white, Token, token, run, begins, tokens_from, tokens, is_long, word, too_long, hear, heard}
use Rattle.ccsl_vcd_lex.specs.Lexing.{Dark}
use Rattle.ccsl_vcd_lex.proofs.Cuts.{one-token}
use Rattle.ccsl_vcd.specs.declared.fault.VcdFault.TheVariants as faults
use Rattle.ccsl_vcd.specs.declared.limits.Limits.{Limits}
use Rattle.ccsl_vcd.specs.Places.{Among, commands, inside}
use Rattle.ccsl_scopes.specs.declared.command.HeaderWord.{HeaderWord}
use Rattle.ccsl_scopes.specs.declared.command.HeaderWord.TheVariants as h
use Rattle.ccsl_scopes.specs.Headings.{Declared, Heading, Said, goes, over, refused, header_word, put_spaced, spaced, declares, starts, word_fits}
use Rattle.ccsl_scopes.specs.Headings.{put_declared, ends, inside_says, is_end, heading_says}
use Rattle.ccsl_scopes.specs.Headings as headings
use Rattle.ccsl_events.specs.Opening.{Opening, open_at, ended, broken, behind, says, next, opening_from, opening}
use Rattle.ccsl_event_rows.specs.ReadsBack.{is_timescale}
use Rattle.ccsl_event_rows.proofs.Header.{is_kept, anywhere, blank-tokens}

-- a token that a header may keep
record IsKept (t : Token) : Type 0 where
  kept : is_kept t ≡ true
  dark : Dark t.text
  some : not (is_empty t.text) ≡ true

abbrev AreKept : List Token → Type 0
AreKept ts = AllByRecursion IsKept ts

abbrev IsQuiet : List ℕ → Type 0
IsQuiet bytes = list_all is_kept (tokens bytes) ≡ true

none-quiet : IsQuiet []
unfolding tokens_from
none-quiet = refl

one-quiet : (t : Token) → IsKept t → IsQuiet t.text
one-quiet t k = of t.text k.kept k.dark k.some
  where
    of : (text : List ℕ) → is_kept (token t.at text) ≡ true → Dark text → not (is_empty text) ≡ true → IsQuiet text
    of [] k d s = absurd (cc)
    of (b ∷ bs) k d s = ap (list_all is_kept) (one-token 0 b bs d) ∙ ap (λ x. x && true) k

spaced-quiet : (before : List ℕ) (ts : List Token) → IsQuiet before → AreKept ts → IsQuiet (fold (λ bs t. put_spaced bs t.text) before ts)
spaced-quiet before [] q k = q
spaced-quiet before (t ∷ ts) q k = spaced-quiet (put_spaced before t.text) ts (behind-blank (is_empty before)) k.1
  where
    behind-blank : (e : Bool) → IsQuiet (cond e t.text (before ++ 32 ∷ t.text))
    behind-blank true = one-quiet t k.0
    behind-blank false =
        ap (list_all is_kept) (blank-tokens 0 before t.text) ∙ list_all-append is_kept (tokens before) (tokens_from true (0 + length before + 1) t.text)
        ∙ ap₂ (λ x y. x && y) q (anywhere true (0 + length before + 1) 0 t.text ∙ one-quiet t k.0)

-- WHAT IS SAID of a header keeps its time scale so

abbrev Scaled : Heading → Type 0
Scaled x = is_timescale x.timescale ≡ true

abbrev WithWords : Among → Type 0
WithWords commands = Unit {0}
WithWords (inside head words) = AreKept words

abbrev SaidWell : Said → Type 0
SaidWell (goes among x) = WithWords among × Scaled x
SaidWell (over x) = Scaled x
SaidWell (refused f) = Unit {0}

either : (b : Bool) (s t : Said) → SaidWell s → SaidWell t → SaidWell (cond b s t)
either true s t f g = f
either false s t f g = g

add-kept : (ts : List Token) (t : Token) → AreKept ts → IsKept t → AreKept (ts ++ t ∷ [])
add-kept [] t a k = (k, tt)
add-kept (u ∷ us) t a k = (a.0, add-kept us t a.1 k)

module _ (limits : Limits) (x : Heading) (s : Scaled x) (t : Token) where
  starts-well : (w : HeaderWord) → SaidWell (starts limits x t w)
  starts-well h.End = tt
  starts-well h.Plain = tt
  starts-well h.Var = either (nat_le limits.vars (length x.declared)) (refused (faults.TooManyVars t.at)) (goes (inside t []) x) tt (tt, s)
  starts-well h.Scope = (tt, s)
  starts-well h.Upscope = (tt, s)
  starts-well h.EndDefinitions = (tt, s)
  starts-well h.Timescale = (tt, s)
  starts-well h.OtherCommand = (tt, s)

  put-well : (d : Option Declared) → SaidWell (put_declared x t d)
  put-well (Some d) = (tt, s)
  put-well None = tt

  ends-well : (head : Token) (words : List Token) (w : HeaderWord) → AreKept words → SaidWell (ends limits x w head words t)
  ends-well head words h.Var k = put-well (declares x.scopes words)
  ends-well head words h.Scope k =
      either (nat_le limits.scopes (length x.scopes)) (refused (faults.TooDeep head.at))
      (goes commands (record x { scopes = headings.scope_name words ∷ x.scopes })) tt (tt, s)
  ends-well head words h.Upscope k = (tt, s)
  ends-well head words h.EndDefinitions k = s
  ends-well head words h.Timescale k = (tt, spaced-quiet [] words none-quiet k)
  ends-well head words h.OtherCommand k = (tt, s)
  ends-well head words h.End k = (tt, s)
  ends-well head words h.Plain k = (tt, s)

  inside-well : (head : Token) (words : List Token) (w : HeaderWord) (e : Bool) → AreKept words → (e ≡ false → IsKept t)
      → SaidWell (inside_says limits x w head words t e)
  inside-well head words w true k i = ends-well head words w k
  inside-well head words w false k i =
      either (word_fits w words t) (goes (inside head (words ++ t ∷ [])) x) (refused (faults.BadHeader t.at)) (add-kept words t k (i refl), s) tt

  says-well : (among : Among) → WithWords among → (is_end t ≡ false → IsKept t) → SaidWell (heading_says limits x t among)
  says-well commands a i = starts-well (header_word t.text)
  says-well (inside head words) a i = inside-well head words (header_word head.text) (is_end t) a i

-- THE TOKENS of a dump

run-dark : (bs : List ℕ) → Dark (run bs)
unfolding run
run-dark [] = tt
run-dark (b ∷ bs) =
    (elim (is_white b) as (λ w. is_white b ≡ w → Dark (cond w [] (b ∷ run bs))) [ true ↦ λ e. tt | false ↦ λ e. (e, run-dark bs) ]) refl

record IsToken (t : Token) : Type 0 where
  dark : Dark t.text
  some : not (is_empty t.text) ≡ true

are-tokens : (f : Bool) (at : ℕ) (bs : List ℕ) → AllByRecursion IsToken (tokens_from f at bs)
unfolding tokens_from run
are-tokens f at [] = tt
are-tokens f at (b ∷ bs) =
    (elim (is_white b) as
    (λ w. is_white b ≡ w → AllByRecursion IsToken (tokens_from w (at + 1) bs) → AllByRecursion IsToken
    (begins f w (token at (cond w [] (b ∷ run bs))) (tokens_from w (at + 1) bs))) [
      | true ↦ λ e k. skip f _ _ k
      | false ↦ λ e k. add f _ _ (record { dark = (e, run-dark bs); some = refl }) k
    ]) refl (are-tokens (is_white b) (at + 1) bs)
  where
    skip : (f : Bool) (t : Token) (ts : List Token) → AllByRecursion IsToken ts → AllByRecursion IsToken (begins f true t ts)
    skip true t ts k = k
    skip false t ts k = k

    add : (f : Bool) (t : Token) (ts : List Token) → IsToken t → AllByRecursion IsToken ts → AllByRecursion IsToken (begins f false t ts)
    add true t ts i k = (i, k)
    add false t ts i k = k

abbrev OpensWell : Opening → Type 0
OpensWell (open_at among x) = WithWords among × Scaled x
OpensWell (ended x at) = Scaled x
OpensWell (broken f) = Unit {0}

behind-well : (t : Token) (said : Said) → SaidWell said → OpensWell (behind t said)
behind-well t (goes among x) w = w
behind-well t (over x) w = w
behind-well t (refused f) w = tt

next-well : (limits : Limits) (o : Opening) (t : Token) → OpensWell o → IsToken t → OpensWell (next limits o (hear t))
next-well limits (ended x at) t w i = w
next-well limits (broken f) t w i = tt
next-well limits (open_at among x) t w i =
    (elim (is_long t) as (λ b. is_long t ≡ b → OpensWell (says limits among x (cond b (too_long t.at) (word t)))) [
      | true ↦ λ e. tt
      | false ↦ λ e. behind-well t (heading_says limits x t among)
          (says-well limits x w.1 t among w.0 (λ n. record { kept = ap₂ (λ a b. not (a || b)) e n; dark = i.dark; some = i.some }))
    ]) refl

tokens-well : (limits : Limits) (ts : List Token) (o : Opening) → OpensWell o → AllByRecursion IsToken ts → OpensWell (opening_from limits o (map hear ts))
tokens-well limits [] o w k = w
tokens-well limits (t ∷ ts) o w k = tokens-well limits ts (next limits o (hear t)) (next-well limits o t w k.0) k.1

-- The time scale of a header that has ended may be written.
pub timescale-read : (limits : Limits) (bytes : List ℕ) (x : Heading) (at : ℕ) → opening limits (heard bytes) ≡ ended x at → is_timescale x.timescale ≡ true
timescale-read limits bytes x at e =
    subst OpensWell e (tokens-well limits (tokens bytes) (open_at commands headings.begin) (tt, refl) (are-tokens true 0 bytes))
