-- A piece of a dump behind the bytes of its header that a reader has taken.
use Rattle.std.proofs.Common.{◌≡◌, ℕ, ◌+◌, ◌-◌, ◌≤◌, ◌<◌, ◌⊎◌, inl, inr, List, [], ◌∷◌, ◌++◌, length, take, drop, get_or, map, fold, Bool, true, false, Some}
use Rattle.std.proofs.Common.{None, Result, Ok, Err, refl, sym, ap, ◌∙◌, subst, append_assoc, arith, length-append, length-take-le}
use Rattle.std.specs.List.{prefix_len}
use Rattle.std.proofs.lemmas.List.{append-nil, take_more, take-append-drop}
use Rattle.std.proofs.lemmas.List.Sums.{fold-append}
use Rattle.std.proofs.Math.Seq.{take-append-add, take-add}
use Rattle.ccsl_vcd_lex.specs.Tokens.{is_white, Token, token, Heard, word, too_long, hear, tokens_from}
use Rattle.ccsl_vcd_lex.specs.Runs.{fresh_after}
use Rattle.ccsl_vcd_lex.specs.Lexing.{Dark, is_dark}
use Rattle.ccsl_vcd_lex.proofs.Cuts.{fresh-behind, from-behind, fresh-append, white-stop}
use Rattle.ccsl_vcd.specs.declared.fault.VcdFault.{VcdFault}
use Rattle.ccsl_vcd.specs.declared.fault.VcdFault.TheVariants as faults
use Rattle.ccsl_vcd.specs.declared.limits.Limits.{Limits}
use Rattle.ccsl_vcd.specs.Places.{Among, commands}
use Rattle.ccsl_scopes.specs.declared.reader.HeaderReader.{HeaderReader}
use Rattle.ccsl_scopes.specs.Headings.{Heading, Said, goes, over, refused, heading_says}
use Rattle.ccsl_scopes.specs.Headings as headings
use Rattle.ccsl_scopes.specs.Standing as header
use Rattle.ccsl_events.specs.declared.reader.Reader.{Reader}
use Rattle.ccsl_events.specs.Run.{IsOpen, settled_from}
use Rattle.ccsl_events.specs.Opening.{Opening, open_at, ended, broken, behind, next, opening_from, opening}
use Rattle.ccsl_events.specs.Fed.{ReadsHeader, IsInHeader, IsBehindHeader, Hears, goes_on, ends, BreaksHeader}
use Rattle.ccsl_events.proofs.Run.{IsRest, settled-cut, settled-fresh, settled-word, settled-long, dark-front}
use Rattle.ccsl_events.proofs.Whole.{settled-more, settled-open}
use Rattle.ccsl_events.proofs.Feeding.{EndsIn, one-run, up-to, as-one, open-both}

-- What the front of some bytes settles.

white-behind : (end : ℕ) (bytes : List ℕ) → end ≡ prefix_len is_dark bytes → end < length bytes → is_white (get_or bytes end 0) ≡ true
white-behind end bytes e l = subst (λ i. is_white (get_or bytes i 0) ≡ true) (sym e) (white-stop bytes (omega (arith, e, l)))

front-word : (at end : ℕ) (bytes : List ℕ) → end ≡ prefix_len is_dark bytes → 0 < end → end < length bytes → end ≤ 65536
    → settled_from at (take (end + 1) bytes) ≡ word (token at (take end bytes)) ∷ []
front-word at end bytes e n l m =
    let k : length (take end bytes) ≡ end = length-take-le end bytes (omega (arith, l)) in
    ap (settled_from at) (take_more bytes end 0 l)
    ∙ settled-word at (get_or bytes end 0) (take end bytes) (subst (λ i. Dark (take i bytes)) (sym e) (dark-front bytes))
    (omega (arith, k, n)) (omega (arith, k, m)) (white-behind end bytes e l)

front-fresh : (end : ℕ) (bytes : List ℕ) → end ≡ prefix_len is_dark bytes → end < length bytes → fresh_after true (take (end + 1) bytes) ≡ true
front-fresh end bytes e l =
    ap (fresh_after true) (take_more bytes end 0 l)
    ∙ fresh-behind true (take end bytes) (get_or bytes end 0 ∷ []) (white-behind end bytes e l, tt) (omega arith)

front-white : (at end : ℕ) (bytes : List ℕ) → end ≡ prefix_len is_dark bytes → end ≡ 0 → end < length bytes → settled_from at (take (end + 1) bytes) ≡ []
unfolding tokens_from
front-white at end [] e z l = absurd (omega arith)
front-white at end (x ∷ xs) e z l =
    settled-fresh at (take (end + 1) (x ∷ xs)) (front-fresh end (x ∷ xs) e l)
    ∙ ap (λ (part : List ℕ). map hear (tokens_from true at part))
    (take_more (x ∷ xs) end 0 l ∙ ap (λ (i : ℕ). take i (x ∷ xs) ++ get_or (x ∷ xs) end 0 ∷ []) z)
    ∙ ap (map hear) (from-behind true at [] (get_or (x ∷ xs) end 0 ∷ []) (white-behind end (x ∷ xs) e l, tt))

front-long : (at end : ℕ) (bytes : List ℕ) → end ≡ prefix_len is_dark bytes → end ≤ length bytes → 65536 < end
    → settled_from at (take end bytes) ≡ too_long at ∷ []
front-long at end bytes e l m =
    let k : length (take end bytes) ≡ end = length-take-le end bytes l in
    settled-long at (take end bytes) (subst (λ i. Dark (take i bytes)) (sym e) (dark-front bytes)) (omega (arith, k, m))

-- The token that is kept goes on in a piece.

kept-word : (at end : ℕ) (carry piece : List ℕ) → EndsIn carry piece end → 0 < length carry + end
    → settled_from at (carry ++ take (end + 1) piece) ≡ word (token at (carry ++ take end piece)) ∷ []
kept-word at end carry piece e some =
    ap (settled_from at) (sym (up-to carry piece end))
    ∙ front-word at (length carry + end) (carry ++ piece) (one-run carry piece end e.unended e.run) some
    (omega (arith, e.inside, length-append carry piece)) e.short
    ∙ ap (λ (text : List ℕ). word (token at text) ∷ []) (take-append-add carry piece end)

kept-fresh : (end : ℕ) (carry piece : List ℕ) → EndsIn carry piece end → fresh_after true (carry ++ take (end + 1) piece) ≡ true
kept-fresh end carry piece e =
    ap (fresh_after true) (sym (up-to carry piece end))
    ∙ front-fresh (length carry + end) (carry ++ piece) (one-run carry piece end e.unended e.run) (omega (arith, e.inside, length-append carry piece))

kept-white : (at end : ℕ) (carry piece : List ℕ) → EndsIn carry piece end → length carry + end ≡ 0 → settled_from at (carry ++ take (end + 1) piece) ≡ []
kept-white at end carry piece e none =
    ap (settled_from at) (sym (up-to carry piece end))
    ∙ front-white at (length carry + end) (carry ++ piece) (one-run carry piece end e.unended e.run) none
    (omega (arith, e.inside, length-append carry piece))

-- Behind what was told.

opening-on : (limits : Limits) (xs ys : List ℕ) (among : Among) (h : Heading) → fresh_after true xs ≡ true
    → opening limits (settled_from 0 xs) ≡ open_at among h
    → opening limits (settled_from 0 (xs ++ ys)) ≡ opening_from limits (open_at among h) (settled_from (length xs) ys)
opening-on limits xs ys among h f e =
    let at : 0 + length xs ≡ length xs = omega arith in
    let begin : Opening = open_at commands headings.begin in
    ap (opening_from limits begin) (settled-cut 0 xs ys f) ∙ fold-append (next limits) begin (settled_from 0 xs) (settled_from (0 + length xs) ys)
    ∙ ap (λ (o : Opening). fold (next limits) o (settled_from (0 + length xs) ys)) e
    ∙ ap (λ (i : ℕ). opening_from limits (open_at among h) (settled_from i ys)) at

-- a reader of the same header is inside it
pub reads-still : (limits : Limits) (among : Among) (h : Heading) (r r' : Reader) → ReadsHeader limits among h r → r'.heading ≡ r.heading → r'.body ≡ r.body
    → r'.is_header_over ≡ r.is_header_over → ReadsHeader limits among h r'
reads-still limits among h r r' is heading body end = record {
  reader = is.reader;
  has = heading ∙ is.has;
  stands = is.stands;
  bodyless = body ∙ is.bodyless;
  goes_on = end ∙ is.goes_on;
}

module _ (limits : Limits) (bytes piece : List ℕ) (among : Among) (h : Heading) (r : Reader) (i : IsInHeader limits bytes among h r) where
  -- what is kept and a part of the piece, behind the whole tokens
  behind-whole : (part : List ℕ) → i.whole ++ (r.carry.items ++ part) ≡ bytes ++ part
  behind-whole part = as-one bytes i.whole r.carry.items part i.parts

  part-told : (part : List ℕ) → opening limits (settled_from 0 (bytes ++ part))
      ≡ opening_from limits (open_at among h) (settled_from (length i.whole) (r.carry.items ++ part))
  part-told part =
      ap (λ (xs : List ℕ). opening limits (settled_from 0 xs)) (sym (behind-whole part))
      ∙ opening-on limits i.whole (r.carry.items ++ part) among h i.fresh i.told

  part-fresh : (part : List ℕ) → fresh_after true (r.carry.items ++ part) ≡ true → fresh_after true (bytes ++ part) ≡ true
  part-fresh part f =
      ap (fresh_after true) (sym (behind-whole part)) ∙ fresh-append true i.whole (r.carry.items ++ part)
      ∙ ap (λ (w : Bool). fresh_after w (r.carry.items ++ part)) i.fresh ∙ f

  -- where the token begins that is kept
  pub kept-at : r.taken - length r.carry.items ≡ length i.whole
  kept-at = omega (arith, i.taken, ap length i.parts, length-append i.whole r.carry.items)

  pub kept-token : (end taken : ℕ) (carry : List ℕ) → end ≤ length piece → taken ≡ r.taken + end → carry ≡ r.carry.items ++ take end piece
      → token (taken - length carry) carry ≡ token (length i.whole) (r.carry.items ++ take end piece)
  kept-token end taken carry l t e =
      let here : taken - length carry ≡ length i.whole =
      omega (
        arith,
        t,
        ap length e,
        length-append r.carry.items (take end piece),
        length-take-le end piece l,
        i.taken,
        ap length i.parts,
        length-append i.whole r.carry.items,
      ) in
      ap (λ (k : ℕ). token k carry) here ∙ ap (token (length i.whole)) e

  pub header-ends-in : (end : ℕ) → end ≡ prefix_len is_dark piece → end < length piece → length r.carry.items + end ≤ 65536
      → EndsIn r.carry.items piece end
  header-ends-in end e l short = record { unended = i.unended; run = e; inside = l; short = short }

  -- a token that is too long
  pub header-long : (at end : ℕ) → end ≡ prefix_len is_dark piece → end ≤ length piece → 65536 < length r.carry.items + end
      → at ≡ r.taken - length r.carry.items
      → (faults.TokenTooLong at ≡ faults.Memory) ⊎ BreaksHeader limits (bytes ++ piece) (faults.TokenTooLong at)
  header-long at end e l long is =
      let here : length i.whole ≡ at = sym (is ∙ kept-at) in
      let size : length r.carry.items + end ≤ length (r.carry.items ++ piece) = omega (arith, l, length-append r.carry.items piece) in
      inr (record {
        front = length bytes + end;
        told =
            ap (λ (xs : List ℕ). opening limits (settled_from 0 xs)) (take-append-add bytes piece end) ∙ part-told (take end piece)
            ∙ ap (λ (xs : List ℕ). opening_from limits (open_at among h) (settled_from (length i.whole) xs)) (sym (take-append-add r.carry.items piece end))
            ∙ ap (opening_from limits (open_at among h))
            (front-long (length i.whole) (length r.carry.items + end) (r.carry.items ++ piece) (one-run r.carry.items piece end i.unended e) size long)
            ∙ ap (λ (k : ℕ). broken (faults.TokenTooLong k)) here;
      })

  -- so many bytes go on with the token that is kept
  pub header-grows : (r' : Reader) (n : ℕ) → IsOpen (take n piece) → n ≤ length piece → length r.carry.items + n ≤ 65536 → ReadsHeader limits among h r'
      → r'.carry.items ≡ r.carry.items ++ take n piece → r'.taken ≡ r.taken + n → Hears limits (bytes ++ take n piece) r'
  header-grows r' n o l short reads kept taken =
      goes_on among h (record {
        reads = reads;
        whole = i.whole;
        parts = sym (behind-whole (take n piece)) ∙ ap (λ (xs : List ℕ). i.whole ++ xs) (sym kept);
        fresh = i.fresh;
        told = i.told;
        unended = subst IsOpen (sym kept) (open-both r.carry.items (take n piece) i.unended o);
        few = omega (arith, short, ap length kept, length-append r.carry.items (take n piece), length-take-le n piece l);
        taken = omega (arith, taken, i.taken, length-append bytes (take n piece), length-take-le n piece l);
      })

  -- all of them are white space and whole tokens
  closes-header : (r' : Reader) (n : ℕ) (a : Among) (g : Heading) → n ≤ length piece → fresh_after true (r.carry.items ++ take n piece) ≡ true
      → opening_from limits (open_at among h) (settled_from (length i.whole) (r.carry.items ++ take n piece)) ≡ open_at a g
      → ReadsHeader limits a g r' → r'.carry.items ≡ [] → r'.taken ≡ r.taken + n → IsInHeader limits (bytes ++ take n piece) a g r'
  closes-header r' n a g l fresh told reads none taken = record {
    reads = reads;
    whole = bytes ++ take n piece;
    parts = sym (append-nil (bytes ++ take n piece)) ∙ ap (λ (xs : List ℕ). (bytes ++ take n piece) ++ xs) (sym none);
    fresh = part-fresh (take n piece) fresh;
    told = part-told (take n piece) ∙ told;
    unended = subst IsOpen (sym none) refl;
    few = let k : length r'.carry.items ≡ 0 = ap length none in omega (arith, k);
    taken = omega (arith, taken, i.taken, length-append bytes (take n piece), length-take-le n piece l);
  }

  pub header-white : (r' : Reader) (end : ℕ) → EndsIn r.carry.items piece end → length r.carry.items + end ≡ 0 → ReadsHeader limits among h r'
      → r'.carry.items ≡ [] → r'.taken ≡ r.taken + (end + 1) → Hears limits (bytes ++ take (end + 1) piece) r'
  header-white r' end e none reads clear taken =
      goes_on among h (closes-header r' (end + 1) among h (omega (arith, e.inside)) (kept-fresh end r.carry.items piece e)
      (ap (opening_from limits (open_at among h)) (kept-white (length i.whole) end r.carry.items piece e none)) reads clear taken)

  -- the token that is kept ends in the piece
  word-told : (end : ℕ) → EndsIn r.carry.items piece end → 0 < length r.carry.items + end
      → opening_from limits (open_at among h) (settled_from (length i.whole) (r.carry.items ++ take (end + 1) piece))
      ≡ behind (token (length i.whole) (r.carry.items ++ take end piece))
      (heading_says limits h (token (length i.whole) (r.carry.items ++ take end piece)) among)
  word-told end e some = ap (opening_from limits (open_at among h)) (kept-word (length i.whole) end r.carry.items piece e some)

  pub header-word : (r' : Reader) (end : ℕ) (reader : HeaderReader) → EndsIn r.carry.items piece end → 0 < length r.carry.items + end
      → r'.heading ≡ Some reader → r'.body ≡ None → r'.carry.items ≡ [] → r'.taken ≡ r.taken + (end + 1)
      → header.Answers limits (heading_says limits h (token (length i.whole) (r.carry.items ++ take end piece)) among) (Ok r'.is_header_over) reader
      → Hears limits (bytes ++ take (end + 1) piece) r'
  header-word r' end reader e some has bodyless clear taken answers =
      go (heading_says limits h t among) (word-told end e some) answers
    where
      t : Token
      t = token (length i.whole) (r.carry.items ++ take end piece)

      within : end + 1 ≤ length piece
      within = omega (arith, e.inside)

      go : (s : Said) → opening_from limits (open_at among h) (settled_from (length i.whole) (r.carry.items ++ take (end + 1) piece)) ≡ behind t s
          → header.Answers limits s (Ok r'.is_header_over) reader → Hears limits (bytes ++ take (end + 1) piece) r'
      go (goes a g) told a' =
          goes_on a g (closes-header r' (end + 1) a g within (kept-fresh end r.carry.items piece e) told
          (record { reader = reader; has = has; stands = a'.1; bodyless = bodyless; goes_on = a'.0 }) clear taken)
      go (over g) told a' = ends g (record {
        reader = reader;
        has = has;
        over = a'.1;
        at = length i.whole + length (r.carry.items ++ take end piece);
        told = part-told (take (end + 1) piece) ∙ told;
        one_behind =
            let text : length (r.carry.items ++ take end piece) ≡ length r.carry.items + length (take end piece) =
            length-append r.carry.items (take end piece) in
            let few : length (take end piece) ≡ end = length-take-le end piece (omega (arith, within)) in
            omega (
              arith,
              text,
              few,
              length-append bytes (take (end + 1) piece),
              length-take-le (end + 1) piece within,
              ap length i.parts,
              length-append i.whole r.carry.items,
            );
        fresh = part-fresh (take (end + 1) piece) (kept-fresh end r.carry.items piece e);
        clear = clear;
        taken = omega (arith, taken, i.taken, length-append bytes (take (end + 1) piece), length-take-le (end + 1) piece within);
        has_ended = a'.0;
      })
      go (refused f) told a' = absurd a'

  pub header-breaks : (end : ℕ) (f : VcdFault) (reader : HeaderReader) → EndsIn r.carry.items piece end → 0 < length r.carry.items + end
      → header.Answers limits (heading_says limits h (token (length i.whole) (r.carry.items ++ take end piece)) among) (Err f) reader
      → (f ≡ faults.Memory) ⊎ BreaksHeader limits (bytes ++ piece) f
  header-breaks end f reader e some answers = go (heading_says limits h t among) (word-told end e some) answers
    where
      t : Token
      t = token (length i.whole) (r.carry.items ++ take end piece)

      go : (s : Said) → opening_from limits (open_at among h) (settled_from (length i.whole) (r.carry.items ++ take (end + 1) piece)) ≡ behind t s
          → header.Answers limits s (Err f) reader → (f ≡ faults.Memory) ⊎ BreaksHeader limits (bytes ++ piece) f
      go (goes a g) told m = inl m
      go (over g) told m = absurd m
      go (refused g) told (inl is) = inr (record {
        front = length bytes + (end + 1);
        told =
            ap (λ (xs : List ℕ). opening limits (settled_from 0 xs)) (take-append-add bytes piece (end + 1)) ∙ part-told (take (end + 1) piece) ∙ told
            ∙ ap broken (sym is);
      })
      go (refused g) told (inr m) = inl m

-- before the first byte
pub at-start : (limits : Limits) (r : Reader) (x : HeaderReader) → r.heading ≡ Some x → header.Stands limits headings.begin commands x → r.body ≡ None
    → r.is_header_over ≡ false → r.carry.items ≡ [] → r.taken ≡ 0 → IsInHeader limits [] commands headings.begin r
unfolding tokens_from fresh_after
at-start limits r x has s bodyless more none taken = record {
  reads = record { reader = x; has = has; stands = s; bodyless = bodyless; goes_on = more };
  whole = [];
  parts = sym none;
  fresh = refl;
  told = refl;
  unended = subst IsOpen (sym none) refl;
  few = let k : length r.carry.items ≡ 0 = ap length none in omega (arith, k);
  taken = taken;
}

-- One after another.

pub header-more : (limits : Limits) (bytes piece rest : List ℕ) (k : ℕ) (r : Reader) → IsRest piece rest
    → Hears limits ((bytes ++ take (length piece - length rest) piece) ++ take k rest) r
    → Hears limits (bytes ++ take (length piece - length rest + k) piece) r
header-more limits bytes piece rest k r so a =
    let n : ℕ = length piece - length rest in
    let whole : (bytes ++ take n piece) ++ take k rest ≡ bytes ++ take (n + k) piece =
    append_assoc bytes (take n piece) (take k rest) ∙ ap (λ (xs : List ℕ). bytes ++ xs)
    (ap (λ (ys : List ℕ). take n piece ++ take k ys) so.is ∙ sym (take-add n k piece)) in
    subst (λ (all : List ℕ). Hears limits all r) whole a

pub header-rest : (limits : Limits) (bytes piece rest : List ℕ) (f : VcdFault) → IsRest piece rest
    → (f ≡ faults.Memory) ⊎ BreaksHeader limits ((bytes ++ take (length piece - length rest) piece) ++ rest) f
    → (f ≡ faults.Memory) ⊎ BreaksHeader limits (bytes ++ piece) f
header-rest limits bytes piece rest f so b =
    let n : ℕ = length piece - length rest in
    let whole : (bytes ++ take n piece) ++ rest ≡ bytes ++ piece =
    append_assoc bytes (take n piece) rest ∙ ap (λ (xs : List ℕ). bytes ++ xs) (ap (λ (ys : List ℕ). take n piece ++ ys) so.is ∙ take-append-drop n piece) in
    subst (λ (all : List ℕ). (f ≡ faults.Memory) ⊎ BreaksHeader limits all f) whole b

-- a reader that has not ended the header is inside it
pub record IsInside (limits : Limits) (bytes : List ℕ) (r : Reader) : Type 0 where
  pub among : Among
  pub heading : Heading
  pub inside : IsInHeader limits bytes among heading r

pub still-inside : (limits : Limits) (bytes : List ℕ) (r : Reader) → r.is_header_over ≡ false → Hears limits bytes r → IsInside limits bytes r
still-inside limits bytes r e (goes_on among h at) = record { among = among; heading = h; inside = at }
still-inside limits bytes r e (ends h at) = absurd (let g : true ≡ false = sym at.has_ended ∙ e in cc)

-- there is room in the width of places for the rest
pub inside-fits : (limits : Limits) (before piece rest : List ℕ) (among : Among) (h : Heading) (a : Among) (g : Heading) (r r' : Reader) → IsRest piece rest
    → IsInHeader limits before among h r → IsInHeader limits (before ++ take (length piece - length rest) piece) a g r'
    → r.taken + length piece < 18446744073709551616 → r'.taken + length rest < 18446744073709551616
inside-fits limits before piece rest among h a g r r' so i j fits =
    let n : ℕ = length piece - length rest in
    let l : n ≤ length piece = omega arith in
    omega (arith, i.taken, j.taken, so.fits, fits, length-append before (take n piece), length-take-le n piece l)

-- What is read of a header, whatever is read behind it.

broken-stays : (limits : Limits) (f : VcdFault) (hs : List Heard) → fold (next limits) (broken f) hs ≡ broken f
broken-stays limits f [] = refl
broken-stays limits f (x ∷ hs) = broken-stays limits f hs

ended-stays : (limits : Limits) (h : Heading) (at : ℕ) (hs : List Heard) → fold (next limits) (ended h at) hs ≡ ended h at
ended-stays limits h at [] = refl
ended-stays limits h at (x ∷ hs) = ended-stays limits h at hs

opening-more : (limits : Limits) (part more : List ℕ) (o : Opening) → ((hs : List Heard) → fold (next limits) o hs ≡ o)
    → opening limits (settled_from 0 part) ≡ o → opening limits (settled_from 0 (part ++ more)) ≡ o
opening-more limits part more o stays e =
    let k = settled-more 0 part more in
    let begin : Opening = open_at commands headings.begin in
    ap (opening limits) k.1 ∙ fold-append (next limits) begin (settled_from 0 part) k.0 ∙ ap (λ (p : Opening). fold (next limits) p k.0) e ∙ stays k.0

-- a fault stays
pub broken-more : (limits : Limits) (bytes more : List ℕ) (f : VcdFault) → BreaksHeader limits bytes f
    → opening limits (settled_from 0 (bytes ++ more)) ≡ broken f
broken-more limits bytes more f b =
    let part : List ℕ = take b.front bytes in
    let rest : List ℕ = drop b.front bytes ++ more in
    let is : part ++ rest ≡ bytes ++ more =
    sym (append_assoc part (drop b.front bytes) more) ∙ ap (λ (xs : List ℕ). xs ++ more) (take-append-drop b.front bytes) in
    ap (λ (xs : List ℕ). opening limits (settled_from 0 xs)) (sym is) ∙ opening-more limits part rest (broken f) (broken-stays limits f) b.told

-- a header that has ended
pub ended-more : (limits : Limits) (bytes more : List ℕ) (h : Heading) (r : Reader) → (b : IsBehindHeader limits bytes h r)
    → opening limits (settled_from 0 (bytes ++ more)) ≡ ended h b.at
ended-more limits bytes more h r b = opening-more limits bytes more (ended h b.at) (ended-stays limits h b.at) b.told

-- one that has not
pub inside-told : (limits : Limits) (bytes : List ℕ) (among : Among) (h : Heading) (r : Reader) → IsInHeader limits bytes among h r
    → opening limits (settled_from 0 bytes) ≡ open_at among h
inside-told limits bytes among h r i =
    ap (λ (xs : List ℕ). opening limits (settled_from 0 xs)) i.parts
    ∙ opening-on limits i.whole r.carry.items among h i.fresh i.told
    ∙ ap (opening_from limits (open_at among h)) (settled-open (length i.whole) r.carry.items i.unended i.few)

-- The header that a reader has.

pub no-reader : (x : HeaderReader) (r : Reader) → r.heading ≡ Some x → r.heading ≡ None → ⊥
no-reader x r e f = let g : Some x ≡ None = sym e ∙ f in cc

pub same-reader : (x y : HeaderReader) (r : Reader) → r.heading ≡ Some x → r.heading ≡ Some y → x ≡ y
same-reader x y r e f = let g : Some x ≡ Some y = sym e ∙ f in cc

-- what was said of the token that is kept
pub said-kept : (limits : Limits) (h : Heading) (among : Among) (at place : ℕ) (text carry : List ℕ) (res : Result Bool VcdFault) (x : HeaderReader)
    → at ≡ place → text ≡ carry → header.Answers limits (heading_says limits h (token at text) among) res x
    → header.Answers limits (heading_says limits h (token place carry) among) res x
said-kept limits h among at place text carry res x e f a =
    subst (λ (i : ℕ). header.Answers limits (heading_says limits h (token i carry) among) res x) e
    (subst (λ (t : List ℕ). header.Answers limits (heading_says limits h (token at t) among) res x) f a)
