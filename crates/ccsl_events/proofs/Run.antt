-- Bytes of a body that are taken one part after another.
use Rattle.std.proofs.Common.{◌≡◌, ℕ, zero, suc, ◌+◌, ◌-◌, ◌%◌, ◌≤◌, ◌<◌, ◌⊎◌, inl, inr, List, [], ◌∷◌, ◌++◌, length, take, drop, get_or, map, filter, fold}
use Rattle.std.proofs.Common.{Bool, true, false, nat_lt, ◌||◌, ◌&&◌, cond, Some, None, Result, Ok, Err, refl, sym, ap, ◌∙◌, subst, append_assoc, arith}
use Rattle.std.proofs.Common.{length-append, length-take-le, length-drop}
use Rattle.std.specs.List.{prefix_len, list_all}
use Rattle.std.proofs.lemmas.Bool.{lt-ltb, le-ltb, not-true}
use Rattle.std.proofs.Math.Bool.{or-true}
use Rattle.std.proofs.lemmas.List.{append-nil, map-append, take_more, drop-drop, take-append-drop}
use Rattle.std.proofs.lemmas.List.Elements.{filter-append}
use Rattle.std.proofs.lemmas.List.Sums.{fold-append}
use Rattle.std.proofs.Math.Seq.{take-add}
use Rattle.ccsl_vcd_lex.specs.Tokens.{is_white, Token, token, end_of, is_long, tokens_from, Heard, word, too_long, hear}
use Rattle.ccsl_vcd_lex.specs.Runs.{fresh_after}
use Rattle.ccsl_vcd_lex.specs.Lexing.{Dark, is_dark}
use Rattle.ccsl_vcd_lex.proofs.Cuts.{tokens-cut, ends-before, all-kept, more-kept, one-token, from-behind, fresh-behind, fresh-append, white-stop}
use Rattle.ccsl_vcd.specs.declared.fault.VcdFault.{VcdFault}
use Rattle.ccsl_vcd.specs.declared.fault.VcdFault.TheVariants as faults
use Rattle.ccsl_events.specs.declared.body.Body.{Body}
use Rattle.ccsl_events.specs.Dump.{Plan, Place, Said, goes, refused, Story, says, told, next, token_says}
use Rattle.ccsl_events.specs.Standing.{Stands, Answers}
use Rattle.ccsl_events.specs.Run.{IsOpen, settled_from, story_from, Runs, Breaks, Takes}
use Rattle.ccsl_events.proofs.Standing.{follows-still}

-- What bytes settle, over a cut.

pub settled-fresh : (at : ℕ) (p : List ℕ) → fresh_after true p ≡ true → settled_from at p ≡ map hear (tokens_from true at p)
settled-fresh at p h = ap (map hear) (all-kept (at + length p) (tokens_from true at p) (ends-before true at p h))

pub settled-cut : (at : ℕ) (p q : List ℕ) → fresh_after true p ≡ true → settled_from at (p ++ q) ≡ settled_from at p ++ settled_from (at + length p) q
settled-cut at p q h =
    let n : ℕ = at + length (p ++ q) in
    let Q : Token → Bool = λ t. nat_lt (end_of t) n || is_long t in
    let ps : List Token = tokens_from true at p in
    let qs : List Token = tokens_from true (at + length p) q in
    let kept : filter Q ps ≡ ps = all-kept n ps (more-kept (at + length p) n ps (omega (arith, length-append p q)) (ends-before true at p h)) in
    let m : n ≡ at + length p + length q = omega (arith, length-append p q) in
    ap (λ (ts : List Token). map hear (filter Q ts)) (tokens-cut true at p q h)
    ∙ ap (map hear) (filter-append Q ps qs ∙ ap (λ (ts : List Token). ts ++ filter Q qs) kept)
    ∙ map-append hear ps (filter Q qs)
    ∙ ap (λ (hs : List Heard). hs ++ map hear (filter Q qs)) (sym (settled-fresh at p h))
    ∙ ap (λ (k : ℕ). settled_from at p ++ map hear (filter (λ t. nat_lt (end_of t) k || is_long t) qs)) m

-- the story goes on behind a part
pub told-on : (plan : Plan) (p q : Place) (at : ℕ) (xs ys : List ℕ) → fresh_after true xs ≡ true
    → story_from plan p (settled_from at xs) ≡ record { place = q; fault = None }
    → story_from plan p (settled_from at (xs ++ ys)) ≡ story_from plan q (settled_from (at + length xs) ys)
told-on plan p q at xs ys h e =
    ap (story_from plan p) (settled-cut at xs ys h) ∙ fold-append (next plan) (record { place = p; fault = None }) (settled_from at xs)
    (settled_from (at + length xs) ys)
    ∙ ap (λ (s : Story). fold (next plan) s (settled_from (at + length xs) ys)) e

-- Parts that are taken.

pub runs-none : (plan : Plan) (p : Place) (at : ℕ) (b : Body) (out : List ℕ) → Stands plan p b → Runs plan p at [] b out out
unfolding tokens_from fresh_after
runs-none plan p at b out s = record { place = p; told = refl; fresh = refl; follows = follows-still plan p b out s }

pub runs-both : (plan : Plan) (p : Place) (at : ℕ) (xs ys : List ℕ) (a b : Body) (x y z : List ℕ) → (r : Runs plan p at xs a x y)
    → Runs plan r.place (at + length xs) ys b y z → Runs plan p at (xs ++ ys) b x z
runs-both plan p at xs ys a b x y z r s = record {
  place = s.place;
  told = told-on plan p r.place at xs ys r.fresh r.told ∙ s.told;
  fresh = fresh-append true xs ys ∙ ap (λ w. fresh_after w ys) r.fresh ∙ s.fresh;
  follows = record {
    stands = s.follows.stands;
    more = r.follows.more ++ s.follows.more;
    out = s.follows.out ∙ ap (λ (o : List ℕ). o ++ s.follows.more) r.follows.out ∙ append_assoc x r.follows.more s.follows.more;
    written = s.follows.written ∙ ap (λ (o : List ℕ). o ++ s.follows.more) r.follows.written ∙ append_assoc p.written r.follows.more s.follows.more;
  };
}

runs-white : (plan : Plan) (p : Place) (at w : ℕ) (b : Body) (out : List ℕ) → is_white w ≡ true → Stands plan p b → Runs plan p at (w ∷ []) b out out
unfolding tokens_from
runs-white plan p at w b out h s =
    let fresh : fresh_after true (w ∷ []) ≡ true = fresh-behind true [] (w ∷ []) (h, tt) (omega arith) in
    let none : settled_from at (w ∷ []) ≡ [] = settled-fresh at (w ∷ []) fresh ∙ ap (map hear) (from-behind true at [] (w ∷ []) (h, tt)) in
    record { place = p; told = ap (story_from plan p) none; fresh = fresh; follows = follows-still plan p b out s }

-- a token and the white space behind it
pub settled-word : (at w : ℕ) (text : List ℕ) → Dark text → 0 < length text → length text ≤ 65536 → is_white w ≡ true
    → settled_from at (text ++ w ∷ []) ≡ word (token at text) ∷ []
settled-word at w [] d n l h = absurd (omega arith)
settled-word at w (t ∷ ts) d n l h =
    let one : tokens_from true at ((t ∷ ts) ++ w ∷ []) ≡ token at (t ∷ ts) ∷ [] = from-behind true at (t ∷ ts) (w ∷ []) (h, tt) ∙ one-token at t ts d in
    let short : nat_lt 65536 (length (t ∷ ts)) ≡ false = le-ltb 65536 (length (t ∷ ts)) l in
    settled-fresh at ((t ∷ ts) ++ w ∷ []) (fresh-behind true (t ∷ ts) (w ∷ []) (h, tt) (omega arith)) ∙ ap (map hear) one
    ∙ ap (λ (b : Bool). cond b (too_long at) (word (token at (t ∷ ts))) ∷ []) short

word-told : (plan : Plan) (p : Place) (t : Token) → story_from plan p (word t ∷ []) ≡ told p (token_says plan p t p.amid)
unfolding says
word-told plan p t = refl

runs-word : (plan : Plan) (p : Place) (at w : ℕ) (text : List ℕ) (b : Body) (x y : List ℕ) → Dark text → 0 < length text → length text ≤ 65536
    → is_white w ≡ true
    → Answers plan p.written (token_says plan p (token at text) p.amid) (Ok tt) b x y → Runs plan p at (text ++ w ∷ []) b x y
runs-word plan p at w text b x y d n l h a = go (token_says plan p (token at text) p.amid) refl a
  where
    go : (s : Said) → token_says plan p (token at text) p.amid ≡ s → Answers plan p.written s (Ok tt) b x y → Runs plan p at (text ++ w ∷ []) b x y
    go (goes q) e f = record {
      place = q;
      told = ap (story_from plan p) (settled-word at w text d n l h) ∙ word-told plan p (token at text) ∙ ap (told p) e;
      fresh = fresh-behind true text (w ∷ []) (h, tt) (omega arith);
      follows = f;
    }
    go (refused g) e f = absurd f

word-breaks : (plan : Plan) (p : Place) (at w : ℕ) (text : List ℕ) (f : VcdFault) (b : Body) (x y : List ℕ) → Dark text → 0 < length text
    → length text ≤ 65536 → is_white w ≡ true
    → Answers plan p.written (token_says plan p (token at text) p.amid) (Err f) b x y
    → (f ≡ faults.Memory) ⊎ ((story_from plan p (settled_from at (text ++ w ∷ [])) ≡ record { place = p; fault = Some f }) × (y ≡ x))
word-breaks plan p at w text f b x y d n l h a = go (token_says plan p (token at text) p.amid) refl a
  where
    go : (s : Said) → token_says plan p (token at text) p.amid ≡ s → Answers plan p.written s (Err f) b x y
        → (f ≡ faults.Memory) ⊎ ((story_from plan p (settled_from at (text ++ w ∷ [])) ≡ record { place = p; fault = Some f }) × (y ≡ x))
    go (goes q) e m = inl m
    go (refused g) e (inl is) =
        inr (
          ap (story_from plan p) (settled-word at w text d n l h) ∙ word-told plan p (token at text) ∙ ap (told p) e
              ∙ ap (λ (v : VcdFault). record { place = p; fault = Some v }) (sym is.0),
          is.1,
        )
    go (refused g) e (inr m) = inl m

-- a token that is too long already
pub settled-long : (at : ℕ) (text : List ℕ) → Dark text → 65536 < length text → settled_from at text ≡ too_long at ∷ []
settled-long at [] d l = absurd (omega arith)
settled-long at (t ∷ ts) d l =
    let n : ℕ = at + length (t ∷ ts) in
    let one : tokens_from true at (t ∷ ts) ≡ token at (t ∷ ts) ∷ [] = one-token at t ts d in
    let long : nat_lt 65536 (length (t ∷ ts)) ≡ true = lt-ltb 65536 (length (t ∷ ts)) l in
    ap (λ (us : List Token). map hear (filter (λ u. nat_lt (end_of u) n || is_long u) us)) one
    ∙ ap (λ (b : Bool). map hear (cond (nat_lt n n || b) (token at (t ∷ ts) ∷ []) [])) long
    ∙ ap (λ (b : Bool). map hear (cond b (token at (t ∷ ts) ∷ []) [])) (or-true (nat_lt n n))
    ∙ ap (λ (b : Bool). cond b (too_long at) (word (token at (t ∷ ts))) ∷ []) long

long-told : (plan : Plan) (p : Place) (at : ℕ) → story_from plan p (too_long at ∷ []) ≡ record { place = p; fault = Some (faults.TokenTooLong at) }
unfolding says
long-told plan p at = refl

-- The front of some bytes.

pub dark-front : (xs : List ℕ) → Dark (take (prefix_len is_dark xs) xs)
dark-front [] = tt
dark-front (x ∷ xs) =
    (elim (is_dark x) as (λ w. is_dark x ≡ w → Dark (take (cond w (1 + prefix_len is_dark xs) 0) (x ∷ xs))) [
      | true ↦ λ e. subst (λ k. Dark (take k (x ∷ xs))) (sym (one-more (prefix_len is_dark xs))) (not-true (is_white x) e, dark-front xs)
      | false ↦ λ e. tt
    ]) refl
  where
    one-more : (n : ℕ) → 1 + n ≡ suc n
    one-more n = omega arith

pub front-white : (plan : Plan) (p : Place) (at end : ℕ) (bytes : List ℕ) (b : Body) (out : List ℕ) → end ≡ prefix_len is_dark bytes → end ≡ 0
    → end < length bytes → Stands plan p b
    → Runs plan p at (take (end + 1) bytes) b out out
front-white plan p at end [] b out e z l s = absurd (omega arith)
front-white plan p at end (x ∷ xs) b out e z l s =
    let k : prefix_len is_dark (x ∷ xs) ≡ 0 = sym e ∙ z in
    let one : 1 ≡ end + 1 = omega (arith, z) in
    subst (λ (i : ℕ). Runs plan p at (take i (x ∷ xs)) b out out) one
    (runs-white plan p at x b out (subst (λ i. is_white (get_or (x ∷ xs) i 0) ≡ true) k (white-stop (x ∷ xs) (omega (arith, e, l)))) s)

pub front-word : (plan : Plan) (p : Place) (at end : ℕ) (bytes : List ℕ) (b : Body) (x y : List ℕ) → end ≡ prefix_len is_dark bytes → 0 < end
    → end < length bytes → end ≤ 65536
    → Answers plan p.written (token_says plan p (token at (take end bytes)) p.amid) (Ok tt) b x y → Runs plan p at (take (end + 1) bytes) b x y
front-word plan p at end bytes b x y e n l m a =
    let k : length (take end bytes) ≡ end = length-take-le end bytes (omega (arith, l)) in
    subst (λ part. Runs plan p at part b x y) (sym (take_more bytes end 0 l))
    (runs-word plan p at (get_or bytes end 0) (take end bytes) b x y (subst (λ i. Dark (take i bytes)) (sym e) (dark-front bytes)) (omega (arith, k, n))
    (omega (arith, k, m))
    (subst (λ i. is_white (get_or bytes i 0) ≡ true) (sym e) (white-stop bytes (omega (arith, e, l)))) a)

-- what it says, where that is a place
pub front-told : (plan : Plan) (p q : Place) (at end : ℕ) (bytes : List ℕ) → end ≡ prefix_len is_dark bytes → 0 < end → end < length bytes → end ≤ 65536
    → token_says plan p (token at (take end bytes)) p.amid ≡ goes q →
    (story_from plan p (settled_from at (take (end + 1) bytes)) ≡ record { place = q; fault = None }) × (fresh_after true (take (end + 1) bytes) ≡ true)
front-told plan p q at end bytes e n l m s =
    let text : List ℕ = take end bytes in
    let w : ℕ = get_or bytes end 0 in
    let k : length text ≡ end = length-take-le end bytes (omega (arith, l)) in
    let white : is_white w ≡ true = subst (λ i. is_white (get_or bytes i 0) ≡ true) (sym e) (white-stop bytes (omega (arith, e, l))) in
    let dark : Dark text = subst (λ i. Dark (take i bytes)) (sym e) (dark-front bytes) in
    let said : story_from plan p (settled_from at (text ++ w ∷ [])) ≡ record { place = q; fault = None } =
    ap (story_from plan p) (settled-word at w text dark (omega (arith, k, n)) (omega (arith, k, m)) white) ∙ word-told plan p (token at text)
    ∙ ap (told p) s in (
      subst (λ (part : List ℕ). story_from plan p (settled_from at part) ≡ record { place = q; fault = None }) (sym (take_more bytes end 0 l)) said,
      subst (λ (part : List ℕ). fresh_after true part ≡ true) (sym (take_more bytes end 0 l)) (fresh-behind true text (w ∷ []) (white, tt) (omega arith)),
    )

pub front-breaks : (plan : Plan) (p : Place) (at end : ℕ) (bytes : List ℕ) (f : VcdFault) (b : Body) (x y : List ℕ) → end ≡ prefix_len is_dark bytes → 0 < end
    → end < length bytes → end ≤ 65536
    → Answers plan p.written (token_says plan p (token at (take end bytes)) p.amid) (Err f) b x y
    → (f ≡ faults.Memory) ⊎ Breaks plan p at bytes f p.written x y
front-breaks plan p at end bytes f b x y e n l m a =
    let k : length (take end bytes) ≡ end = length-take-le end bytes (omega (arith, l)) in
    by (word-breaks plan p at (get_or bytes end 0) (take end bytes) f b x y (subst (λ i. Dark (take i bytes)) (sym e) (dark-front bytes))
    (omega (arith, k, n)) (omega (arith, k, m))
    (subst (λ i. is_white (get_or bytes i 0) ≡ true) (sym e) (white-stop bytes (omega (arith, e, l)))) a)
  where
    by : (f ≡ faults.Memory)
        ⊎ ((story_from plan p (settled_from at (take end bytes ++ get_or bytes end 0 ∷ [])) ≡ record { place = p; fault = Some f }) × (y ≡ x))
        → (f ≡ faults.Memory) ⊎ Breaks plan p at bytes f p.written x y
    by (inl is) = inl is
    by (inr is) = inr (record {
      front = end + 1;
      place = p;
      told = subst (λ part. story_from plan p (settled_from at part) ≡ record { place = p; fault = Some f }) (sym (take_more bytes end 0 l)) is.0;
      more = [];
      out = is.1 ∙ sym (append-nil x);
      written = sym (append-nil p.written);
    })

pub front-long : (plan : Plan) (p : Place) (at end : ℕ) (bytes x : List ℕ) → end ≡ prefix_len is_dark bytes → end ≤ length bytes → 65536 < end
    → Breaks plan p at bytes (faults.TokenTooLong at) p.written x x
front-long plan p at end bytes x e l m =
    let k : length (take end bytes) ≡ end = length-take-le end bytes l in
    record {
      front = end;
      place = p;
      told =
          ap (story_from plan p) (settled-long at (take end bytes) (subst (λ i. Dark (take i bytes)) (sym e) (dark-front bytes)) (omega (arith, k, m)))
          ∙ long-told plan p at;
      more = [];
      out = sym (append-nil x);
      written = sym (append-nil p.written);
    }

-- The rest of some bytes.

-- behind a part, a fault of what follows
pub breaks-on : (plan : Plan) (p : Place) (at : ℕ) (xs ys : List ℕ) (a : Body) (x y z : List ℕ) (f : VcdFault) → (r : Runs plan p at xs a x y)
    → (f ≡ faults.Memory) ⊎ Breaks plan r.place (at + length xs) ys f r.place.written y z
    → (f ≡ faults.Memory) ⊎ Breaks plan p at (xs ++ ys) f p.written x z
breaks-on plan p at xs ys a x y z f r (inl is) = inl is
breaks-on plan p at xs ys a x y z f r (inr b) = inr (record {
  front = length xs + b.front;
  place = b.place;
  told =
      ap (λ (part : List ℕ). story_from plan p (settled_from at part)) (parts xs ys b.front)
      ∙ told-on plan p r.place at xs (take b.front ys) r.fresh r.told ∙ b.told;
  more = r.follows.more ++ b.more;
  out = b.out ∙ ap (λ (o : List ℕ). o ++ b.more) r.follows.out ∙ append_assoc x r.follows.more b.more;
  written = b.written ∙ ap (λ (o : List ℕ). o ++ b.more) r.follows.written ∙ append_assoc p.written r.follows.more b.more;
})
  where
    parts : (xs ys : List ℕ) (n : ℕ) → take (length xs + n) (xs ++ ys) ≡ xs ++ take n ys
    parts [] ys n = let z : zero + n ≡ n = omega arith in ap (λ (i : ℕ). take i ys) z
    parts (x ∷ xs) ys n =
        let z : length (x ∷ xs) + n ≡ suc (length xs + n) = omega arith in
        ap (λ (i : ℕ). take i (x ∷ (xs ++ ys))) z ∙ ap (λ (zs : List ℕ). x ∷ zs) (parts xs ys n)

-- nothing was taken by one way, and by the next so much
pub takes-next : (plan : Plan) (p : Place) (at : ℕ) (bytes : List ℕ) (a : Body) (x y z : List ℕ) (b : Body) (res : Result ℕ VcdFault)
    → (r : Runs plan p at [] a x y) → Takes plan r.place at bytes res b y z → Takes plan p at bytes res b x z
takes-next plan p at bytes a x y z b (Ok n) r t =
    let none : at ≡ at + length {A = ℕ} [] = omega arith in
    runs-both plan p at [] (take n bytes) a b x y z r (subst (λ (i : ℕ). Runs plan r.place i (take n bytes) b y z) none t)
takes-next plan p at bytes a x y z b (Err f) r t =
    let none : at ≡ at + length {A = ℕ} [] = omega arith in
    breaks-on plan p at [] bytes a x y z f r (subst (λ (i : ℕ). (f ≡ faults.Memory) ⊎ Breaks plan r.place i bytes f r.place.written y z) none t)

pub step-takes : (plan : Plan) (p : Place) (at n : ℕ) (bytes : List ℕ) (a b : Body) (x y z : List ℕ) (res : Result ℕ VcdFault) → n ≡ 0
    → Runs plan p at (take n bytes) a x y
    → ((q : Place) → Stands plan q a → Takes plan q at bytes res b y z) → Takes plan p at bytes res b x z
step-takes plan p at n bytes a b x y z res e r t =
    let none : Runs plan p at [] a x y = subst (λ (i : ℕ). Runs plan p at (take i bytes) a x y) e r in
    takes-next plan p at bytes a x y z b res none (t none.place none.follows.stands)

-- No byte is white.

one-less : (n m : ℕ) → 1 + n ≡ suc m → n ≡ m
one-less n m h = omega arith

pub open-run : (xs : List ℕ) → prefix_len is_dark xs ≡ length xs → IsOpen xs
open-run [] h = refl
open-run (x ∷ xs) h =
    (elim (is_dark x) as (λ w. cond w (1 + prefix_len is_dark xs) 0 ≡ suc (length xs) → (w && list_all is_dark xs) ≡ true) [
      | true ↦ λ e. open-run xs (one-less (prefix_len is_dark xs) (length xs) e)
      | false ↦ λ e. absurd (omega arith)
    ]) h

-- what is left of a piece
pub record IsRest (piece rest : List ℕ) : Type 0 where
  pub fits : length rest ≤ length piece
  pub is : rest ≡ drop (length piece - length rest) piece

pub rest-none : (piece : List ℕ) → IsRest piece piece
rest-none piece =
    let none : 0 ≡ length piece - length piece = omega arith in
    record { fits = omega arith; is = ap (λ i. drop i piece) none }

pub rest-more : (k : ℕ) (piece rest more : List ℕ) → IsRest piece rest → k ≤ length rest → more ≡ drop k rest → IsRest piece more
rest-more k piece rest more r within cut =
    let n : ℕ = length piece - length rest in
    let len : length more ≡ length rest - k = ap length cut ∙ length-drop k rest in
    let sum : n + k ≡ length piece - length more = omega (arith, r.fits, within, len) in
    record { fits = omega (arith, r.fits, len); is = cut ∙ ap (drop k) r.is ∙ drop-drop k n piece ∙ ap (λ i. drop i piece) sum }

-- of a part and then of the rest
pub runs-on : (plan : Plan) (p : Place) (at i n : ℕ) (piece rest : List ℕ) (a b : Body) (x y z : List ℕ) → i ≤ length piece → rest ≡ drop i piece
    → (r : Runs plan p at (take i piece) a x y)
    → Runs plan r.place (at + i) (take n rest) b y z → Runs plan p at (take (i + n) piece) b x z
runs-on plan p at i n piece rest a b x y z l e r s =
    let k : length (take i piece) ≡ i = length-take-le i piece l in
    subst (λ part. Runs plan p at part b x z) (ap (λ xs. take i piece ++ take n xs) e ∙ sym (take-add i n piece))
    (runs-both plan p at (take i piece) (take n rest) a b x y z r (subst (λ j. Runs plan r.place (at + j) (take n rest) b y z) (sym k) s))

pub runs-more : (plan : Plan) (p : Place) (at k : ℕ) (piece rest : List ℕ) (a b : Body) (x y z : List ℕ) → IsRest piece rest
    → Runs plan p at (take (length piece - length rest) piece) a x y
    → ((q : Place) → Stands plan q a → Runs plan q (at + (length piece - length rest)) (take k rest) b y z) → Runs plan p at
    (take (length piece - length rest + k) piece) b x z
runs-more plan p at k piece rest a b x y z so r on =
    runs-on plan p at (length piece - length rest) k piece rest a b x y z (omega arith) so.is r (on r.place r.follows.stands)

-- a fault in the rest
pub rest-breaks : (plan : Plan) (p : Place) (at : ℕ) (piece rest : List ℕ) (a : Body) (x y z : List ℕ) (f : VcdFault) → IsRest piece rest
    → Runs plan p at (take (length piece - length rest) piece) a x y
    → ((q : Place) → Stands plan q a → (f ≡ faults.Memory) ⊎ Breaks plan q (at + (length piece - length rest)) rest f q.written y z)
    → (f ≡ faults.Memory) ⊎ Breaks plan p at piece f p.written x z
rest-breaks plan p at piece rest a x y z f so r on =
    let n : ℕ = length piece - length rest in
    let k : length (take n piece) ≡ n = length-take-le n piece (omega arith) in
    let whole : take n piece ++ rest ≡ piece = ap (λ (ys : List ℕ). take n piece ++ ys) so.is ∙ take-append-drop n piece in
    subst (λ (part : List ℕ). (f ≡ faults.Memory) ⊎ Breaks plan p at part f p.written x z) whole
    (breaks-on plan p at (take n piece) rest a x y z f r
    (subst (λ (i : ℕ). (f ≡ faults.Memory) ⊎ Breaks plan r.place (at + i) rest f r.place.written y z) (sym k) (on r.place r.follows.stands)))

-- a place inside a piece fits the width of places
pub place-fits : (at : ℕ) (piece rest : List ℕ) → length rest ≤ length piece → at + length piece < 18446744073709551616
    → ((at + length piece) % 18446744073709551616 + (18446744073709551616 - length rest)) % 18446744073709551616 ≡ at + (length piece - length rest)
place-fits at piece rest l h = omega arith
