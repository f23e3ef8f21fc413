-- A piece behind the bytes that a reader has taken: its first bytes go on with the token that is kept.
use Rattle.std.proofs.Common.{◌≡◌, ℕ, suc, ◌+◌, ◌-◌, ◌≤◌, ◌<◌, ◌⊎◌, inl, inr, List, [], ◌∷◌, ◌++◌, length, take, Bool, true, false, ◌&&◌, cond, Some, None}
use Rattle.std.proofs.Common.{Result, Ok, Err, refl, sym, ap, ◌∙◌, subst, append_assoc, arith, length-append, length-take-le}
use Rattle.std.specs.List.{prefix_len, list_all}
use Rattle.std.proofs.lemmas.List.{append-nil, take-append-drop}
use Rattle.std.proofs.lemmas.List.Folds.{list_all-append}
use Rattle.std.proofs.Math.Seq.{take-append-add, take-add}
use Rattle.ccsl_vcd_lex.specs.Runs.{fresh_after}
use Rattle.ccsl_vcd_lex.specs.Tokens.{tokens_from, token}
use Rattle.ccsl_vcd_lex.specs.Lexing.{is_dark}
use Rattle.ccsl_vcd.specs.declared.fault.VcdFault.{VcdFault}
use Rattle.ccsl_vcd.specs.declared.fault.VcdFault.TheVariants as faults
use Rattle.ccsl_events.specs.declared.body.Body.{Body}
use Rattle.ccsl_events.specs.declared.reader.Reader.{Reader}
use Rattle.ccsl_events.specs.Dump.{Plan, Place, begin, goes, passed, may_end, ends_at, token_says}
use Rattle.ccsl_events.specs.Standing.{Stands, Answers}
use Rattle.ccsl_events.specs.Run.{IsOpen, settled_from, story_from, Runs, Breaks}
use Rattle.ccsl_events.specs.Fed.{MayBegin, HasTaken, Reaches, Feeds, Says}
use Rattle.ccsl_events.proofs.Run.{IsRest, told-on, front-word, front-white, front-breaks, front-long}
use Rattle.ccsl_base.proofs.Cases.{no-items}
use Rattle.ccsl_vcd_lex.proofs.Cuts.{fresh-append}

-- Bytes that are open.

one-more : (a b c : ℕ) → a ≡ b + c → 1 + a ≡ suc b + c
one-more a b c h = omega arith

-- a run goes on behind open bytes
pub run-on : (xs ys : List ℕ) → IsOpen xs → prefix_len is_dark (xs ++ ys) ≡ length xs + prefix_len is_dark ys
run-on [] ys h = omega arith
run-on (x ∷ xs) ys h =
    (elim (is_dark x) as (λ w. (w && list_all is_dark xs) ≡ true → cond w (1 + prefix_len is_dark (xs ++ ys)) 0 ≡ suc (length xs) + prefix_len is_dark ys) [
      | true ↦ λ e. one-more (prefix_len is_dark (xs ++ ys)) (length xs) (prefix_len is_dark ys) (run-on xs ys e)
      | false ↦ λ e. absurd (cc)
    ]) h

pub open-both : (xs ys : List ℕ) → IsOpen xs → IsOpen ys → IsOpen (xs ++ ys)
open-both xs ys h k = list_all-append is_dark xs ys ∙ rw (h, k) refl

pub open-front : (xs : List ℕ) → IsOpen (take (prefix_len is_dark xs) xs)
open-front [] = refl
open-front (x ∷ xs) =
    (elim (is_dark x) as (λ w. is_dark x ≡ w → list_all is_dark (take (cond w (1 + prefix_len is_dark xs) 0) (x ∷ xs)) ≡ true) [
      | true ↦ λ e. subst (λ (k : ℕ). list_all is_dark (take k (x ∷ xs)) ≡ true) (sym (next (prefix_len is_dark xs))) (both (is_dark x) _ e (open-front xs))
      | false ↦ λ e. refl
    ]) refl
  where
    next : (n : ℕ) → 1 + n ≡ suc n
    next n = omega arith

    both : (a b : Bool) → a ≡ true → b ≡ true → (a && b) ≡ true
    both a b h k = rw (h, k) refl

-- Behind what was told.

-- Whole tokens were told of up to a place, and these bytes stand behind them.
pub record IsTold (plan : Plan) (start : ℕ) (whole : List ℕ) (p : Place) : Type 0 where
  pub fresh : fresh_after true whole ≡ true
  pub told : story_from plan begin (settled_from start whole) ≡ record { place = p; fault = None }

pub told-of : (plan : Plan) (start : ℕ) (bytes : List ℕ) (p : Place) (r : Reader) → (h : HasTaken plan start bytes p r) → IsTold plan start h.whole p
told-of plan start bytes p r h = record { fresh = h.fresh; told = h.told }

-- a part behind it
pub told-runs : (plan : Plan) (start : ℕ) (whole part : List ℕ) (p : Place) (b : Body) (x y : List ℕ) → IsTold plan start whole p
    → (r : Runs plan p (start + length whole) part b x y)
    → IsTold plan start (whole ++ part) r.place
told-runs plan start whole part p b x y t r = record {
  fresh = fresh-append true whole part ∙ ap (λ w. fresh_after w part) t.fresh ∙ r.fresh;
  told = told-on plan begin p start whole part t.fresh t.told ∙ r.told;
}

-- a fault behind it
pub told-breaks : (plan : Plan) (start : ℕ) (whole rest : List ℕ) (p : Place) (f : VcdFault) (w x y : List ℕ) → IsTold plan start whole p
    → (f ≡ faults.Memory) ⊎ Breaks plan p (start + length whole) rest f w x y
    → (f ≡ faults.Memory) ⊎ Breaks plan begin start (whole ++ rest) f w x y
told-breaks plan start whole rest p f w x y t (inl m) = inl m
told-breaks plan start whole rest p f w x y t (inr b) = inr (record {
  front = length whole + b.front;
  told =
      ap (λ (part : List ℕ). story_from plan begin (settled_from start part)) (take-append-add whole rest b.front)
      ∙ told-on plan begin p start whole (take b.front rest) t.fresh t.told ∙ b.told;
  place = b.place;
  more = b.more;
  out = b.out;
  written = b.written;
})

-- What is kept and a piece behind it are as one piece.
pub as-one : (bytes whole carry piece : List ℕ) → bytes ≡ whole ++ carry → whole ++ (carry ++ piece) ≡ bytes ++ piece
as-one bytes whole carry piece e = sym (append_assoc whole carry piece) ∙ ap (λ (xs : List ℕ). xs ++ piece) (sym e)

-- The body that a reader has.

pub same-body : (a b : Body) (r : Reader) → r.body ≡ Some a → r.body ≡ Some b → a ≡ b
same-body a b r e f = let g : Some a ≡ Some b = sym e ∙ f in cc

no-bytes : (carry : List ℕ) → carry ≡ [] → [] ≡ [] ++ carry
no-bytes carry e = ap (λ (xs : List ℕ). [] ++ xs) (sym e)

-- where no byte of the body was taken
pub begins : (plan : Plan) (start : ℕ) (old r : Reader) (b : Body) → r.body ≡ Some b → Stands plan begin b → MayBegin start old
    → r.taken ≡ old.taken → r.carry.items ≡ old.carry.items → r.is_header_over ≡ old.is_header_over → HasTaken plan start [] begin r
unfolding tokens_from fresh_after
begins plan start old r b has s m taken kept over = record {
  body = b;
  has = has;
  stands = s;
  whole = [];
  parts = no-bytes r.carry.items (kept ∙ m.clear);
  fresh = refl;
  told = refl;
  unended = subst IsOpen (sym (kept ∙ m.clear)) refl;
  few = let k : length r.carry.items ≡ 0 = ap length (kept ∙ m.clear) in omega (arith, k);
  taken = let k : r.taken ≡ start = taken ∙ m.taken in omega (arith, k);
  in_body = over ∙ m.in_body;
}

-- The end of a dump.

pub ends-on : (plan : Plan) (p : Place) (len : ℕ) (r : Result (Unit {0}) VcdFault) (b : Body) (x y : List ℕ) → may_end p ≡ true
    → Answers plan p.written (goes (passed plan p)) r b x y → Answers plan p.written (ends_at plan len p) r b x y
ends-on plan p len r b x y e a = rw e a

pub ends-off : (plan : Plan) (p : Place) (len : ℕ) (b : Body) (x : List ℕ) → may_end p ≡ false
    → Answers plan p.written (ends_at plan len p) (Err (faults.Truncated len)) b x x
ends-off plan p len b x e = rw e (inl (refl, refl))

pub no-body : (b : Body) (r : Reader) → r.body ≡ Some b → r.body ≡ None → ⊥
no-body b r e f = let g : Some b ≡ None = sym e ∙ f in cc

-- the token that is kept was said to the body
pub says-kept : (plan : Plan) (p : Place) (r : Reader) (b : Body) (at place : ℕ) (text carry : List ℕ) (res : Result (Unit {0}) VcdFault) (x y : List ℕ)
    → r.body ≡ Some b → at ≡ place → text ≡ carry
    → Answers plan p.written (token_says plan p (token at text) p.amid) res b x y
    → Says plan p.written (token_says plan p (token place carry) p.amid) res r x y
says-kept plan p r b at place text carry res x y has e f a = record {
  body = b;
  has = has;
  answers =
      subst (λ (i : ℕ). Answers plan p.written (token_says plan p (token i carry) p.amid) res b x y) e
      (subst (λ (t : List ℕ). Answers plan p.written (token_says plan p (token at t) p.amid) res b x y) f a);
}

-- A piece goes on with the token that is kept.

pub one-run : (carry piece : List ℕ) (end : ℕ) → IsOpen carry → end ≡ prefix_len is_dark piece → length carry + end ≡ prefix_len is_dark (carry ++ piece)
one-run carry piece end o e = ap (λ (k : ℕ). length carry + k) e ∙ sym (run-on carry piece o)

-- it ends inside the piece
pub record EndsIn (carry piece : List ℕ) (end : ℕ) : Type 0 where
  pub unended : IsOpen carry
  pub run : end ≡ prefix_len is_dark piece
  pub inside : end < length piece
  pub short : length carry + end ≤ 65536

pub up-to : (carry piece : List ℕ) (end : ℕ) → take (length carry + end + 1) (carry ++ piece) ≡ carry ++ take (end + 1) piece
up-to carry piece end =
    let e : length carry + end + 1 ≡ length carry + (end + 1) = omega arith in
    ap (λ (i : ℕ). take i (carry ++ piece)) e ∙ take-append-add carry piece (end + 1)

pub end-word : (plan : Plan) (p : Place) (at end : ℕ) (carry piece : List ℕ) (b : Body) (x y : List ℕ) → EndsIn carry piece end → 0 < length carry + end
    → Answers plan p.written (token_says plan p (token at (carry ++ take end piece)) p.amid) (Ok tt) b x y
    → Runs plan p at (carry ++ take (end + 1) piece) b x y
end-word plan p at end carry piece b x y e some a =
    subst (λ (part : List ℕ). Runs plan p at part b x y) (up-to carry piece end)
    (front-word plan p at (length carry + end) (carry ++ piece) b x y (one-run carry piece end e.unended e.run) some
    (omega (arith, e.inside, length-append carry piece)) e.short
    (subst (λ (t : List ℕ). Answers plan p.written (token_says plan p (token at t) p.amid) (Ok tt) b x y) (sym (take-append-add carry piece end)) a))

pub end-white : (plan : Plan) (p : Place) (at end : ℕ) (carry piece : List ℕ) (b : Body) (x : List ℕ) → EndsIn carry piece end → length carry + end ≡ 0
    → Stands plan p b
    → Runs plan p at (carry ++ take (end + 1) piece) b x x
end-white plan p at end carry piece b x e none s =
    subst (λ (part : List ℕ). Runs plan p at part b x x) (up-to carry piece end)
    (front-white plan p at (length carry + end) (carry ++ piece) b x (one-run carry piece end e.unended e.run) none
    (omega (arith, e.inside, length-append carry piece)) s)

pub end-breaks : (plan : Plan) (p : Place) (at end : ℕ) (carry piece : List ℕ) (f : VcdFault) (b : Body) (x y : List ℕ) → EndsIn carry piece end
    → 0 < length carry + end
    → Answers plan p.written (token_says plan p (token at (carry ++ take end piece)) p.amid) (Err f) b x y
    → (f ≡ faults.Memory) ⊎ Breaks plan p at (carry ++ piece) f p.written x y
end-breaks plan p at end carry piece f b x y e some a =
    front-breaks plan p at (length carry + end) (carry ++ piece) f b x y (one-run carry piece end e.unended e.run) some
    (omega (arith, e.inside, length-append carry piece)) e.short
    (subst (λ (t : List ℕ). Answers plan p.written (token_says plan p (token at t) p.amid) (Err f) b x y) (sym (take-append-add carry piece end)) a)

-- where the token begins that is kept
pub kept-place : (plan : Plan) (start : ℕ) (bytes : List ℕ) (p : Place) (r : Reader) → (h : HasTaken plan start bytes p r)
    → r.taken - length r.carry.items ≡ start + length h.whole
kept-place plan start bytes p r h = omega (arith, h.taken, ap length h.parts, length-append h.whole r.carry.items)

-- a fault of what is kept and a piece behind it
pub kept-breaks : (plan : Plan) (start : ℕ) (bytes piece : List ℕ) (p : Place) (r : Reader) (f : VcdFault) (w x y : List ℕ)
    → (h : HasTaken plan start bytes p r)
    → (f ≡ faults.Memory) ⊎ Breaks plan p (start + length h.whole) (r.carry.items ++ piece) f w x y
    → (f ≡ faults.Memory) ⊎ Breaks plan begin start (bytes ++ piece) f w x y
kept-breaks plan start bytes piece p r f w x y h b =
    subst (λ (all : List ℕ). (f ≡ faults.Memory) ⊎ Breaks plan begin start all f w x y) (as-one bytes h.whole r.carry.items piece h.parts)
    (told-breaks plan start h.whole (r.carry.items ++ piece) p f w x y (told-of plan start bytes p r h) b)

pub kept-long : (plan : Plan) (start : ℕ) (bytes piece : List ℕ) (p : Place) (r : Reader) (at end : ℕ) (x : List ℕ) → HasTaken plan start bytes p r
    → end ≡ prefix_len is_dark piece → end ≤ length piece
    → 65536 < length r.carry.items + end → at ≡ r.taken - length r.carry.items
    → (faults.TokenTooLong at ≡ faults.Memory) ⊎ Breaks plan begin start (bytes ++ piece) (faults.TokenTooLong at) p.written x x
kept-long plan start bytes piece p r at end x h e l long is =
    let here : start + length h.whole ≡ at = sym (is ∙ kept-place plan start bytes p r h) in
    kept-breaks plan start bytes piece p r (faults.TokenTooLong at) p.written x x h
    (inr (subst (λ (i : ℕ). Breaks plan p (start + length h.whole) (r.carry.items ++ piece) (faults.TokenTooLong i) p.written x x) here
    (front-long plan p (start + length h.whole) (length r.carry.items + end) (r.carry.items ++ piece) x (one-run r.carry.items piece end h.unended e)
    (omega (arith, l, length-append r.carry.items piece)) long)))

-- what is kept and so many bytes are white space and whole tokens
pub closes : (plan : Plan) (start : ℕ) (bytes piece : List ℕ) (p : Place) (r r' : Reader) (b : Body) (n : ℕ) (x y : List ℕ)
    → (h : HasTaken plan start bytes p r)
    → Runs plan p (start + length h.whole) (r.carry.items ++ take n piece) b x y → n ≤ length piece → r'.body ≡ Some b → r'.carry.items ≡ []
    → r'.taken ≡ r.taken + n → r'.is_header_over ≡ false
    → Reaches plan start (bytes ++ take n piece) p.written r' x y
closes plan start bytes piece p r r' b n x y h run l has none taken over =
    let part : List ℕ = r.carry.items ++ take n piece in
    let t = told-runs plan start h.whole part p b x y (told-of plan start bytes p r h) run in
    record {
      place = run.place;
      taken = record {
        body = b;
        has = has;
        stands = run.follows.stands;
        whole = h.whole ++ part;
        parts = sym (as-one bytes h.whole r.carry.items (take n piece) h.parts) ∙ sym (append-nil (h.whole ++ part))
            ∙ ap (λ (xs : List ℕ). (h.whole ++ part) ++ xs) (sym none);
        fresh = t.fresh;
        told = t.told;
        unended = subst IsOpen (sym none) refl;
        few = let k : length r'.carry.items ≡ 0 = ap length none in omega (arith, k);
        taken = omega (arith, taken, h.taken, length-append bytes (take n piece), length-take-le n piece l);
        in_body = over;
      };
      more = run.follows.more;
      out = run.follows.out;
      written = run.follows.written;
    }

-- so many bytes go on with the token that is kept
pub goes-on : (plan : Plan) (start : ℕ) (bytes piece : List ℕ) (p : Place) (r r' : Reader) (n : ℕ) (x : List ℕ) → HasTaken plan start bytes p r
    → IsOpen (take n piece) → n ≤ length piece
    → length r.carry.items + n ≤ 65536 → r'.body ≡ r.body → r'.carry.items ≡ r.carry.items ++ take n piece → r'.taken ≡ r.taken + n
    → r'.is_header_over ≡ false
    → Reaches plan start (bytes ++ take n piece) p.written r' x x
goes-on plan start bytes piece p r r' n x h o l short same kept taken over = record {
  place = p;
  taken = record {
    body = h.body;
    has = same ∙ h.has;
    stands = h.stands;
    whole = h.whole;
    parts = sym (as-one bytes h.whole r.carry.items (take n piece) h.parts) ∙ ap (λ (xs : List ℕ). h.whole ++ xs) (sym kept);
    fresh = h.fresh;
    told = h.told;
    unended = subst IsOpen (sym kept) (open-both r.carry.items (take n piece) h.unended o);
    few = omega (arith, short, ap length kept, length-append r.carry.items (take n piece), length-take-le n piece l);
    taken = omega (arith, taken, h.taken, length-append bytes (take n piece), length-take-le n piece l);
    in_body = over;
  };
  more = [];
  out = sym (append-nil x);
  written = sym (append-nil p.written);
}

pub open-to : (piece : List ℕ) (end : ℕ) → end ≡ prefix_len is_dark piece → IsOpen (take end piece)
open-to piece end e = subst (λ (i : ℕ). IsOpen (take i piece)) (sym e) (open-front piece)

-- what was said of the token that is kept, with its bytes in a piece
pub kept-said : (plan : Plan) (start : ℕ) (bytes piece : List ℕ) (p : Place) (r : Reader) (end taken : ℕ) (carry : List ℕ) (res : Result (Unit {0}) VcdFault)
    (b : Body) (x y : List ℕ)
    → (h : HasTaken plan start bytes p r) → end ≤ length piece → taken ≡ r.taken + end → carry ≡ r.carry.items ++ take end piece
    → Answers plan p.written (token_says plan p (token (taken - length carry) carry) p.amid) res b x y
    → Answers plan p.written (token_says plan p (token (start + length h.whole) (r.carry.items ++ take end piece)) p.amid) res b x y
kept-said plan start bytes piece p r end taken carry res b x y h l t e a =
    let here : taken - length carry ≡ start + length h.whole =
    omega (
      arith,
      kept-place plan start bytes p r h,
      t,
      ap length e,
      length-append r.carry.items
          (take end piece),
      length-take-le end piece l,
      h.taken,
      ap length h.parts,
      length-append h.whole r.carry.items,
    ) in
    subst (λ (i : ℕ). Answers plan p.written (token_says plan p (token i (r.carry.items ++ take end piece)) p.amid) res b x y) here
    (subst (λ (text : List ℕ). Answers plan p.written (token_says plan p (token (taken - length carry) text) p.amid) res b x y) e a)

-- where a piece ends the token that is kept
pub ends-in : (plan : Plan) (start : ℕ) (bytes piece : List ℕ) (p : Place) (r : Reader) (end : ℕ) → HasTaken plan start bytes p r
    → end ≡ prefix_len is_dark piece → end < length piece
    → length r.carry.items + end ≤ 65536 → EndsIn r.carry.items piece end
ends-in plan start bytes piece p r end h e l short = record { unended = h.unended; run = e; inside = l; short = short }

-- Where nothing is kept, a piece is taken from its first byte.

pub fresh-runs : (plan : Plan) (start : ℕ) (bytes part : List ℕ) (p : Place) (r : Reader) (b : Body) (x y : List ℕ) → (h : HasTaken plan start bytes p r)
    → length r.carry.items ≡ 0
    → Runs plan p r.taken part b x y → Runs plan p (start + length h.whole) (r.carry.items ++ part) b x y
fresh-runs plan start bytes part p r b x y h none run =
    let here : r.taken ≡ start + length h.whole = omega (arith, kept-place plan start bytes p r h, none) in
    subst (λ (i : ℕ). Runs plan p i (r.carry.items ++ part) b x y) here
    (subst (λ (xs : List ℕ). Runs plan p r.taken (xs ++ part) b x y) (sym (no-items r.carry.items none)) run)

pub fresh-breaks : (plan : Plan) (start : ℕ) (bytes piece : List ℕ) (p : Place) (r : Reader) (f : VcdFault) (w x y : List ℕ) → HasTaken plan start bytes p r
    → length r.carry.items ≡ 0
    → (f ≡ faults.Memory) ⊎ Breaks plan p r.taken piece f w x y → (f ≡ faults.Memory) ⊎ Breaks plan begin start (bytes ++ piece) f w x y
fresh-breaks plan start bytes piece p r f w x y h none b =
    let here : r.taken ≡ start + length h.whole = omega (arith, kept-place plan start bytes p r h, none) in
    kept-breaks plan start bytes piece p r f w x y h
    (subst (λ (i : ℕ). (f ≡ faults.Memory) ⊎ Breaks plan p i (r.carry.items ++ piece) f w x y) here
    (subst (λ (xs : List ℕ). (f ≡ faults.Memory) ⊎ Breaks plan p r.taken (xs ++ piece) f w x y) (sym (no-items r.carry.items none)) b))

-- One after another.

pub reaches-both : (plan : Plan) (start : ℕ) (bytes more : List ℕ) (w : List ℕ) (r r' : Reader) (x y z : List ℕ) → (a : Reaches plan start bytes w r x y)
    → Reaches plan start more a.place.written r' y z
    → Reaches plan start more w r' x z
reaches-both plan start bytes more w r r' x y z a b = record {
  place = b.place;
  taken = b.taken;
  more = a.more ++ b.more;
  out = b.out ∙ ap (λ (o : List ℕ). o ++ b.more) a.out ∙ append_assoc x a.more b.more;
  written = b.written ∙ ap (λ (o : List ℕ). o ++ b.more) a.written ∙ append_assoc w a.more b.more;
}

-- a fault behind what was written
breaks-next : (plan : Plan) (start : ℕ) (bytes all w : List ℕ) (r : Reader) (f : VcdFault) (x y z : List ℕ) → (a : Reaches plan start bytes w r x y)
    → (f ≡ faults.Memory) ⊎ Breaks plan begin start all f a.place.written y z → (f ≡ faults.Memory) ⊎ Breaks plan begin start all f w x z
breaks-next plan start bytes all w r f x y z a (inl m) = inl m
breaks-next plan start bytes all w r f x y z a (inr b) = inr (record {
  front = b.front;
  place = b.place;
  told = b.told;
  more = a.more ++ b.more;
  out = b.out ∙ ap (λ (o : List ℕ). o ++ b.more) a.out ∙ append_assoc x a.more b.more;
  written = b.written ∙ ap (λ (o : List ℕ). o ++ b.more) a.written ∙ append_assoc w a.more b.more;
})

pub feeds-next : (plan : Plan) (start : ℕ) (bytes piece : List ℕ) (p : Place) (res : Result ℕ VcdFault) (r r' : Reader) (x y z : List ℕ)
    → (a : Reaches plan start bytes p.written r x y)
    → Feeds plan start bytes a.place piece res r' y z → Feeds plan start bytes p piece res r' x z
feeds-next plan start bytes piece p (Ok n) r r' x y z a f = reaches-both plan start bytes (bytes ++ take n piece) p.written r r' x y z a f
feeds-next plan start bytes piece p (Err g) r r' x y z a f = breaks-next plan start bytes (bytes ++ piece) p.written r g x y z a f

-- where a run took no byte
pub still-there : (plan : Plan) (start : ℕ) (bytes piece w : List ℕ) (r : Reader) (n : ℕ) (x y : List ℕ) → n ≡ 0
    → Reaches plan start (bytes ++ take n piece) w r x y → Reaches plan start bytes w r x y
still-there plan start bytes piece w r n x y e a =
    subst (λ (all : List ℕ). Reaches plan start all w r x y) (append-nil bytes) (subst (λ (i : ℕ). Reaches plan start (bytes ++ take i piece) w r x y) e a)

pub feed-more : (plan : Plan) (start : ℕ) (bytes piece rest w : List ℕ) (k : ℕ) (r r' : Reader) (x y z : List ℕ) → IsRest piece rest
    → (a : Reaches plan start (bytes ++ take (length piece - length rest) piece) w r x y)
    → Reaches plan start ((bytes ++ take (length piece - length rest) piece) ++ take k rest) a.place.written r' y z
    → Reaches plan start (bytes ++ take (length piece - length rest + k) piece) w r' x z
feed-more plan start bytes piece rest w k r r' x y z so a b =
    let n : ℕ = length piece - length rest in
    let whole : (bytes ++ take n piece) ++ take k rest ≡ bytes ++ take (n + k) piece =
    append_assoc bytes (take n piece) (take k rest) ∙ ap (λ (xs : List ℕ). bytes ++ xs)
    (ap (λ (ys : List ℕ). take n piece ++ take k ys) so.is ∙ sym (take-add n k piece)) in
    subst (λ (all : List ℕ). Reaches plan start all w r' x z) whole
    (reaches-both plan start (bytes ++ take n piece) ((bytes ++ take n piece) ++ take k rest) w r r' x y z a b)

pub feed-breaks : (plan : Plan) (start : ℕ) (bytes piece rest w : List ℕ) (r : Reader) (f : VcdFault) (x y z : List ℕ) → IsRest piece rest
    → (a : Reaches plan start (bytes ++ take (length piece - length rest) piece) w r x y)
    → (f ≡ faults.Memory) ⊎ Breaks plan begin start ((bytes ++ take (length piece - length rest) piece) ++ rest) f a.place.written y z
    → (f ≡ faults.Memory) ⊎ Breaks plan begin start (bytes ++ piece) f w x z
feed-breaks plan start bytes piece rest w r f x y z so a b =
    let n : ℕ = length piece - length rest in
    let whole : (bytes ++ take n piece) ++ rest ≡ bytes ++ piece =
    append_assoc bytes (take n piece) rest ∙ ap (λ (xs : List ℕ). bytes ++ xs) (ap (λ (ys : List ℕ). take n piece ++ ys) so.is ∙ take-append-drop n piece) in
    breaks-next plan start (bytes ++ take n piece) (bytes ++ piece) w r f x y z a
    (subst (λ (all : List ℕ). (f ≡ faults.Memory) ⊎ Breaks plan begin start all f a.place.written y z) whole b)

-- there is room in the width of places for the rest
pub rest-fits : (plan : Plan) (start : ℕ) (bytes piece rest w : List ℕ) (p : Place) (r r' : Reader) (x y : List ℕ) → HasTaken plan start bytes p r
    → IsRest piece rest
    → Reaches plan start (bytes ++ take (length piece - length rest) piece) w r' x y → r.taken + length piece < 18446744073709551616
    → r'.taken + length rest < 18446744073709551616
rest-fits plan start bytes piece rest w p r r' x y h so a fits =
    let n : ℕ = length piece - length rest in
    let l : n ≤ length piece = omega arith in
    omega (arith, h.taken, a.taken.taken, so.fits, fits, length-append bytes (take n piece), length-take-le n piece l)
