-- What a whole body says, by the bytes that were taken of it.
use Rattle.std.proofs.Common.{◌≡◌, ℕ, ◌+◌, ◌≤◌, ◌<◌, ◌⊎◌, inl, inr, List, [], ◌∷◌, ◌++◌, length, take, drop, map, filter, fold, Bool, true, false, not, nat_lt}
use Rattle.std.proofs.Common.{◌||◌, ◌&&◌, cond, Some, None, refl, sym, ap, ◌∙◌, append_assoc, arith, length-append}
use Rattle.std.specs.List.{list_all}
use Rattle.std.proofs.lemmas.Bool.{cases_lt, le-ltb, lt-ltb}
use Rattle.std.proofs.Math.Bool.{or-true}
use Rattle.std.proofs.lemmas.List.{append-nil, map-append, take-append-drop}
use Rattle.std.proofs.lemmas.List.Sums.{fold-append}
use Rattle.ccsl_vcd_lex.specs.Tokens.{is_white, Token, token, end_of, is_long, run, tokens_from, Heard, too_long, hear}
use Rattle.ccsl_vcd_lex.specs.Runs.{fresh_after}
use Rattle.ccsl_vcd_lex.specs.Lexing.{Dark, is_dark}
use Rattle.ccsl_vcd_lex.proofs.Cuts.{tokens-cut, one-token, one-token-more, from-behind, fresh-behind, fresh-append}
use Rattle.ccsl_vcd_lex.proofs.Further.{split}
use Rattle.ccsl_vcd_lex.proofs.Told.{long-word}
use Rattle.ccsl_vcd.specs.declared.fault.VcdFault.{VcdFault}
use Rattle.ccsl_events.specs.declared.reader.Reader.{Reader}
use Rattle.ccsl_events.specs.Dump.{Plan, Place, Story, refused, next, begin, story, ends_at, ended, body_says}
use Rattle.ccsl_events.specs.Run.{IsOpen, settled_from, story_from, Breaks}
use Rattle.ccsl_events.specs.Fed.{HasTaken}
use Rattle.ccsl_events.proofs.Run.{told-on, settled-fresh, settled-cut, settled-long}

-- all tokens of a body
abbrev all_from : ℕ → List ℕ → List Heard
all_from start bytes = map hear (tokens_from true start bytes)

-- A line feed behind the last byte makes no token.
pub line-feed : (plan : Plan) (start len : ℕ) (bytes : List ℕ) → body_says plan start len (bytes ++ 10 ∷ []) ≡ body_says plan start len bytes
unfolding is_white
line-feed plan start len bytes =
    ap (λ (ts : List Token). ended plan len (story plan (map hear ts)).place (story plan (map hear ts)).fault)
    (from-behind true start bytes (10 ∷ []) (refl, tt))

fed-fresh : (bytes : List ℕ) → fresh_after true (bytes ++ 10 ∷ []) ≡ true
unfolding is_white
fed-fresh bytes = fresh-behind true bytes (10 ∷ []) (refl, tt) (omega arith)

-- open bytes end with no white space
open-ends : (f : Bool) (b : ℕ) (xs : List ℕ) → IsOpen (b ∷ xs) → fresh_after f (b ∷ xs) ≡ false
unfolding fresh_after
open-ends f b [] h =
    (elim (is_white b) as (λ w. (not w && true) ≡ true → w ≡ false) [
      | true ↦ λ e. absurd (cc)
      | false ↦ λ e. refl
    ]) h
open-ends f b (c ∷ xs) h =
    (elim (is_white b) as (λ w. (not w && list_all is_dark (c ∷ xs)) ≡ true → fresh_after w (c ∷ xs) ≡ false) [
      | true ↦ λ e. absurd (cc)
      | false ↦ λ e. open-ends false c xs e
    ]) h

-- nothing is open where a token may begin
none-open : (xs : List ℕ) → IsOpen xs → fresh_after true xs ≡ true → xs ≡ []
none-open [] h f = refl
none-open (b ∷ xs) h f = absurd (let e : true ≡ false = sym f ∙ open-ends true b xs h in cc)

story-is : (plan : Plan) (hs : List Heard) → story plan hs ≡ story_from plan begin hs
unfolding story
story-is plan hs = refl

none-kept : (plan : Plan) (start : ℕ) (bytes : List ℕ) (p : Place) (r : Reader) → HasTaken plan start (bytes ++ 10 ∷ []) p r → r.carry.items ≡ []
none-kept plan start bytes p r h =
    none-open r.carry.items h.unended
    (ap (λ (f : Bool). fresh_after f r.carry.items) (sym h.fresh) ∙ sym (fresh-append true h.whole r.carry.items) ∙ ap (fresh_after true) (sym h.parts)
    ∙ fed-fresh bytes)

-- all was taken, and a line feed behind it
pub whole-ends : (plan : Plan) (start len : ℕ) (bytes : List ℕ) (p : Place) (r : Reader) → HasTaken plan start (bytes ++ 10 ∷ []) p r
    → body_says plan start len bytes ≡ ends_at plan len p
whole-ends plan start len bytes p r h =
    let is : bytes ++ 10 ∷ [] ≡ h.whole = h.parts ∙ ap (λ (xs : List ℕ). h.whole ++ xs) (none-kept plan start bytes p r h) ∙ append-nil h.whole in
    let told : story plan (all_from start (bytes ++ 10 ∷ [])) ≡ record { place = p; fault = None } =
    story-is plan (all_from start (bytes ++ 10 ∷ [])) ∙ ap (λ (xs : List ℕ). story_from plan begin (all_from start xs)) is
    ∙ ap (story_from plan begin) (sym (settled-fresh start h.whole h.fresh)) ∙ h.told in
    sym (line-feed plan start len bytes) ∙ ap (λ (s : Story). ended plan len s.place s.fault) told

-- What bytes settle comes first among all tokens.

settled-short : (at : ℕ) (text : List ℕ) → Dark text → length text ≤ 65536 → settled_from at text ≡ []
unfolding tokens_from
settled-short at [] d l = refl
settled-short at (t ∷ ts) d l =
    let n : ℕ = at + length (t ∷ ts) in
    let one : tokens_from true at (t ∷ ts) ≡ token at (t ∷ ts) ∷ [] = one-token at t ts d in
    let within : nat_lt n n ≡ false = le-ltb n n (omega arith) in
    let short : nat_lt 65536 (length (t ∷ ts)) ≡ false = le-ltb 65536 (length (t ∷ ts)) l in
    ap (λ (us : List Token). map hear (filter (λ u. nat_lt (end_of u) n || is_long u) us)) one
    ∙ ap (λ (b : Bool). map hear (cond (b || nat_lt 65536 (length (t ∷ ts))) (token at (t ∷ ts) ∷ []) [])) within
    ∙ ap (λ (b : Bool). map hear (cond b (token at (t ∷ ts) ∷ []) [])) short

long-first : (at t : ℕ) (ts more : List ℕ) → Dark (t ∷ ts) → 65536 < length (t ∷ ts)
    → (rest : List Heard) × (all_from at ((t ∷ ts) ++ more) ≡ too_long at ∷ rest)
long-first at t ts more d l =
    let k = one-token-more at t ts more d in
    let m : 65536 < length ((t ∷ ts) ++ run more) = omega (arith, l, length-append (t ∷ ts) (run more)) in
    (map hear k.0, ap (map hear) k.1 ∙ ap (λ (h : Heard). h ∷ map hear k.0) (long-word at ((t ∷ ts) ++ run more) m))

text-first : (at : ℕ) (text more : List ℕ) → Dark text → (65536 < length text) ⊎ (length text ≤ 65536)
    → (rest : List Heard) × (all_from at (text ++ more) ≡ settled_from at text ++ rest)
text-first at [] more d (inl l) = absurd (omega arith)
text-first at (t ∷ ts) more d (inl l) =
    let k = long-first at t ts more d l in
    (k.0, k.1 ∙ ap (λ (hs : List Heard). hs ++ k.0) (sym (settled-long at (t ∷ ts) d l)))
text-first at text more d (inr l) = (all_from at (text ++ more), ap (λ (hs : List Heard). hs ++ all_from at (text ++ more)) (sym (settled-short at text d l)))

all-cut : (at : ℕ) (p q : List ℕ) → fresh_after true p ≡ true → all_from at (p ++ q) ≡ settled_from at p ++ all_from (at + length p) q
all-cut at p q f =
    ap (map hear) (tokens-cut true at p q f) ∙ map-append hear (tokens_from true at p) (tokens_from true (at + length p) q)
    ∙ ap (λ (hs : List Heard). hs ++ all_from (at + length p) q) (sym (settled-fresh at p f))

pub settled-first : (at : ℕ) (p more : List ℕ) → (rest : List Heard) × (all_from at (p ++ more) ≡ settled_from at p ++ rest)
settled-first at p more =
    let s = split p in
    let k = text-first (at + length s.before) s.text more s.dark (cases_lt 65536 (length s.text)) in (
      k.0,
      ap (λ (xs : List ℕ). all_from at (xs ++ more)) s.whole ∙ ap (all_from at) (append_assoc s.before s.text more)
          ∙ all-cut at s.before (s.text ++ more) s.fresh
          ∙ ap (λ (hs : List Heard). settled_from at s.before ++ hs) k.1
          ∙ sym (append_assoc (settled_from at s.before) (settled_from (at + length s.before) s.text) k.0)
          ∙ ap (λ (hs : List Heard). hs ++ k.0) (sym (ap (settled_from at) s.whole ∙ settled-cut at s.before s.text s.fresh)),
    )

-- as much of what bytes settle, whatever they are followed by
settled-on : (at : ℕ) (text more : List ℕ) → Dark text → (65536 < length text) ⊎ (length text ≤ 65536)
    → (rest : List Heard) × (settled_from at (text ++ more) ≡ settled_from at text ++ rest)
settled-on at [] more d (inl l) = absurd (omega arith)
settled-on at (t ∷ ts) more d (inl l) =
    let k = one-token-more at t ts more d in
    let all : List ℕ = (t ∷ ts) ++ run more in
    let n : ℕ = at + length ((t ∷ ts) ++ more) in
    let Q : Token → Bool = λ u. nat_lt (end_of u) n || is_long u in
    let m : 65536 < length all = omega (arith, l, length-append (t ∷ ts) (run more)) in
    let kept : filter Q (token at all ∷ k.0) ≡ token at all ∷ filter Q k.0 =
    ap (λ (b : Bool). cond (nat_lt (at + length all) n || b) (token at all ∷ filter Q k.0) (filter Q k.0)) (lt-ltb 65536 (length all) m)
    ∙ ap (λ (b : Bool). cond b (token at all ∷ filter Q k.0) (filter Q k.0)) (or-true (nat_lt (at + length all) n)) in (
      map hear (filter Q k.0),
      ap (λ (us : List Token). map hear (filter Q us)) k.1 ∙ ap (map hear) kept ∙ ap (λ (h : Heard). h ∷ map hear (filter Q k.0)) (long-word at all m)
          ∙ ap (λ (hs : List Heard). hs ++ map hear (filter Q k.0)) (sym (settled-long at (t ∷ ts) d l)),
    )
settled-on at text more d (inr l) =
    (settled_from at (text ++ more), ap (λ (hs : List Heard). hs ++ settled_from at (text ++ more)) (sym (settled-short at text d l)))

pub settled-more : (at : ℕ) (p more : List ℕ) → (rest : List Heard) × (settled_from at (p ++ more) ≡ settled_from at p ++ rest)
settled-more at p more =
    let s = split p in
    let k = settled-on (at + length s.before) s.text more s.dark (cases_lt 65536 (length s.text)) in (
      k.0,
      ap (λ (xs : List ℕ). settled_from at (xs ++ more)) s.whole ∙ ap (settled_from at) (append_assoc s.before s.text more)
          ∙ settled-cut at s.before (s.text ++ more) s.fresh
          ∙ ap (λ (hs : List Heard). settled_from at s.before ++ hs) k.1
          ∙ sym (append_assoc (settled_from at s.before) (settled_from (at + length s.before) s.text) k.0)
          ∙ ap (λ (hs : List Heard). hs ++ k.0) (sym (ap (settled_from at) s.whole ∙ settled-cut at s.before s.text s.fresh)),
    )

-- bytes of an open token settle nothing
open-dark : (xs : List ℕ) → IsOpen xs → Dark xs
open-dark [] h = tt
open-dark (x ∷ xs) h =
    (elim (is_white x) as (λ w. is_white x ≡ w → (not w && list_all is_dark xs) ≡ true → Dark (x ∷ xs)) [
      | true ↦ λ e k. absurd (cc)
      | false ↦ λ e k. (e, open-dark xs k)
    ]) refl h

pub settled-open : (at : ℕ) (xs : List ℕ) → IsOpen xs → length xs ≤ 65536 → settled_from at xs ≡ []
settled-open at xs h l = settled-short at xs (open-dark xs h) l

-- a fault stays the first
fault-stays : (plan : Plan) (p : Place) (f : VcdFault) (hs : List Heard)
    → fold (next plan) (record { place = p; fault = Some f }) hs ≡ record { place = p; fault = Some f }
fault-stays plan p f [] = refl
fault-stays plan p f (h ∷ hs) = fault-stays plan p f hs

-- a token of some first bytes is refused
pub story-breaks : (plan : Plan) (start : ℕ) (bytes more : List ℕ) (f : VcdFault) (w x y : List ℕ) → (b : Breaks plan begin start bytes f w x y)
    → story plan (map hear (tokens_from true start (bytes ++ more))) ≡ record { place = b.place; fault = Some f }
story-breaks plan start bytes more f w x y b =
    let part : List ℕ = take b.front bytes in
    let rest : List ℕ = drop b.front bytes ++ more in
    let is : part ++ rest ≡ bytes ++ more =
    sym (append_assoc part (drop b.front bytes) more) ∙ ap (λ (xs : List ℕ). xs ++ more) (take-append-drop b.front bytes) in
    let k = settled-first start part rest in
    story-is plan (all_from start (bytes ++ more)) ∙ ap (λ (xs : List ℕ). story_from plan begin (all_from start xs)) (sym is)
    ∙ ap (story_from plan begin) k.1 ∙ fold-append (next plan) (record { place = begin; fault = None }) (settled_from start part) k.0
    ∙ ap (λ (s : Story). fold (next plan) s k.0) b.told ∙ fault-stays plan b.place f k.0

pub whole-breaks : (plan : Plan) (start len : ℕ) (bytes more : List ℕ) (f : VcdFault) (w x y : List ℕ) → Breaks plan begin start bytes f w x y
    → body_says plan start len (bytes ++ more) ≡ refused f
whole-breaks plan start len bytes more f w x y b = ap (λ (s : Story). ended plan len s.place s.fault) (story-breaks plan start bytes more f w x y b)

-- what was written up to the fault
pub whole-rows : (plan : Plan) (start : ℕ) (bytes more : List ℕ) (f : VcdFault) (w x y : List ℕ) → (b : Breaks plan begin start bytes f w x y)
    → (story plan (map hear (tokens_from true start (bytes ++ more)))).place ≡ b.place
whole-rows plan start bytes more f w x y b = ap (λ (s : Story). s.place) (story-breaks plan start bytes more f w x y b)

-- What is read of a body, and not to its end.

-- a fault stays, whatever is read behind it
pub breaks-more : (plan : Plan) (start : ℕ) (bytes more : List ℕ) (f : VcdFault) (w x y : List ℕ) → (b : Breaks plan begin start bytes f w x y)
    → story_from plan begin (settled_from start (bytes ++ more)) ≡ record { place = b.place; fault = Some f }
breaks-more plan start bytes more f w x y b =
    let part : List ℕ = take b.front bytes in
    let rest : List ℕ = drop b.front bytes ++ more in
    let is : part ++ rest ≡ bytes ++ more =
    sym (append_assoc part (drop b.front bytes) more) ∙ ap (λ (xs : List ℕ). xs ++ more) (take-append-drop b.front bytes) in
    let k = settled-more start part rest in
    ap (λ (xs : List ℕ). story_from plan begin (settled_from start xs)) (sym is)
    ∙ ap (story_from plan begin) k.1 ∙ fold-append (next plan) (record { place = begin; fault = None }) (settled_from start part) k.0
    ∙ ap (λ (s : Story). fold (next plan) s k.0) b.told ∙ fault-stays plan b.place f k.0

-- the place that a reader has come to is that of the bytes that it has taken
pub taken-told : (plan : Plan) (start : ℕ) (bytes : List ℕ) (p : Place) (r : Reader) → HasTaken plan start bytes p r
    → story_from plan begin (settled_from start bytes) ≡ record { place = p; fault = None }
taken-told plan start bytes p r h =
    ap (λ (xs : List ℕ). story_from plan begin (settled_from start xs)) h.parts
    ∙ told-on plan begin p start h.whole r.carry.items h.fresh h.told
    ∙ ap (story_from plan p) (settled-open (start + length h.whole) r.carry.items h.unended h.few)
