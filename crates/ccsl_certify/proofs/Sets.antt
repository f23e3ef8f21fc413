-- The recorded rows of every trace are sets of clocks: clocks are bound in their order.
use Rattle.std.proofs.Common.{◌≡◌, ◌⊎◌, ℕ, ◌+◌, ◌<◌, List, [], ◌∷◌, ◌++◌, length, map, filter, fold, take, Bool, true, false, cond, nat_lt, nat_le}
use Rattle.std.proofs.Common.{bytes_eq, Option, Some, None, Result, Ok, Err, refl, sym, subst, ⊎_elim, inl, inr, arith, lt-ltb}
use Rattle.std.specs.List.{list_all}
use Rattle.std.specs.Prelude.{codes}
use Rattle.std.proofs.lemmas.Bool.{and_parts, and_from}
use Rattle.ccsl_base.specs.Clocks.{is_ascending}
use Rattle.ccsl_vcd_lex.specs.Tokens.{Token, Heard, word, too_long, settled, heard}
use Rattle.ccsl_vcd.specs.declared.fault.VcdFault.{VcdFault}
use Rattle.ccsl_vcd.specs.declared.fault.VcdFault.TheVariants as faults
use Rattle.ccsl_vcd.specs.declared.limits.Limits.{Limits}
use Rattle.ccsl_vcd.specs.Binding.{Declaration, is_event, Wanted, Bound, candidates, bind_one, joined, bind_from, bind}
use Rattle.ccsl_vcd.specs.Places.{Change, Among, commands, inside, Header, Amid, changes, remark, code_of, code_skipped, Body, Where, header, body, Said, goes}
use Rattle.ccsl_vcd.specs.Places.{refused}
use Rattle.ccsl_vcd.specs.Header.{HeaderWord, var, scope, upscope, end_definitions, other_command, end_command, plain, header_word, word_fits, declares}
use Rattle.ccsl_vcd.specs.Header.{put_declared, opens, starts, ends, inside_says, header_says}
use Rattle.ccsl_vcd.specs.Words.{Word, time, scalar, vector, skipped, comment, dump, gap, close, bad_time, bad_change, unknown, word_of}
use Rattle.ccsl_vcd.specs.Body.{is_declared, changed, change_says, body_says}
use Rattle.ccsl_vcd.specs.Reading.{stands_at, says, Story, told, next_from, next, begin, story, decides, ends_at, is_over, so_far, reading}
use Rattle.ccsl_vcd.specs.Rows.{at, before, ticks, row_at, times, has_ticks, rows, bound_at, recorded}
use Rattle.ccsl_relate.specs.Watching.{are_sets}

abbrev clocks : List Bound → List ℕ
clocks bs = map (λ b. b.clock) bs

-- CLOCKS ARE BOUND IN ORDER, those from a number on
record IsFrom (first : ℕ) (bs : List Bound) : Type 0 where
  ascends : is_ascending (clocks bs) ≡ true
  above : (k : ℕ) → k < first → list_all (nat_lt k) (clocks bs) ≡ true

abbrev AreFrom : ℕ → Result (List Bound) VcdFault → Type 0
AreFrom first (Ok bs) = IsFrom first bs
AreFrom first (Err f) = Unit {0}

-- none, or the clock itself
abbrev IsOne : ℕ → Result (List Bound) VcdFault → Type 0
IsOne clock (Ok bs) = (bs ≡ []) ⊎ ((b : Bound) × (bs ≡ b ∷ []) × (b.clock ≡ clock))
IsOne clock (Err f) = Unit {0}

one-if : (clock : ℕ) (t : Bool) (x y : Result (List Bound) VcdFault) → IsOne clock x → IsOne clock y → IsOne clock (cond t x y)
one-if clock true x y a b = a
one-if clock false x y a b = b

one-bound : (clock : ℕ) (must : Bool) (ds : List Declaration) → IsOne clock (bind_one clock must ds)
one-bound clock true [] = tt
one-bound clock false [] = inl refl
one-bound clock must (d ∷ ds) =
    let b : Bound = record { clock = clock; code = d.code; event = is_event d } in
    one-if clock (list_all (λ e. bytes_eq e.code d.code) ds) (Ok (b ∷ [])) (Err (faults.Ambiguous clock)) (inr (b, refl, refl)) tt

none-first : (first : ℕ) (bs : List Bound) → IsFrom (first + 1) bs → IsFrom first bs
none-first first bs h = record { ascends = h.ascends; above = λ k l. h.above k (omega (arith, l)) }

one-first : (first : ℕ) (b : Bound) (bs : List Bound) → b.clock ≡ first → IsFrom (first + 1) bs → IsFrom first (b ∷ bs)
one-first first b bs e h = record {
  ascends = and_from (list_all (nat_lt b.clock) (clocks bs)) (is_ascending (clocks bs)) (h.above b.clock (omega (arith, e))) h.ascends;
  above = λ k l. and_from (nat_lt k b.clock) (list_all (nat_lt k) (clocks bs)) (lt-ltb k b.clock (omega (arith, l, e))) (h.above k (omega (arith, l)));
}

joined-from : (first : ℕ) (x y : Result (List Bound) VcdFault) → IsOne first x → AreFrom (first + 1) y → AreFrom first (joined x y)
joined-from first (Err f) y a h = tt
joined-from first (Ok b) (Err f) a h = tt
joined-from first (Ok b) (Ok bs) a h = ⊎_elim
    (λ e. subst (λ (xs : List Bound). IsFrom first (xs ++ bs)) (sym e) (none-first first bs h))
    (λ q. subst (λ (xs : List Bound). IsFrom first (xs ++ bs)) (sym q.1) (one-first first q.0 bs q.2 h))
    a

bound-from : (first declared : ℕ) (names : List (List ℕ)) (ds : List Declaration) → AreFrom first (bind_from first declared names ds)
bound-from first declared [] ds = record { ascends = refl; above = λ k l. refl }
bound-from first declared (name ∷ names) ds =
    joined-from first (bind_one first (nat_lt first declared) (candidates name ds)) (bind_from (first + 1) declared names ds)
    (one-bound first (nat_lt first declared) (candidates name ds)) (bound-from (first + 1) declared names ds)

bound-all : (wanted : Wanted) (ds : List Declaration) → AreFrom 0 (bind wanted ds)
unfolding bind
bound-all wanted ds = bound-from 0 wanted.declared wanted.names ds

-- WHERE A TOKEN LEADS the bound clocks ascend
abbrev IsSorted : Where → Type 0
IsSorted w = is_ascending (clocks (bound_at w)) ≡ true

abbrev LeadsOn : Said → Type 0
LeadsOn (goes w cs) = IsSorted w
LeadsOn (refused f) = Unit {0}

leads-if : (t : Bool) (x y : Said) → LeadsOn x → LeadsOn y → LeadsOn (cond t x y)
leads-if true x y a b = a
leads-if false x y a b = b

module _ (wanted : Wanted) (limits : Limits) where
  starts-on : (h : Header) (t : Token) (w : HeaderWord) → LeadsOn (starts limits h t w)
  starts-on h t var =
      leads-if (nat_le limits.vars (length h.declared)) (refused (faults.TooManyVars t.at)) (goes (header (record h { among = inside t [] })) []) tt refl
  starts-on h t scope = refl
  starts-on h t upscope = refl
  starts-on h t end_definitions = refl
  starts-on h t other_command = refl
  starts-on h t end_command = tt
  starts-on h t plain = tt

  declares-on : (h : Header) (t : Token) (o : Option Declaration) → LeadsOn (put_declared h t o)
  declares-on h t (Some d) = refl
  declares-on h t None = tt

  opens-on : (ds : List Declaration) (r : Result (List Bound) VcdFault) → AreFrom 0 r → LeadsOn (opens ds r)
  opens-on ds (Ok bs) a = a.ascends
  opens-on ds (Err f) a = tt

  ends-on : (h : Header) (w : HeaderWord) (head : Token) (words : List Token) (t : Token) → LeadsOn (ends wanted limits h w head words t)
  ends-on h var head words t = declares-on h t (declares h.depth words)
  ends-on h scope head words t =
      leads-if (nat_le limits.scopes h.depth) (refused (faults.TooDeep head.at)) (goes (header (record h { among = commands; depth = h.depth + 1 })) []) tt refl
  ends-on h upscope head words t = refl
  ends-on h end_definitions head words t = opens-on h.declared (bind wanted h.declared) (bound-all wanted h.declared)
  ends-on h other_command head words t = refl
  ends-on h end_command head words t = refl
  ends-on h plain head words t = refl

  within-on : (h : Header) (head : Token) (words : List Token) (t : Token) (fits : Bool) →
      LeadsOn (cond fits (goes (header (record h { among = inside head (words ++ t ∷ []) })) []) (refused (faults.BadHeader t.at)))
  within-on h head words t fits =
      leads-if fits (goes (header (record h { among = inside head (words ++ t ∷ []) })) []) (refused (faults.BadHeader t.at)) refl tt

  inside-on : (h : Header) (head : Token) (words : List Token) (t : Token) (w : HeaderWord) → LeadsOn (inside_says wanted limits h head words t w)
  inside-on h head words t var = within-on h head words t (word_fits (header_word head.text) words t)
  inside-on h head words t scope = within-on h head words t (word_fits (header_word head.text) words t)
  inside-on h head words t upscope = within-on h head words t (word_fits (header_word head.text) words t)
  inside-on h head words t end_definitions = within-on h head words t (word_fits (header_word head.text) words t)
  inside-on h head words t other_command = within-on h head words t (word_fits (header_word head.text) words t)
  inside-on h head words t end_command = ends-on h (header_word head.text) head words t
  inside-on h head words t plain = within-on h head words t (word_fits (header_word head.text) words t)

  header-on : (h : Header) (t : Token) (among : Among) → LeadsOn (header_says wanted limits h t among)
  header-on h t commands = starts-on h t (header_word t.text)
  header-on h t (inside head words) = inside-on h head words t (header_word t.text)

  module _ (b : Body) (sorted : is_ascending (clocks b.bound) ≡ true) (t : Token) where
    changed-on : (code : List ℕ) (one : Bool) → LeadsOn (changed b t code one)
    changed-on code one =
        leads-if (is_declared b.declared code)
        (goes (body (record b { amid = changes })) (record { time = b.now; code = code; one = one; dumped = b.dumping } ∷ []))
        (refused (faults.UnknownCode t.at))
        sorted tt

    change-on : (w : Word) → LeadsOn (change_says b t w)
    change-on (time n) = leads-if (nat_lt n b.now) (refused (faults.TimeBack t.at b.now n)) (goes (body (record b { now = n })) []) tt sorted
    change-on (scalar one code) = changed-on code one
    change-on (vector one) = sorted
    change-on skipped = sorted
    change-on comment = sorted
    change-on dump = leads-if b.dumping (refused (faults.UnknownCommand t.at)) (goes (body (record b { dumping = true })) []) tt sorted
    change-on gap = leads-if b.dumping (refused (faults.UnknownCommand t.at)) (refused (faults.Gap t.at)) tt tt
    change-on close = leads-if b.dumping (goes (body (record b { dumping = false })) []) (refused (faults.UnknownCommand t.at)) sorted tt
    change-on bad_time = tt
    change-on bad_change = tt
    change-on unknown = tt

    body-on : (amid : Amid) → LeadsOn (body_says b t amid)
    body-on changes = change-on (word_of t.text)
    body-on remark = leads-if (bytes_eq t.text (codes "$end")) (goes (body (record b { amid = changes })) []) (goes (body b) []) sorted sorted
    body-on (code_of one) = changed-on t.text one
    body-on code_skipped = leads-if (is_declared b.declared t.text) (goes (body (record b { amid = changes })) []) (refused (faults.UnknownCode t.at)) sorted tt

  place-on : (t : Token) (w : Where) → IsSorted w → LeadsOn (stands_at wanted limits t w)
  place-on t (header h) s = header-on h t h.among
  place-on t (body b) s = body-on b s t b.amid

  says-on : (w : Where) (h : Heard) → IsSorted w → LeadsOn (says wanted limits w h)
  unfolding says
  says-on w (too_long at) s = tt
  says-on w (word t) s = place-on t w s

  told-on : (cs : List Change) (w : Where) (said : Said) → IsSorted w → LeadsOn said → IsSorted (told cs w said).place
  told-on cs w (goes v ds) s l = l
  told-on cs w (refused f) s l = s

  next-on : (cs : List Change) (w : Where) (fault : Option VcdFault) (h : Heard) → IsSorted w → IsSorted (next_from wanted limits cs w fault h).place
  next-on cs w None h s = told-on cs w (says wanted limits w h) s (says-on w h s)
  next-on cs w (Some f) h s = s

  fold-on : (s : Story) (hs : List Heard) → IsSorted s.place → IsSorted (fold (next wanted limits) s hs).place
  fold-on s [] a = a
  fold-on s (h ∷ hs) a = fold-on (next wanted limits s h) hs (next-on s.changes s.place s.fault h a)

  story-sorted : (hs : List Heard) → IsSorted (story wanted limits hs).place
  story-sorted hs = fold-on begin hs refl

  sorted-if : (t : Bool) (x y : Story) → IsSorted x.place → IsSorted y.place → IsSorted (cond t x y).place
  sorted-if true x y a b = a
  sorted-if false x y a b = b

  front-sorted : (bytes : List ℕ) → IsSorted (so_far wanted limits bytes).place
  unfolding so_far
  front-sorted bytes =
      let cut = story wanted limits (settled (take limits.bytes bytes)) in
      sorted-if (is_over limits bytes) (decides cut (Some (faults.TooLong limits.bytes))) (story wanted limits (settled bytes))
      (story-sorted (settled (take limits.bytes bytes))) (story-sorted (settled bytes))

  bound-sorted : (file : List ℕ) → IsSorted (reading wanted limits file).place
  unfolding reading
  bound-sorted file =
      sorted-if (is_over limits file) (so_far wanted limits file) (ends_at (length file) (story wanted limits (heard file)))
      (front-sorted file) (story-sorted (heard file))

-- THE TICKS OF A ROW are some of the bound clocks
some-above : (k : ℕ) (p : Bound → Bool) (bs : List Bound) → list_all (nat_lt k) (clocks bs) ≡ true → list_all (nat_lt k) (clocks (filter p bs)) ≡ true
some-above k p [] h = refl
some-above k p (b ∷ bs) h = by-test (p b) (and_parts (nat_lt k b.clock) (list_all (nat_lt k) (clocks bs)) h) (some-above k p bs)
  where
    by-test : (t : Bool) → (nat_lt k b.clock ≡ true) × (list_all (nat_lt k) (clocks bs) ≡ true) →
        (list_all (nat_lt k) (clocks bs) ≡ true → list_all (nat_lt k) (clocks (filter p bs)) ≡ true) →
        list_all (nat_lt k) (clocks (cond t (b ∷ filter p bs) (filter p bs))) ≡ true
    by-test true q rest = and_from (nat_lt k b.clock) (list_all (nat_lt k) (clocks (filter p bs))) q.0 (rest q.1)
    by-test false q rest = rest q.1

some-ascend : (p : Bound → Bool) (bs : List Bound) → is_ascending (clocks bs) ≡ true → is_ascending (clocks (filter p bs)) ≡ true
some-ascend p [] h = refl
some-ascend p (b ∷ bs) h = by-test (p b) (and_parts (list_all (nat_lt b.clock) (clocks bs)) (is_ascending (clocks bs)) h) (some-ascend p bs)
  where
    by-test : (t : Bool) → (list_all (nat_lt b.clock) (clocks bs) ≡ true) × (is_ascending (clocks bs) ≡ true) →
        (is_ascending (clocks bs) ≡ true → is_ascending (clocks (filter p bs)) ≡ true) → is_ascending (clocks (cond t (b ∷ filter p bs) (filter p bs))) ≡ true
    by-test true q rest = and_from (list_all (nat_lt b.clock) (clocks (filter p bs))) (is_ascending (clocks (filter p bs))) (some-above b.clock p bs q.0)
        (rest q.1)
    by-test false q rest = rest q.1

rows-sets : (bs : List Bound) (cs : List Change) (ts : List ℕ) → is_ascending (clocks bs) ≡ true → are_sets (filter has_ticks (map (row_at bs cs) ts)) ≡ true
rows-sets bs cs [] h = refl
rows-sets bs cs (t ∷ ts) h = by-test (has_ticks (row_at bs cs t)) (rows-sets bs cs ts h)
  where
    by-test : (b : Bool) → are_sets (filter has_ticks (map (row_at bs cs) ts)) ≡ true →
        are_sets (cond b (row_at bs cs t ∷ filter has_ticks (map (row_at bs cs) ts)) (filter has_ticks (map (row_at bs cs) ts))) ≡ true
    by-test true rest = and_from (is_ascending (row_at bs cs t).ticks) (are_sets (filter has_ticks (map (row_at bs cs) ts)))
        (some-ascend (ticks (at t cs) (before t cs)) bs h) rest
    by-test false rest = rest

pub recorded-sets : (wanted : Wanted) (limits : Limits) (file : List ℕ) → are_sets (recorded wanted limits file) ≡ true
unfolding recorded rows
recorded-sets wanted limits file =
    rows-sets (bound_at (reading wanted limits file).place) (reading wanted limits file).changes (times (reading wanted limits file).changes)
    (bound-sorted wanted limits file)
