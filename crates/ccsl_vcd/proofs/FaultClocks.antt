-- The clocks that faults name.
use Rattle.std.proofs.Common.{◌≡◌, ℕ, ◌+◌, ◌≤◌, ◌<◌, List, [], ◌∷◌, length, Bool, true, false, Option, Some, None, Result, Ok, Err, nat_le, nat_lt}
use Rattle.std.proofs.Common.{if◌then◌else◌, refl, subst, arith}
use Rattle.std.specs.Prelude.{fold, bytes_eq, codes, take}
use Rattle.std.specs.List.{list_all}
use Rattle.std.proofs.lemmas.Bool.{ltb-true}
use Rattle.std.specs.Option.{option_or}
use Rattle.ccsl_vcd_lex.specs.Tokens.{Token, Heard, word, too_long, settled, heard}
use Rattle.ccsl_vcd.specs.declared.fault.VcdFault.{VcdFault}
use Rattle.ccsl_vcd.specs.declared.fault.VcdFault.TheVariants as faults
use Rattle.ccsl_vcd.specs.declared.limits.Limits.{Limits}
use Rattle.ccsl_vcd.specs.Binding.{Wanted, Declaration, Bound, bind, bind_one, bind_from, joined, candidates}
use Rattle.ccsl_vcd.specs.Places as p
use Rattle.ccsl_vcd.specs.Header as d
use Rattle.ccsl_vcd.specs.Words as w
use Rattle.ccsl_vcd.specs.Body.{is_declared, changed, change_says, body_says}
use Rattle.ccsl_vcd.specs.Reading.{says, Story, told, next_from, next, begin, story, at_end, may_end, decides, is_over, so_far, ends_at, reading}

-- the clock of a fault is below these
abbrev pub Names : ℕ → ℕ → VcdFault → Type 0
Names names must (faults.Unbound clock) = (clock < names) × (clock < must)
Names names must (faults.Ambiguous clock) = clock < names
Names names must f = Unit {0}

abbrev OfResult : ℕ → ℕ → Result (List Bound) VcdFault → Type 0
OfResult names must (Ok bound) = Unit {0}
OfResult names must (Err f) = Names names must f

either : {X : Type 0} (P : X → Type 0) (b : Bool) (x y : X) → P x → P y → P (if b then x else y)
either P true x y h k = h
either P false x y h k = k

one-names : (clock declared n : ℕ) (ds : List Declaration) → clock < n → OfResult n declared (bind_one clock (nat_lt clock declared) ds)
one-names clock declared n [] l =
    (elim (nat_lt clock declared) as (λ x. nat_lt clock declared ≡ x → OfResult n declared (if x then Err (faults.Unbound clock) else Ok [])) [
      | true ↦ λ e. (l, ltb-true clock declared e)
      | false ↦ λ e. tt
    ]) refl
one-names clock declared n (x ∷ ds) l = either (OfResult n declared) (list_all (λ e. bytes_eq e.code x.code) ds) _ _ tt l

joined-names : (n m : ℕ) (r s : Result (List Bound) VcdFault) → OfResult n m r → OfResult n m s → OfResult n m (joined r s)
joined-names n m (Err f) s h k = h
joined-names n m (Ok b) (Err f) h k = k
joined-names n m (Ok b) (Ok bs) h k = tt

from-names : (clock declared n : ℕ) (names : List (List ℕ)) (ds : List Declaration) → clock + length names ≤ n
    → OfResult n declared (bind_from clock declared names ds)
from-names clock declared n [] ds l = tt
from-names clock declared n (name ∷ names) ds l =
    joined-names n declared (bind_one clock (nat_lt clock declared) (candidates name ds)) (bind_from (clock + 1) declared names ds)
    (one-names clock declared n (candidates name ds) (omega (arith, l))) (from-names (clock + 1) declared n names ds (omega (arith, l)))

module _ (wanted : Wanted) (l : Limits) where
  abbrev Named : VcdFault → Type 0
  Named f = Names (length wanted.names) wanted.declared f

  bind-names : (ds : List Declaration) → OfResult (length wanted.names) wanted.declared (bind wanted ds)
  unfolding bind
  bind-names ds = from-names 0 wanted.declared (length wanted.names) wanted.names ds (omega arith)

  abbrev OfSaid : p.Said → Type 0
  OfSaid (p.goes v ds) = Unit {0}
  OfSaid (p.refused f) = Named f

  starts-names : (h : p.Header) (t : Token) (x : d.HeaderWord) → OfSaid (d.starts l h t x)
  starts-names h t d.end_command = tt
  starts-names h t d.plain = tt
  starts-names h t d.var = either OfSaid (nat_le l.vars (length h.declared)) _ _ tt tt
  starts-names h t d.scope = tt
  starts-names h t d.upscope = tt
  starts-names h t d.end_definitions = tt
  starts-names h t d.other_command = tt

  declared-names : (h : p.Header) (t : Token) (o : Option Declaration) → OfSaid (d.put_declared h t o)
  declared-names h t (Some e) = tt
  declared-names h t None = tt

  opens-names : (ds : List Declaration) (r : Result (List Bound) VcdFault) → OfResult (length wanted.names) wanted.declared r → OfSaid (d.opens ds r)
  opens-names ds (Ok bound) k = tt
  opens-names ds (Err f) k = k

  ends-names : (h : p.Header) (x : d.HeaderWord) (head : Token) (words : List Token) (t : Token) → OfSaid (d.ends wanted l h x head words t)
  ends-names h d.var head words t = declared-names h t (d.declares h.depth words)
  ends-names h d.scope head words t = either OfSaid (nat_le l.scopes h.depth) _ _ tt tt
  ends-names h d.upscope head words t = tt
  ends-names h d.end_definitions head words t = opens-names h.declared (bind wanted h.declared) (bind-names h.declared)
  ends-names h d.other_command head words t = tt
  ends-names h d.end_command head words t = tt
  ends-names h d.plain head words t = tt

  fits-names : (b : Bool) (v : p.Where) (at : ℕ) → OfSaid (if b then p.goes v [] else p.refused (faults.BadHeader at))
  fits-names true v at = tt
  fits-names false v at = tt

  inside-names : (h : p.Header) (head : Token) (words : List Token) (t : Token) (x : d.HeaderWord) → OfSaid (d.inside_says wanted l h head words t x)
  inside-names h head words t d.end_command = ends-names h (d.header_word head.text) head words t
  inside-names h head words t d.var = fits-names _ _ _
  inside-names h head words t d.scope = fits-names _ _ _
  inside-names h head words t d.upscope = fits-names _ _ _
  inside-names h head words t d.end_definitions = fits-names _ _ _
  inside-names h head words t d.other_command = fits-names _ _ _
  inside-names h head words t d.plain = fits-names _ _ _

  header-names : (h : p.Header) (t : Token) (a : p.Among) → OfSaid (d.header_says wanted l h t a)
  header-names h t p.commands = starts-names h t (d.header_word t.text)
  header-names h t (p.inside head words) = inside-names h head words t (d.header_word t.text)

  changed-names : (b : p.Body) (t : Token) (code : List ℕ) (one : Bool) → OfSaid (changed b t code one)
  changed-names b t code one = either OfSaid (is_declared b.declared code) _ _ tt tt

  change-names : (b : p.Body) (t : Token) (x : w.Word) → OfSaid (change_says b t x)
  change-names b t (w.time n) = either OfSaid (nat_lt n b.now) _ _ tt tt
  change-names b t (w.scalar one code) = changed-names b t code one
  change-names b t (w.vector one) = tt
  change-names b t w.skipped = tt
  change-names b t w.comment = tt
  change-names b t w.dump = either OfSaid b.dumping _ _ tt tt
  change-names b t w.gap = either OfSaid b.dumping _ _ tt tt
  change-names b t w.close = either OfSaid b.dumping _ _ tt tt
  change-names b t w.bad_time = tt
  change-names b t w.bad_change = tt
  change-names b t w.unknown = tt

  body-names : (b : p.Body) (t : Token) (a : p.Amid) → OfSaid (body_says b t a)
  body-names b t p.changes = change-names b t (w.word_of t.text)
  body-names b t p.remark = either OfSaid (bytes_eq t.text (codes "$end")) _ _ tt tt
  body-names b t (p.code_of one) = changed-names b t t.text one
  body-names b t p.code_skipped = either OfSaid (is_declared b.declared t.text) _ _ tt tt

  says-names : (v : p.Where) (h : Heard) → OfSaid (says wanted l v h)
  unfolding says
  says-names v (too_long at) = tt
  says-names (p.header h) (word t) = header-names h t h.among
  says-names (p.body b) (word t) = body-names b t b.amid

  abbrev OfFault : Option VcdFault → Type 0
  OfFault None = Unit {0}
  OfFault (Some f) = Named f

  told-names : (cs : List p.Change) (v : p.Where) (s : p.Said) → OfSaid s → OfFault (told cs v s).fault
  told-names cs v (p.goes u ds) k = tt
  told-names cs v (p.refused f) k = k

  next-names : (cs : List p.Change) (v : p.Where) (o : Option VcdFault) (h : Heard) → OfFault o → OfFault (next_from wanted l cs v o h).fault
  next-names cs v None h k = told-names cs v (says wanted l v h) (says-names v h)
  next-names cs v (Some f) h k = k

  fold-names : (s : Story) (hs : List Heard) → OfFault s.fault → OfFault (fold (next wanted l) s hs).fault
  fold-names s [] k = k
  fold-names s (h ∷ hs) k = fold-names (next wanted l s h) hs (next-names s.changes s.place s.fault h k)

  story-names : (hs : List Heard) → OfFault (story wanted l hs).fault
  story-names hs = fold-names begin hs tt

  or-names : (o g : Option VcdFault) → OfFault o → OfFault g → OfFault (option_or o g)
  or-names None g h k = k
  or-names (Some f) g h k = h

  end-names : (len : ℕ) (v : p.Where) → OfFault (at_end len v)
  end-names len v = either OfFault (may_end v) _ _ tt tt

  all-names : (file : List ℕ) → OfFault (reading wanted l file).fault
  unfolding reading so_far
  all-names file =
      let over : Story = decides (story wanted l (settled (take l.bytes file))) (Some (faults.TooLong l.bytes)) in
      let whole : Story = story wanted l (heard file) in
      elim (is_over l file) as (λ o. OfFault (if o then (if o then over else story wanted l (settled file)) else ends_at (length file) whole).fault) [
        | true ↦ or-names (story wanted l (settled (take l.bytes file))).fault (Some (faults.TooLong l.bytes)) (story-names (settled (take l.bytes file))) tt
        | false ↦ or-names whole.fault (at_end (length file) whole.place) (story-names (heard file)) (end-names (length file) whole.place)
      ]

  -- The clock that the fault of a reading names is a wanted one.
  pub reading-names : (file : List ℕ) (f : VcdFault) → (reading wanted l file).fault ≡ Some f → Names (length wanted.names) wanted.declared f
  reading-names file f e = subst OfFault e (all-names file)
