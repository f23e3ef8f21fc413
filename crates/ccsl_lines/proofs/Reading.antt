-- How far a call on a reader of lines has come, and what it gives.
use Rattle.std.proofs.Common.{◌≡◌, ◌≢◌, ℕ, ◌+◌, ◌<◌, ◌≤◌, List, [], ◌∷◌, ◌++◌, length, take, Bool, cond, true, false, Option, None, Some, refl, sym, ap, ◌∙◌}
use Rattle.std.proofs.Common.{subst, ⊎_elim, arith, append_assoc, length-append, length-take}
use Rattle.std.proofs.lemmas.Bool.{cases_lt}
use Rattle.std.proofs.lemmas.List.{append-nil, take_all}
use Rattle.std.proofs.lemmas.List.Elements.{All-append}
use Rattle.ccsl_edge.specs.declared.slot.Slot.TheVariants.{Input}
use Rattle.ccsl_edge.specs.World.{State, Told}
use Rattle.ccsl_edge.specs.Calls.{Reads, Fails}
use Rattle.ccsl_edge.proofs.Reading.{Reads-none, Reads-append, Reads-fails}
use Rattle.ccsl_lines.specs.declared.reader.Next.{Next}
use Rattle.ccsl_lines.specs.declared.reader.Next.TheVariants as next
use Rattle.ccsl_base.specs.declared.limits.TheConstants.{PIECE}
use Rattle.ccsl_lines.specs.Lines.{Line, Whole, Long, is_line_feed}
use Rattle.ccsl_lines.specs.Part.{stripped}
use Rattle.ccsl_lines.specs.Held.{Held, StandsFor, going, ended, Goes, HasNoLineFeed, begun, left_of, readable, calls_left}
use Rattle.ccsl_lines.specs.Steps.{EndsLine, TakesAll, HandsOut, ReadsOn, SeesEnd, Stops}
use Rattle.ccsl_lines.specs.Given.{Follows, IsPrompt, at_once, late, Gives, Breaks, goes_on}
use Rattle.ccsl_lines.proofs.Going.{Goes-room, Goes-take, Goes-line, Goes-read, is-too-long, sees-end, left_of-past, left_of-within}

-- what the steps change that read nothing: the pending bytes, whether the part was handed out, and the part
pub record Changes (h k : Held) (pending : List ℕ) (handed : Bool) : Type 0 where
  pub limit : k.limit ≡ h.limit
  pub left : k.left ≡ h.left
  pub ended : k.ended ≡ h.ended
  pub pending_is : k.pending ≡ pending
  pub handed_is : k.handed ≡ handed

pub changes : (h k : Held) (pending : List ℕ) (part : Line) (handed : Bool) (line : List ℕ)
    → k ≡ record h { pending = pending; part = part; handed = handed; line = line } → Changes h k pending handed
changes h k pending part handed line e = record {
  limit = ap (λ (x : Held). x.limit) e;
  left = ap (λ (x : Held). x.left) e;
  ended = ap (λ (x : Held). x.ended) e;
  pending_is = ap (λ (x : Held). x.pending) e;
  handed_is = ap (λ (x : Held). x.handed) e;
}

-- the piece that was read last is what is pending, but for a byte past the limit
pub data Waits (pending bytes : List ℕ) (h : Held) : Type 0 where
  none_read : (none : bytes ≡ []) (same : h.pending ≡ pending) → Waits pending bytes h
  some_read : (before piece : List ℕ) (all : bytes ≡ before ++ piece) (few : length piece ≤ PIECE) (unended : HasNoLineFeed (pending ++ before))
      (kept : (n : ℕ) → h.left ≡ Some n → h.pending ≡ piece) → Waits pending bytes h

-- since the call began these bytes were read, and no line has ended
pub record Comes (told : Told) (old new : State) (before after : Held) : Type 0 where
  pub bytes : List ℕ
  pub reads : Reads told Input bytes old new
  pub was : before.ended ≡ false
  pub runs : after.ended ≡ false
  pub fresh : after.handed ≡ false
  pub limit : after.limit ≡ before.limit
  pub nearer : calls_left after ≤ calls_left before
  pub waits : Waits before.pending bytes after
  pub goes : (taken : List ℕ) (given : List Line) → StandsFor before taken given → Goes after (taken ++ bytes) given

calls_left-runs : (h : Held) → h.ended ≡ false → calls_left h ≡ readable h.left + length h.pending
calls_left-runs h e = ap (λ b. cond b 0 (readable h.left + length h.pending)) e

calls_left-ended : (h : Held) → h.ended ≡ true → calls_left h ≡ 0
calls_left-ended h e = ap (λ b. cond b 0 (readable h.left + length h.pending)) e

still-goes : (h : Held) (bytes : List ℕ) (given : List Line) → h.ended ≡ false → StandsFor h bytes given → Goes h bytes given
still-goes h bytes given runs (going r g) = g
still-goes h bytes given runs (ended e g) = absurd (cc)

prompt : (pending bytes : List ℕ) (h : Held) → Waits pending bytes h → IsPrompt pending bytes
prompt pending bytes h (none_read none same) = at_once none
prompt pending bytes h (some_read before piece all few unended kept) = late before piece all few unended

-- the call has just begun
pub Comes-room : (told : Told) (s : State) (u h k : Held) → u ≡ h → u.ended ≡ false → k.part ≡ begun h.handed h.part → Changes h k h.pending false
    → Comes told s s h k
Comes-room told s u h k same running part c =
    let runs = sym (ap (λ (x : Held). x.ended) same) ∙ running in
    let still = c.ended ∙ runs in
    record {
      bytes = [];
      reads = Reads-none told Input s;
      was = runs;
      runs = still;
      fresh = c.handed_is;
      limit = c.limit;
      nearer = omega (arith, calls_left-runs h runs, calls_left-runs k still, ap readable c.left, ap (length {A = ℕ}) c.pending_is);
      waits = none_read refl c.pending_is;
      goes = λ taken given s.
          let g = still-goes h taken given runs s in
          subst (λ b. Goes k b given) (sym (append-nil taken)) (Goes-room h taken given g k c.handed_is part c.limit c.left c.pending_is);
    }

-- where a piece was read all of it is pending, as long as it is taken
all-pending : (told : Told) (old new : State) (h k : Held) (r : ReadsOn told old new h k) (n : ℕ) → k.left ≡ Some n → k.pending ≡ r.bytes
all-pending told old new h k r n e =
    ⊎_elim
    (λ past. absurd (cc (left_of-past r.left (length r.bytes) past, ap (λ (x : Held). x.left) r.after_is)))
    (λ within. ap (λ (x : Held). x.pending) r.after_is ∙ take_all r.left r.bytes within)
    (cases_lt r.left (length r.bytes))

waits-on : (told : Told) (old new : State) (pending bytes : List ℕ) (h p k : Held) (r : ReadsOn told old new p k) → p.left ≡ h.left → TakesAll h p
    → Waits pending bytes h → Waits pending (bytes ++ r.bytes) k
waits-on told old new pending bytes h p k r left t (none_read none same) =
    some_read [] r.bytes (ap (λ b. b ++ r.bytes) none) r.few
    (subst HasNoLineFeed (same ∙ sym (append-nil pending)) t.unended)
    (all-pending told old new p k r)
waits-on told old new pending bytes h p k r left t (some_read before piece all few unended kept) =
    some_read (before ++ piece) r.bytes (ap (λ b. b ++ r.bytes) all) r.few
    (subst HasNoLineFeed (append_assoc pending before piece)
    (All-append (λ b. is_line_feed b ≡ false) (pending ++ before) piece unended (subst HasNoLineFeed (kept r.left (sym left ∙ r.was)) t.unended)))
    (all-pending told old new p k r)

-- a piece gives no more than it takes
piece-nearer : (left : ℕ) (piece : List ℕ) → readable (left_of left (length piece)) + length (take left piece) ≤ left + 1
piece-nearer left piece =
    ⊎_elim
    (λ past. omega (arith, ap readable (left_of-past left (length piece) past), length-take left piece))
    (λ within. omega (arith, ap readable (left_of-within left (length piece) within), length-take left piece))
    (cases_lt left (length piece))

module _ (told : Told) (s t : State) (b h : Held) (c : Comes told s t b h) (p : Held) (keeps : Changes h p p.pending h.handed) where
  still : p.ended ≡ false
  still = keeps.ended ∙ c.runs

  unshown : p.handed ≡ false
  unshown = keeps.handed_is ∙ c.fresh

  -- a line feed was there
  module _ (e : EndsLine h p) (k : Held) (found : Next) (out : HandsOut found p.part k.line) (kept : Changes p k p.pending true) where
    runs : k.ended ≡ false
    runs = kept.ended ∙ still

    limit : k.limit ≡ h.limit
    limit = kept.limit ∙ keeps.limit

    given-line : (line : Line) → stripped p.part ≡ line → (taken : List ℕ) (given : List Line) → StandsFor b taken given
        → StandsFor k (taken ++ c.bytes) (given ++ line ∷ [])
    given-line line is taken given stands =
        going runs (Goes-line h (taken ++ c.bytes) given (c.goes taken given stands) c.fresh k p line e is kept.pending_is kept.handed_is limit
        (kept.left ∙ keeps.left))

    follows-line : (f : Next) → HandsOut f p.part k.line → (taken : List ℕ) (given : List Line) → StandsFor b taken given → Follows f k (taken ++ c.bytes) given
    follows-line next.Line o = given-line (Whole k.line) o
    follows-line next.Long o = given-line Long (ap stripped o)
    follows-line next.Ended o = absurd o
    follows-line next.TooLong o = absurd o

    pub gives-line : Gives told s t b k found
    gives-line = record {
      bytes = c.bytes;
      reads = c.reads;
      prompt = prompt b.pending c.bytes h c.waits;
      limit = limit ∙ c.limit;
      follows = follows-line found out;
      ends = λ e. absurd (cc (runs));
    }

    pub nears-line : calls_left k < calls_left b
    nears-line =
        omega (
          arith,
          c.nearer,
          calls_left-runs h c.runs,
          calls_left-runs k runs,
          ap readable (kept.left ∙ keeps.left),
          ap (length {A = ℕ}) kept.pending_is,
          ap (length {A = ℕ}) e.pending,
          length-append e.bytes (10 ∷ p.pending),
        )

  module _ (a : TakesAll h p) where
    took : (taken : List ℕ) (given : List Line) → StandsFor b taken given → Goes p (taken ++ c.bytes) given
    took taken given stands = Goes-take h (taken ++ c.bytes) given (c.goes taken given stands) c.fresh p a keeps.handed_is keeps.limit keeps.left

    -- there was none, and a piece was read
    pub Comes-on : (u : State) (k : Held) (r : ReadsOn told t u p k) → Comes told s u b k
    Comes-on u k r =
        let runs : k.ended ≡ false = ap (λ (x : Held). x.ended) r.after_is ∙ still in
        record {
          bytes = c.bytes ++ r.bytes;
          reads = Reads-append told Input c.bytes r.bytes s t u c.reads r.reads;
          was = c.was;
          runs = runs;
          fresh = ap (λ (x : Held). x.handed) r.after_is ∙ unshown;
          limit = ap (λ (x : Held). x.limit) r.after_is ∙ keeps.limit ∙ c.limit;
          nearer =
              omega (
                arith,
                c.nearer,
                calls_left-runs h c.runs,
                calls_left-runs k runs,
                ap readable (sym keeps.left ∙ r.was),
                ap (λ (x : Held). readable x.left + length x.pending) r.after_is,
                piece-nearer r.left r.bytes,
              );
          waits = waits-on told t u b.pending c.bytes h p k r keeps.left a c.waits;
          goes = λ taken given stands.
              subst (λ x. Goes k x given) (append_assoc taken c.bytes r.bytes)
              (Goes-read p (taken ++ c.bytes) given (took taken given stands) unshown a.none told t u k r);
        }

    -- there was none, and nothing more is to be had
    module _ (u : State) (r : Reads told Input [] t u) where
      now-reads : Reads told Input c.bytes s u
      now-reads = subst (λ x. Reads told Input x s u) (append-nil c.bytes) (Reads-append told Input c.bytes [] s t u c.reads r)

      gives-end : (k : Held) (f : Next) → SeesEnd told u p k f → Gives told s u b k f
      gives-end k f e = record {
        bytes = c.bytes;
        reads = now-reads;
        prompt = prompt b.pending c.bytes h c.waits;
        limit = e.limit ∙ keeps.limit ∙ c.limit;
        follows = λ taken given stands.
            sees-end p (taken ++ c.bytes) given (took taken given stands) unshown a.none e.left e.was told u k f e;
        ends = λ _ _. e.none_left;
      }

      gives-past : (k : Held) → p.left ≡ None → k ≡ p → Gives told s u b k next.TooLong
      gives-past k none is = record {
        bytes = c.bytes;
        reads = now-reads;
        prompt = prompt b.pending c.bytes h c.waits;
        limit = ap (λ (x : Held). x.limit) is ∙ keeps.limit ∙ c.limit;
        follows = λ taken given stands.
            subst (λ x. Follows next.TooLong x (taken ++ c.bytes) given) (sym is)
            (is-too-long p (taken ++ c.bytes) given (took taken given stands) unshown a.none none still);
        ends = λ e. absurd (cc (still, ap (λ (x : Held). x.ended) is, e));
      }

      pub gives-stop : (k : Held) (f : Next) → Stops f told u p k → Gives told s u b k f
      gives-stop k next.Line e = gives-end k next.Line e
      gives-stop k next.Long e = gives-end k next.Long e
      gives-stop k next.Ended e = gives-end k next.Ended e
      gives-stop k next.TooLong e = gives-past k e.0 e.1

      nears-end : (k : Held) (f : Next) → SeesEnd told u p k f → calls_left k < calls_left b
      nears-end k f e =
          omega (arith, c.nearer, calls_left-runs h c.runs, calls_left-ended k e.ended, ap readable (sym keeps.left ∙ e.was))

      pub nears-stop : (k : Held) (f : Next) → Stops f told u p k → goes_on f ≡ true → calls_left k < calls_left b
      nears-stop k next.Line e g = nears-end k next.Line e
      nears-stop k next.Long e g = nears-end k next.Long e
      nears-stop k next.Ended e g = absurd (cc)
      nears-stop k next.TooLong e g = absurd (cc)

-- all that was read was looked at, where more is wanted
looked-at : (pending bytes : List ℕ) (h p : Held) (n : ℕ) → h.left ≡ Some n → TakesAll h p → Waits pending bytes h → HasNoLineFeed (pending ++ bytes)
looked-at pending bytes h p n left t (none_read none same) =
    subst HasNoLineFeed (same ∙ sym (append-nil pending) ∙ ap (λ b. pending ++ b) (sym none)) t.unended
looked-at pending bytes h p n left t (some_read before piece all few unended kept) =
    subst HasNoLineFeed (append_assoc pending before piece ∙ ap (λ b. pending ++ b) (sym all))
    (All-append (λ b. is_line_feed b ≡ false) (pending ++ before) piece unended (subst HasNoLineFeed (kept n left) t.unended))

some-left : (left : Option ℕ) → left ≢ None → (n : ℕ) × (left ≡ Some n)
some-left None wanted = absurd (wanted refl)
some-left (Some n) wanted = (n, refl)

pub breaks : (told : Told) (s t u : State) (b h p : Held) (pending : List ℕ) (handed : Bool) → Comes told s t b h → Changes h p pending handed → TakesAll h p →
    p.left ≢ None → Fails Input t u → Breaks told s u b
breaks told s t u b h p pending handed c keeps all wanted f =
    let some = some-left p.left wanted in
    record {
      bytes = c.bytes;
      fails = Reads-fails told Input c.bytes s t u c.reads f;
      runs = c.was;
      unended = looked-at b.pending c.bytes h p some.0 (sym keeps.left ∙ some.1) all c.waits;
      few = λ taken given stands. omega (arith, (c.goes taken given stands).few, c.limit);
    }
