-- What a reader stands for, step by step.
use Rattle.std.proofs.Common.{◌≡◌, ℕ, ◌+◌, ◌-◌, ◌<◌, ◌≤◌, List, [], ◌∷◌, ◌++◌, length, take, cond, true, false, None, Some, sym, ap, ◌∙◌, ⊎_elim, arith}
use Rattle.std.proofs.Common.{append_assoc, length-append}
use Rattle.std.proofs.Math.Seq.{take-append-add}
use Rattle.std.proofs.lemmas.Bool.{cases_lt, lt-ltb, le-ltb}
use Rattle.std.proofs.lemmas.List.{append-nil, take_all, take-append-le}
use Rattle.std.proofs.lemmas.List.Elements.{All-append, All-nil}
use Rattle.ccsl_edge.specs.World.{State, Told}
use Rattle.ccsl_lines.specs.declared.reader.Next.{Next}
use Rattle.ccsl_lines.specs.declared.reader.Next.TheVariants as next
use Rattle.ccsl_lines.specs.Lines.{Line, Whole, Long, is_line_feed, parts, ended_lines, all_lines, lines_taken}
use Rattle.ccsl_lines.specs.Part.{front_of, added, stripped}
use Rattle.ccsl_lines.specs.Held.{Held, going, ended, Goes, HasEnded, begun, left_of}
use Rattle.ccsl_lines.specs.Steps.{EndsLine, TakesAll, ReadsOn, SeesEnd}
use Rattle.ccsl_lines.specs.Given.{Follows}
use Rattle.ccsl_lines.proofs.Fronts.{added-front_of, stripped-front_of, front_of-none}
use Rattle.ccsl_lines.proofs.Parts.{lines-then-ended, lines-then-all, ended-none, all-last, AreLines-more}
use Rattle.ccsl_lines.proofs.Taken.{taken-past, taken-within}

pub left_of-past : (limit n : ℕ) → limit < n → left_of limit n ≡ None
left_of-past limit n l = ap (λ b. cond b None (Some (limit - n))) (lt-ltb limit n l)

pub left_of-within : (limit n : ℕ) → n ≤ limit → left_of limit n ≡ Some (limit - n)
left_of-within limit n l = ap (λ b. cond b None (Some (limit - n))) (le-ltb limit n l)

-- more bytes may be taken only where no more than the limit were read
is-within : (limit n left : ℕ) → Some left ≡ left_of limit n → (n ≤ limit) × (left ≡ limit - n)
is-within limit n left e =
    ⊎_elim
    (λ past. absurd (cc (left_of-past limit n past)))
    (λ within. (within, cc (left_of-within limit n within)))
    (cases_lt limit n)

-- and none may where more were
is-past : (limit n : ℕ) → None ≡ left_of limit n → limit < n
is-past limit n e =
    ⊎_elim
    (λ past. past)
    (λ within. absurd (cc (left_of-within limit n within)))
    (cases_lt limit n)

left_of-more : (limit n k left : ℕ) → n ≤ limit → left ≡ limit - n → left_of left k ≡ left_of limit (n + k)
left_of-more limit n k left l e =
    ⊎_elim
    (λ past. left_of-past left k past ∙ sym (left_of-past limit (n + k) (omega arith)))
    (λ within.
    let same : left - k ≡ limit - (n + k) = omega arith in
    left_of-within left k within ∙ ap Some same ∙ sym (left_of-within limit (n + k) (omega arith)))
    (cases_lt left k)

module _ (h : Held) (bytes : List ℕ) (given : List Line) (g : Goes h bytes given) where
  -- the line that was handed out has made room
  pub Goes-room : (k : Held) → k.handed ≡ false → k.part ≡ begun h.handed h.part → k.limit ≡ h.limit → k.left ≡ h.left → k.pending ≡ h.pending
      → Goes k bytes given
  Goes-room k fresh part limit left pending = record {
    closed = g.closed;
    front = g.front;
    seen = ap (λ n. take n bytes) limit ∙ g.seen ∙ ap (λ w. (g.closed ++ g.front) ++ w) (sym pending);
    are_lines = g.are_lines;
    unended = g.unended;
    begun_is = ap (λ b. begun b k.part) fresh ∙ part ∙ g.begun_is;
    few = omega (arith, limit, g.few);
    left_is = left ∙ g.left_is ∙ ap (λ n. left_of n (length bytes)) (sym limit);
  }

  module _ (fresh : h.handed ≡ false) where
    part-is : h.part ≡ front_of g.front
    part-is = ap (λ b. begun b h.part) (sym fresh) ∙ g.begun_is

    part-more : (more : List ℕ) → added h.part more ≡ front_of (g.front ++ more)
    part-more more = ap (λ l. added l more) part-is ∙ added-front_of g.front more

    -- no line feed was pending
    pub Goes-take : (k : Held) → TakesAll h k → k.handed ≡ h.handed → k.limit ≡ h.limit → k.left ≡ h.left → Goes k bytes given
    Goes-take k t handed limit left = record {
      closed = g.closed;
      front = g.front ++ h.pending;
      seen = ap (λ n. take n bytes) limit ∙ g.seen ∙ append_assoc g.closed g.front h.pending
          ∙ sym (append-nil (g.closed ++ (g.front ++ h.pending))) ∙ ap (λ w. (g.closed ++ (g.front ++ h.pending)) ++ w) (sym t.none);
      are_lines = g.are_lines;
      unended = All-append (λ b. is_line_feed b ≡ false) g.front h.pending g.unended t.unended;
      begun_is = ap (λ b. begun b k.part) (handed ∙ fresh) ∙ t.part ∙ part-more h.pending;
      few = omega (arith, limit, g.few);
      left_is = left ∙ g.left_is ∙ ap (λ n. left_of n (length bytes)) (sym limit);
    }

    -- a line feed was pending, and the line before it was handed out
    pub Goes-line : (k : Held) (p : Held) (line : Line) → EndsLine h p → stripped p.part ≡ line → k.pending ≡ p.pending
        → k.handed ≡ true → k.limit ≡ h.limit → k.left ≡ h.left → Goes k bytes (given ++ line ∷ [])
    Goes-line k p line e is pending handed limit left =
        let part = g.front ++ e.bytes in
        record {
          closed = g.closed ++ (part ++ 10 ∷ []);
          front = [];
          seen = ap (λ n. take n bytes) limit ∙ g.seen ∙ ap (λ w. (g.closed ++ g.front) ++ w) (e.pending ∙ ap (λ w. e.bytes ++ 10 ∷ w) (sym pending))
              ∙ simp (append_assoc, append-nil);
          are_lines =
              AreLines-more g.closed part given line g.are_lines
              (All-append (λ b. is_line_feed b ≡ false) g.front e.bytes g.unended e.unended)
              (sym is ∙ ap stripped (e.part ∙ part-more e.bytes) ∙ stripped-front_of part);
          unended = All-nil (λ b. is_line_feed b ≡ false);
          begun_is = ap (λ b. begun b k.part) handed;
          few = omega (arith, limit, g.few);
          left_is = left ∙ g.left_is ∙ ap (λ n. left_of n (length bytes)) (sym limit);
        }

    module _ (none : h.pending ≡ []) where
      all-seen : take h.limit bytes ≡ g.closed ++ g.front
      all-seen = g.seen ∙ ap (λ w. (g.closed ++ g.front) ++ w) none ∙ append-nil (g.closed ++ g.front)

      -- a piece was read
      pub Goes-read : (told : Told) (old new : State) (k : Held) (r : ReadsOn told old new h k) → Goes k (bytes ++ r.bytes) given
      Goes-read told old new k r =
          let w = is-within h.limit (length bytes) r.left (sym r.was ∙ g.left_is) in
          let limit : k.limit ≡ h.limit = ap (λ (x : Held). x.limit) r.after_is in
          let sum : h.limit ≡ length bytes + r.left = omega (arith, w.0, w.1) in
          record {
            closed = g.closed;
            front = g.front;
            seen =
                ap (λ n. take n (bytes ++ r.bytes)) (limit ∙ sum)
                ∙ take-append-add bytes r.bytes r.left
                ∙ ap (λ x. x ++ take r.left r.bytes) (sym (take_all h.limit bytes w.0) ∙ all-seen)
                ∙ ap (λ x. (g.closed ++ g.front) ++ x) (sym (ap (λ (x : Held). x.pending) r.after_is));
            are_lines = g.are_lines;
            unended = g.unended;
            begun_is = ap (λ (x : Held). begun x.handed x.part) r.after_is ∙ g.begun_is;
            few = omega (arith, limit, sum, r.within, length-append bytes r.bytes);
            left_is =
                ap (λ (x : Held). x.left) r.after_is
                ∙ left_of-more h.limit (length bytes) (length r.bytes) r.left w.0 w.1
                ∙ ap (left_of h.limit) (sym (length-append bytes r.bytes))
                ∙ ap (λ n. left_of n (length (bytes ++ r.bytes))) (sym limit);
          }

      -- more bytes than are taken were read
      pub is-too-long : h.left ≡ None → h.ended ≡ false → Follows next.TooLong h bytes given
      is-too-long left runs =
          let past = is-past h.limit (length bytes) (sym left ∙ g.left_is) in (
            past,
            λ rest.
                taken-past h.limit (bytes ++ rest) (omega (arith, past, length-append bytes rest))
                ∙ ap (λ x. ended_lines (parts x)) (take-append-le h.limit bytes rest (omega arith) ∙ all-seen)
                ∙ lines-then-ended g.closed g.front given g.are_lines
                ∙ ap (λ ls. given ++ ls) (ended-none g.front g.unended)
                ∙ append-nil given,
            going runs g,
          )

      module _ (left : ℕ) (some : h.left ≡ Some left) where
        few-read : length bytes ≤ h.limit
        few-read = (is-within h.limit (length bytes) left (sym some ∙ g.left_is)).0

        lines-of-all : lines_taken h.limit bytes ≡ given ++ all_lines (parts g.front)
        lines-of-all =
            taken-within h.limit bytes few-read
            ∙ ap (λ x. all_lines (parts x)) (sym (take_all h.limit bytes few-read) ∙ all-seen)
            ∙ lines-then-all g.closed g.front given g.are_lines

        -- the last line had no line feed
        pub HasEnded-last : (k : Held) (line : Line) → k.limit ≡ h.limit → (h.part ≡ Whole [] → ⊥) → stripped h.part ≡ line
            → HasEnded k bytes (given ++ line ∷ [])
        HasEnded-last k line limit begins is = record {
          few = omega (arith, limit, few-read);
          lines_are =
              ap (λ n. lines_taken n bytes) limit
              ∙ lines-of-all
              ∙ ap (λ ls. given ++ ls) (all-last g.front g.unended (λ e. begins (part-is ∙ ap front_of e)))
              ∙ ap (λ l. given ++ l ∷ []) (sym (stripped-front_of g.front) ∙ ap stripped (sym part-is) ∙ is);
        }

        -- there was no last line
        pub HasEnded-none : (k : Held) → k.limit ≡ h.limit → h.part ≡ Whole [] → HasEnded k bytes given
        HasEnded-none k limit e = record {
          few = omega (arith, limit, few-read);
          lines_are =
              ap (λ n. lines_taken n bytes) limit
              ∙ lines-of-all
              ∙ ap (λ x. given ++ all_lines (parts x)) (front_of-none g.front (sym part-is ∙ e))
              ∙ append-nil given;
        }

        pub sees-end : (told : Told) (new : State) (k : Held) (found : Next) → SeesEnd told new h k found → Follows found k bytes given
        sees-end told new k next.Line s = ended s.ended (HasEnded-last k (Whole k.line) s.limit s.finishes.0 s.finishes.1)
        sees-end told new k next.Long s = ended s.ended (HasEnded-last k Long s.limit (λ e. absurd (cc (s.finishes))) (ap stripped s.finishes))
        sees-end told new k next.Ended s = (ended s.ended (HasEnded-none k s.limit s.finishes), s.ended)
        sees-end told new k next.TooLong s = absurd s.finishes
