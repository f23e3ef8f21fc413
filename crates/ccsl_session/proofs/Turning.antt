-- One turn of a session: a line is heard, and answered, or the session ends.
use Rattle.std.proofs.Common.{◌≡◌, ℕ, List, [], ◌∷◌, ◌++◌, length, take, drop, Bool, true, false, ◌||◌, Option, Some, None, nat_lt, if◌then◌else◌, IsTrue, refl}
use Rattle.std.proofs.Common.{sym, ap, ◌∙◌, subst, arith, append-nil, append_assoc, lt-ltb, le-ltb, length-append}
use Rattle.std.specs.List.{list_any}
use Rattle.std.proofs.lemmas.List.{take_at, take-append-drop}
use Rattle.std.proofs.lemmas.List.Folds.{list_any-append}
use Rattle.ccsl_edge.specs.declared.slot.Slot.TheVariants.{Input, Report}
use Rattle.ccsl_edge.specs.World.{State, SlotState, Told}
use Rattle.ccsl_edge.specs.Calls.{Adds, AddsFront}
use Rattle.ccsl_kernel.specs.Syntax.{System}
use Rattle.ccsl_kernel.specs.Lives.{Step}
use Rattle.ccsl_policy.specs.declared.policies.Policy.{Policy}
use Rattle.ccsl_lines.specs.declared.reader.Next.{Next}
use Rattle.ccsl_lines.specs.declared.reader.Next.TheVariants as next
use Rattle.ccsl_lines.specs.Lines.{Line, Whole, lines_taken}
use Rattle.ccsl_lines.specs.Lines as lines
use Rattle.ccsl_lines.specs.Held.{Held, StandsFor, going, ended}
use Rattle.ccsl_lines.specs.Given.{IsPrompt, at_once, late, Gives, Breaks, Follows}
use Rattle.ccsl_lines.specs.Laws.{GivenLinesAreTaken, FewBytesAreRead, SearchEndsNoLine}
use Rattle.ccsl_session.specs.declared.answer.Ended.{Ended}
use Rattle.ccsl_session.specs.declared.answer.Ended.TheVariants.{Quit, EndOfInput, TooLong}
use Rattle.ccsl_edge.specs.declared.stop.Stop.{Stop}
use Rattle.ccsl_edge.specs.declared.stop.Stop.TheVariants.{Fault, Memory}
use Rattle.ccsl_session.specs.declared.asked.Asked.{Asked as Found}
use Rattle.ccsl_session.specs.declared.world.Heard.TheVariants.{Asks}
use Rattle.ccsl_session.specs.declared.world.Heard.TheVariants as heard
use Rattle.ccsl_session.specs.Asked.{asked, is_quit}
use Rattle.ccsl_session.specs.Reading.{plain}
use Rattle.ccsl_session.specs.Answers.{answer, answers, answers_over, after}
use Rattle.ccsl_session.specs.Session.{session_text}
use Rattle.ccsl_session.specs.Rest.{IsAskedFor}
use Rattle.ccsl_session.specs.Leaving.{HasEnded, IsCut}
use Rattle.ccsl_session.specs.Going.{quits_at, Goes, Turns, IsHeard, Hears, NotWritten}
use Rattle.ccsl_session.proofs.Resting.{asked-none, asked-more, rest-none}
use Rattle.ccsl_session.proofs.Saying.{says-nothing, counts-same, says-read, says-write, counts-read, counts-write, read-fails, write-fails, reads-only}
use Rattle.ccsl_session.proofs.Saying.{adds-only}
use Rattle.ccsl_base.proofs.Sets.{by_case}

nothing-left : (bs rest : List ℕ) → [] ≡ bs ++ rest → rest ≡ []
nothing-left [] rest e = sym e
nothing-left (b ∷ bs) rest e = absurd (cc)

nothing-read : (bs rest : List ℕ) → [] ≡ bs ++ rest → bs ≡ []
nothing-read [] rest e = refl
nothing-read (b ∷ bs) rest e = absurd (cc)

-- a front of a list is what stands first in it
front-of : (front rest whole : List ℕ) → whole ≡ front ++ rest → (n : ℕ) × (front ≡ take n whole)
front-of front rest whole e = (length front, sym (ap (take (length front)) e ∙ take_at front rest (length front) refl))

module _ (told : Told) (K : System) (policy : Policy) (seed limit : ℕ) (old : State) where
  -- BEFORE THE FIRST LINE
  pub opens : (h : Held) → h.limit ≡ limit → StandsFor h [] [] → h.ended ≡ false → Goes told K policy seed limit old old h [] []
  opens h l s runs = record {
    bytes = [];
    given = [];
    text = [];
    says = says-nothing told K policy seed limit old;
    counts = counts-same told K policy seed limit old;
    limit_is = l;
    left = λ t. refl;
    ended = λ e t. absurd (cc);
    stands = s;
    answered = λ more. refl;
    unended = refl;
    asked_for = λ t. asked-none limit;
  }

  -- cut short before the first line
  pub nothing-cut : IsCut told K policy seed limit old old Memory
  nothing-cut = record {
    text = [];
    says = says-nothing told K policy seed limit old;
    cause = counts-same told K policy seed limit old;
    front = λ t. (0, refl);
    rest = λ t. rest-none limit (old.slot_of Input).left;
  }

-- what lines are worth to a session that began so
pub record LinesLaws (told : Told) (K : System) (policy : Policy) (seed limit : ℕ) (old : State) : Type 0 where
  pub taken : GivenLinesAreTaken
  pub few : FewBytesAreRead
  pub search : SearchEndsNoLine

module _ {told : Told} {K : System} {policy : Policy} {seed limit : ℕ} {old : State} (laws : LinesLaws told K policy seed limit old) where
  abbrev GoesTo : State → Held → List Step → List Line → Type 0
  GoesTo now h R waiting = Goes told K policy seed limit old now h R waiting

  abbrev over : List Step → List Line → List ℕ
  over R more = answers_over K policy seed R more

  abbrev Ends : State → Ended → Type 0
  Ends now e = HasEnded told K policy seed limit old now e

  abbrev Cut : State → Stop → Type 0
  Cut now fault = IsCut told K policy seed limit old now fault

  abbrev all_lines : List Line
  all_lines = lines_taken limit (old.slot_of Input).left

  module _ {now : State} {h : Held} {R : List Step} {waiting : List Line} (g : GoesTo now h R waiting) where
    -- the lines taken of the whole input are those that were handed out, and more
    pub lines-are : IsTrue told.left → (behind : List Line) × (all_lines ≡ g.given ++ (waiting ++ behind))
    lines-are t =
        let rest = (now.slot_of Input).left in
        let b = laws.taken h g.bytes rest (g.given ++ waiting) g.stands (λ e. g.ended e t) in (
          b.behind,
          ap (λ input. lines_taken limit input) (g.left t)
              ∙ ap (λ n. lines_taken n (g.bytes ++ rest)) (sym g.limit_is)
              ∙ b.is
              ∙ append_assoc g.given waiting b.behind,
        )

    pub text-is : IsTrue told.left → (behind : List Line) × (session_text K policy seed limit (old.slot_of Input).left ≡ g.text ++ over R (waiting ++ behind))
    text-is t = let q = lines-are t in (q.0, ap (answers K policy seed) q.1 ∙ g.answered (waiting ++ q.0))

    pub text-front : IsTrue told.left → (n : ℕ) × (g.text ≡ take n (session_text K policy seed limit (old.slot_of Input).left))
    text-front t = let q = text-is t in front-of g.text (over R (waiting ++ q.0)) (session_text K policy seed limit (old.slot_of Input).left) q.1

    -- CUT SHORT before anything more is written
    pub memory-cut : Cut now Memory
    memory-cut = record {
      text = g.text;
      says = g.says;
      cause = g.counts;
      front = text-front;
      rest = λ t. record { bytes = g.bytes; taken = g.left t; asked_for = g.asked_for t };
    }

  module _ {now : State} {h : Held} {R : List Step} (g : GoesTo now h R []) where
    -- the lines that were handed out stand for the bytes read
    stands-for : StandsFor h g.bytes g.given
    stands-for = subst (StandsFor h g.bytes) (append-nil g.given) g.stands

    -- a read fails
    pub read-cut : (later : State) → Breaks told now later h → Cut later Fault
    read-cut later b = record {
      text = g.text;
      says = says-read told K policy seed limit old now later g.text g.says b.fails.only b.fails.here;
      cause = read-fails told K policy seed limit old now later g.counts b.bytes b.fails;
      front = text-front g;
      rest = λ t. record {
        bytes = g.bytes ++ (b.bytes ++ []);
        taken =
            g.left t
            ∙ ap (λ bs. g.bytes ++ bs) (b.fails.taken t)
            ∙ sym (append_assoc g.bytes b.bytes (later.slot_of Input).left)
            ∙ ap (λ bs. (g.bytes ++ bs) ++ (later.slot_of Input).left) (sym (append-nil b.bytes));
        asked_for =
            asked-more limit h g.bytes b.bytes [] g.given K laws.search g.limit_is stands-for b.runs b.unended g.unended (omega arith)
            (omega (arith, b.few g.bytes g.given stands-for, ap (λ bs. length (g.bytes ++ bs)) (append-nil b.bytes), g.limit_is));
      };
    }

    module _ {later : State} {h' : Held} {found : Next} (gives : Gives told now later h h' found) where
      left-behind : IsTrue told.left → (old.slot_of Input).left ≡ (g.bytes ++ gives.bytes) ++ (later.slot_of Input).left
      left-behind t =
          g.left t ∙ ap (λ bs. g.bytes ++ bs) (gives.reads.taken t) ∙ sym (append_assoc g.bytes gives.bytes (later.slot_of Input).left)

      follows : Follows found h' (g.bytes ++ gives.bytes) g.given
      follows = gives.follows g.bytes g.given stands-for

      no-more : h'.ended ≡ true → IsTrue told.left → (later.slot_of Input).left ≡ []
      no-more e t =
          by_case h.ended _
          (λ b. nothing-left gives.bytes (later.slot_of Input).left (sym (g.ended b t) ∙ gives.reads.taken t))
          (λ b. gives.ends e b t)

      -- no more was read than is asked for
      asked-on : IsTrue told.left → (lines : List Line) → StandsFor h' (g.bytes ++ gives.bytes) lines → IsAskedFor limit (g.bytes ++ gives.bytes)
      asked-on t lines s = on gives.prompt
        where
          same : gives.bytes ≡ [] → IsAskedFor limit (g.bytes ++ gives.bytes)
          same none = subst (IsAskedFor limit) (sym (append-nil g.bytes) ∙ ap (λ bs. g.bytes ++ bs) (sym none)) (g.asked_for t)

          on : IsPrompt h.pending gives.bytes → IsAskedFor limit (g.bytes ++ gives.bytes)
          on (at_once none) = same none
          on (late before piece all few unended) =
              by_case h.ended _
              (λ b. same (nothing-read gives.bytes (later.slot_of Input).left (sym (g.ended b t) ∙ gives.reads.taken t)))
              (λ b.
              subst (λ bs. IsAskedFor limit (g.bytes ++ bs)) (sym all)
              (asked-more limit h g.bytes before piece g.given K laws.search g.limit_is stands-for b unended g.unended few
              (omega (arith, laws.few h' (g.bytes ++ gives.bytes) lines s, ap (λ bs. length (g.bytes ++ bs)) all, gives.limit, g.limit_is))))

      -- A LINE IS HEARD
      pub hears : (line : Line) → StandsFor h' (g.bytes ++ gives.bytes) (g.given ++ line ∷ []) → GoesTo later h' R (line ∷ [])
      hears line s = record {
        bytes = g.bytes ++ gives.bytes;
        given = g.given;
        text = g.text;
        says = says-read told K policy seed limit old now later g.text g.says gives.reads.only (reads-only told gives.bytes now later gives.reads);
        counts = counts-read told K policy seed limit old now later g.counts gives.bytes gives.reads;
        limit_is = gives.limit ∙ g.limit_is;
        left = left-behind;
        ended = no-more;
        stands = s;
        answered = g.answered;
        unended = g.unended;
        asked_for = λ t. asked-on t (g.given ++ line ∷ []) s;
      }

      -- THE INPUT ENDS
      ends : (e : Ended) → StandsFor h' (g.bytes ++ gives.bytes) g.given →
          (IsTrue told.left → (all_lines ≡ g.given) × (e ≡ (if nat_lt limit (length (old.slot_of Input).left) then TooLong else EndOfInput))) → Ends later e
      ends e s all = record {
        text = g.text;
        says = says-read told K policy seed limit old now later g.text g.says gives.reads.only (reads-only told gives.bytes now later gives.reads);
        counts = counts-read told K policy seed limit old now later g.counts gives.bytes gives.reads;
        all = λ t.
            sym (ap (answers K policy seed) ((all t).0 ∙ sym (append-nil g.given)) ∙ g.answered [] ∙ append-nil g.text);
        by = λ t.
            (all t).1
            ∙ sym (ap (λ (b : Bool). if b then Quit else if nat_lt limit (length (old.slot_of Input).left) then TooLong else EndOfInput)
            (ap (list_any (quits_at told K policy seed limit old)) (all t).0 ∙ g.unended));
        rest = λ t. record { bytes = g.bytes ++ gives.bytes; taken = left-behind t; asked_for = asked-on t g.given s };
      }

    input-ends : {later : State} {h' : Held} → Gives told now later h h' next.Ended → Ends later EndOfInput
    input-ends {later} {h'} gives = ends gives EndOfInput (follows gives).0 (λ t. whole t (follows gives).0 (follows gives).1)
      where
        whole : IsTrue told.left → StandsFor h' (g.bytes ++ gives.bytes) g.given → h'.ended ≡ true →
            (all_lines ≡ g.given) × (EndOfInput ≡ (if nat_lt limit (length (old.slot_of Input).left) then TooLong else EndOfInput))
        whole t (going runs goes) e = absurd (cc)
        whole t (ended end all) e =
            let input : (old.slot_of Input).left ≡ g.bytes ++ gives.bytes =
            left-behind gives t ∙ ap (λ bs. (g.bytes ++ gives.bytes) ++ bs) (no-more gives e t)
            ∙ append-nil (g.bytes ++ gives.bytes) in
            let most : h'.limit ≡ limit = gives.limit ∙ g.limit_is in (
              ap (lines_taken limit) input ∙ ap (λ n. lines_taken n (g.bytes ++ gives.bytes)) (sym most) ∙ all.lines_are,
              sym
                  (ap (λ (b : Bool). if b then TooLong else EndOfInput)
                  (ap (λ bs. nat_lt limit (length bs)) input ∙ le-ltb limit (length (g.bytes ++ gives.bytes)) (omega (arith, all.few, most)))),
            )

    input-too-long : {later : State} {h' : Held} → Gives told now later h h' next.TooLong → Ends later TooLong
    input-too-long {later} {h'} gives =
        let f = follows gives in
        let most : h'.limit ≡ limit = gives.limit ∙ g.limit_is in
        let rest = (later.slot_of Input).left in
        ends gives TooLong f.2
        (λ t. (
          ap (lines_taken limit) (left-behind gives t) ∙ ap (λ n. lines_taken n ((g.bytes ++ gives.bytes) ++ rest)) (sym most) ∙ f.1 rest,
          sym
              (ap (λ (b : Bool). if b then TooLong else EndOfInput)
              (ap (λ bs. nat_lt limit (length bs)) (left-behind gives t)
              ∙ lt-ltb limit (length ((g.bytes ++ gives.bytes) ++ rest)) (omega (arith, f.0, most, length-append (g.bytes ++ gives.bytes) rest)))),
        ))

  module _ {now : State} {h : Held} {R : List Step} {line : Line} (g : GoesTo now h R (line ∷ [])) where
    abbrev reply : List ℕ
    reply = answer K policy seed R (asked K line)

    abbrev behind_it : List Line → List ℕ
    behind_it more = if is_quit (asked K line) then [] else over (after K policy seed R (asked K line)) more

    -- the text of the session goes on by the answer
    goes-on-by : IsTrue told.left → (more : List ℕ) × (session_text K policy seed limit (old.slot_of Input).left ≡ g.text ++ (reply ++ more))
    goes-on-by t = let q = text-is g t in (behind_it q.0, q.1)

    -- A WRITE FAILS
    write-cut : (later : State) → AddsFront told Report reply now later → Cut later Fault
    write-cut later w =
        let part = take w.count reply in
        let rest = drop w.count reply in
        record {
          text = g.text ++ part;
          says = says-write told K policy seed limit old now later g.text g.says part w.only w.here w.front;
          cause = write-fails told K policy seed limit old now later g.counts reply w;
          front = λ t.
              let q = goes-on-by t in
              front-of (g.text ++ part) (rest ++ q.0) (session_text K policy seed limit (old.slot_of Input).left)
              (q.1
              ∙ ap (λ bs. g.text ++ (bs ++ q.0)) (sym (take-append-drop w.count reply))
              ∙ ap (λ bs. g.text ++ bs) (append_assoc part rest q.0)
              ∙ sym (append_assoc g.text part (rest ++ q.0)));
          rest = λ t. record {
            bytes = g.bytes;
            taken = g.left t ∙ ap (λ (s : SlotState). g.bytes ++ s.left) (sym (w.only.others Input (λ e. cc)));
            asked_for = g.asked_for t;
          };
        }

    module _ {later : State} (w : Adds told Report reply now later) where
      -- IT IS ANSWERED
      replies : is_quit (asked K line) ≡ false → GoesTo later h (after K policy seed R (asked K line)) []
      replies not_quit = record {
        bytes = g.bytes;
        given = g.given ++ line ∷ [];
        text = g.text ++ reply;
        says = says-write told K policy seed limit old now later g.text g.says reply w.only (adds-only told reply now later w) w.end;
        counts = counts-write told K policy seed limit old now later g.counts reply w;
        limit_is = g.limit_is;
        left = λ t. g.left t ∙ ap (λ (s : SlotState). g.bytes ++ s.left) (sym (w.only.others Input (λ e. cc)));
        ended = λ e t. ap (λ (s : SlotState). s.left) (w.only.others Input (λ d. cc)) ∙ g.ended e t;
        stands = subst (StandsFor h g.bytes) (sym (append-nil (g.given ++ line ∷ []))) g.stands;
        answered = λ more.
            ap (answers K policy seed) (append_assoc g.given (line ∷ []) more)
            ∙ g.answered (line ∷ more)
            ∙ ap (λ (b : Bool). g.text ++ (reply ++ (if b then [] else over (after K policy seed R (asked K line)) more))) not_quit
            ∙ sym (append_assoc g.text reply (over (after K policy seed R (asked K line)) more));
        unended =
            list_any-append (quits_at told K policy seed limit old) g.given (line ∷ [])
            ∙ ap (λ b. b || (is_quit (asked K line) || false)) g.unended
            ∙ ap (λ b. b || false) not_quit;
        asked_for = g.asked_for;
      }

      -- IT IS ANSWERED AND ENDS THE SESSION
      quits-there : is_quit (asked K line) ≡ true → Ends later Quit
      quits-there quit = record {
        text = g.text ++ reply;
        says = says-write told K policy seed limit old now later g.text g.says reply w.only (adds-only told reply now later w) w.end;
        counts = counts-write told K policy seed limit old now later g.counts reply w;
        all = λ t.
            let q = text-is g t in
            sym
            (q.1
            ∙ ap (λ (b : Bool). g.text ++ (reply ++ (if b then [] else over (after K policy seed R (asked K line)) q.0))) quit
            ∙ ap (λ bs. g.text ++ bs) (append-nil reply));
        by = λ t.
            let q = lines-are g t in
            sym
            (ap (λ (b : Bool). if b then Quit else if nat_lt limit (length (old.slot_of Input).left) then TooLong else EndOfInput)
            (ap (list_any (quits_at told K policy seed limit old)) q.1
            ∙ list_any-append (quits_at told K policy seed limit old) g.given (line ∷ q.0)
            ∙ ap (λ b. b || (is_quit (asked K line) || list_any (quits_at told K policy seed limit old) q.0)) g.unended
            ∙ ap (λ b. b || list_any (quits_at told K policy seed limit old) q.0) quit));
        rest = λ t. record {
          bytes = g.bytes;
          taken = g.left t ∙ ap (λ (s : SlotState). g.bytes ++ s.left) (sym (w.only.others Input (λ e. cc)));
          asked_for = g.asked_for t;
        };
      }

  module _ {now mid : State} {h h' : Held} {R : List Step} where
    -- WHAT IS HEARD is a line that waits, or the end
    heard-line : {found : Found} → Hears told K now mid h h' (Asks found) → GoesTo now h R []
        → (line : Line) × (plain found ≡ asked K line) × GoesTo mid h' R (line ∷ [])
    heard-line {found} q g = on q.found q.gives q.is
      where
        on : (n : Next) → Gives told now mid h h' n → IsHeard K h' n (Asks found)
            → (line : Line) × (plain found ≡ asked K line) × GoesTo mid h' R (line ∷ [])
        on next.Line gives is = (Whole h'.line, is, hears g gives (Whole h'.line) (follows g gives))
        on next.Long gives is = (lines.Long, is, hears g gives lines.Long (follows g gives))
        on next.Ended gives is = absurd is
        on next.TooLong gives is = absurd is

    pub heard-end : {e : Ended} → Hears told K now mid h h' (heard.Ends e) → GoesTo now h R [] → Ends mid e
    heard-end {e} q g = on q.found q.gives q.is
      where
        on : (n : Next) → Gives told now mid h h' n → IsHeard K h' n (heard.Ends e) → Ends mid e
        on next.Line gives is = absurd is
        on next.Long gives is = absurd is
        on next.Ended gives is = rw is (input-ends g gives)
        on next.TooLong gives is = rw is (input-too-long g gives)

    -- THE LINE IS ANSWERED
    pub answered : {found : Found} → Hears told K now mid h h' (Asks found) → GoesTo now h R [] → {later : State} {S : List Step} {end : Option Ended}
        → Adds told Report (answer K policy seed R (plain found)) mid later →
        S ≡ after K policy seed R (plain found) → end ≡ (if is_quit (plain found) then Some Quit else None)
        → Turns told K policy seed limit old later h' S end
    answered q g {later} {S} w sets ends =
        let x = heard-line q g in
        let line = x.0 in
        let write = rw x.1 at w in
        subst (λ (x : Option Ended). Turns told K policy seed limit old later h' S x) (sym (rw x.1 at ends))
        (by_case (is_quit (asked K line)) _ (λ quit. rw quit (quits-there x.2 write quit)) (λ not_quit. rw (not_quit, sets, x.1) (replies x.2 write not_quit)))

    pub unanswered : {found : Found} → Hears told K now mid h h' (Asks found) → GoesTo now h R [] → (later : State) (fault : Stop)
        → NotWritten told (answer K policy seed R (plain found)) mid later fault → Cut later fault
    unanswered q g later Fault w = let x = heard-line q g in write-cut x.2 later (rw x.1 at w)
    unanswered q g later Memory e = rw e (memory-cut (heard-line q g).2)

-- what is asked is what some line asks
pub heard-asked : {told : Told} {K : System} {now later : State} {h h' : Held} {found : Found} → Hears told K now later h h' (Asks found)
    → (line : Line) × (plain found ≡ asked K line)
heard-asked {K} {h'} {found} q = on q.found q.is
  where
    on : (n : Next) → IsHeard K h' n (Asks found) → (line : Line) × (plain found ≡ asked K line)
    on next.Line is = (Whole h'.line, is)
    on next.Long is = (lines.Long, is)
    on next.Ended is = absurd is
    on next.TooLong is = absurd is
