-- What is spelled by the grammar of a header is read so.
use Rattle.std.proofs.Common.{◌≡◌, ℕ, List, [], ◌∷◌, ◌++◌, length, Bool, true, false, if◌then◌else◌, refl, sym, ap, ◌∙◌, append_assoc, subst}
use Rattle.std.specs.Prelude.{fold, map}
use Rattle.std.specs.List.{AllByRecursion}
use Rattle.std.proofs.lemmas.Bool.{lt-leb}
use Rattle.std.proofs.lemmas.List.{append-nil, map-append}
use Rattle.std.proofs.lemmas.Grind.{fold-append}
use Rattle.ccsl_vcd_lex.specs.Tokens.{Token, word}
use Rattle.ccsl_vcd.specs.Binding.{Declaration, Wanted, bind}
use Rattle.ccsl_vcd.specs.declared.limits.Limits.{Limits}
use Rattle.ccsl_vcd.specs.Places.{Among, commands, inside, Where, header}
use Rattle.ccsl_vcd.specs.Header.{HeaderWord, var, scope, upscope, end_definitions, other_command, end_command, plain, header_word, word_fits, ends, opens}
use Rattle.ccsl_vcd.specs.Reading.{Story, next, says, told}
use Rattle.ccsl_vcd.specs.Grammar.{is_end}
use Rattle.ccsl_vcd.specs.Commands.{Command, command_tokens, commands_tokens, kind_of, IsClosed, IsVariable, MayStand, depth_behind, declared_by, AreCommands}
use Rattle.ccsl_vcd.specs.Commands.{declarations, IsHeader, header_tokens}
use Rattle.ccsl_vcd.proofs.Spelled.{tale}

abbrev pub is_end_word : HeaderWord → Bool
is_end_word end_command = true
is_end_word kind = false

chain : (a b c d e f : Bool)
    → a ≡ is_end_word (if a then end_command
    else (if b then var else (if c then scope else (if d then upscope else (if e then end_definitions else (if f then other_command else plain))))))
chain true b c d e f = refl
chain false true c d e f = refl
chain false false true d e f = refl
chain false false false true e f = refl
chain false false false false true f = refl
chain false false false false false true = refl
chain false false false false false false = refl

-- a token is $end where the header sees one
pub end-seen : (t : Token) → is_end t ≡ is_end_word (header_word t.text)
end-seen t = chain _ _ _ _ _ _

-- the words behind these fit, one after another
abbrev pub AllFit : HeaderWord → List Token → List Token → Type 0
AllFit kind words [] = Unit {0}
AllFit kind words (t ∷ ts) = (word_fits kind words t ≡ true) × AllFit kind (words ++ t ∷ []) ts

more-fit : (k s c : Token) (words ts : List Token) → AllFit var (k ∷ s ∷ c ∷ words) ts
more-fit k s c words [] = tt
more-fit k s c words (t ∷ ts) = (refl, more-fit k s c (words ++ t ∷ []) ts)

variable-fits : (ts : List Token) → IsVariable ts → AllFit var [] ts
variable-fits (k ∷ s ∷ c ∷ f ∷ more) h = (refl, (h.0, (h.1, (refl, more-fit k s c (f ∷ []) more))))
variable-fits [] h = absurd h
variable-fits (k ∷ []) h = absurd h
variable-fits (k ∷ s ∷ []) h = absurd h
variable-fits (k ∷ s ∷ c ∷ []) h = absurd h

scope-fits : (words ts : List Token) → AllFit scope words ts
scope-fits words [] = tt
scope-fits words (t ∷ ts) = (refl, scope-fits (words ++ t ∷ []) ts)

upscope-fits : (words ts : List Token) → AllFit upscope words ts
upscope-fits words [] = tt
upscope-fits words (t ∷ ts) = (refl, upscope-fits (words ++ t ∷ []) ts)

other-fits : (words ts : List Token) → AllFit other_command words ts
other-fits words [] = tt
other-fits words (t ∷ ts) = (refl, other-fits (words ++ t ∷ []) ts)

last-fits : (words ts : List Token) → AllFit end_definitions words ts
last-fits words [] = tt
last-fits words (t ∷ ts) = (refl, last-fits (words ++ t ∷ []) ts)

abbrev pub at : Among → ℕ → List Declaration → Where
at among depth ds = header (record { among = among; depth = depth; declared = ds })

abbrev pub depth_after : ℕ → List Command → ℕ
depth_after depth [] = depth
depth_after depth (c ∷ cs) = depth_after (depth_behind depth (kind_of c)) cs

module _ (w : Wanted) (l : Limits) where
  abbrev pub goes : Story → List Token → Story
  goes s ts = fold (next w l) s (map word ts)

  pub goes-both : (s : Story) (xs ys : List Token) → goes s (xs ++ ys) ≡ goes (goes s xs) ys
  goes-both s xs ys = ap (fold (next w l) s) (map-append word xs ys) ∙ fold-append (next w l) s (map word xs) (map word ys)

  -- a word inside a command
  abbrev Stays : Token → List Token → ℕ → List Declaration → Token → HeaderWord → Type 0
  Stays head words depth ds t kind =
      is_end_word kind ≡ false → word_fits (header_word head.text) words t ≡ true →
      told [] (at (inside head words) depth ds)
      (Rattle.ccsl_vcd.specs.Header.inside_says w l (record { among = inside head words; depth = depth; declared = ds }) head words t kind)
      ≡ tale [] (at (inside head (words ++ t ∷ [])) depth ds)

  stays : (head : Token) (words : List Token) (depth : ℕ) (ds : List Declaration) (t : Token) (kind : HeaderWord) → Stays head words depth ds t kind
  stays head words depth ds t end_command n f = absurd (cc)
  stays head words depth ds t var n f = rw f refl
  stays head words depth ds t scope n f = rw f refl
  stays head words depth ds t upscope n f = rw f refl
  stays head words depth ds t end_definitions n f = rw f refl
  stays head words depth ds t other_command n f = rw f refl
  stays head words depth ds t plain n f = rw f refl

  abbrev pub closed_by : Token → List Token → ℕ → List Declaration → Token → HeaderWord → Story
  closed_by head words depth ds e kind =
      told [] (at (inside head words) depth ds) (ends w l (record { among = inside head words; depth = depth; declared = ds }) kind head words e)

  -- the text of a command, and its end
  text-read : (head : Token) (words us : List Token) (depth : ℕ) (ds : List Declaration) (e : Token) → AllByRecursion (λ t. is_end t ≡ false) us
      → is_end e ≡ true → AllFit (header_word head.text) words us
      → goes (tale [] (at (inside head words) depth ds)) (us ++ e ∷ []) ≡ closed_by head (words ++ us) depth ds e (header_word head.text)
  unfolding says
  text-read head words [] depth ds e i c f =
      ends-here (header_word e.text) (sym (end-seen e) ∙ c) ∙ ap (λ xs. closed_by head xs depth ds e (header_word head.text)) (sym (append-nil words))
    where
      ends-here : (kind : HeaderWord) → is_end_word kind ≡ true
          → told [] (at (inside head words) depth ds)
          (Rattle.ccsl_vcd.specs.Header.inside_says w l (record { among = inside head words; depth = depth; declared = ds }) head words e kind) ≡ closed_by
          head words depth ds e (header_word head.text)
      ends-here end_command k = refl
      ends-here var k = absurd (cc)
      ends-here scope k = absurd (cc)
      ends-here upscope k = absurd (cc)
      ends-here end_definitions k = absurd (cc)
      ends-here other_command k = absurd (cc)
      ends-here plain k = absurd (cc)
  text-read head words (t ∷ us) depth ds e i c f =
      ap (λ (s : Story). goes s (us ++ e ∷ [])) (stays head words depth ds t (header_word t.text) (sym (end-seen t) ∙ i.0) f.0)
      ∙ text-read head (words ++ t ∷ []) us depth ds e i.1 c f.1
      ∙ ap (λ xs. closed_by head xs depth ds e (header_word head.text)) (append_assoc words (t ∷ []) us)

  module _ (depth : ℕ) (ds : List Declaration) where
    abbrev begun : Token → HeaderWord → Story
    begun t kind = told [] (at commands depth ds) (Rattle.ccsl_vcd.specs.Header.starts l (record { among = commands; depth = depth; declared = ds }) t kind)

    abbrev opened : Token → Story
    opened t = tale [] (at (inside t []) depth ds)

    -- a command whose keyword begins it, and whose text fits
    whole-read : (c : Command) (kind : HeaderWord) → kind_of c ≡ kind → IsClosed c → begun c.keyword kind ≡ opened c.keyword → AllFit kind [] c.text
        → goes (tale [] (at commands depth ds)) (command_tokens c) ≡ closed_by c.keyword c.text depth ds c.close kind
    unfolding says
    whole-read c kind e k b f =
        ap (λ (x : HeaderWord). goes (begun c.keyword x) (c.text ++ c.close ∷ [])) e
        ∙ ap (λ (s : Story). goes s (c.text ++ c.close ∷ [])) b
        ∙ text-read c.keyword [] c.text depth ds c.close k.inside k.close (subst (λ x. AllFit x [] c.text) (sym e) f)
        ∙ ap (closed_by c.keyword c.text depth ds c.close) e

    variable-read : (c : Command) → IsVariable c.text
        → closed_by c.keyword c.text depth ds c.close var ≡ tale [] (at commands depth (ds ++ declared_by depth var c.text))
    variable-read c h = of c.text h
      where
        of : (ts : List Token) → IsVariable ts → closed_by c.keyword ts depth ds c.close var ≡ tale [] (at commands depth (ds ++ declared_by depth var ts))
        of (k ∷ s ∷ x ∷ f ∷ more) i = refl
        of [] i = absurd i
        of (k ∷ []) i = absurd i
        of (k ∷ s ∷ []) i = absurd i
        of (k ∷ s ∷ x ∷ []) i = absurd i

    same : (n : ℕ) → tale [] (at commands n ds) ≡ tale [] (at commands n (ds ++ []))
    same n = ap (λ xs. tale [] (at commands n xs)) (sym (append-nil ds))

    command-read : (c : Command) (kind : HeaderWord) → kind_of c ≡ kind → IsClosed c → MayStand l depth ds c.text kind
        → goes (tale [] (at commands depth ds)) (command_tokens c) ≡ tale [] (at commands (depth_behind depth kind) (ds ++ declared_by depth kind c.text))
    command-read c var e k m = whole-read c var e k (rw (lt-leb l.vars (length ds) m.1) refl) (variable-fits c.text m.0) ∙ variable-read c m.0
    command-read c scope e k m = whole-read c scope e k refl (scope-fits [] c.text) ∙ rw (lt-leb l.scopes depth m) (same (depth_behind depth scope))
    command-read c upscope e k m = whole-read c upscope e k refl (upscope-fits [] c.text) ∙ same (depth_behind depth upscope)
    command-read c other_command e k m = whole-read c other_command e k refl (other-fits [] c.text) ∙ same depth
    command-read c end_definitions e k m = absurd m
    command-read c end_command e k m = absurd m
    command-read c plain e k m = absurd m

    last-read : (c : Command) → kind_of c ≡ end_definitions → IsClosed c
        → goes (tale [] (at commands depth ds)) (command_tokens c) ≡ told [] (at (inside c.keyword c.text) depth ds) (opens ds (bind w ds))
    last-read c e k = whole-read c end_definitions e k refl (last-fits [] c.text)

  commands-read : (depth : ℕ) (ds : List Declaration) (cs : List Command) → AreCommands l depth ds cs
      → goes (tale [] (at commands depth ds)) (commands_tokens cs) ≡ tale [] (at commands (depth_after depth cs) (ds ++ declarations depth cs))
  commands-read depth ds [] h = ap (λ xs. tale [] (at commands depth xs)) (sym (append-nil ds))
  commands-read depth ds (c ∷ cs) h =
      goes-both (tale [] (at commands depth ds)) (command_tokens c) (commands_tokens cs)
      ∙ ap (λ (s : Story). goes s (commands_tokens cs)) (command-read depth ds c (kind_of c) refl h.0 h.1)
      ∙ commands-read (depth_behind depth (kind_of c)) (ds ++ declared_by depth (kind_of c) c.text) cs h.2
      ∙ ap (λ xs. tale [] (at commands (depth_after (depth_behind depth (kind_of c)) cs) xs))
      (append_assoc ds (declared_by depth (kind_of c) c.text) (declarations (depth_behind depth (kind_of c)) cs))

  -- Whatever is spelled as a header binds the clocks by what its commands declare.
  pub header-read : (cs : List Command) (last : Command) → IsHeader l cs last
      → goes (tale [] (at commands 0 [])) (header_tokens cs last)
      ≡ told [] (at (inside last.keyword last.text) (depth_after 0 cs) (declarations 0 cs)) (opens (declarations 0 cs) (bind w (declarations 0 cs)))
  header-read cs last h =
      goes-both (tale [] (at commands 0 [])) (commands_tokens cs) (command_tokens last)
      ∙ ap (λ (s : Story). goes s (command_tokens last)) (commands-read 0 [] cs h.are_commands)
      ∙ last-read (depth_after 0 cs) (declarations 0 cs) last h.ends h.closed
