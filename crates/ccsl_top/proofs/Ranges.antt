-- The numbers of `trial` are within their ranges.
use Rattle.std.proofs.Common.{◌≡◌, ℕ, ◌+◌, ◌≤◌, List, [], ◌∷◌, ◌++◌, Bool, true, false, not, ◌&&◌, ◌||◌, Option, Some, None, is_some, unwrap_or, Result, Ok}
use Rattle.std.proofs.Common.{Err, find, cond, nat_le, refl, sym, ap, ◌∙◌, subst, bytes_eq}
use Rattle.std.proofs.lemmas.Bool.{leb-true, not-false, and_parts, both_ways}
use Rattle.std.proofs.lemmas.Slice.Eq.{bytes_eq-Decides}
use Rattle.ccsl_base.specs.Decimal.{decimal_value}
use Rattle.ccsl_base.specs.declared.limits.TheConstants.{MAX_TRIAL_STEPS, MIN_TRIAL_CLOCKS, MAX_TRIAL_CLOCKS}
use Rattle.ccsl_command.specs.declared.table.CommandName.{CommandName}
use Rattle.ccsl_command.specs.declared.table.CommandName.TheVariants as name
use Rattle.ccsl_command.specs.declared.table.Key.{Key}
use Rattle.ccsl_command.specs.declared.table.Key.TheVariants as key
use Rattle.ccsl_command.specs.declared.command.Command.{Command}
use Rattle.ccsl_command.specs.declared.command.Command.TheVariants as command
use Rattle.ccsl_command.specs.declared.usage.Usage.{Usage}
use Rattle.ccsl_command.specs.declared.usage.Usage.TheVariants as usage
use Rattle.ccsl_command.specs.Table.{key_text, keys_of}
use Rattle.ccsl_command.specs.Values.{Range, range_of, is_number, is_within, number_in, is_value}
use Rattle.ccsl_command.specs.Pairs.{is_pair, key_part, value_part, key_of, has_key, is_given, value_of}
use Rattle.ccsl_command.specs.Meaning.{meaning, named_meaning, pairs_meaning, key_fault, word_fault, first_fault, first_missing, has_same_name, command_of}
use Rattle.ccsl_command.specs.Meaning.{command_named, number_of}
use Rattle.std.specs.Option.{option_or}
use Rattle.ccsl_top.proofs.Names.{none-first}

-- the numbers that a trial may have
pub record IsTrial (clocks steps : ℕ) : Type 0 where
  pub least : MIN_TRIAL_CLOCKS ≤ clocks
  pub most : clocks ≤ MAX_TRIAL_CLOCKS
  pub few : steps ≤ MAX_TRIAL_STEPS

-- a number that is read is within its range
in-range : (range : Range) (text : List ℕ) → is_some (number_in range text) ≡ true →
    (range.least ≤ unwrap_or (number_in range text) 0) × (unwrap_or (number_in range text) 0 ≤ range.most)
in-range range text e = by-test (is_within range text) refl e
  where
    by-test : (t : Bool) → is_within range text ≡ t → is_some (cond t (Some (decimal_value text)) None) ≡ true →
        (range.least ≤ unwrap_or (cond t (Some (decimal_value text)) None) 0) × (unwrap_or (cond t (Some (decimal_value text)) None) 0 ≤ range.most)
    by-test true is e =
        let a = and_parts (is_number text && nat_le range.least (decimal_value text)) (nat_le (decimal_value text) range.most) is in
        let b = and_parts (is_number text) (nat_le range.least (decimal_value text)) a.0 in
        (leb-true range.least (decimal_value text) b.1, leb-true (decimal_value text) range.most a.1)
    by-test false is e = absurd (both_ways false refl e)

-- no fault of two
neither : (a b : Option Usage) → option_or a b ≡ None → (a ≡ None) × (b ≡ None)
neither (Some fault) b e = let clash : (let O : Option Usage = Some fault in O) ≡ None = e in absurd (cc)
neither None b e = (refl, e)

module _ (n : CommandName) (k : Key) (keyed : (word : List ℕ) → has_key k word ≡ true → key_of n word ≡ Some k) where
  -- a word with the key that is not at fault has a value of it
  word-value : (earlier : List (List ℕ)) (i : ℕ) (word : List ℕ) → has_key k word ≡ true → word_fault n earlier i word ≡ None
      → is_value n k (value_part word) ≡ true
  word-value earlier i word has e =
      let pair = (and_parts (is_pair word) (bytes_eq (key_text k) (key_part word)) has).0 in
      let fine : key_fault n earlier i word (key_of n word) ≡ None =
      sym (ap (λ t. cond t (key_fault n earlier i word (key_of n word)) (Some (usage.NotPair i))) pair) ∙ e in
      of-key (is_given k earlier) (is_value n k (value_part word)) (sym (ap (key_fault n earlier i word) (keyed word has)) ∙ fine)
    where
      of-key : (given value : Bool) → cond given (Some (usage.Repeated i)) (cond (not value) (Some (usage.BadValue i)) None) ≡ None → value ≡ true
      of-key true value e = let clash : (let O : Option Usage = Some (usage.Repeated i) in O) ≡ None = e in absurd (cc)
      of-key false true e = refl
      of-key false false e = let clash : (let O : Option Usage = Some (usage.BadValue i) in O) ≡ None = e in absurd (cc)

  given-value : (pairs earlier : List (List ℕ)) (i : ℕ) → first_fault n earlier i pairs ≡ None → is_given k pairs ≡ true
      → is_value n k (value_of k pairs) ≡ true
  given-value [] earlier i e given = absurd (both_ways false refl given)
  given-value (word ∷ words) earlier i e given =
      let fine = neither (word_fault n earlier i word) (first_fault n (earlier ++ word ∷ []) (i + 1) words) e in
      by-test (has_key k word) refl given fine.0 (λ g. given-value words (earlier ++ word ∷ []) (i + 1) fine.1 g)
    where
      by-test : (t : Bool) → has_key k word ≡ t → (t || is_given k words) ≡ true → word_fault n earlier i word ≡ None →
          (is_given k words ≡ true → is_value n k (value_of k words) ≡ true) → is_value n k (cond t (value_part word) (value_of k words)) ≡ true
      by-test true has g fine more = word-value earlier i word has fine
      by-test false has g fine more = more g

-- the key of a word is the one that its text says
text-is : (k : Key) (word : List ℕ) → has_key k word ≡ true → key_text k ≡ key_part word
text-is k word has = (bytes_eq-Decides (key_text k) (key_part word)).0 (and_parts (is_pair word) (bytes_eq (key_text k) (key_part word)) has).1

clocks-keyed : (word : List ℕ) → has_key key.Clocks word ≡ true → key_of name.Trial word ≡ Some key.Clocks
clocks-keyed word has = ap (λ text. find (λ k. bytes_eq (key_text k) text) (keys_of name.Trial)) (sym (text-is key.Clocks word has))

steps-keyed : (word : List ℕ) → has_key key.Steps word ≡ true → key_of name.Trial word ≡ Some key.Steps
steps-keyed word has = ap (λ text. find (λ k. bytes_eq (key_text k) text) (keys_of name.Trial)) (sym (text-is key.Steps word has))

module _ (clocks steps seed workers : ℕ) where
  abbrev wanted : Command
  wanted = command.Trial clocks steps seed workers

  given : (pairs : List (List ℕ)) → first_missing name.Trial pairs ≡ None → (is_given key.Clocks pairs ≡ true) × (is_given key.Steps pairs ≡ true)
  given pairs e =
      let f : Key → Bool = λ k. not (is_given k pairs) in
      let a = none-first f key.Clocks (key.Steps ∷ key.Seed ∷ key.Workers ∷ []) e in
      let b = none-first f key.Steps (key.Seed ∷ key.Workers ∷ []) a.1 in
      (not-false (is_given key.Clocks pairs) a.0, not-false (is_given key.Steps pairs) b.0)

  command-ranges : (n : CommandName) (pairs : List (List ℕ)) → first_fault n [] 1 pairs ≡ None → first_missing n pairs ≡ None → command_of n pairs ≡ wanted
      → IsTrial clocks steps
  command-ranges name.Check pairs fine missing e = let clash : command.Check (value_of key.Spec pairs) ≡ wanted = e in absurd (cc)
  command-ranges name.Simulate pairs fine missing e = absurd (cc)
  command-ranges name.Judge pairs fine missing e = absurd (cc)
  command-ranges name.Certify pairs fine missing e = absurd (cc)
  command-ranges name.Periodic pairs fine missing e = absurd (cc)
  command-ranges name.Explain pairs fine missing e = absurd (cc)
  command-ranges name.Session pairs fine missing e = absurd (cc)
  command-ranges name.Trial pairs fine missing e =
      let g = given pairs missing in
      let c = in-range (range_of name.Trial key.Clocks) (value_of key.Clocks pairs) (given-value name.Trial key.Clocks clocks-keyed pairs [] 1 fine g.0) in
      let s = in-range (range_of name.Trial key.Steps) (value_of key.Steps pairs) (given-value name.Trial key.Steps steps-keyed pairs [] 1 fine g.1) in
      let clocks-are : number_of name.Trial key.Clocks pairs ≡ clocks = cc in
      let steps-are : number_of name.Trial key.Steps pairs ≡ steps = cc in
      record {
        least = subst (λ n. MIN_TRIAL_CLOCKS ≤ n) clocks-are c.0;
        most = subst (λ n. n ≤ MAX_TRIAL_CLOCKS) clocks-are c.1;
        few = subst (λ n. n ≤ MAX_TRIAL_STEPS) steps-are s.1;
      }

  pairs-ranges : (n : CommandName) (pairs : List (List ℕ)) (fault : Option Usage) (missing : Option Key) → first_fault n [] 1 pairs ≡ fault
      → first_missing n pairs ≡ missing →
      pairs_meaning n pairs fault missing ≡ Ok wanted → IsTrial clocks steps
  pairs-ranges n pairs (Some fault) missing fine is e = let clash : (let R : Result Command Usage = Err fault in R) ≡ Ok wanted = e in absurd (cc)
  pairs-ranges n pairs None (Some k) fine is e = let clash : (let R : Result Command Usage = Err (usage.Missing k) in R) ≡ Ok wanted = e in absurd (cc)
  pairs-ranges n pairs None None fine is e = by-test (has_same_name pairs) e
    where
      ok-same : (d : Command) → (let R : Result Command Usage = Ok d in R) ≡ Ok wanted → d ≡ wanted
      ok-same d e = cc

      by-test : (t : Bool) → cond t (Err usage.SameName) (Ok (command_of n pairs)) ≡ Ok wanted → IsTrial clocks steps
      by-test true e = let clash : (let R : Result Command Usage = Err usage.SameName in R) ≡ Ok wanted = e in absurd (cc)
      by-test false e = command-ranges n pairs fine is (ok-same (command_of n pairs) e)

  named-ranges : (n : Option CommandName) (pairs : List (List ℕ)) → named_meaning n pairs ≡ Ok wanted → IsTrial clocks steps
  named-ranges None pairs e = let clash : (let R : Result Command Usage = Err usage.UnknownCommand in R) ≡ Ok wanted = e in absurd (cc)
  named-ranges (Some n) pairs e = pairs-ranges n pairs (first_fault n [] 1 pairs) (first_missing n pairs) refl refl e

  pub trial-ranges : (words : List (List ℕ)) → meaning words ≡ Ok (command.Trial clocks steps seed workers) → IsTrial clocks steps
  trial-ranges [] e = let clash : (let R : Result Command Usage = Err usage.NoCommand in R) ≡ Ok wanted = e in absurd (cc)
  trial-ranges (word ∷ pairs) e = named-ranges (command_named word) pairs e
