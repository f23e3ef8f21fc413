-- The two files that `simulate` writes have different names.
use Rattle.std.proofs.Common.{◌≡◌, ◌≢◌, ℕ, List, [], ◌∷◌, Bool, true, false, not, ◌&&◌, ◌||◌, Option, Some, None, Result, Ok, Err, find, cond, refl, sym, ◌∙◌}
use Rattle.std.proofs.Common.{bytes_eq}
use Rattle.std.proofs.lemmas.Slice.Eq.{bytes_eq-Decides}
use Rattle.std.proofs.lemmas.Bool.{not-false, both_ways}
use Rattle.ccsl_command.specs.declared.table.CommandName.{CommandName}
use Rattle.ccsl_command.specs.declared.table.CommandName.TheVariants as name
use Rattle.ccsl_command.specs.declared.table.Key.{Key}
use Rattle.ccsl_command.specs.declared.table.Key.TheVariants as key
use Rattle.ccsl_command.specs.declared.table.PolicyName.{PolicyName}
use Rattle.ccsl_command.specs.declared.command.Command.{Command}
use Rattle.ccsl_command.specs.declared.command.Command.TheVariants as command
use Rattle.ccsl_command.specs.declared.usage.Usage.{Usage}
use Rattle.ccsl_command.specs.declared.usage.Usage.TheVariants as usage
use Rattle.ccsl_command.specs.Pairs.{is_given, value_of}
use Rattle.ccsl_command.specs.Meaning.{meaning, named_meaning, pairs_meaning, first_fault, first_missing, have_same_value, has_same_name, command_of}
use Rattle.ccsl_command.specs.Meaning.{command_named}

-- a key of those that all stand there stands there
pub none-first : (f : Key → Bool) (k : Key) (ks : List Key) → find f (k ∷ ks) ≡ None → (f k ≡ false) × (find f ks ≡ None)
none-first f k ks e = by-test (f k) refl e
  where
    by-test : (t : Bool) → f k ≡ t → cond t (Some k) (find f ks) ≡ None → (f k ≡ false) × (find f ks ≡ None)
    by-test true is e = let clash : Some k ≡ None = e in absurd (cc)
    by-test false is e = (is, e)

last-of-three : (a b c : Bool) → ((a || b) || c) ≡ false → c ≡ false
last-of-three true b c e = absurd (both_ways true e refl)
last-of-three false true c e = absurd (both_ways true e refl)
last-of-three false false c e = e

values-differ : (a b c : Bool) → a ≡ true → b ≡ true → ((a && b) && c) ≡ false → c ≡ false
values-differ true true c _ _ e = e
values-differ false b c e _ _ = absurd (both_ways false refl e)
values-differ true false c _ e _ = absurd (both_ways false refl e)

module _ (spec : List ℕ) (policy : PolicyName) (seed steps : ℕ) (trace cert : List ℕ) where
  abbrev wanted : Command
  wanted = command.Simulate spec policy seed steps trace cert

  -- both names are given
  given : (pairs : List (List ℕ)) → first_missing name.Simulate pairs ≡ None → (is_given key.Trace pairs ≡ true) × (is_given key.Cert pairs ≡ true)
  given pairs e =
      let f : Key → Bool = λ k. not (is_given k pairs) in
      let a = none-first f key.Spec (key.Policy ∷ key.Seed ∷ key.Steps ∷ key.Trace ∷ key.Cert ∷ []) e in
      let b = none-first f key.Policy (key.Seed ∷ key.Steps ∷ key.Trace ∷ key.Cert ∷ []) a.1 in
      let c = none-first f key.Seed (key.Steps ∷ key.Trace ∷ key.Cert ∷ []) b.1 in
      let d = none-first f key.Steps (key.Trace ∷ key.Cert ∷ []) c.1 in
      let t = none-first f key.Trace (key.Cert ∷ []) d.1 in
      let u = none-first f key.Cert [] t.1 in
      (not-false (is_given key.Trace pairs) t.0, not-false (is_given key.Cert pairs) u.0)

  command-differs : (n : CommandName) (pairs : List (List ℕ)) → first_missing n pairs ≡ None → has_same_name pairs ≡ false → command_of n pairs ≡ wanted
      → trace ≢ cert
  command-differs name.Check pairs missing differ e = let clash : command.Check (value_of key.Spec pairs) ≡ wanted = e in absurd (cc)
  command-differs name.Judge pairs missing differ e = absurd (cc)
  command-differs name.Certify pairs missing differ e = absurd (cc)
  command-differs name.Trial pairs missing differ e = absurd (cc)
  command-differs name.Periodic pairs missing differ e = absurd (cc)
  command-differs name.Explain pairs missing differ e = absurd (cc)
  command-differs name.Session pairs missing differ e = absurd (cc)
  command-differs name.Simulate pairs missing differ e =
      let g = given pairs missing in
      let apart : bytes_eq (value_of key.Trace pairs) (value_of key.Cert pairs) ≡ false =
      values-differ (is_given key.Trace pairs) (is_given key.Cert pairs) (bytes_eq (value_of key.Trace pairs) (value_of key.Cert pairs)) g.0 g.1
      (last-of-three (have_same_value key.Spec key.Trace pairs) (have_same_value key.Spec key.Cert pairs) (have_same_value key.Trace key.Cert pairs) differ) in
      let trace-is : value_of key.Trace pairs ≡ trace = cc in
      let cert-is : value_of key.Cert pairs ≡ cert = cc in
      λ same. absurd (both_ways (bytes_eq (value_of key.Trace pairs) (value_of key.Cert pairs)) apart
      ((bytes_eq-Decides (value_of key.Trace pairs) (value_of key.Cert pairs)).1 (trace-is ∙ same ∙ sym cert-is)))

  pairs-differ : (n : CommandName) (pairs : List (List ℕ)) (fault : Option Usage) (missing : Option Key) → first_missing n pairs ≡ missing →
      pairs_meaning n pairs fault missing ≡ Ok wanted → trace ≢ cert
  pairs-differ n pairs (Some fault) missing is e = let clash : (let R : Result Command Usage = Err fault in R) ≡ Ok wanted = e in absurd (cc)
  pairs-differ n pairs None (Some k) is e = let clash : (let R : Result Command Usage = Err (usage.Missing k) in R) ≡ Ok wanted = e in absurd (cc)
  pairs-differ n pairs None None is e = by-test (has_same_name pairs) refl e
    where
      ok-same : (d : Command) → (let R : Result Command Usage = Ok d in R) ≡ Ok wanted → d ≡ wanted
      ok-same d e = cc

      by-test : (t : Bool) → has_same_name pairs ≡ t → cond t (Err usage.SameName) (Ok (command_of n pairs)) ≡ Ok wanted → trace ≢ cert
      by-test true same e = let clash : (let R : Result Command Usage = Err usage.SameName in R) ≡ Ok wanted = e in absurd (cc)
      by-test false same e = command-differs n pairs is same (ok-same (command_of n pairs) e)

  named-differ : (n : Option CommandName) (pairs : List (List ℕ)) → named_meaning n pairs ≡ Ok wanted → trace ≢ cert
  named-differ None pairs e = let clash : (let R : Result Command Usage = Err usage.UnknownCommand in R) ≡ Ok wanted = e in absurd (cc)
  named-differ (Some n) pairs e = pairs-differ n pairs (first_fault n [] 1 pairs) (first_missing n pairs) refl e

  pub names-differ : (words : List (List ℕ)) → meaning words ≡ Ok (command.Simulate spec policy seed steps trace cert) → trace ≢ cert
  names-differ [] e = let clash : (let R : Result Command Usage = Err usage.NoCommand in R) ≡ Ok wanted = e in absurd (cc)
  names-differ (word ∷ pairs) e = named-differ (command_named word) pairs e
