-- What `periodic` answers is one.
use Rattle.std.proofs.Common.{◌≡◌, ℕ, ◌+◌, ◌<◌, ◌≤◌, List, ⊎_elim, refl, sym, ap, ap₂, ◌∙◌, arith}
use Rattle.std.proofs.lemmas.Bool.{cases_lt, false≢true}
use Rattle.ccsl_words.specs.Word.{BinaryWord, letter}
use Rattle.ccsl_words.specs.Spelling.{spelling}
use Rattle.ccsl_command.specs.declared.table.RelationName.{RelationName}
use Rattle.ccsl_command.specs.declared.table.RelationName.TheVariants as name
use Rattle.ccsl_periodic.specs.declared.between.Between.{Between}
use Rattle.ccsl_periodic.specs.declared.between.Between.TheVariants.{Precedes, Subclock, Excludes}
use Rattle.ccsl_periodic.specs.Failures.{IsFirstFailure}
use Rattle.ccsl_periodic.specs.Laws.{CanonicalWordsAreOne, PlainLengthsAreOne}
use Rattle.ccsl_report.specs.Texts.{periodic_holds_text, periodic_fails_text, periodic_word_text, periodic_long_text}
use Rattle.ccsl_top.specs.Outcome.{Outcome, outcome}
use Rattle.ccsl_top.specs.Periodic.{IsWritten, IsRelated, holds, fails, IsFiltered, word, long, IsPeriodicOutcome}

module _ (between : Between) (u v : BinaryWord) where
  first-one : (j k : ℕ) → IsFirstFailure between u v j → IsFirstFailure between u v k → j ≡ k
  first-one j k a b = ⊎_elim
      (λ (l : j < k). absurd (false≢true (sym (b.least j l) ∙ a.fails)))
      (λ (m : k ≤ j). ⊎_elim
      (λ (l : k < j). absurd (false≢true (sym (a.least k l) ∙ b.fails)))
      (λ (n : j ≤ k). omega (arith, m, n))
      (cases_lt k j))
      (cases_lt j k)

module _ (canonical : CanonicalWordsAreOne) (plain : PlainLengthsAreOne) where
  written-one : (w x : BinaryWord) → ((k : ℕ) → letter w k ≡ letter x k) → (s t : List ℕ) → IsWritten w s → IsWritten x t → s ≡ t
  written-one w x same s t a b = a.spelled ∙ ap spelling (canonical w x a.canonical b.canonical same a.is b.is) ∙ sym b.spelled

  module _ (u v : BinaryWord) where
    related-one : (relation : RelationName) (between : Between) (o p : Outcome) → IsRelated u v relation between o → IsRelated u v relation between p → o ≡ p
    related-one relation between o p (holds never l r ls rs is) (holds never' l' r' ls' rs' is') =
        is ∙ ap₂ (λ x y. outcome 0 (periodic_holds_text x y relation)) (written-one u u (λ k. refl) l l' ls ls') (written-one v v (λ k. refl) r r' rs rs')
        ∙ sym is'
    related-one relation between o p (holds never l r ls rs is) (fails k first l' r' ls' rs' is') = absurd (false≢true (sym (never k) ∙ first.fails))
    related-one relation between o p (fails k first l r ls rs is) (holds never l' r' ls' rs' is') = absurd (false≢true (sym (never k) ∙ first.fails))
    related-one relation between o p (fails k first l r ls rs is) (fails j first' l' r' ls' rs' is') =
        is ∙ ap₂ (λ x y. outcome 1 (periodic_fails_text x y relation (k + 1))) (written-one u u (λ k. refl) l l' ls ls')
        (written-one v v (λ k. refl) r r' rs rs')
        ∙ ap (λ n. outcome 1 (periodic_fails_text l' r' relation (n + 1))) (first-one between u v k j first first') ∙ sym is'

    filtered-one : (o p : Outcome) → IsFiltered u v o → IsFiltered u v p → o ≡ p
    filtered-one o p (word n pn short w on text ts is) (word n' pn' short' w' on' text' ts' is') =
        is ∙ ap (λ t. outcome 0 (periodic_word_text t)) (written-one w w' (λ k. on.letters k ∙ sym (on'.letters k)) text text' ts ts') ∙ sym is'
    filtered-one o p (word n pn short w on text ts is) (long m pm many is') = let e = plain u v n m pn pm in absurd (omega (arith, e, short, many))
    filtered-one o p (long m pm many is) (word n pn short w on text ts is') = let e = plain u v n m pn pm in absurd (omega (arith, e, short, many))
    filtered-one o p (long m pm many is) (long n pn many' is') = is ∙ ap (λ k. outcome 1 (periodic_long_text k)) (plain u v m n pm pn) ∙ sym is'

    pub periodic-one : (relation : RelationName) (o p : Outcome) → IsPeriodicOutcome u v relation o → IsPeriodicOutcome u v relation p → o ≡ p
    periodic-one name.Precedes o p a b = related-one name.Precedes Precedes o p a b
    periodic-one name.Subclock o p a b = related-one name.Subclock Subclock o p a b
    periodic-one name.Excludes o p a b = related-one name.Excludes Excludes o p a b
    periodic-one name.On o p a b = filtered-one o p a b
