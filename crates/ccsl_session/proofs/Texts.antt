-- The texts of answers, one part after another.
use Rattle.std.proofs.Common.{◌≡◌, ℕ, ◌+◌, ◌<◌, List, [], ◌∷◌, ◌++◌, length, take, codes, slice_get, get_or, Some, sym, ap, ◌∙◌, arith, append_assoc}
use Rattle.std.proofs.Common.{length-take}
use Rattle.std.proofs.lemmas.List.{take_more}
use Rattle.std.proofs.lemmas.Option.{get_or_from_slice_get}
use Rattle.ccsl_kernel.specs.Syntax.{System}
use Rattle.ccsl_kernel.specs.Lives.{Step}
use Rattle.ccsl_kernel.specs.Runs.{full_step, completed}
use Rattle.ccsl_kernel.proofs.Completion.{length-completed}
use Rattle.ccsl_vcd_write.specs.Text.{vcd_text, step_text}
use Rattle.ccsl_vcd_write.proofs.Growing.{trace-snoc}
use Rattle.ccsl_session.specs.Answers.{blank_names}
use Rattle.ccsl_session.proofs.Stacks.{completed-snoc}

-- the name of one clock more
pub names-more : (K : System) (x : ℕ) (rest out name : List ℕ) → slice_get K.names x ≡ Some name
    → (out ++ codes " " ++ name) ++ blank_names K rest ≡ out ++ blank_names K (x ∷ rest)
names-more K x rest out name e =
    ap (λ bs. bs ++ blank_names K rest) (append_assoc out (codes " ") name)
    ∙ append_assoc out (codes " " ++ name) (blank_names K rest)
    ∙ ap (λ bs. out ++ (codes " " ++ bs ++ blank_names K rest)) (sym (get_or_from_slice_get K.names x name [] e))

-- the trace of a run with one set more
pub trace-more : (K : System) (R : List Step) (n : ℕ) (s full : Step) → n < length R → s ≡ get_or R n s → full ≡ full_step K (completed K (take n R)) s →
    vcd_text K (completed K (take n R)) ++ step_text n K full ≡ vcd_text K (completed K (take (n + 1) R))
trace-more K R n s full l at is =
    let T = completed K (take n R) in
    let count : length T ≡ n = omega (arith, length-completed K (take n R) [], length-take n R) in
    let next : completed K (take (n + 1) R) ≡ T ++ full ∷ [] =
    ap (completed K) (take_more R n s l ∙ ap (λ x. take n R ++ x ∷ []) (sym at)) ∙ completed-snoc K (take n R) s ∙ ap (λ f. T ++ f ∷ []) (sym is) in
    ap (λ k. vcd_text K T ++ step_text k K full) (sym count) ∙ sym (ap (vcd_text K) next ∙ trace-snoc K T full)
