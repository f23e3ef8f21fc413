use Rattle.std.proofs.Common.{◌≡◌, ℕ, List, [], ◌∷◌, ◌++◌, Some, sym, ap, ◌∙◌, append_assoc}
use Rattle.std.specs.Prelude.{codes}
use Rattle.std.specs.Option.{option_copied}
use Rattle.ccsl_events.specs.Written.{timescale_line}
use Rattle.ccsl_events.proofs.output.put_timescale.Goals as goal

line-text : (scale : List ℕ) → timescale_line (Some scale) ≡ codes "$timescale " ++ (scale ++ codes " $end\n")
line-text scale =
    append_assoc (codes "$timescale ") (scale ++ codes " $end") (10 ∷ [])
    ∙ ap (λ (xs : List ℕ). codes "$timescale " ++ xs) (append_assoc scale (codes " $end") (10 ∷ []))

one-line : (out scale x y z : List ℕ) → x ≡ out ++ codes "$timescale " → y ≡ x ++ scale → z ≡ y ++ codes " $end\n" → z ≡ out ++ timescale_line (Some scale)
one-line out scale x y z e f g =
    g ∙ ap (λ (xs : List ℕ). xs ++ codes " $end\n") (f ∙ ap (λ (xs : List ℕ). xs ++ scale) e)
    ∙ append_assoc (out ++ codes "$timescale ") scale (codes " $end\n") ∙ append_assoc out (codes "$timescale ") (scale ++ codes " $end\n")
    ∙ ap (λ (xs : List ℕ). out ++ xs) (sym (line-text scale))

pub returns-in_ok-extend_from_slice-3 : goal.returns-in_ok-extend_from_slice-3
returns-in_ok-extend_from_slice-3 c =
    one-line c.args.out.now.items c.in-Some.scale.now _ _ _ c.in_ok-extend_from_slice.ensures.items c.in_ok-extend_from_slice-2.ensures.items
    c.in_ok-extend_from_slice-3.ensures.items
    ∙ ap (λ t. c.args.out.now.items ++ timescale_line (option_copied t)) (sym c.in-Some.is)
