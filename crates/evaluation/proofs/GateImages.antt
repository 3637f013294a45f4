-- The image of a gate's function: every bit that its operands' bits give, and no other.
use Rattle.std.proofs.Common.{◌≡◌, Bool, true, false, List, [], ◌∷◌, sym, refl, ◌∙◌, subst, ⊎_elim}
use Rattle.std.proofs.lemmas.Bool.{or_cases}
use Rattle.signal_value.specs.Possible.{Possible, only, both, includes}
use Rattle.signal_value.proofs.Included.{beq_refl, beq_same, includes_either, either_left, either_right}
use Rattle.evaluation.specs.Gates.{image_of, Among}
use Rattle.evaluation.specs.EvaluationLaws.{GateLaw}

pub image_every : (f : List Bool → Bool) (Ps : List Possible) (bs : List Bool) → Among Ps bs → includes (image_of f Ps) (f bs) ≡ true
image_every f [] [] a = beq_refl (f [])
image_every f [] (b ∷ bs) a = absurd a
image_every f (P ∷ Ps) [] a = absurd a
image_every f (only p ∷ Ps) (b ∷ bs) a = subst (λ (v : Bool). includes (image_of (λ cs. f (p ∷ cs)) Ps) (f (v ∷ bs)) ≡ true) (beq_same p b a.0) (image_every (λ cs. f (p ∷ cs)) Ps bs a.1)
image_every f (both ∷ Ps) (true ∷ bs) a = either_right (image_of (λ cs. f (false ∷ cs)) Ps) (image_of (λ cs. f (true ∷ cs)) Ps) (f (true ∷ bs)) (image_every (λ cs. f (true ∷ cs)) Ps bs a.1)
image_every f (both ∷ Ps) (false ∷ bs) a = either_left (image_of (λ cs. f (false ∷ cs)) Ps) (image_of (λ cs. f (true ∷ cs)) Ps) (f (false ∷ bs)) (image_every (λ cs. f (false ∷ cs)) Ps bs a.1)

pub image_no_other : (f : List Bool → Bool) (Ps : List Possible) (x : Bool) → includes (image_of f Ps) x ≡ true → (bs : List Bool) × Among Ps bs × (f bs ≡ x)
image_no_other f [] x e = ([], tt, beq_same (f []) x e)
image_no_other f (only p ∷ Ps) x e = let (bs, a, is) = image_no_other (λ cs. f (p ∷ cs)) Ps x e in (p ∷ bs, (beq_refl p, a), is)
image_no_other f (both ∷ Ps) x e =
    ⊎_elim
    (λ l. let (bs, a, is) = image_no_other (λ cs. f (false ∷ cs)) Ps x l in (false ∷ bs, (refl, a), is))
    (λ r. let (bs, a, is) = image_no_other (λ cs. f (true ∷ cs)) Ps x r in (true ∷ bs, (refl, a), is))
    (or_cases (includes (image_of (λ cs. f (false ∷ cs)) Ps) x) (includes (image_of (λ cs. f (true ∷ cs)) Ps) x) (sym (includes_either (image_of (λ cs. f (false ∷ cs)) Ps) (image_of (λ cs. f (true ∷ cs)) Ps) x) ∙ e))

pub gate_law : GateLaw
gate_law f Ps x = (image_no_other f Ps x, λ t. let (bs, a, is) = t in subst (λ (v : Bool). includes (image_of f Ps) v ≡ true) is (image_every f Ps bs a))
