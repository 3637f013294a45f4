-- Each kind's operands, combined by its connective and perhaps inverted, give the image of the kind's function.
use Rattle.std.proofs.Common.{◌≡◌, ℕ, ◌+◌, ◌<◌, ◌≤◌, Bool, cond, not, List, map, length, get_or, drop, sym, ap, ◌∙◌}
use Rattle.std.proofs.lemmas.List.{at_drop_more, at_drop_all}
use Rattle.circuit.specs.declared.gate.Signal.{Signal}
use Rattle.circuit.specs.declared.kind.Kind.{Kind}
use Rattle.circuit.specs.declared.kind.Kind.TheVariants.{And, Or, Nand, Nor, Xor, Xnor, Not}
use Rattle.circuit.specs.Kinds.{gives}
use Rattle.signal_value.specs.Possible.{Possible, only, image, image2}
use Rattle.signal_value.specs.Law.{Follows2}
use Rattle.signal_value.proofs.Images.{follows_image2}
use Rattle.evaluation.specs.Gates.{image_of}
use Rattle.evaluation.proofs.Folded.{combined, combined_possible, combined_is_image, image_last, combined_and, combined_or, combined_xor}
use Rattle.evaluate.specs.declared.connective.Connective.{Connective}
use Rattle.evaluate.specs.declared.connective.Connective.TheVariants as connective
use Rattle.evaluate.specs.Connectives.{connective_of, inverts, joins, neutral}

-- what a connective combines possible bits to
abbrev pub whole : Connective → List Possible → Possible
whole c Ps = combined_possible (joins c) (only (neutral c)) Ps

-- a function of all the bits that is what the connective combines them to
whole_image : (c : Connective) (f : List Bool → Bool) (Ps : List Possible) → ((bs : List Bool) → combined (joins c) (neutral c) bs ≡ f bs) → whole c Ps ≡ image_of f Ps
whole_image c f Ps same = combined_is_image (joins c) (neutral c) Ps ∙ (λ i. image_of (λ bs. same bs i) Ps)

whole_inverse : (c : Connective) (f : List Bool → Bool) (Ps : List Possible) → ((bs : List Bool) → combined (joins c) (neutral c) bs ≡ f bs) → image not (whole c Ps) ≡ image_of (λ bs. not (f bs)) Ps
whole_inverse c f Ps same = ap (image not) (whole_image c f Ps same) ∙ image_last not f Ps

pub kind_image : (k : Kind) (Ps : List Possible) → cond (inverts k) (image not (whole (connective_of k) Ps)) (whole (connective_of k) Ps) ≡ image_of (gives k) Ps
kind_image And Ps = whole_image connective.And (gives And) Ps combined_and
kind_image Or Ps = whole_image connective.Or (gives Or) Ps combined_or
kind_image Nand Ps = whole_inverse connective.And (gives And) Ps combined_and
kind_image Nor Ps = whole_inverse connective.Or (gives Or) Ps combined_or
kind_image Xor Ps = whole_image connective.Xor (gives Xor) Ps combined_xor
kind_image Xnor Ps = whole_inverse connective.Xor (gives Xor) Ps combined_xor
kind_image Not Ps = whole_inverse connective.Or (gives Or) Ps combined_or

-- ── the loop that combines operand after operand, at place k ──
pub join_more :
    (c : Connective) (S : Signal → Possible) (A V R : Possible) (os : List Signal) (k : ℕ) (d : Signal) → k < length os → V ≡ S (get_or os k d) → Follows2 (joins c) A V R
    → combined_possible (joins c) R (map S (drop (k + 1) os)) ≡ combined_possible (joins c) A (map S (drop k os))
join_more c S A V R os k d lt is law =
    let step : combined_possible (joins c) A (map S (drop k os)) ≡ combined_possible (joins c) (image2 (joins c) A (S (get_or os k d))) (map S (drop (k + 1) os)) = at_drop_more (λ l. combined_possible (joins c) A (map S l)) os k d lt in
    ap (λ P. combined_possible (joins c) P (map S (drop (k + 1) os))) (follows_image2 (joins c) A V R law ∙ ap (image2 (joins c) A) is) ∙ sym step

pub join_all : (c : Connective) (S : Signal → Possible) (A : Possible) (os : List Signal) (k : ℕ) → length os ≤ k → combined_possible (joins c) A (map S (drop k os)) ≡ A
join_all c S A os k h = at_drop_all (λ l. combined_possible (joins c) A (map S l)) os k h

-- what the operands combine to, inverted if the kind inverts, is the image of the kind's function
pub joined_image :
    (k : Kind) (c : Connective) (S : Signal → Possible) (os listed : List Signal) (A R : Possible) (turned : Bool)
    → c ≡ connective_of k → os ≡ listed → A ≡ whole c (map S os) → turned ≡ inverts k → R ≡ cond turned (image not A) A → R ≡ image_of (gives k) (map S listed)
joined_image k c S os listed A R turned by same is inverted r =
    let combined-to : A ≡ whole (connective_of k) (map S listed) = is ∙ (λ i. whole (by i) (map S (same i))) in
    r ∙ (λ i. cond (inverted i) (image not (combined-to i)) (combined-to i)) ∙ kind_image k (map S listed)
