-- Combining the operands one after another gives the image of the gate's whole function.
use Rattle.std.proofs.Common.{◌≡◌, Bool, true, false, cond, not, ◌&&◌, ◌||◌, List, [], ◌∷◌, sym, refl, ap, ◌∙◌}
use Rattle.circuit.specs.Kinds.{odd}
use Rattle.std.specs.List.{list_all, list_any}
use Rattle.signal_value.specs.Possible.{Possible, only, both, either, image, image2}
use Rattle.signal_value.specs.Law.{xor}
use Rattle.evaluation.specs.Gates.{image_of}

-- bits, and possible bits, combined from the left
abbrev pub combined : (Bool → Bool → Bool) → Bool → List Bool → Bool
combined f a [] = a
combined f a (b ∷ bs) = combined f (f a b) bs

abbrev pub combined_possible : (Bool → Bool → Bool) → Possible → List Possible → Possible
combined_possible f A [] = A
combined_possible f A (P ∷ Ps) = combined_possible f (image2 f A P) Ps

-- ── one or the other ──
either_comm : (P Q : Possible) → either P Q ≡ either Q P
either_comm both both = refl
either_comm both (only q) = refl
either_comm (only p) both = refl
either_comm (only true) (only true) = refl
either_comm (only true) (only false) = refl
either_comm (only false) (only true) = refl
either_comm (only false) (only false) = refl

either_self : (P : Possible) → either P P ≡ P
either_self both = refl
either_self (only true) = refl
either_self (only false) = refl

either_first : (P Q : Possible) → either (either P Q) P ≡ either P Q
either_first both Q = refl
either_first (only p) both = refl
either_first (only true) (only true) = refl
either_first (only true) (only false) = refl
either_first (only false) (only true) = refl
either_first (only false) (only false) = refl

either_second : (P Q : Possible) → either (either P Q) Q ≡ either P Q
either_second P Q = ap (λ R. either R Q) (either_comm P Q) ∙ either_first Q P ∙ either_comm Q P

-- ── an operation on one or the other ──
image2_either : (f : Bool → Bool → Bool) (A B P : Possible) → image2 f (either A B) P ≡ either (image2 f A P) (image2 f B P)
image2_either f (only true) (only true) P = sym (either_self (image (f true) P))
image2_either f (only true) (only false) P = either_comm (image (f false) P) (image (f true) P)
image2_either f (only false) (only true) P = refl
image2_either f (only false) (only false) P = sym (either_self (image (f false) P))
image2_either f both both P = sym (either_self (either (image (f false) P) (image (f true) P)))
image2_either f both (only true) P = sym (either_second (image (f false) P) (image (f true) P))
image2_either f both (only false) P = sym (either_first (image (f false) P) (image (f true) P))
image2_either f (only true) both P = sym (either_second (image (f false) P) (image (f true) P)) ∙ either_comm (either (image (f false) P) (image (f true) P)) (image (f true) P)
image2_either f (only false) both P = sym (either_first (image (f false) P) (image (f true) P)) ∙ either_comm (either (image (f false) P) (image (f true) P)) (image (f false) P)

combined_either : (f : Bool → Bool → Bool) (A B : Possible) (Ps : List Possible) → combined_possible f (either A B) Ps ≡ either (combined_possible f A Ps) (combined_possible f B Ps)
combined_either f A B [] = refl
combined_either f A B (P ∷ Ps) = ap (λ R. combined_possible f R Ps) (image2_either f A B P) ∙ combined_either f (image2 f A P) (image2 f B P) Ps

pub combined_is_image : (f : Bool → Bool → Bool) (a : Bool) (Ps : List Possible) → combined_possible f (only a) Ps ≡ image_of (combined f a) Ps
combined_is_image f a [] = refl
combined_is_image f a (only p ∷ Ps) = combined_is_image f (f a p) Ps
combined_is_image f a (both ∷ Ps) =
    combined_either f (only (f a false)) (only (f a true)) Ps
    ∙ (λ i. either (combined_is_image f (f a false) Ps i) (combined_is_image f (f a true) Ps i))

-- ── a function applied last ──
image_either : (k : Bool → Bool) (A B : Possible) → image k (either A B) ≡ either (image k A) (image k B)
image_either k (only true) (only true) = sym (either_self (only (k true)))
image_either k (only true) (only false) = either_comm (only (k false)) (only (k true))
image_either k (only false) (only true) = refl
image_either k (only false) (only false) = sym (either_self (only (k false)))
image_either k both both = sym (either_self (either (only (k false)) (only (k true))))
image_either k both (only true) = sym (either_second (only (k false)) (only (k true)))
image_either k both (only false) = sym (either_first (only (k false)) (only (k true)))
image_either k (only true) both = sym (either_second (only (k false)) (only (k true))) ∙ either_comm (either (only (k false)) (only (k true))) (only (k true))
image_either k (only false) both = sym (either_first (only (k false)) (only (k true))) ∙ either_comm (either (only (k false)) (only (k true))) (only (k false))

pub image_last : (k : Bool → Bool) (h : List Bool → Bool) (Ps : List Possible) → image k (image_of h Ps) ≡ image_of (λ bs. k (h bs)) Ps
image_last k h [] = refl
image_last k h (only p ∷ Ps) = image_last k (λ bs. h (p ∷ bs)) Ps
image_last k h (both ∷ Ps) =
    image_either k (image_of (λ bs. h (false ∷ bs)) Ps) (image_of (λ bs. h (true ∷ bs)) Ps)
    ∙ (λ i. either (image_last k (λ bs. h (false ∷ bs)) Ps i) (image_last k (λ bs. h (true ∷ bs)) Ps i))

-- ── bits combined from the left are all of them, some of them, or an odd number of them ──
and_all : (a : Bool) (bs : List Bool) → combined ◌&&◌ a bs ≡ (a && list_all (λ b. b) bs)
and_all true [] = refl
and_all false [] = refl
and_all true (b ∷ bs) = and_all b bs
and_all false (b ∷ bs) = and_all false bs

pub combined_and : (bs : List Bool) → combined ◌&&◌ true bs ≡ list_all (λ b. b) bs
combined_and bs = and_all true bs

or_any : (a : Bool) (bs : List Bool) → combined ◌||◌ a bs ≡ (a || list_any (λ b. b) bs)
or_any true [] = refl
or_any false [] = refl
or_any true (b ∷ bs) = or_any true bs
or_any false (b ∷ bs) = or_any b bs

pub combined_or : (bs : List Bool) → combined ◌||◌ false bs ≡ list_any (λ b. b) bs
combined_or bs = or_any false bs

xor_odd : (a : Bool) (bs : List Bool) → combined xor a bs ≡ cond a (not (odd bs)) (odd bs)
xor_odd true [] = refl
xor_odd false [] = refl
xor_odd true (true ∷ bs) = xor_odd false bs ∙ not-not (odd bs)
  where
    not-not : (b : Bool) → b ≡ not (not b)
    not-not true = refl
    not-not false = refl
xor_odd true (false ∷ bs) = xor_odd true bs
xor_odd false (true ∷ bs) = xor_odd true bs
xor_odd false (false ∷ bs) = xor_odd false bs

pub combined_xor : (bs : List Bool) → combined xor false bs ≡ odd bs
combined_xor bs = xor_odd false bs
