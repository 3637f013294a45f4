-- A map and the values measured give the outputs, and the outputs give them back.
use Rattle.std.proofs.Common.{◌≡◌, suc, ◌+◌, ◌≤◌, Bool, true, false, List, [], ◌∷◌, ◌++◌, map, length, take, drop, is_some, Some, None, Option, refl, ap, ◌∙◌, arith}
use Rattle.test_format.specs.Records.{measured, ones, filled}

pub ones_marks : (os : List (Option Bool)) → ones (map is_some os) ≡ length (measured os)
unfolding ones measured
ones_marks [] = refl
ones_marks (None ∷ os) = omega (arith, ones_marks os)
ones_marks (Some v ∷ os) = omega (arith, ones_marks os)

pub filled_measured : (os : List (Option Bool)) (rest : List Bool) → filled (map is_some os) (measured os ++ rest) ≡ os
unfolding filled measured
filled_measured [] rest = refl
filled_measured (None ∷ os) rest = ap (λ (l : List (Option Bool)). None ∷ l) (filled_measured os rest)
filled_measured (Some v ∷ os) rest = ap (λ (l : List (Option Bool)). Some v ∷ l) (filled_measured os rest)

pub marks_filled : (ms vs : List Bool) → map is_some (filled ms vs) ≡ ms
unfolding filled
marks_filled [] vs = refl
marks_filled (false ∷ ms) vs = ap (λ (l : List Bool). false ∷ l) (marks_filled ms vs)
marks_filled (true ∷ ms) vs = ap (λ (l : List Bool). true ∷ l) (marks_filled ms (drop 1 vs))

pub length_filled : (ms vs : List Bool) → length (filled ms vs) ≡ length ms
unfolding filled
length_filled [] vs = refl
length_filled (false ∷ ms) vs = ap suc (length_filled ms vs)
length_filled (true ∷ ms) vs = ap suc (length_filled ms (drop 1 vs))

pub measured_filled : (ms vs : List Bool) → ones ms ≤ length vs → measured (filled ms vs) ≡ take (ones ms) vs
unfolding filled measured ones
measured_filled [] vs h = refl
measured_filled (false ∷ ms) vs h =
    let e : ones ms ≡ 0 + ones ms = omega arith in
    measured_filled ms vs (omega arith) ∙ ap (λ n. take n vs) e
measured_filled (true ∷ ms) [] h = absurd (omega arith)
measured_filled (true ∷ ms) (v ∷ vs) h =
    let e : suc (ones ms) ≡ 1 + ones ms = omega arith in
    ap (λ (l : List Bool). v ∷ l) (measured_filled ms vs (omega arith)) ∙ ap (λ n. take n (v ∷ vs)) e
