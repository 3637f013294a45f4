-- Lists that are filled with one value for each item of another, at place k.
use Rattle.std.proofs.Common.{◌≡◌, ℕ, ◌+◌, ◌<◌, ◌≤◌, List, [], ◌∷◌, ◌++◌, map, length, get_or, drop, sym, refl, ap, ◌∙◌}
use Rattle.circuit.specs.Tests.{Test}
use Rattle.testlog.specs.declared.test.Test.{Test as HeldTest}
use Rattle.testlog.specs.Held.{test_of}
use Rattle.std.proofs.lemmas.List.{append_assoc, append-nil, at_drop_more, at_drop_all}

module _ {X B : Type 0} (f : X → B) (xs : List X) where
  pub fill_more : (before after : List B) (k : ℕ) (d : X) (v : B) → k < length xs → after ≡ before ++ v ∷ [] → v ≡ f (get_or xs k d) → after ++ map f (drop (k + 1) xs) ≡ before ++ map f (drop k xs)
  fill_more before after k d v lt pushed is =
      ap (λ l. l ++ map f (drop (k + 1) xs)) pushed
      ∙ append_assoc before (v ∷ []) (map f (drop (k + 1) xs))
      ∙ ap (λ b. before ++ (b ∷ map f (drop (k + 1) xs))) is
      ∙ ap (λ l. before ++ l) (sym (at_drop_more (map f) xs k d lt))

  pub fill_all : (filled : List B) (k : ℕ) → length xs ≤ k → filled ++ map f (drop k xs) ≡ map f xs → filled ≡ map f xs
  fill_all filled k h inv = sym (append-nil filled) ∙ ap (λ l. filled ++ l) (sym (at_drop_all (map f) xs k h)) ∙ inv

-- a list of tests, and what is taken from each of them
pub map_test_of : {A : Type 0} (f : Test → A) (xs : List HeldTest) → map (λ x. f (test_of x)) xs ≡ map f (map test_of xs)
map_test_of f [] = refl
map_test_of f (x ∷ xs) = ap (λ l. f (test_of x) ∷ l) (map_test_of f xs)
