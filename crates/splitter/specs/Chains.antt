-- A clause broken into threes by fresh variables.
--   chain   the literals left, after a value that stands for those before: two end the chain, and of more the first goes with a
--               fresh variable that stands, turned, for it and all before in the rest of the chain
--   in_threes   whether the threes of a clause are true in a row, its fresh variables being those after last
--   Split       what the threes of a clause make of the solver below
use Rattle.std.specs.Prelude.{◌≡◌, ℕ, suc, ◌+◌, Bool, true, false, not, ◌&&◌, ◌||◌, List, [], ◌∷◌, length, ℤ, None}
use Rattle.solver.specs.Rows.{Row, holds, price}
use Rattle.solver.specs.Meaning.{Meaning}

abbrev pub chain : Row → Bool → List ℤ → ℕ → Bool
chain row h [] last = h
chain row h (x ∷ []) last = h || holds row x
chain row h (x ∷ (y ∷ [])) last = h || (holds row x || holds row y)
chain row h (x ∷ (y ∷ (z ∷ zs))) last = (h || (holds row x || row (suc last))) && chain row (not (row (suc last))) (y ∷ (z ∷ zs)) (suc last)

abbrev pub in_threes : Row → List ℤ → ℕ → Bool
in_threes row [] last = false
in_threes row (x ∷ xs) last = chain row (holds row x) xs last

pub record Split (m : Meaning) (c : List ℤ) (last : ℕ) (n : Meaning) : Type 0 where
  pub sizes : n.sizes ≡ m.sizes
  pub vars : n.vars ≡ m.vars
  pub only : (row : Row) → n.allowed row → m.allowed row × (in_threes row c last ≡ true)
  pub each : (row : Row) → m.allowed row → in_threes row c last ≡ true → n.allowed row
  pub room : n.room + price (length c) ≡ m.room
  pub shown : n.shown ≡ None
