-- What is left of a width and a room after clauses were weighed against them.
--   Left      the room that clauses leave, if all of them fit; none if one did not, or had not before
--   Weighed   a scale on which they were weighed
use Rattle.std.specs.Prelude.{◌≡◌, ℕ, ◌+◌, ◌≤◌, ⊤, List, ℤ, Some, None, Option}
use Rattle.cnf_theory.specs.Sizes.{prices, longest}
use Rattle.lister.specs.declared.scale.Scale.{Scale}

abbrev pub Left : ℕ → Option ℕ → List (List ℤ) → Option ℕ → Type 0
Left width room cs (Some left) = (longest cs ≤ width) × (room ≡ Some (left + prices cs))
Left width (Some room) cs None = ¬ ((longest cs ≤ width) × (prices cs ≤ room))
Left width None cs None = ⊤

pub record Weighed (s : Scale) (cs : List (List ℤ)) (t : Scale) : Type 0 where
  pub width : t.width ≡ s.width
  pub left : Left s.width s.room cs t.room
