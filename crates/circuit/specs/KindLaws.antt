-- What the kinds compute, in words.
--   KindsAsNamed   AND is 1 just if every operand is, OR if some operand is, XOR if an odd number of them is; NAND, NOR and XNOR are their inverses, NOT inverts its operand
use Rattle.std.specs.Prelude.{◌≡◌, ℕ, ◌+◌, ◌%◌, ◌<◌, Bool, true, false, cond, not, ◌↔◌, List, [], ◌∷◌, length, slice_index_or}
use Rattle.circuit.specs.declared.kind.Kind.TheVariants.{And, Or, Nand, Nor, Xor, Xnor, Not}
use Rattle.circuit.specs.Kinds.{gives}

-- how many of these are 1
abbrev pub ones : List Bool → ℕ
ones [] = 0
ones (b ∷ bs) = cond b 1 0 + ones bs

pub record KindsAsNamed : Type 0 where
  pub and : (bs : List Bool) → (gives And bs ≡ true) ↔ ((i : ℕ) → i < length bs → slice_index_or bs i false ≡ true)
  pub or : (bs : List Bool) → (gives Or bs ≡ true) ↔ ((i : ℕ) × (i < length bs) × (slice_index_or bs i false ≡ true))
  pub xor : (bs : List Bool) → (gives Xor bs ≡ true) ↔ (ones bs % 2 ≡ 1)
  pub nand : (bs : List Bool) → gives Nand bs ≡ not (gives And bs)
  pub nor : (bs : List Bool) → gives Nor bs ≡ not (gives Or bs)
  pub xnor : (bs : List Bool) → gives Xnor bs ≡ not (gives Xor bs)
  pub inverter : (b : Bool) → gives Not (b ∷ []) ≡ not b
