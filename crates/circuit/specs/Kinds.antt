-- The kinds of gates.
--   takes   whether a kind takes so many operands
--   gives   what a gate of a kind gives for its operands' values
use Rattle.std.specs.Prelude.{ℕ, Bool, false, cond, not, ◌&&◌, List, [], ◌∷◌, ◌==◌, nat_le}
use Rattle.circuit.specs.declared.kind.Kind.{Kind}
use Rattle.circuit.specs.declared.kind.Kind.TheVariants.{And, Or, Nand, Nor, Xor, Xnor, Not}
use Rattle.std.specs.List.{list_all, list_any}

-- from 2 to 8
abbrev pub several : ℕ → Bool
several n = nat_le 2 n && nat_le n 8

abbrev pub takes : Kind → ℕ → Bool
takes And n = several n
takes Or n = several n
takes Nand n = several n
takes Nor n = several n
takes Xor n = n == 2
takes Xnor n = n == 2
takes Not n = n == 1

-- whether the number of ones is odd
abbrev pub odd : List Bool → Bool
odd [] = false
odd (b ∷ bs) = cond b (not (odd bs)) (odd bs)

abbrev pub gives : Kind → List Bool → Bool
gives And bs = list_all (λ b. b) bs
gives Or bs = list_any (λ b. b) bs
gives Nand bs = not (list_all (λ b. b) bs)
gives Nor bs = not (list_any (λ b. b) bs)
gives Xor bs = odd bs
gives Xnor bs = not (odd bs)
gives Not bs = not (list_any (λ b. b) bs)
