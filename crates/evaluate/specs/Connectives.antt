-- How a kind combines its operands: one after another by AND, OR or XOR, then perhaps inverted.
--   connective_of   the connective of a kind
--   inverts         whether the kind inverts what its operands combine to
--   joins           what a connective gives for two bits
--   neutral         the bit that combines with any other to that other
use Rattle.std.specs.Prelude.{Bool, true, false, ◌&&◌, ◌||◌}
use Rattle.circuit.specs.declared.kind.Kind.{Kind}
use Rattle.circuit.specs.declared.kind.Kind.TheVariants as kind
use Rattle.signal_value.specs.Law.{xor}
use Rattle.evaluate.specs.declared.connective.Connective.{Connective}
use Rattle.evaluate.specs.declared.connective.Connective.TheVariants.{And, Or, Xor}

abbrev pub connective_of : Kind → Connective
connective_of kind.And = And
connective_of kind.Nand = And
connective_of kind.Or = Or
connective_of kind.Nor = Or
connective_of kind.Not = Or
connective_of kind.Xor = Xor
connective_of kind.Xnor = Xor

abbrev pub inverts : Kind → Bool
inverts kind.And = false
inverts kind.Nand = true
inverts kind.Or = false
inverts kind.Nor = true
inverts kind.Not = true
inverts kind.Xor = false
inverts kind.Xnor = true

abbrev pub joins : Connective → Bool → Bool → Bool
joins And p q = p && q
joins Or p q = p || q
joins Xor p q = xor p q

abbrev pub neutral : Connective → Bool
neutral And = true
neutral Or = false
neutral Xor = false
