-- What is asked before the next set is looked for.
--   fits_test      whether a test has a value for each input and a place for each output of the circuit
--   fitting        whether the circuit has a gate, the tests are tests of it, and the sets given are sets of its gates
--   list_refusal   why the next set is not looked for, if so: something does not fit the circuit, or the solver is too small
use Rattle.std.specs.Prelude.{ℕ, ◌≤◌, Bool, cond, ◌&&◌, List, length, Some, None, Option, ◌==◌, nat_lt}
use Rattle.std.specs.List.{AllByRecursion}
use Rattle.std.specs.List.{list_all}
use Rattle.circuit.specs.Circuits.{Circuit}
use Rattle.circuit.specs.Tests.{Test}
use Rattle.solver.specs.Meaning.{Sizes}
use Rattle.gate_set.specs.Ascending.{above}
use Rattle.candidates.specs.Enough.{enough}
use Rattle.lister.specs.declared.fault.ListFault.{ListFault}
use Rattle.lister.specs.declared.fault.ListFault.TheVariants.{Unfit, SmallSolver}

-- numbers that gates may have
abbrev pub GateNumbers : List ℕ → Type 0
GateNumbers S = AllByRecursion (λ g. (1 ≤ g) × (g ≤ 256)) S

abbrev pub fits_test : Circuit → Test → Bool
fits_test c t = length t.inputs == c.inputs && length t.outputs == length c.outputs

abbrev pub fitting : Circuit → List Test → List (List ℕ) → Bool
fitting c ts given = nat_lt 0 (length c.gates) && (list_all (fits_test c) ts && list_all (above 0 (length c.gates)) given)

abbrev pub list_refusal : Circuit → List Test → ℕ → List (List ℕ) → Sizes → Option ListFault
list_refusal c ts N given z = cond (fitting c ts given) (cond (enough c ts N given z) None (Some SmallSolver)) (Some Unfit)
