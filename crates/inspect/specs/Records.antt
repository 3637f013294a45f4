-- Records taken one after another, up to the first that is refused.
--   first_refusal   the refusal of that record, if one is refused
--   held_after      the tests held then
use Rattle.std.specs.Prelude.{ℕ, List, [], ◌∷◌, Some, None, Option}
use Rattle.std.specs.Option.{option_or}
use Rattle.std.specs.Result.{result_err}
use Rattle.refusal.specs.declared.Refusal.{Refusal}
use Rattle.circuit.specs.Circuits.{Circuit}
use Rattle.circuit.specs.Tests.{Test}
use Rattle.test_format.specs.Records.{recorded}
use Rattle.testlog.specs.Faults.{kept}

abbrev pub first_refusal : Circuit → List Test → List (List ℕ) → Option Refusal
first_refusal c ts [] = None
first_refusal c ts (bytes ∷ more) = option_or (result_err (recorded c ts bytes)) (first_refusal c (kept ts (recorded c ts bytes)) more)

abbrev pub unless_refused : Option Refusal → List Test → List Test → List Test
unless_refused (Some r) before after = before
unless_refused None before after = after

abbrev pub held_after : Circuit → List Test → List (List ℕ) → List Test
held_after c ts [] = ts
held_after c ts (bytes ∷ more) = unless_refused (result_err (recorded c ts bytes)) ts (held_after c (kept ts (recorded c ts bytes)) more)
