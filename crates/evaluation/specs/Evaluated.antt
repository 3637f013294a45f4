-- What the gates of a circuit may be, gate by gate in file order: the simulation, with one bit or both for each signal.
--   Forcing         for every gate number, what is forced on that gate, if anything is
--   numbered        what is at a number of a list, counted from 1; 0 where nothing is
--   standing        what a signal stands for, given what the inputs and the gates stand for
--   gate_stands     what the gate numbered n stands for: what is forced on it, or else every bit that its function can give for its operands' bits
--   evaluate_from   what the gates stand for, after the gates before; the first of them has number n
--   evaluated       what all gates of a circuit stand for
--   forcing         a bit forced on each marked gate
use Rattle.std.specs.Prelude.{ℕ, zero, suc, false, cond, List, [], ◌∷◌, ◌++◌, map, Some, None, Option, slice_index_or}
use Rattle.std.specs.Option.{unwrap_or}
use Rattle.circuit.specs.declared.gate.Signal.{Signal}
use Rattle.circuit.specs.declared.gate.Signal.TheVariants as signal
use Rattle.circuit.specs.Kinds.{gives}
use Rattle.circuit.specs.Circuits.{Gate, Circuit}
use Rattle.diagnosis.specs.Sets.{Marks}
use Rattle.diagnosis.specs.Explains.{Values}
use Rattle.signal_value.specs.Possible.{Possible, only}
use Rattle.evaluation.specs.Gates.{image_of}

abbrev pub Forcing : Type 0
Forcing = ℕ → Option Possible

abbrev pub numbered : List Possible → ℕ → Possible
numbered Ps zero = only false
numbered Ps (suc n) = slice_index_or Ps n (only false)

abbrev pub standing : List Possible → List Possible → Signal → Possible
standing inputs Vs (signal.Input i) = numbered inputs i
standing inputs Vs (signal.Gate g) = numbered Vs g

abbrev pub computed_stands : List Possible → List Possible → Gate → Possible
computed_stands inputs Vs g = image_of (gives g.kind) (map (standing inputs Vs) g.operands)

abbrev pub gate_stands : Forcing → List Possible → ℕ → List Possible → Gate → Possible
gate_stands F inputs n Vs g = unwrap_or (F n) (computed_stands inputs Vs g)

abbrev pub evaluate_from : Forcing → List Possible → ℕ → List Possible → List Gate → List Possible
evaluate_from F inputs n Vs [] = Vs
evaluate_from F inputs n Vs (g ∷ gs) = evaluate_from F inputs (suc n) (Vs ++ gate_stands F inputs n Vs g ∷ []) gs

abbrev pub evaluated : Circuit → Forcing → List Possible → List Possible
evaluated c F inputs = evaluate_from F inputs 1 [] c.gates

abbrev pub forcing : Marks → Values → Forcing
forcing s w n = cond (s n) (Some (only (w n))) None
