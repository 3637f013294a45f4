-- Calls on a case and their answers. Tests are numbered from 0, outputs and gates from 1.
--   Call      a call with its arguments; of the solver that a next is handed, what it tells of its sizes
--   Answer    what a call answered: a refusal, that it was done, the set that a next gave, that the list is at its end, or a reading
--   Event     a call with its answer
--   History   the events on one case since it was new, the oldest first
use Rattle.std.specs.Prelude.{ℕ, List}
use Rattle.refusal.specs.declared.Refusal.{Refusal}
use Rattle.solver.specs.Meaning.{Sizes}

pub data Call : Type 0 where
  Load : List ℕ → Call
  Record : List ℕ → Call
  Amend : ℕ → ℕ → ℕ → Call
  Strike : Call
  Open : ℕ → Call
  Next : Sizes → Call
  Close : Call
  Readings : ℕ → Call

pub data Answer : Type 0 where
  Refused : Refusal → Answer
  Done : Answer
  Gave : List ℕ → Answer
  End : Answer
  Told : ℕ → Answer

pub record Event : Type 0 where
  pub call : Call
  pub answer : Answer

abbrev pub History : Type 0
History = List Event
