use Rattle.std.proofs.Common.{◌≡◌, map, length, take}
use Rattle.cnf_theory.specs.Literals.{integer}
use Rattle.cnf.specs.Code.{literal_of}
use Rattle.cnf.proofs.clause.take_clause.Given as goal

abbrev pub invariant-loop-i : goal.invariant-loop-i
invariant-loop-i g l = (length l.clause ≡ length l.literal-items) × (take l.i l.clause ≡ map integer (map literal_of (take l.i l.literal-items)))
