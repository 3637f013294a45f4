-- What an assignment says of a literal, and of a property of rows such as that clauses are true.
--   Valued          the value of a literal in a place: true in the assignment's row, false in every row that extends it, or unset
--   Tells           a status that is right: the assignment's row has the property; no row that extends it has; each such row with the property makes a literal true; a literal is unset
--   Hinted          the same of a conflict and of a forced literal; any other status is no hint
--   first_finding   the first of two findings, or the second if the first is that all is satisfied
use Rattle.std.specs.Prelude.{◌≡◌, true, false, List, ℤ}
use Rattle.solver.specs.Rows.{Row, holds}
use Rattle.assignment.specs.Stored.{place_true}
use Rattle.assignment.specs.Assignment.{row_of, Extends, Free}
use Rattle.assignment.specs.declared.Finding.{Finding}
use Rattle.assignment.specs.declared.Status.{Status}
use Rattle.assignment.specs.declared.Status.TheVariants.{Satisfied, Conflict, Forced, Open}
use Rattle.assignment.specs.declared.Value.{Value}
use Rattle.assignment.specs.declared.Value.TheVariants.{True, False, Unset}

abbrev pub Valued : List ℤ → ℤ → Value → Type 0
Valued vs x True = place_true (row_of vs) x ≡ true
Valued vs x False = (row : Row) → Extends row vs → place_true row x ≡ false
Valued vs x Unset = Free vs x

abbrev pub Tells : List ℤ → (Row → Type 0) → Status → Type 0
Tells vs P Satisfied = P (row_of vs)
Tells vs P Conflict = (row : Row) → Extends row vs → P row → ⊥
Tells vs P (Forced x) = Free vs x × ((row : Row) → Extends row vs → P row → holds row x ≡ true)
Tells vs P (Open x) = Free vs x

abbrev pub Hinted : List ℤ → (Row → Type 0) → Status → Type 0
Hinted vs P Satisfied = ⊥
Hinted vs P Conflict = (row : Row) → Extends row vs → P row → ⊥
Hinted vs P (Forced x) = Free vs x × ((row : Row) → Extends row vs → P row → holds row x ≡ true)
Hinted vs P (Open x) = ⊥

abbrev pub first_unless_satisfied : Status → Finding → Finding → Finding
first_unless_satisfied Satisfied early late = late
first_unless_satisfied Conflict early late = early
first_unless_satisfied (Forced x) early late = early
first_unless_satisfied (Open x) early late = early

abbrev pub first_finding : Finding → Finding → Finding
first_finding early late = first_unless_satisfied early.status early late
