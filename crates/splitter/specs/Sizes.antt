-- The sizes of a splitter, from those of the solver below.
--   full_over    its full room: at most that below, and at most half the variables, which stay free for fresh ones
--   sizes_over   its sizes: it takes clauses of up to 16 literals, and the variables that are not kept for fresh ones
use Rattle.std.specs.Prelude.{ℕ, ◌-◌, ◌/◌, min}
use Rattle.solver.specs.Meaning.{Sizes}

abbrev pub full_over : Sizes → ℕ
full_over b = min b.full (b.capacity / 2)

abbrev pub sizes_over : Sizes → Sizes
sizes_over b = record { capacity = b.capacity - full_over b; width = 16; full = full_over b }
