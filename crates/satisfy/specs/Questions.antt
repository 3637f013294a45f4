-- A question put to clauses, and the answer with a row.
--   or_else           the first refusal of two
--   satisfy_refusal   the first question that a begin, the clauses or the assumed literals are answered with a no
--   read_at           the value of variable i + 1 in the row shown, or what was there if no row is shown or there is no such variable
--   Read              places that were read, each its own variable
--   Satisfied         yes says that a row has each clause and each assumed literal true, and its values are read; no says that none has
use Rattle.std.specs.Prelude.{◌≡◌, ℕ, suc, ◌<◌, Bool, true, false, cond, List, length, ℤ, Some, None, Option, ◌≢◌, nat_le, nat_lt, slice_index_or}
use Rattle.solver.specs.Rows.{Row, all_true, all_named}
use Rattle.solver.specs.Meaning.{Sizes}
use Rattle.solver.specs.Refusals.{asked}
use Rattle.satisfy.specs.Clauses.{Clauses, every_true, adds_refusal}

abbrev pub or_else : Option ℕ → Option ℕ → Option ℕ
or_else None rest = rest
or_else (Some n) rest = Some n

abbrev pub satisfy_refusal : Sizes → ℕ → Clauses → List ℤ → Option ℕ
satisfy_refusal z vars cs a = or_else (asked 20 (nat_le vars z.capacity) None) (or_else (adds_refusal z vars z.full cs) (asked 21 (all_named vars a) None))

abbrev pub read_at : ℕ → Option Row → ℕ → Bool → Bool
read_at vars None i old = old
read_at vars (Some row) i old = cond (nat_lt i vars) (row (suc i)) old

abbrev pub Read : ℕ → Option Row → List Bool → List Bool → Type 0
Read vars shown old new = (i : ℕ) → i < length old → slice_index_or new i false ≡ read_at vars shown i (slice_index_or old i false)

abbrev pub Satisfied : ℕ → Clauses → List ℤ → List Bool → Bool → List Bool → Type 0
Satisfied vars cs a old true new = (row : Row) × (every_true row cs ≡ true) × (all_true row a ≡ true) × Read vars (Some row) old new
Satisfied vars cs a old false new = (new ≡ old) × ((row : Row) → every_true row cs ≡ true → all_true row a ≢ true)
