-- What a ternary search stands for.
--   sizes_over   the sizes of a search over so many numbers
--   stands       its meaning: the clauses in use allow the rows in which each of them is true, and the row shown is that of the values
--   Sound        the parts of its slice have their lengths, its counters are within its capacity, and its clauses name variables in use
--   bounded      a sound search is within its sizes
use Rattle.std.specs.Prelude.{◌≡◌, ℕ, ◌+◌, ◌*◌, ◌/◌, ◌≤◌, min, cond, length, Some, None}
use Rattle.std.proofs.Common.{arith, lit≤}
use Rattle.solver.specs.Meaning.{Sizes, Meaning, Bounded}
use Rattle.assignment.specs.Stored.{StoredTrue, Ranged}
use Rattle.assignment.specs.Assignment.{row_of}
use Rattle.ternary.specs.declared.TernarySearch.{TernarySearch}

abbrev pub sizes_over : ℕ → Sizes
sizes_over n = record { capacity = min (n / 8) 1000000; width = 3; full = min (n / 8) 1000000 }

abbrev pub stands : TernarySearch → Meaning
stands s = record {
  sizes = record { capacity = s.limit; width = 3; full = s.limit };
  vars = s.vars;
  allowed = λ row. StoredTrue row s.clauses.now s.count;
  room = s.room;
  shown = cond s.found (Some (row_of s.values.now)) None;
}

pub record Sound (s : TernarySearch) : Type 0 where
  pub clauses_len : length s.clauses.now ≡ 3 * s.limit
  pub values_len : length s.values.now ≡ s.limit
  pub trail_len : length s.trail.now ≡ s.limit
  pub decisions_len : length s.decisions.now ≡ s.limit
  pub counts : s.count + s.room ≡ s.limit
  pub in_range : s.vars ≤ s.limit
  pub small : s.limit ≤ 1000000
  pub literals : Ranged s.clauses.now s.count s.vars

pub bounded : (s : TernarySearch) → Sound s → Bounded (stands s)
bounded s h =
    let b = h.small in
    let c = h.counts in
    record { wide = lit≤ tt; capacity = omega arith; vars = h.in_range; room = omega arith }
