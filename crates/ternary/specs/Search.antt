-- The states of a search.
--   values_of     the values, the trail and the marks of open decisions of a state
--   mark_of       the number that marks an entry: 1 for an open decision, 0 otherwise
--   Same          two states have the same clauses
--   Sought        the rows that a search looks for: allowed, with each assumed literal true
--   Backtracked   where backtracking from len entries ends: at the last open decision p, with the values of the entries before it, and its own unset
--   Turn          what holds at each turn of a search that began in a state: the values are recorded on the trail, and its closed entries follow from those before them
use Rattle.std.specs.Prelude.{◌≡◌, ℕ, ◌+◌, ◌<◌, true, List, ℤ, pos, slice_index_or, unsigned_abs}
use Rattle.solver.specs.Rows.{Row}
use Rattle.assignment.specs.Stored.{Wanted}
use Rattle.assignment.specs.Assignment.{val}
use Rattle.assignment.specs.Trail.{Recorded, NoOpen, Closed, is_open}
use Rattle.ternary.specs.declared.TernarySearch.{TernarySearch}
use Rattle.ternary.specs.declared.trail.Mark.{Mark}
use Rattle.ternary.specs.declared.trail.Mark.TheVariants.{Settled, Open}
use Rattle.ternary.specs.Stands.{Sound}

abbrev pub values_of : TernarySearch → List ℤ
values_of s = s.values.now

abbrev pub trail_of : TernarySearch → List ℤ
trail_of s = s.trail.now

abbrev pub decisions_of : TernarySearch → List ℤ
decisions_of s = s.decisions.now

abbrev pub mark_of : Mark → ℤ
mark_of Settled = pos 0
mark_of Open = pos 1

pub record Same (s t : TernarySearch) : Type 0 where
  pub clauses : t.clauses.now ≡ s.clauses.now
  pub limit : t.limit ≡ s.limit
  pub vars : t.vars ≡ s.vars
  pub count : t.count ≡ s.count
  pub room : t.room ≡ s.room

abbrev pub Sought : TernarySearch → List ℤ → Row → Type 0
Sought s a = Wanted s.clauses.now s.count a

pub record Backtracked (s : TernarySearch) (len p : ℕ) (vs : List ℤ) : Type 0 where
  pub less : p < len
  pub open' : is_open (decisions_of s) p ≡ true
  pub no_open : NoOpen (decisions_of s) (p + 1) len
  pub recorded : Recorded vs (trail_of s) p
  pub unset : val vs (unsigned_abs (slice_index_or (trail_of s) p (pos 0))) ≡ pos 0

pub record Turn (s₀ s : TernarySearch) (a : List ℤ) (len : ℕ) : Type 0 where
  pub sound : Sound s
  pub same : Same s₀ s
  pub recorded : Recorded (values_of s) (trail_of s) len
  pub closed : Closed (Sought s₀ a) (trail_of s) (decisions_of s) len
