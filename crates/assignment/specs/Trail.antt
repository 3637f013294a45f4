-- The trail of a search: literals in the order in which they were made true, each an open decision or closed.
--   unset_count   how many variables are unset
--   is_open       the entry k is a decision whose negation is not yet tried
--   Recorded      the first entries of a trail, so many, are the values that are set, each variable once
--   Before        a row agrees with the entries before the place n
--   Blocked       no wanted row agrees with the entries before the place n
--   Closed        each closed entry follows, for wanted rows, from the entries before it
--   NoOpen        no entry in a range is open
--   digit         what a place of the trail counts: 2 if it is free, 1 if it is open, 0 if it is closed
--   weight        so many places read as a number in base 3, the first place highest; each step of a search makes it less
use Rattle.std.specs.Prelude.{◌≡◌, ℕ, zero, suc, ◌+◌, ◌*◌, ◌<◌, ◌≤◌, Bool, true, false, cond, List, length, ℤ, pos, ◌==◌, ◌≢◌, int_lt, nat_lt, slice_index_or, unsigned_abs}
use Rattle.std.specs.List.{count_by}
use Rattle.solver.specs.Rows.{Row, holds}
use Rattle.assignment.specs.Assignment.{val}

abbrev pub unset_count : List ℤ → ℕ
unset_count = count_by (λ x. unsigned_abs x == 0)

abbrev pub is_open : List ℤ → ℕ → Bool
is_open ds k = int_lt (pos 0) (slice_index_or ds k (pos 0))

pub record Recorded (vs ts : List ℤ) (len : ℕ) : Type 0 where
  pub on : (v : ℕ) → 1 ≤ v → (val vs v ≢ pos 0) → (unsigned_abs (val vs v) ≡ v) × ((j : ℕ) × (j < len) × (slice_index_or ts j (pos 0) ≡ val vs v))
  pub some : (j : ℕ) → j < len → 1 ≤ unsigned_abs (slice_index_or ts j (pos 0))
  pub within : (j : ℕ) → j < len → unsigned_abs (slice_index_or ts j (pos 0)) ≤ length vs
  pub there : (j : ℕ) → j < len → val vs (unsigned_abs (slice_index_or ts j (pos 0))) ≡ slice_index_or ts j (pos 0)
  pub apart : (i j : ℕ) → i < j → j < len → unsigned_abs (slice_index_or ts i (pos 0)) ≢ unsigned_abs (slice_index_or ts j (pos 0))
  pub count : unset_count vs + len ≡ length vs

abbrev pub Before : List ℤ → ℕ → Row → Type 0
Before ts n row = (j : ℕ) → j < n → holds row (slice_index_or ts j (pos 0)) ≡ true

abbrev pub Blocked : (Row → Type 0) → List ℤ → ℕ → Type 0
Blocked P ts n = (row : Row) → P row → Before ts n row → ⊥

abbrev pub Closed : (Row → Type 0) → List ℤ → List ℤ → ℕ → Type 0
Closed P ts ds len = (k : ℕ) → k < len → is_open ds k ≡ false → (row : Row) → P row → Before ts k row → holds row (slice_index_or ts k (pos 0)) ≡ true

abbrev pub NoOpen : List ℤ → ℕ → ℕ → Type 0
NoOpen ds from len = (k : ℕ) → from ≤ k → k < len → is_open ds k ≡ false

abbrev pub digit : List ℤ → ℕ → ℕ → ℕ
digit ds len k = cond (nat_lt k len) (cond (is_open ds k) 1 0) 2

abbrev pub weight : (ℕ → ℕ) → ℕ → ℕ
weight d zero = 0
weight d (suc n) = 3 * weight d n + d n
