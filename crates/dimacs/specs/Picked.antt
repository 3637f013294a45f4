-- One clause picked from those that are written.
--   Picked   a pick after these clauses: it has let so many pass, or holds the first nine literals of the one behind them
use Rattle.std.specs.Prelude.{◌≡◌, ℕ, ◌-◌, ◌<◌, ◌≤◌, List, [], length, take, ℤ, slice_index_or}
use Rattle.inline_list.specs.declared.list.InlineList.{InlineList}
use Rattle.inline_list.specs.Listed.{listed}
use Rattle.dimacs.specs.declared.pick.Pick.{Pick}
use Rattle.dimacs.specs.declared.pick.Pick.TheVariants.{Skipping, Found}

pub record Picked (s : Pick) (cs : List (List ℤ)) (t : Pick) : Type 0 where
  pub past : (l : InlineList ℤ 9) → s ≡ Found l → t ≡ s
  pub before : (n : ℕ) → s ≡ Skipping n → length cs ≤ n → t ≡ Skipping (n - length cs)
  pub found : (n : ℕ) → s ≡ Skipping n → n < length cs → (l : InlineList ℤ 9) × (t ≡ Found l) × (listed l ≡ take 9 (slice_index_or cs n []))
