-- What the code's sets stand for.
--   set_of    the gates of a set, by their numbers
--   sets_of   those of each set of a list
use Rattle.std.specs.Prelude.{ℕ, List, map}
use Rattle.inline_list.specs.declared.list.InlineList.{InlineList}
use Rattle.inline_list.specs.Listed.{listed}

abbrev pub set_of : InlineList ℕ 6 → List ℕ
set_of s = listed s

abbrev pub sets_of : List (InlineList ℕ 6) → List (List ℕ)
sets_of ss = map set_of ss
