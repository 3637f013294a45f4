-- What a row walker stands for.
--   stands    its meaning: the clauses in use allow the rows in which each of them is true
--   bounded   its variables and its room are within its sizes
use Rattle.std.specs.Prelude.{◌≡◌, true}
use Rattle.std.proofs.Common.{arith, lit≤}
use Rattle.std.specs.Option.{option_map}
use Rattle.std.specs.List.{list_all}
use Rattle.solver.specs.Meaning.{Meaning, Bounded}
use Rattle.inline_list.specs.Listed.{listed}
use Rattle.row_walker.specs.Masks.{clause_true, row_of}
use Rattle.row_walker.specs.declared.RowWalker.{RowWalker}

abbrev pub stands : RowWalker → Meaning
stands w = record {
  sizes = record { capacity = 24; width = 16; full = 256 };
  vars = w.vars;
  allowed = λ row. list_all (clause_true row) (listed w.clauses) ≡ true;
  room = w.room;
  shown = option_map row_of w.shown;
}

pub bounded : (w : RowWalker) → Unit {0} → Bounded (stands w)
bounded w h = record { wide = lit≤ tt; capacity = lit≤ tt; vars = w.in_range; room = let r = w.charged in omega arith }
