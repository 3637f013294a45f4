-- How a refusal is printed.
--   printed   `! number line column`, each number in decimal
use Rattle.std.specs.Prelude.{ℕ, List, ◌++◌, codes}
use Rattle.std.specs.Fmt.{decimal}
use Rattle.refusal.specs.declared.Refusal.{Refusal}

abbrev pub printed : Refusal → List ℕ
printed r = codes "! " ++ (decimal r.number ++ (codes " " ++ (decimal r.line ++ (codes " " ++ decimal r.column))))
