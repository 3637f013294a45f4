-- The bytes of a name.
--   name_of   the name that is held
--   Spells    that an answer is the name which this word spells, if it is short enough for one
use Rattle.std.specs.Prelude.{◌≡◌, ℕ, List, Ok, Err, Result, true, false}
use Rattle.inline_list.specs.Listed.{listed}
use Rattle.inline_list.specs.declared.list.Full.{Full}
use Rattle.netlist_text.specs.Statements.{Name, is_name}
use Rattle.scanner.specs.declared.name.Name.{Name as HeldName}

abbrev pub name_of : HeldName → Name
name_of n = listed n.bytes

abbrev pub Spells : List ℕ → Result HeldName Full → Type 0
Spells w (Ok n) = (is_name w ≡ true) × (name_of n ≡ w)
Spells w (Err e) = is_name w ≡ false
