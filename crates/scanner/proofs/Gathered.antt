-- Names gathered one after another, unless there are more than eight.
use Rattle.std.proofs.Common.{List, ◌++◌, Some, None, Option}
use Rattle.netlist_text.specs.Statements.{Name}
use Rattle.scanner.specs.Parsed.{up_to_eight}

-- the names gathered so far, with these to come
abbrev pub gathered : Option (List Name) → List Name → Option (List Name)
gathered None ns = None
gathered (Some kept) ns = up_to_eight (kept ++ ns)
