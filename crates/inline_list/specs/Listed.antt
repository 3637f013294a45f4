-- What a list in place holds.
--   places_of   what stands in the places, taken or not
--   listed      the values in the places that are taken
use Rattle.std.specs.Prelude.{ℕ, List, take}
use Rattle.inline_list.specs.declared.list.InlineList.{InlineList}

abbrev pub places_of : {T : Type 0} {N : ℕ} → InlineList T N → List T
places_of l = l.places

abbrev pub listed : {T : Type 0} {N : ℕ} → InlineList T N → List T
listed l = take l.count l.places
