use Rattle.std.proofs.Common.{rules}
use Rattle.netlist.proofs.Found.{number_found}
use Rattle.netlist.proofs.lookup.number_of.Goals as goal

pub returns-in_err-place_of : goal.returns-in_err-place_of
returns-in_err-place_of c = let e = number_found c.args.names.now c.args.word.now c.place_of.result c.place_of.ensures.value in search rules

pub returns : goal.returns
returns c = number_found c.args.names.now c.args.word.now _ c.in_ok-place_of.ensures.value
