use Rattle.std.proofs.Common.{◌≡◌, None, Ok, Option, sym, ap, ◌∙◌}
use Rattle.std.specs.Result.{result_err}
use Rattle.netlist_text.specs.Netlists.{Netlist}
use Rattle.netlist_text.specs.Meaning.{meaning, load}
use Rattle.netlist_text.proofs.Taken.{taken_is_sound}
use Rattle.netlist.specs.Drafts.{draft_of}
use Rattle.netlist.specs.Held.{chosen, held_by, kept}
use Rattle.netlist.proofs.netlist.Netlist.load.Goals as goal

pub returns : goal.returns
returns c =
    let p = c.args.self.now in
    let text = c.args.text.now in
    let n = (draft_of c.read.new.self).netlist in
    let none : held_by p ≡ None = ap (λ b. chosen b (draft_of p.tables).netlist) c.if-self.false in
    let taken : Ok n ≡ meaning text = c.in_ok-read.ensures in
    record {
      refused = sym (ap (λ (h : Option Netlist). result_err (load h text)) none ∙ ap result_err (sym taken));
      after = sym (ap (λ (h : Option Netlist). kept h (load h text)) none ∙ ap (kept None) (sym taken));
      sound = taken_is_sound text n (sym taken);
    }
