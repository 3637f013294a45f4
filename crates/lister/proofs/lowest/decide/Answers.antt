-- The gate's literal is written, asked for, and written again as the answer says.
use Rattle.std.proofs.Common.{set, ap, ◌∙◌, set-set, w32, SFits, rules}
use Rattle.std.proofs.lemmas.Int.{to_z-of_z}
use Rattle.answers.proofs.Answering.{tried_more}
use Rattle.lister.proofs.lowest.decide.Goals as goal

pub returns : goal.returns
returns g c =
    let fits : SFits w32 c.literal-2.result = search rules in
    let again : SFits w32 c.literal-3.result = search rules in
    record {
      sound = c.ask-marked.ensures.sound;
      kept = c.ask-marked.ensures.solved.kept;
      assumed = set-set c.args.assumed.now c.args.gate _ _ ∙ ap (set c.args.assumed.now c.args.gate) (to_z-of_z w32 _ again ∙ c.literal-3.ensures);
      tried = tried_more _ _ c.args.assumed.now _ c.args.gate _ c.requires.sizes.1.1.0 (to_z-of_z w32 _ fits ∙ c.literal-2.ensures) c.ask-marked.ensures.solved;
    }
