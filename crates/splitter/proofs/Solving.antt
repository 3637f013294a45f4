-- What an answer of the solver below says of the splitter.
use Rattle.std.proofs.Common.{◌≡◌, ℕ, Bool, true, false, List, ℤ, Some, None, Option, sym, refl, ap, ◌∙◌, arith}
use Rattle.solver.specs.Rows.{Row, all_named}
use Rattle.solver.specs.Meaning.{Meaning, Kept, Answered, Solved}
use Rattle.solver.proofs.Rows.{all_named_up, all_true_agree}
use Rattle.splitter.specs.Sizes.{full_over, sizes_over}
use Rattle.splitter.specs.Stands.{over, Sound}

module _ (b : Meaning) (vars fresh room : ℕ) (sound : Sound b vars fresh room) (a : List ℤ) (known : all_named vars a ≡ true) (n : Meaning) where
  pub known_below : all_named b.vars a ≡ true
  known_below = let e = sound.in_use in all_named_up vars b.vars (omega arith) a known

  answered : (t : Bool) (o : Option Row) → Answered b a t o → Answered (over b vars room) a t o
  answered true None h = h
  answered true (Some row) h = ((row, (λ v _ _. refl), h.0), h.1)
  answered false None h = λ row p t. h p.0 p.2 (sym (all_true_agree vars row p.0 p.1 a known) ∙ t)
  answered false (Some row) h = h

  pub solved : (t : Bool) → Solved b a t n → Solved (over b vars room) a t (over n vars room)
  solved t h = record {
    kept = record {
      sizes = ap sizes_over h.kept.sizes;
      vars = refl;
      only = λ row p. (p.0, p.1, h.kept.only p.0 p.2);
      each = λ row p. (p.0, p.1, h.kept.each p.0 p.2);
      room = refl;
    };
    answered = answered t n.shown h.answered;
  }

  pub stays : Kept b n → Sound n vars fresh room
  stays k =
      let full = ap full_over k.sizes in
      let v = k.vars in
      let m = k.room in
      let w = sound.in_use in
      let r = sound.roomy in
      let e = sound.enough in
      record {
        in_use = omega arith;
        roomy = omega arith;
        enough = omega arith;
        free = λ x y g p. k.each y (sound.free x y g (k.only x p));
      }
