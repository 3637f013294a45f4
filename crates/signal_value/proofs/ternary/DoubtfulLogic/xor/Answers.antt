use Rattle.std.proofs.Common.{◌≡◌, true, false, not, sym, refl, ap, ◌∙◌}
use Rattle.signal_value.specs.Possible.{Possible, only, both, image, image2}
use Rattle.signal_value.specs.Law.{xor}
use Rattle.signal_value.specs.Kept.{known}
use Rattle.signal_value.proofs.Images.{follows_image, image2_follows_as}
use Rattle.signal_value.proofs.ternary.DoubtfulLogic.xor.Goals as goal

-- exclusive or with 1 inverts
inverted : (Q : Possible) → image not Q ≡ image2 xor (only true) Q
inverted (only true) = refl
inverted (only false) = refl
inverted both = refl

-- with an unknown bit nothing is known
undecided : (Q : Possible) → both ≡ image2 xor both Q
undecided (only true) = refl
undecided (only false) = refl
undecided both = refl

pub returns-in-One : goal.returns-in-One
returns-in-One c = λ i h.
    image2_follows_as xor _ _ _
    (follows_image not (known c.args.other) (known c.not.result) (c.not.ensures i h)
    ∙ inverted (known c.args.other)
    ∙ ap (λ v. image2 xor (known v) (known c.args.other)) (sym c.in-One.is))

pub returns-in-Unknown : goal.returns-in-Unknown
returns-in-Unknown c = λ i h.
    image2_follows_as xor _ _ _ (undecided (known c.args.other) ∙ ap (λ v. image2 xor (known v) (known c.args.other)) (sym c.in-Unknown.is))
