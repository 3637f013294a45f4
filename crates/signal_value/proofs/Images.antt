-- The images are what the law asks for, and nothing else is.
use Rattle.std.proofs.Common.{◌≡◌, Bool, true, false, sym, refl, ap, ◌∙◌, subst, ⊎_elim}
use Rattle.std.proofs.lemmas.Bool.{or_cases}
use Rattle.signal_value.specs.Possible.{Possible, only, both, includes, either, image, image2}
use Rattle.signal_value.specs.Law.{Follows, Follows2, ImagesFollow}
use Rattle.signal_value.proofs.Included.{beq_refl, beq_same, same_beq, includes_either, either_left, either_right, same_bits}

pub image_follows : (f : Bool → Bool) (P : Possible) → Follows f P (image f P)
image_follows f (only b) = record {
  every = λ p e. same_beq (f b) (f p) (ap f (beq_same b p e));
  no_other = λ x e. (b, beq_refl b, beq_same (f b) x e);
}
image_follows f both = record {
  every = λ p e. elim p as (λ v. includes (either (only (f false)) (only (f true))) (f v) ≡ true)
      [ true ↦ either_right (only (f false)) (only (f true)) (f true) (beq_refl (f true)) | false ↦ either_left (only (f false)) (only (f true)) (f false) (beq_refl (f false)) ];
  no_other = λ x e.
      ⊎_elim
      (λ l. (false, refl, beq_same (f false) x l))
      (λ r. (true, refl, beq_same (f true) x r))
      (or_cases (includes (only (f false)) x) (includes (only (f true)) x) (sym (includes_either (only (f false)) (only (f true)) x) ∙ e));
}

pub image2_follows : (f : Bool → Bool → Bool) (P Q : Possible) → Follows2 f P Q (image2 f P Q)
image2_follows f (only b) Q =
    let one = image_follows (f b) Q in
    record {
      every = λ p q e d. subst (λ (v : Bool). includes (image (f b) Q) (f v q) ≡ true) (beq_same b p e) (one.every q d);
      no_other = λ x e. let (q, d, is) = one.no_other x e in (b, q, beq_refl b, d, is);
    }
image2_follows f both Q =
    let low = image_follows (f false) Q in
    let high = image_follows (f true) Q in
    record {
      every = λ p q e d. elim p as (λ v. includes (either (image (f false) Q) (image (f true) Q)) (f v q) ≡ true)
          [ true ↦ either_right (image (f false) Q) (image (f true) Q) (f true q) (high.every q d) | false ↦ either_left (image (f false) Q) (image (f true) Q) (f false q) (low.every q d) ];
      no_other = λ x e.
          ⊎_elim
          (λ l. let (q, d, is) = low.no_other x l in (false, q, refl, d, is))
          (λ r. let (q, d, is) = high.no_other x r in (true, q, refl, d, is))
          (or_cases (includes (image (f false) Q) x) (includes (image (f true) Q) x) (sym (includes_either (image (f false) Q) (image (f true) Q) x) ∙ e));
    }

-- ── two results that follow the law stand for the same bits ──
pub follows_image : (f : Bool → Bool) (P R : Possible) → Follows f P R → R ≡ image f P
follows_image f P R law =
    let own = image_follows f P in
    same_bits R (image f P)
    (λ x e. let (p, d, is) = law.no_other x e in subst (λ (v : Bool). includes (image f P) v ≡ true) is (own.every p d))
    (λ x e. let (p, d, is) = own.no_other x e in subst (λ (v : Bool). includes R v ≡ true) is (law.every p d))

pub follows_image2 : (f : Bool → Bool → Bool) (P Q R : Possible) → Follows2 f P Q R → R ≡ image2 f P Q
follows_image2 f P Q R law =
    let own = image2_follows f P Q in
    same_bits R (image2 f P Q)
    (λ x e. let (p, q, d, c, is) = law.no_other x e in subst (λ (v : Bool). includes (image2 f P Q) v ≡ true) is (own.every p q d c))
    (λ x e. let (p, q, d, c, is) = own.no_other x e in subst (λ (v : Bool). includes R v ≡ true) is (law.every p q d c))

pub image_follows_as : (f : Bool → Bool) (P R : Possible) → R ≡ image f P → Follows f P R
image_follows_as f P R e = subst (λ (S : Possible). Follows f P S) (sym e) (image_follows f P)

pub image2_follows_as : (f : Bool → Bool → Bool) (P Q R : Possible) → R ≡ image2 f P Q → Follows2 f P Q R
image2_follows_as f P Q R e = subst (λ (S : Possible). Follows2 f P Q S) (sym e) (image2_follows f P Q)

pub images_follow : ImagesFollow
images_follow = record {
  one = λ f P R. (follows_image f P R, image_follows_as f P R);
  two = λ f P Q R. (follows_image2 f P Q R, image2_follows_as f P Q R);
}
