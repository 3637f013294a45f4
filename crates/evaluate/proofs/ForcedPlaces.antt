-- The value found among those forced is the one forced on the gate.
use Rattle.std.proofs.Common.{◌≡◌, ℕ, Bool, true, false, cond, eqb, List, [], ◌∷◌, Some, None, Option, refl, ap, Bor, MatchOption, IsSomeAnd}
use Rattle.std.specs.List.{find}
use Rattle.std.specs.Option.{option_map}
use Rattle.evaluate.specs.declared.forced.Forced.{Forced}
use Rattle.evaluate.specs.Forced.{forced_at}

first : {L : Type 0} (f : Forced L) (b : Bool) (found : Option (Forced L)) (later : Option L) → option_map (λ x. x.value) found ≡ later → option_map (λ x. x.value) (cond b (Some f) found) ≡ cond b (Some f.value) later
first f true found later e = refl
first f false found later e = e

pub value_found : {L : Type 0} (fs : List (Forced L)) (n : ℕ) → option_map (λ f. f.value) (find (λ f. eqb n f.gate) fs) ≡ forced_at fs n
value_found [] n = refl
value_found (f ∷ fs) n = first f (eqb n f.gate) _ _ (value_found fs n)

-- what a call at the value behind a reference gives, if there is one
pub mapped : {X Y : Type 0} (f : X → Y) (found : Option (Bor X)) (r : Option Y) (P : Bor X → Y → Type 0) → MatchOption found (r ≡ None) (λ x. IsSomeAnd r (P x)) → ((x : Bor X) (y : Y) → P x y → y ≡ f x.now)
    → r ≡ option_map f (option_map (λ x. x.now) found)
mapped f None r P h w = h
mapped f (Some x) (Some y) P h w = ap Some (w x y h)
mapped f (Some x) None P h w = absurd h
