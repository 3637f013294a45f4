-- Circuits stay wired in order as they grow.
use Rattle.std.proofs.Common.{◌≡◌, ℕ, suc, ◌+◌, ◌≤◌, true, leb, List, [], ◌∷◌, ◌++◌, length, refl, subst, add-zero, arith}
use Rattle.std.proofs.lemmas.Bool.{and_parts, and_from, leb-true, le-leb}
use Rattle.circuit.specs.declared.gate.Signal.{Signal}
use Rattle.circuit.specs.declared.gate.Signal.TheVariants as signal
use Rattle.circuit.specs.Kinds.{takes}
use Rattle.std.specs.List.{list_all}
use Rattle.circuit.specs.Circuits.{Gate, there, fits, wired}
use Rattle.circuit.proofs.Tested.{all_weaker}

leb_more : (a b c : ℕ) → b ≤ c → leb a b ≡ true → leb a c ≡ true
leb_more a b c h e = le-leb a c (omega (arith, leb-true a b e))

pub there_more : (I J m n : ℕ) (s : Signal) → I ≤ J → m ≤ n → there I m s ≡ true → there J n s ≡ true
there_more I J m n (signal.Input i) h k e = let p = and_parts (leb 1 i) (leb i I) e in and_from (leb 1 i) (leb i J) p.0 (leb_more i I J h p.1)
there_more I J m n (signal.Gate g) h k e = let p = and_parts (leb 1 g) (leb g m) e in and_from (leb 1 g) (leb g n) p.0 (leb_more g m n k p.1)

pub all_there_more : (I J m n : ℕ) (ss : List Signal) → I ≤ J → m ≤ n → list_all (there I m) ss ≡ true → list_all (there J n) ss ≡ true
all_there_more I J m n ss h k a = all_weaker (there I m) (there J n) ss (λ s. there_more I J m n s h k) a

pub wired_more : (I J m : ℕ) (gs : List Gate) → I ≤ J → wired I m gs ≡ true → wired J m gs ≡ true
wired_more I J m [] h w = refl
wired_more I J m (g ∷ gs) h w =
    let p = and_parts (fits I m g) (wired I (suc m) gs) w in
    let q = and_parts (takes g.kind (length g.operands)) (list_all (there I m) g.operands) p.0 in
    and_from (fits J m g) (wired J (suc m) gs)
    (and_from (takes g.kind (length g.operands)) (list_all (there J m) g.operands) q.0 (all_there_more I J m m g.operands h (omega arith) q.1))
    (wired_more I J (suc m) gs h p.1)

pub wired_push : (I m : ℕ) (gs : List Gate) (g : Gate) → wired I m gs ≡ true → fits I (m + length gs) g ≡ true → wired I m (gs ++ g ∷ []) ≡ true
wired_push I m [] g w f = and_from (fits I m g) true (subst (λ k. fits I k g ≡ true) (add-zero m) f) refl
wired_push I m (x ∷ gs) g w f =
    let p = and_parts (fits I m x) (wired I (suc m) gs) w in
    let q : m + suc (length gs) ≡ suc m + length gs = omega arith in
    and_from (fits I m x) (wired I (suc m) (gs ++ g ∷ [])) p.0 (wired_push I (suc m) gs g p.1 (subst (λ k. fits I k g ≡ true) q f))
