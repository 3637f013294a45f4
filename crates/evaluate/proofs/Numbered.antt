-- What values with a number, and forced values, stand for in a lane.
use Rattle.std.proofs.Common.{◌≡◌, ℕ, zero, suc, ◌-◌, ◌<◌, ◌≤◌, false, List, map, length, get_or, sym, refl, ap, ◌∙◌, arith}
use Rattle.std.proofs.lemmas.List.{get_or-map, get_or_past, length-map}
use Rattle.signal_value.specs.Possible.{Possible, only}
use Rattle.evaluation.specs.Evaluated.{numbered}

pub numbered_at : {L : Type 0} (st : L → Possible) (xs : List L) (n : ℕ) (x : L) → 1 ≤ n → n ≤ length xs → x ≡ get_or xs (n - 1) x → st x ≡ numbered (map st xs) n
numbered_at st xs zero x h k e = absurd (omega arith)
numbered_at st xs (suc n) x h k e =
    let less : suc n - 1 ≡ n = omega arith in
    ap st (e ∙ ap (λ j. get_or xs j x) less) ∙ sym (get_or-map st xs n x (only false) (omega arith))

pub numbered_none : {L : Type 0} (st : L → Possible) (xs : List L) (n : ℕ) → n < 1 → only false ≡ numbered (map st xs) n
numbered_none st xs zero h = refl
numbered_none st xs (suc n) h = absurd (omega arith)

pub numbered_past : {L : Type 0} (st : L → Possible) (xs : List L) (n : ℕ) → length xs < n → only false ≡ numbered (map st xs) n
numbered_past st xs zero h = absurd (omega arith)
numbered_past st xs (suc n) h = sym (get_or_past (map st xs) n (only false) (omega (arith, length-map xs st)))
